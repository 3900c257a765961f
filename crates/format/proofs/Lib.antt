pub mod RecordLaws
pub mod RecordClaims
pub mod ReadingLaws
pub mod ReadingClaims
