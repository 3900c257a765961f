pub mod DigitLaws
pub mod SizeLaws
pub mod BackLaws
pub mod AgainLaws
pub mod AbsentLaws
pub mod NumberCases
