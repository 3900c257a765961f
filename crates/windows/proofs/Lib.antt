pub mod WindowLaws
pub mod RingLaws
