pub mod Guarantee
pub mod Answers
