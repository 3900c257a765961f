pub mod PassLaws
pub mod Promises
pub mod Holding
pub mod ValidLaws
pub mod StepLaws
