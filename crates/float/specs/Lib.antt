pub mod Float
pub mod Claims
pub mod Cases
