pub mod Number
pub mod Plain
pub mod Claims
