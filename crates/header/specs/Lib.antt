pub mod Words
pub mod Header
