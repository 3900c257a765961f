pub mod Digits
pub mod Signed16
pub mod Versions
pub mod Headers
