pub mod Rounding
pub mod Fraction
pub mod Cut
pub mod Claims
