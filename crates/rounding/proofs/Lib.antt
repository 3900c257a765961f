pub mod Difference
pub mod Order
pub mod Fits
pub mod Rounding
pub mod CutLaws
pub mod Sums
