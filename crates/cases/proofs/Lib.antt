pub mod EachOne
pub mod Figures
pub mod Starred
