pub mod Exported
pub mod Lent
pub mod Demand3
pub mod Anew
