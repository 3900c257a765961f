pub mod Follow
pub mod Averages
pub mod Claims
pub mod ComingOn
pub mod Turned
