pub mod Choice
pub mod Rules
pub mod Needs
pub mod Refusal
