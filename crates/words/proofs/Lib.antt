pub mod TextCases
pub mod LineLaws
