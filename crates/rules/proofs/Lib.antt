pub mod Tests
pub mod Choices
pub mod RangeLaws
pub mod HeldShear
pub mod RefusalLaws
