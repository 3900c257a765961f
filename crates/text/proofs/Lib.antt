pub mod TextLaws
pub mod WriteCases
pub mod WriterLaws
