pub mod TestedLaws
