pub mod Whole
pub mod Answers
pub mod One
pub mod Cases
