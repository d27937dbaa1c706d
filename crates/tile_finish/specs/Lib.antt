pub mod Finish
pub mod Method
