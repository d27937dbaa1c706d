pub mod Right
pub mod One
pub mod Demands
