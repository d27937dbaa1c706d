pub mod Coming
pub mod Laying
pub mod Weights
pub mod Answers
pub mod One
pub mod Words
pub mod Refused
