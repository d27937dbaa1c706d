pub mod Bridge
pub mod Inside
pub mod Weigh
