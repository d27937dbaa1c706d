pub mod Check
pub mod Leaf
