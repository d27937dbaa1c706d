pub mod Kept
pub mod Promise
pub mod One
pub mod Long
pub mod Cases
