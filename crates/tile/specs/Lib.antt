pub mod Border
pub mod Way
pub mod Told
