pub mod Wrote
pub mod Parts
