pub mod Step
pub mod Scanning
