pub mod Listed
pub mod Sums
pub mod Handed
pub mod Move
pub mod Whole
