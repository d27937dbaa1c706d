pub mod Around
pub mod Weight
