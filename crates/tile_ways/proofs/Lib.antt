pub mod Last
pub mod Found
