pub mod One
pub mod Apart
pub mod Each
