pub mod Fields
pub mod Each
pub mod Read
