pub mod Bytes
pub mod Position
