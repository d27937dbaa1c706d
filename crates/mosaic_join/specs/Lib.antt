pub mod Joining
pub mod Mosaic
