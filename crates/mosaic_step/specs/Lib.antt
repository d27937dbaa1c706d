pub mod Table
pub mod Line
pub mod Stands
pub mod Mosaic
pub mod Tiles
