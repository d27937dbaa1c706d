pub mod Answers
pub mod TileFound
pub mod Refuse
pub mod One
