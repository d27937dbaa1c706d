pub mod Known
pub mod Moves
pub mod Crossing
pub mod OfTile
pub mod Filling
pub mod Sought
pub mod Stepped
