pub mod Owes
pub mod Following
pub mod Moves
