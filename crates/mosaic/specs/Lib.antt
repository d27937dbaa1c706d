pub mod Layout
pub mod Join
