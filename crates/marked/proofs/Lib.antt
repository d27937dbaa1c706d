pub mod NetTest
pub mod CutTest
pub mod Test
pub mod Marked
