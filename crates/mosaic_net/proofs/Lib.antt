pub mod Filled
pub mod Told
pub mod Poured
pub mod Marks
pub mod Fed
