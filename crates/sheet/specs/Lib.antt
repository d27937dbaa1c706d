pub mod Shape
pub mod Compass
pub mod Sheet
pub mod Totals
pub mod Leaves
pub mod Grid
