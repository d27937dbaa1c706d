pub mod Shown
pub mod Long
pub mod Items
pub mod Lines
pub mod Cases
