pub mod Cut
pub mod Table
