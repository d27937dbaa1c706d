pub mod Left
pub mod First
