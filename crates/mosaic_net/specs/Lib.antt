pub mod Method
pub mod Net
