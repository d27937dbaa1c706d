pub mod Net
pub mod Method
