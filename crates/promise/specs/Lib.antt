pub mod Reply
pub mod Links
pub mod First
