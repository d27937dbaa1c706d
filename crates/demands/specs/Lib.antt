pub mod Said
pub mod Sheets
pub mod Incoming
