pub mod Records
pub mod Said
pub mod Read
pub mod Method
pub mod BorderRecord
pub mod BorderWay
pub mod Reading
