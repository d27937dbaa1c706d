pub mod Decimal
pub mod Scan
pub mod Stops
pub mod Flat
pub mod Begin
pub mod Single
pub mod Proper
pub mod Numeral
