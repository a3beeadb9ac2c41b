pub mod Signals
pub mod Legends
pub mod Rows
