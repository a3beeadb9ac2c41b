pub mod Plain
pub mod Spelled
