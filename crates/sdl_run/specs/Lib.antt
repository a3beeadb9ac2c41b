pub mod Sharing
pub mod Environment
pub mod Room
pub mod Stops
