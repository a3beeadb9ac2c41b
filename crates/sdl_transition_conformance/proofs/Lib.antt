pub mod Merely
pub mod Ends
pub mod Examples
pub mod Breaches
