pub mod Offered
pub mod Room
pub mod Conforming
pub mod Examples
