pub mod Ports
pub mod Record
pub mod Arrivals
pub mod Made
pub mod Places
pub mod Ready
