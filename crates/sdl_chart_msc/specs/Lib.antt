pub mod Names
pub mod Messages
pub mod Places
pub mod Lines
