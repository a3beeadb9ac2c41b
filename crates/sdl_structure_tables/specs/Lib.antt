pub mod Versions
pub mod Keys
pub mod Tables
pub mod Blocks
pub mod Places
pub mod Names
pub mod Faults
pub mod Walks
