pub mod Pipe
pub mod Arguments
pub mod Status
