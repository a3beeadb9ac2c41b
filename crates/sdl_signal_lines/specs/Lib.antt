pub mod Bytes
pub mod Source
pub mod Sink
