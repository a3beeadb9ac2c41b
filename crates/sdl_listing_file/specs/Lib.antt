pub mod Keys
pub mod Tables
pub mod Uses
pub mod Heads
pub mod File
pub mod Walks
