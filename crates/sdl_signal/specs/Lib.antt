pub mod Names
pub mod Line
pub mod Reading
pub mod Sorts
pub mod Writing
pub mod Environment
pub mod View
