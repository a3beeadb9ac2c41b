pub mod Examples
mod Following
mod Longer
mod Stored
