mod Instances
pub mod Crossings
pub mod Flushes
pub mod Coming
