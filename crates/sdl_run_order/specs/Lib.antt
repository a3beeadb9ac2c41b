pub mod Driver
pub mod Measure
