pub mod Stay
pub mod Breaches
