pub mod Fronts
pub mod Sides
pub mod Through
