pub mod Lanes
pub mod Joins
pub mod Back
pub mod Rows
