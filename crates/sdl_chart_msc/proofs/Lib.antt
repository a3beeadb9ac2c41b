pub mod Written
pub mod Gathered
pub mod Shown
pub mod Whole
pub mod Counted
