pub mod Arithmetic
pub mod Scene
pub mod Values
pub mod Sorted
