pub mod Shown
pub mod Tidy
