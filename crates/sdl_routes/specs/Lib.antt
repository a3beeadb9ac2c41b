pub mod Finding
pub mod Routes
pub mod Table
pub mod Index
pub mod Found
pub mod Collected
