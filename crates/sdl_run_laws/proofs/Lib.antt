pub mod Reading
pub mod Running
pub mod Ending
pub mod Changed
pub mod Altered
pub mod Picking
pub mod Serving
