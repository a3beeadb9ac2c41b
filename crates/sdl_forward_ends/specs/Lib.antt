pub mod Stations
pub mod Ends
pub mod Ways
pub mod Index
pub mod FeedsLeft
pub mod Shelves
pub mod Flushed
pub mod Marks
