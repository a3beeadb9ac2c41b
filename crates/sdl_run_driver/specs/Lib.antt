pub mod Systems
pub mod Ended
pub mod Drivers
pub mod Stopped
pub mod Runs
pub mod Closings
