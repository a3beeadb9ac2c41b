pub mod Entries
mod Arrivals
pub mod Ports
pub mod Readiness
mod ReadyCounts
mod SetPlaces
