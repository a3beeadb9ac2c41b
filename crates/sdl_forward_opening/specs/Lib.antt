pub mod Stations
pub mod Workers
pub mod Puts
pub mod Opens
pub mod Hands
pub mod Used
