pub mod Names
pub mod Takers
pub mod Rooms
pub mod Parts
pub mod Settles
