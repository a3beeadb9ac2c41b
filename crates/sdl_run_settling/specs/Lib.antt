pub mod Coming
pub mod Room
pub mod Takers
