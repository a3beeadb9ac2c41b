pub mod Doing
pub mod Offering
pub mod Sound
