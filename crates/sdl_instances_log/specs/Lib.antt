pub mod Log
pub mod Past
pub mod Counts
pub mod Filled
