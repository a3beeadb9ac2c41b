pub mod Any
pub mod DelayLine
pub mod Ends
pub mod Rest
pub mod Rule
