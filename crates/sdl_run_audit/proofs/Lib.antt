mod Parts
mod Picked
mod Followed
mod Summed
mod Answered
mod Passing
pub mod Callers
