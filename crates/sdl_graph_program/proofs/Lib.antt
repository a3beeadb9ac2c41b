mod Numbers
mod Behind
mod Ended
pub mod Moved
