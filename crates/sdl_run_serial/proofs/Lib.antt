pub mod Begins
pub mod Fresh
pub mod Listed
pub mod OfBound
