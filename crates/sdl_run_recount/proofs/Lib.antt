pub mod Sorting
pub mod SameItems
pub mod Growing
pub mod Places
pub mod Compared
