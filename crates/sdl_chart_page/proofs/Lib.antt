pub mod OneMore
pub mod Values
pub mod Noting
pub mod Listed
pub mod Texts
pub mod Going
pub mod Whole
