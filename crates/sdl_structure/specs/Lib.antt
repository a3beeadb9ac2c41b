pub mod File
pub mod Drafts
