pub mod Answers
pub mod Drafts
pub mod Lists
pub mod Reading
