pub mod Piped
pub mod Words
