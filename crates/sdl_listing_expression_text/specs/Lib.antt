pub mod Built
pub mod Faults
pub mod Meanings
pub mod Spelling
pub mod Ways
