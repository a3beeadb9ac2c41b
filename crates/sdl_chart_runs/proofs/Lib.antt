mod Told
mod Written
pub mod Orderly
