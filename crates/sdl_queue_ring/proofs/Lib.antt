pub mod Batches
mod Rows
