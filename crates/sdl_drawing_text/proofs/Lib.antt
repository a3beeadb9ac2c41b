pub mod Items
pub mod EdgeLemmas
pub mod Blocks
pub mod Shown
mod Examples
