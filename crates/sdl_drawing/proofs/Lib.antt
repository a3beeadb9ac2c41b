pub mod Numbers
pub mod OneMoreRow
mod Examples
