pub mod Running
pub mod Files
pub mod Texts
pub mod Commands
