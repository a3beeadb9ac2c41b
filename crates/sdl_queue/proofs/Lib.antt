pub mod Lines
pub mod Opens
pub mod Puts
pub mod Rows
pub mod Anys
