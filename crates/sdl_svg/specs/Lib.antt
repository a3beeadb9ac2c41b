pub mod Elements
pub mod Front
