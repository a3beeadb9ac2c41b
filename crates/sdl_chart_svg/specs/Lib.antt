pub mod Texts
pub mod Shapes
pub mod Messages
pub mod Lifelines
pub mod Svg
