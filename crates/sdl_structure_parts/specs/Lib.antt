pub mod Structure
pub mod Order
pub mod Rules
pub mod EachRule
pub mod Lists
