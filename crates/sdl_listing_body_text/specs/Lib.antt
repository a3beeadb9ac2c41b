pub mod Declarations
pub mod Rows
pub mod Statements
