pub mod Labels
pub mod Rules
pub mod Outcomes
