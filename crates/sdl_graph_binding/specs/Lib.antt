pub mod Agents
pub mod Transitions
