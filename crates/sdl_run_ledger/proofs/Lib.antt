pub mod Adding
pub mod Ports
pub mod Spread
pub mod Shares
pub mod Traces
pub mod Balanced
pub mod Counted
