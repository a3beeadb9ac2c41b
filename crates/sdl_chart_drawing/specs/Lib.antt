pub mod Traffic
pub mod Charts
