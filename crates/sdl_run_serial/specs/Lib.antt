pub mod Starting
pub mod Serial
