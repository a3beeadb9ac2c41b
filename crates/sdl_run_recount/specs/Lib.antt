pub mod Sorted
pub mod Along
pub mod Totals
pub mod Trails
