pub mod NamesLemmas
pub mod Numbers
pub mod Simple
pub mod Paths
pub mod Whole
pub mod Only
pub mod Examples
