pub mod KeepSorts
pub mod Examples
