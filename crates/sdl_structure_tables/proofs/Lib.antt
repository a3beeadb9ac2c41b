pub mod TableLemmas
pub mod FaultLemmas
pub mod PlaceLemmas
pub mod ListLemmas
pub mod SignalLemmas
