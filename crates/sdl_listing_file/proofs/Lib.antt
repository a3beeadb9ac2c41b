pub mod ListLemmas
pub mod TableLemmas
pub mod FaultLemmas
pub mod NameLemmas
pub mod SlotLemmas
pub mod UseLemmas
pub mod HeadLemmas
pub mod FileLemmas
