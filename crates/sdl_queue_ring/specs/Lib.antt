pub mod RingEnds
pub mod Batches
