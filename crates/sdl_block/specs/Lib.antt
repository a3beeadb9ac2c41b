pub mod Workers
pub mod Phases
pub mod Rounds
pub mod Picks
pub mod PhasesApart
pub mod Around
