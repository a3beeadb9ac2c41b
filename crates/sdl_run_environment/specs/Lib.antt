pub mod EnvPhases
pub mod EnvSteps
pub mod EnvPicks
pub mod EnvApart
pub mod EnvSends
pub mod EnvPhasesApart
