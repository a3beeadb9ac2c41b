pub mod Echo
pub mod EchoRun
pub mod Picks
