mod Behind
mod Done
mod Runs
