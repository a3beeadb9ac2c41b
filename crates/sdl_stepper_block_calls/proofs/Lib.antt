mod Again
mod Kept
