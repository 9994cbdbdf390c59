-- Loops in place as the rules' sweeps: their laws.
pub mod Sweeps
pub mod Loops
pub mod Adding
pub mod Appends
pub mod Skips
