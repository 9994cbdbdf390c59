-- The laws that rest on what the must-fail edits of specs/ change.
pub mod Exactly
pub mod Least
pub mod Worlds
pub mod Runs
pub mod Refused
pub mod Idle
