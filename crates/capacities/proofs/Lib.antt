-- The laws that rest on what the must-fail edits of specs/ change.
pub mod Migrated
pub mod Alike
pub mod States
pub mod Stays
