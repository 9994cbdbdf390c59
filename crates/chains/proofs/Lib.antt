-- The laws that rest on what the must-fail edits of specs/ change.
pub mod ChainLaws
