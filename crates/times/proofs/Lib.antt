-- The laws that rest on what the must-fail edits of specs/ change.
pub mod AnswerLaws
pub mod Laws
pub mod Patterns
pub mod Whole
