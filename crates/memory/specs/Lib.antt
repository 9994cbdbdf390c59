-- What the contracts of `memory`, and of all that works in it, cite.
pub mod Words
pub mod View
pub mod Atoms
pub mod Places
pub mod Answers
pub mod AnswerLaws
