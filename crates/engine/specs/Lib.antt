-- What the contracts of `engine` cite, and the laws of a run.
pub mod Telling
pub mod RunLaws
