-- What the contracts of `asking` cite, and the laws of it.
pub mod Told
pub mod AskLaws
