-- What the contracts of `lent_runs` cite, and the laws of it.
pub mod Reported
pub mod BackLaws
pub mod OrderLaws
pub mod Unique
