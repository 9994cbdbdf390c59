-- What the contracts of `marks` cite, and the laws of it.
pub mod Jobs
pub mod Marking
pub mod Sweeps
pub mod SweepLaws
pub mod MarkingLaws
