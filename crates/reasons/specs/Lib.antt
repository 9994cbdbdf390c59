-- What the contract of `reasons` cites, and what a reason promises.
pub mod Checks
pub mod Reasons
pub mod Cases
pub mod Breaks
pub mod CheckLaws
pub mod Model
pub mod Lines
pub mod Told
pub mod Passes
