-- The active messages as they are taken: definitions, then laws.
pub mod Taking
pub mod TakingLaws
