-- The theorems that fall where a definition of specs/ is changed. To be believed: their statements.
pub mod Six
pub mod Demand3
pub mod Comes
pub mod RunOn
pub mod RunLater
pub mod Handed
-- the demand on computed runs
pub mod Cases
