-- The laws of reading a trace: what falls where the reading changes, and what rests on it.
pub mod ReadLoop
pub mod ReadTests
pub mod ReadLaws
pub mod BothWays
pub mod Damage
