-- What the contracts of `batcher` cite, and that one answer alone meets each.
pub mod Batching
pub mod Unique
