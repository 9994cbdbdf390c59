-- What the contracts of `processor` cite, and that one answer alone meets each.
pub mod Processing
pub mod Unique
