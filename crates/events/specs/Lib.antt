-- What the contracts of the atoms share.
pub mod Meaning
pub mod Held
pub mod Unique
