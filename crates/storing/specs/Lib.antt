-- What the contracts of `storing` and of the calls cite: a simulation as the words of a lent state, and the calls on it; and their laws.
pub mod State
pub mod Lent
pub mod SizeLaws
pub mod Canonical
pub mod StoredLaws
pub mod KeptLaws
pub mod ReadBack
