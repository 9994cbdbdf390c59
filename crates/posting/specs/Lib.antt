-- What the contracts of `posting` cite: words laid one after the other, and new rows by the lent table's words; with their laws.
pub mod Laying
pub mod LayingLaws
pub mod NewLaws
pub mod WholeLaws
