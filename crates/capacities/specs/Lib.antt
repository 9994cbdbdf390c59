-- What the contracts of `capacities` cite, and what its migration promises.
pub mod Migration
pub mod Cases
pub mod Parts
pub mod Rows
