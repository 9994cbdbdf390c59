-- What the contracts of `table` cite, and the laws of it.
pub mod Readers
pub mod Verdicts
pub mod Rows
pub mod Judging
pub mod Rising
pub mod Searched
pub mod Earlier
pub mod Agrees
pub mod Readings
pub mod Judged
pub mod Passed
pub mod Refused
