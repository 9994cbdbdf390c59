-- What the contracts of `row_timers` cite, and the laws of it.
pub mod Passing
pub mod Leasts
pub mod Aging
