-- What the contracts of `watch_rows` cite, and the laws of it.
pub mod Places
pub mod WatchLaws
