-- What the contracts of `stopwatch` cite, and that it is the rules' stopwatch.
pub mod Watching
pub mod WatchingLaws
