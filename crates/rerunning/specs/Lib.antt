-- What the contracts of `rerunning` cite, and the laws of it.
pub mod Running
pub mod RunningLaws
