-- What the contracts of `words` cite, and the laws of it.
pub mod Laying
pub mod Lists
pub mod Queue
pub mod QueueLaws
pub mod Search
pub mod SearchLaws
