-- What the contracts of `model_events` cite, and the laws of it.
pub mod Events
pub mod OfKind
pub mod Due
pub mod DueHere
pub mod External
pub mod Along
