-- What the contracts of `selection` cite, and the laws of it.
pub mod Selecting
pub mod Looking
pub mod LookingCases
pub mod SelectingLaws
pub mod Selected
