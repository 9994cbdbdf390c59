-- What the contracts of `unparking` cite, and the laws of it.
pub mod Unparking
pub mod UnparkingLaws
