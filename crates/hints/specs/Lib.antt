-- What the contracts of `hints` cite, and the laws of it.
pub mod Naming
pub mod NamingCases
pub mod NamingLaws
pub mod NamingPassed
pub mod Heard
pub mod PutOut
