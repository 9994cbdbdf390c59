-- What the contracts of `altering` cite, and the laws of it.
pub mod Altered
pub mod AlteredLaws
