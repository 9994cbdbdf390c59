-- What the contracts of `handing` cite.
pub mod Handing
