-- What the contracts of `host` cite.
pub mod Numbers
pub mod Cases
pub mod NumberLaws
