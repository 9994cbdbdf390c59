-- Laws that a proof cites.
pub mod ServiceLaws
