-- The laws that the proofs of `internal_events` cite.
pub mod Internal
