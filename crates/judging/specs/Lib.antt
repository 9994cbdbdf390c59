-- The judge of a list of answers: where what a call left differs from what was told of it.
pub mod Seeing
pub mod SeeingLaws
