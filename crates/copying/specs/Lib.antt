-- What the contracts of `copying` cite, and the laws of it.
pub mod Copied
pub mod CopiedLaws
pub mod EndLaws
pub mod Sparing
pub mod SparingLaws
