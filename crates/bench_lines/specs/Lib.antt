-- What the contracts of `bench_lines` cite, and the laws of it.
pub mod Names
pub mod Forms
pub mod Reading
pub mod ReadingLaws
pub mod FormLaws
pub mod LineLaws
pub mod Cases
