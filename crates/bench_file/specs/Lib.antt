-- What the contracts of `bench_file` cite, and the laws of it.
pub mod Filing
pub mod FilingLaws
pub mod FileLaws
pub mod LineLaws
pub mod Cases
