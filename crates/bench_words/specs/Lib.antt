-- What the contracts of `bench_words` cite, and the laws of it.
pub mod Splitting
pub mod Texts
pub mod Numbers
pub mod SplittingLaws
pub mod NumbersLaws
pub mod DecimalLaws
pub mod TextLaws
pub mod Decimals
pub mod Cases
