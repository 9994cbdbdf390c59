-- What the contracts of `trace_blocks` cite, and the laws of it.
pub mod Blocks
pub mod Pairs
pub mod WordLaws
pub mod BlockLaws
pub mod PairLaws
pub mod WritingLaws
pub mod Examples
