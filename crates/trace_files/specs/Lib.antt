-- What the contracts of `trace_files` cite, and the laws of it.
pub mod Files
pub mod Answers
pub mod Cutting
pub mod PieceLaws
pub mod KindLaws
pub mod WriteLoop
pub mod WriteTests
pub mod FileLaws
pub mod WriteLaws
pub mod ReadLaws
pub mod FileExamples
