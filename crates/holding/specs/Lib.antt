-- What 20 asks of a lent state, part by part, and the laws of it.
pub mod Fitting
pub mod RowLaws
pub mod KindLaws
pub mod WholeLaws
