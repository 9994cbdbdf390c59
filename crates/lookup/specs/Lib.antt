-- The table inside a lent state: definitions, and the laws of it.
pub mod Inside
pub mod OneRow
pub mod InsideLaws
