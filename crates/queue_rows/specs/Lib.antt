-- What the contracts of `queue_rows` cite, and the laws of a row that holds a queue.
pub mod Rows
pub mod RowLaws
