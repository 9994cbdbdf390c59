-- A run from C that is paused and goes on: calls of jt_step_n one after the other on one state buffer and one output, against one call. To be believed: Pausing, and the statements of the theorems of PausingLaws.
pub mod Pausing
pub mod PausingLaws
