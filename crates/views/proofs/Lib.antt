-- The laws that rest on what the must-fail edits of specs/ change.
pub mod WorldLayout
pub mod Frames
pub mod Outside
pub mod Lifts
pub mod Timers
pub mod Parked
