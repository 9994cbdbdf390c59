-- The simulation that stands in the words, what a step in place answers, and the laws of its parts.
pub mod Simulating
pub mod Parts
pub mod Whole
