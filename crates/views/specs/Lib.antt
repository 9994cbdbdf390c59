-- From the words of a simulation's changing part to the rules' world, and the laws of it.
pub mod World
pub mod Messages
pub mod MessageLaws
