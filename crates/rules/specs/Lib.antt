-- The rules of 01. To be believed: the definitions, and the statements of the cases and theorems below them.
-- definitions
pub mod Names
pub mod Sizes
pub mod Base
pub mod Table
pub mod Intake
pub mod Layout
pub mod Simulation
pub mod Models
pub mod Step
pub mod Valid
pub mod Calls
-- computed cases
pub mod Examples
pub mod Cases
pub mod PinsTable
pub mod PinsModels
pub mod PinsStep
pub mod PinsCalls
-- tools
pub mod Ends
-- each test decides what its sentence says; each refusal is given exactly when its row says
pub mod Decides
-- what refusal 20 asks is kept by every call
pub mod Depth
pub mod Arriving
pub mod Kept
-- theorems on the whole
pub mod Ghost
