-- Demand 3, the batcher's answer for good; and of document 02 A11, running on is the same as running through, and A3, what is parked is not stranded. To be believed: Story, HandedOver, and the definitions of RunOn and Demand3, and the statements of the theorems of Arrivals, Comes and of the cases here, and of those in proofs/.
-- definitions: the history of a batcher, and the demand as one record
pub mod Story
-- definitions: what a Coupled hands over
pub mod HandedOver
-- definitions: two parts of a run as one
pub mod RunOn
-- the batcher's own machine over any list of its events; every call's log is such a list for each batcher row
pub mod Machine
-- definition: what `post` and `put` leave
pub mod Demand3
-- theorems
pub mod Arrivals
pub mod Comes
-- computed runs
pub mod Cases
pub mod RunOnCases
