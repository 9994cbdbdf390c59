-- Demand 3 carried to the calls for C. To be believed: Chain, and the statements of the theorems of ChainLaws.
-- definitions: what a chain of C calls leaves in a lent state, answers and tells, by the contracts of `host`
pub mod Chain

-- the theorems
