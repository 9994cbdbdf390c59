-- What demand 3 is said of besides one batcher: a simulation whose models are all in their default state. Assumes nothing.
use Rattle.std.specs.Prelude.{◌≡◌, refl, T}
use Rattle.rules.specs.Table.{Table}
use Rattle.rules.specs.Intake.{passes_intake}
use Rattle.rules.specs.Simulation.{Simulation, fresh_all, begun}
use Rattle.rules.proofs.Runs.{Valid, begun-valid}

-- ---- what `post` and `put` leave: every model is in its default state
pub record AllFresh (start : Simulation) : Type 0 where
  pub valid : Valid start
  pub default : start.states ≡ fresh_all start.table

pub begun_fresh : (t : Table) → T (passes_intake t) → AllFresh (begun t)
begun_fresh t f = record { valid = begun-valid t f; default = refl }
