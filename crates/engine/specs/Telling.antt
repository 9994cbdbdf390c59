-- How a run ended, what it reports, and what it leaves in the words and in the lent output. Definitions only. Assumes nothing.
use Rattle.std.specs.Prelude.{ℕ, ◌≡◌, List, length}
use Rattle.rules.specs.Table.{Table}
use Rattle.rules.specs.Layout.{laid_down}
use Rattle.rules.specs.Calls as Calls
use Rattle.rules.specs.Calls.{Ran}
use Rattle.stepping.specs.Simulating.{sim_in, Sound}
use Rattle.engine.specs.declared.End.{End}
use Rattle.engine.specs.declared.End.TheVariants as end
use Rattle.engine.specs.declared.Report.{Report}

abbrev pub end_is : End → Calls.End
end_is end.Done = Calls.Done
end_is end.Reached = Calls.Reached
end_is end.Spent = Calls.Spent
end_is (end.Refused r) = Calls.Refused r

pub record Told (r : Report) (ran : Ran) (t : Table) (mem before laid : List ℕ) : Type 0 where
  pub end : end_is r.end ≡ ran.end
  pub steps : r.steps ≡ ran.steps
  pub written : r.written ≡ length ran.rows
  pub sim : sim_in t mem ≡ ran.sim
  pub sound : Sound t mem
  pub rows : laid ≡ laid_down ran.rows before
