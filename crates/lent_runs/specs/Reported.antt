-- What a run on a lent state reports and leaves. Definitions only. Assumes nothing.
use Rattle.std.specs.Prelude.{ℕ, ◌≡◌, List, length, T, Float}
use Rattle.times.specs.Time.{is_timer}
use Rattle.rules.specs.declared.Refusal.{Refusal}
use Rattle.rules.specs.Layout.{laid_down}
use Rattle.rules.specs.Simulation.{Simulation}
use Rattle.rules.specs.Calls.{Ran, step_n, steps_until, step_until}
use Rattle.engine.specs.declared.End.TheVariants as end
use Rattle.engine.specs.declared.Report.{Report}
use Rattle.engine.specs.Telling.{end_is}
use Rattle.lent_runs.specs.declared.Order.{Order}
use Rattle.lent_runs.specs.declared.Order.TheVariants as order

-- the rules' run for an order
abbrev pub ordered : Order → List Float → ℕ → Simulation → Ran
ordered (order.Steps count) services room sim = step_n services room count sim
ordered (order.Until until allowance) services room sim = step_until services until room allowance sim
ordered (order.Bounded until bound) services room sim = steps_until services until room bound sim

-- a time that may be infinite is a timer
abbrev pub Fits : Order → Type 0
Fits (order.Steps count) = Unit {0}
Fits (order.Until until allowance) = Unit {0}
Fits (order.Bounded until bound) = T (is_timer until)

-- refused before the first step
abbrev pub refused_report : Refusal → Report
refused_report r = record { steps = 0; written = 0; end = end.Refused r }

-- how it ended, the completed steps, the rows written, and the lent output after it
pub record Reported (r : Report) (ran : Ran) (before laid : List ℕ) : Type 0 where
  pub end : end_is r.end ≡ ran.end
  pub steps : r.steps ≡ ran.steps
  pub written : r.written ≡ length ran.rows
  pub rows : laid ≡ laid_down ran.rows before
