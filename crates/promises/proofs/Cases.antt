-- The demand of three of the runs of Cases, each by its theorem. Assumes nothing.
use Rattle.std.specs.Prelude.{refl, [], ◌∷◌, ◌++◌, T}
use Rattle.std.proofs.Common.{arith}
use Rattle.std.specs.Float.Ieee.{le, fits, of_bits, to_bits}
use Rattle.times.specs.Time.{is_time, is_timer}
use Rattle.rules.specs.Intake.{intake, passes_intake}
use Rattle.rules.specs.Simulation.{begun}
use Rattle.rules.specs.Models.{batcher_external}
use Rattle.rules.specs.Valid.{is_valid}
use Rattle.rules.specs.Examples.{four, batch}
use Rattle.rules.specs.Ends.{All, nil, ◌&◌}
use Rattle.rules.proofs.Runs.{CallFits}
use Rattle.promises.specs.Story.{Demand}
use Rattle.promises.specs.Demand3.{begun_fresh}
use Rattle.promises.proofs.Demand3.{demand-3, of-all}
use Rattle.promises.specs.Cases.{one, pair, stepped, busy, growing, handed_in, besides, of_two, of_three, at_13, at_21, at_23, at_11, after_11, at_11_beside, Applied}

one_passes : T (passes_intake one)
unfolding is_time le fits of_bits to_bits intake passes_intake
one_passes = tt

busy-fits : All CallFits busy
unfolding fits of_bits
busy-fits = tt & tt & tt & tt & tt & tt & tt & tt & tt & tt & tt & nil

busy-demand : Demand (begun one) busy 0 of_two
busy-demand = (of-all (begun one) (begun_fresh one one_passes) busy busy-fits).demand 0 of_two refl

pair-passes : T (passes_intake pair)
unfolding is_time le fits of_bits to_bits intake passes_intake
pair-passes = tt

growing-fits : All CallFits (growing ++ stepped 1)
unfolding fits of_bits
growing-fits = tt & tt & tt & tt & tt & tt & nil

growing-demand : Demand (begun pair) (growing ++ stepped 1) 0 of_three
growing-demand = (of-all (begun pair) (begun_fresh pair pair-passes) (growing ++ stepped 1) growing-fits).demand 0 of_three refl

handed-in-valid : T (is_valid (handed_in (batch (91 ∷ []) four)))
unfolding is_time is_timer le fits of_bits to_bits intake passes_intake is_valid
handed-in-valid = tt

besides-fit : All CallFits besides
unfolding fits of_bits
besides-fit = tt & tt & nil

beside-demand : Demand (handed_in (batch (91 ∷ []) four)) besides 0 of_two
beside-demand = demand-3 (handed_in (batch (91 ∷ []) four)) handed-in-valid besides besides-fit 0 of_two refl refl

-- each by its theorem, not by looking at the run
pub applied : Applied
unfolding batcher_external
applied = record {
  ahead-13 = refl;
  leaves-13 = busy-demand.leaves at_13 (omega arith);
  ahead-21 = refl;
  leaves-21 = busy-demand.leaves at_21 (omega arith);
  ahead-23 = refl;
  leaves-23 = busy-demand.leaves at_23 (omega arith);
  held-11 = refl;
  timely-11 = growing-demand.timely after_11 (omega arith);
  waits-11 = ((of-all (begun pair) (begun_fresh pair pair-passes) (growing ++ stepped 1) growing-fits).beyond 0 of_three refl).one-batch-time at_11;
  leaves-beside = beside-demand.leaves at_11_beside (omega arith);
}
