-- `lent_runs::run_large` meets its contract. Assumes nothing.
use native.Mathlib.Omega.{arith}
use Rattle.lookup.specs.InsideLaws.{sizes-in}
use Rattle.storing.specs.StoredLaws.{stored_of}
use Rattle.lent_runs.specs.BackLaws.{words-enough}
use borrow.Author.Rules.{rules}
use Rattle.lent_runs.proofs.run_large.Goals as goal

pub run_in-requires : goal.run_in-requires
run_in-requires c =
    (c.requires.0, words-enough c.args.state.now 64 _ (sizes-in c.args.state.now (stored_of c.args.state.now c.requires.0).inside).0 (omega arith), search rules, c.requires.1)
