-- `holding::are_contents` meets its contract. The invariant: the words from k on pass exactly if all do. Assumes nothing.
use Prim.Native.Nat.{◌-◌}
use mathlib.Core.Path.{◌≡◌}
use lib.ListN.{length}
use Rattle.rules.specs.Base.{every}
use Rattle.rules.specs.Sizes.{is_content}
use Rattle.holding.specs.RowLaws.{each_from}
use Rattle.holding.proofs.are_contents.Given as goal

abbrev pub invariant-loop-job : goal.invariant-loop-job
invariant-loop-job l = each_from is_content l.jobs l.job-index (length l.jobs - l.job-index) ≡ every is_content l.jobs
