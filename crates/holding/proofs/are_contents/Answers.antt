-- `holding::are_contents` meets its contract. The invariant: the words from k on pass exactly if all do. Assumes nothing.
use mathlib.Core.Path.{sym, ◌∙◌}
use Rattle.rules.specs.Sizes.{is_content}
use Rattle.marks.specs.SweepLaws.{content-low, content-high}
use Rattle.holding.specs.RowLaws.{each-is, each_over, each-stops, each_on}
use native.Mathlib.Omega.{arith}
use Rattle.holding.proofs.are_contents.Goals as goal

pub loop-job-init : goal.loop-job-init
loop-job-init c = each-is is_content c.args.jobs.now

pub returns-then-job-gt4294967295 : goal.returns-then-job-gt4294967295
returns-then-job-gt4294967295 c = sym (each-stops is_content c.args.jobs.now c.loop-job.job-index (omega arith) (content-high _ c.if-job-gt4294967295.true)) ∙ c.loop-job.invariant

pub loop-job-preserved : goal.loop-job-preserved
loop-job-preserved c = sym (each_on is_content c.args.jobs.now c.loop-job.job-index (omega arith) (content-low _ c.if-job-gt4294967295.false)) ∙ c.loop-job.invariant

pub returns : goal.returns
returns c = sym (each_over is_content c.args.jobs.now c.loop-job.job-index (omega arith)) ∙ c.loop-job.invariant
