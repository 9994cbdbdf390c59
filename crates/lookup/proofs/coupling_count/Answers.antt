-- `lookup::coupling_count` meets its contract. The couplings are as many as word 2 says. Assumes nothing.
use mathlib.Core.Path.{sym}
use Rattle.lookup.specs.InsideLaws.{counts}
use Rattle.lookup.proofs.coupling_count.Goals as goal

pub returns : goal.returns
returns c = let s = c.args.state.now in sym (counts s c.requires).2
