-- `lookup::connector_count` meets its contract. The connectors are as many as word 1 says. Assumes nothing.
use mathlib.Core.Path.{sym}
use Rattle.lookup.specs.InsideLaws.{counts}
use Rattle.lookup.proofs.connector_count.Goals as goal

pub returns : goal.returns
returns c = let s = c.args.state.now in sym (counts s c.requires).1
