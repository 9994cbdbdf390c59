-- `trace_files::pieces_of` meets its contract. Assumes nothing.
use mathlib.Core.Path.{◌∙◌}
use Rattle.trace_files.specs.PieceLaws.{pieces-ceil}
use Rattle.trace_files.proofs.pieces_of.Goals as goal

pub returns : goal.returns
returns c = c.div_ceil.ensures ∙ pieces-ceil c.args.each c.args.n c.requires
