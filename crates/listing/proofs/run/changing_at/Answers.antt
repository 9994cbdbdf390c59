-- `changing_at`: a state that was checked has its table inside. Assumes nothing.
use mathlib.Core.Path.{sym, ◌∙◌}
use Rattle.storing.specs.StoredLaws.{stored_of}
use Rattle.simulation.specs.CallLaws.{stored}
use Rattle.listing.proofs.run.changing_at.Goals as goal

pub tail_at-requires : goal.tail_at-requires
tail_at-requires c =
    let state = c.args.state.now in
    (stored_of state (stored state (sym c.is_state.ensures ∙ c.if-is_state.true))).inside
