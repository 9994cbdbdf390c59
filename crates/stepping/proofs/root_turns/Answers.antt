-- `stepping::root_turns` meets its contract. The loop: what is left of the turns, from the words and the messages as they stand, is the whole from the words at first. Assumes nothing.
use Rattle.std.proofs.lemmas.Result.{err_from_is_err_and}
use Prim.Native.Nat.{ℕ}
use mathlib.Core.Path.{refl, sym, subst, ◌∙◌}
use native.Mathlib.Omega.{arith}
use lib.ListN.{length}
use lib.Dec.{T}
use Rattle.rules.specs.Base.{done}
use Rattle.rules.specs.Step as Step
use Rattle.rules.specs.Step.{levels}
use Rattle.rules.specs.Depth.{Deep, parentless-deep}
use Rattle.selection.specs.Selected.{sweep-bounds}
use Rattle.lookup.specs.Inside.{table_in}
use Rattle.lookup.specs.InsideLaws.{sizes-in, fine-in, in-parentless}
use Rattle.views.proofs.Frames.{frame_then, frame-to}
use Rattle.views.specs.Messages.{messages_in}
use Rattle.sweeps.specs.Adding.{adding-start, adding-on, adding-stops, adding-none}
use Rattle.sweeps.specs.Skips.{stop-bounds}
use Rattle.row_timers.specs.Passing.{at_zero}
use Rattle.stepping.specs.Parts.{is_root, pass-turns}
use Rattle.stepping.proofs.root_turns.Goals as goal

pub loop-row-init : goal.loop-row-init
loop-row-init c =
    let a = c.args in
    let t = table_in a.state.now in
    (refl, omega arith, adding-start t (messages_in a.active) 256 (Step.root_turn t a.services.now a.clock) (is_root t) a.active (length a.mem.now) a.mem.now 0 (length t.rows) c.requires.0.ready (omega arith))

pub root_turn-requires : goal.root_turn-requires
root_turn-requires c =
    let a = c.args in
    let t = table_in a.state.now in
    let visit = Step.root_turn t a.services.now a.clock in
    let rows = length t.rows in
    let hi = length a.mem.now in
    let loop = c.loop-row in
    let here = c.next_at_zero.result in
    let g = pass-turns t (fine-in a.state.now c.requires.0.inside) a.services.now a.clock a.active a.active hi loop.count a.mem.now loop.mem loop.from here c.next_at_zero.ensures loop.invariant.1 loop.invariant.2 in
    let found = sym c.next_parentless.ensures ∙ c.in-Some.is in
    let row = c.in-Some.row in
    let bounds = sweep-bounds {S = ℕ} (λ k s. done s) (is_root t) here rows 0 row found in (
      record { scene = record { inside = c.requires.0.inside; ready = g.ready; time = c.requires.0.time }; in_table = bounds.1 },
      in-parentless a.state.now c.requires.0.inside row bounds.1 (subst T (sym bounds.2) tt) (Deep t levels) (parentless-deep t (fine-in a.state.now c.requires.0.inside)),
      c.requires.1,
      rw loop.invariant.0 c.requires.2,
      g.few,
    )

pub returns-in_err-count : goal.returns-in_err-count
returns-in_err-count c =
    let refused = err_from_is_err_and c.from_residual.result c.from_residual.ensures.1 in
    let a = c.args in
    let t = table_in a.state.now in
    let visit = Step.root_turn t a.services.now a.clock in
    let rows = length t.rows in
    let hi = length a.mem.now in
    let loop = c.loop-row in
    let here = c.next_at_zero.result in
    let g = pass-turns t (fine-in a.state.now c.requires.0.inside) a.services.now a.clock a.active a.active hi loop.count a.mem.now loop.mem loop.from here c.next_at_zero.ensures loop.invariant.1 loop.invariant.2 in
    let found = sym c.next_parentless.ensures ∙ c.in-Some.is in
    let row = c.in-Some.row in
    let after = c.root_turn.new.mem in
    let framed = frame-to t a.active (length loop.mem) hi loop.mem after loop.invariant.0 c.root_turn.ensures.frame in
    let stops = adding-stops t (messages_in a.active) 256 visit (is_root t) a.active hi a.mem.now 0 rows here loop.mem loop.count g row _ after found c.in_err-count.ensures.joins in
    record { joins = rw (refused.1, refused.2) stops; frame = frame_then t a.active hi a.mem.now loop.mem after g.frame framed }

pub overflow_add-from : goal.overflow_add-from
overflow_add-from c =
    let t = table_in c.args.state.now in
    let found = sym c.next_parentless.ensures ∙ c.in-Some.is in
    let bounds = sweep-bounds {S = ℕ} (λ k s. done s) (is_root t) c.next_at_zero.result (length t.rows) 0 c.in-Some.row found in
    omega (arith, bounds.1, (sizes-in c.args.state.now c.requires.0.inside).0)

pub loop-row-smaller : goal.loop-row-smaller
loop-row-smaller c =
    let t = table_in c.args.state.now in
    let rows = length t.rows in
    let loop = c.loop-row in
    let found = sym c.next_parentless.ensures ∙ c.in-Some.is in
    let bounds = sweep-bounds {S = ℕ} (λ k s. done s) (is_root t) c.next_at_zero.result rows 0 c.in-Some.row found in
    let stop = stop-bounds (at_zero loop.mem) loop.from rows loop.invariant.1 in
    omega (arith, bounds.0, bounds.1, stop.0, c.next_at_zero.ensures)

pub loop-row-preserved : goal.loop-row-preserved
loop-row-preserved c =
    let a = c.args in
    let t = table_in a.state.now in
    let visit = Step.root_turn t a.services.now a.clock in
    let rows = length t.rows in
    let hi = length a.mem.now in
    let loop = c.loop-row in
    let here = c.next_at_zero.result in
    let g = pass-turns t (fine-in a.state.now c.requires.0.inside) a.services.now a.clock a.active a.active hi loop.count a.mem.now loop.mem loop.from here c.next_at_zero.ensures loop.invariant.1 loop.invariant.2 in
    let found = sym c.next_parentless.ensures ∙ c.in-Some.is in
    let row = c.in-Some.row in
    let bounds = sweep-bounds {S = ℕ} (λ k s. done s) (is_root t) here rows 0 row found in
    let after = c.root_turn.new.mem in
    let framed = frame-to t a.active (length loop.mem) hi loop.mem after loop.invariant.0 c.root_turn.ensures.frame in (
      c.root_turn.auto.mem ∙ loop.invariant.0,
      omega (arith, bounds.1),
      adding-on t (messages_in a.active) 256 visit (is_root t) a.active hi a.mem.now 0 rows here loop.mem loop.count g row c.in_ok-count.count after found c.in_ok-count.ensures.joins framed,
    )

pub returns : goal.returns
returns c =
    let a = c.args in
    let t = table_in a.state.now in
    let visit = Step.root_turn t a.services.now a.clock in
    let rows = length t.rows in
    let hi = length a.mem.now in
    let loop = c.loop-row in
    let here = c.next_at_zero.result in
    let g = pass-turns t (fine-in a.state.now c.requires.0.inside) a.services.now a.clock a.active a.active hi loop.count a.mem.now loop.mem loop.from here c.next_at_zero.ensures loop.invariant.1 loop.invariant.2 in
    record { joins = adding-none t (messages_in a.active) 256 visit (is_root t) a.active hi a.mem.now 0 rows here loop.mem loop.count g (sym c.next_parentless.ensures ∙ c.in_default.is); frame = g.frame }
