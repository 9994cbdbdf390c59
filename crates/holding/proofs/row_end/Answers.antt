-- `holding::row_end` meets its contract: the row's begin, and then the test of its kind. Assumes nothing.
use Prim.Native.Nat.{◌+◌}
use mathlib.Core.Path.{refl, sym, ◌∙◌}
use Rattle.rules.specs.Table as Table
use Rattle.rules.specs.Table.{kind_at}
use Rattle.memory.specs.Words.{timer_in, width_of}
use Rattle.lookup.specs.Inside.{table_in}
use Rattle.holding.specs.KindLaws.{of-processor, of-batcher, of-stopwatch, of-coupled}
use Rattle.holding.specs.WholeLaws.{row_moved, row-says}
use Rattle.holding.proofs.row_end.Goals as goal

pub returns-then-said-begin : goal.returns-then-said-begin
returns-then-said-begin c =
    let a = c.args in
    sym (row_moved (kind_at (table_in a.state.now) a.row) a.begin a.mem.now a.row (λ e. c.if-said-begin.true (c.begin_at-said.ensures ∙ e)))

pub returns-then-kind-eq1 : goal.returns-then-kind-eq1
returns-then-kind-eq1 c =
    let a = c.args in
    let k = kind_at (table_in a.state.now) a.row in
    of-processor k (sym c.kind_number-kind.ensures ∙ c.if-kind-eq1.true) (λ p is. row-says k (Table.processor p) a.begin a.mem.now a.row c.phase_at-phase.result (timer_in a.mem.now a.row) c.held_at-held.result (a.begin + width_of (Table.processor p)) c.processor_fits.result c.next_if.result
    is (sym c.begin_at-said.ensures ∙ c.if-said-begin.false) c.phase_at-phase.ensures refl c.held_at-held.ensures refl (c.processor_fits.ensures p (c.capacity_of-capacity.ensures p is)) c.next_if.ensures)

pub returns-then-kind-eq2 : goal.returns-then-kind-eq2
returns-then-kind-eq2 c =
    let a = c.args in
    let k = kind_at (table_in a.state.now) a.row in
    of-batcher k (sym c.kind_number-kind.ensures ∙ c.if-kind-eq2.true) (λ b is. row-says k (Table.batcher b) a.begin a.mem.now a.row c.phase_at-phase.result (timer_in a.mem.now a.row) c.held_at-held.result (a.begin + width_of (Table.batcher b)) c.batcher_fits.result c.next_if-then-kind-eq2.result
    is (sym c.begin_at-said.ensures ∙ c.if-said-begin.false) c.phase_at-phase.ensures refl c.held_at-held.ensures refl (c.batcher_fits.ensures b) c.next_if-then-kind-eq2.ensures)

pub returns-then-kind-eq3 : goal.returns-then-kind-eq3
returns-then-kind-eq3 c =
    let a = c.args in
    let k = kind_at (table_in a.state.now) a.row in
    of-stopwatch k (sym c.kind_number-kind.ensures ∙ c.if-kind-eq3.true) (λ w is. row-says k (Table.stopwatch w) a.begin a.mem.now a.row c.phase_at-phase.result (timer_in a.mem.now a.row) c.held_at-held.result (a.begin + width_of (Table.stopwatch w)) c.stopwatch_fits.result c.next_if-then-kind-eq3.result
    is (sym c.begin_at-said.ensures ∙ c.if-said-begin.false) c.phase_at-phase.ensures refl c.held_at-held.ensures refl (c.stopwatch_fits.ensures w) c.next_if-then-kind-eq3.ensures)

pub returns : goal.returns
returns c =
    let a = c.args in
    let k = kind_at (table_in a.state.now) a.row in
    row-says k Table.coupled a.begin a.mem.now a.row c.phase_at-phase.result (timer_in a.mem.now a.row) c.held_at-held.result (a.begin + width_of Table.coupled) c.coupled_fits.result c.next_if-2.result
    (of-coupled k (λ e. c.if-kind-eq1.false (c.kind_number-kind.ensures ∙ e)) (λ e. c.if-kind-eq2.false (c.kind_number-kind.ensures ∙ e)) (λ e. c.if-kind-eq3.false (c.kind_number-kind.ensures ∙ e))) (sym c.begin_at-said.ensures ∙ c.if-said-begin.false) c.phase_at-phase.ensures refl c.held_at-held.ensures refl c.coupled_fits.ensures c.next_if-2.ensures
