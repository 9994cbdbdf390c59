-- `asking::status_in` meets its contract, by the kind that the row's words name. Assumes nothing.
use Prim.Native.Nat.{ℕ, ◌+◌, ◌-◌}
use mathlib.Core.Path.{◌≡◌, ap, ◌∙◌}
use native.Mathlib.Omega.{arith}
use lib.ListN.{take, drop}
use Rattle.rules.specs.declared.ProcessorPhase.{ProcessorPhase}
use Rattle.rules.specs.declared.BatcherPhase.{BatcherPhase}
use Rattle.marks.specs.Jobs.{mean_in}
use Rattle.views.specs.World.{begin_of}
use Rattle.lookup.specs.Inside.{table_in}
use Rattle.memory.specs.View.{working_of, batching_of}
use Rattle.asking.specs.declared.Status.TheVariants as status
use Rattle.asking.specs.Told.{mean_told}
use Rattle.asking.specs.AskLaws.{status-read, watch-room}
use Rattle.asking.proofs.status_in.Goals as goal

pub overflow_add-begin : goal.overflow_add-begin
overflow_add-begin c =
    let a = c.args in
    let room = watch-room (table_in a.state.now) a.mem.now a.row c.requires.1 c.requires.2 c.kind_of.result _ c.kind_of.ensures c.in-Stopwatch.is in
    omega arith

pub offset_bounds-mem-begin : goal.offset_bounds-mem-begin
offset_bounds-mem-begin c =
    let a = c.args in
    let room = watch-room (table_in a.state.now) a.mem.now a.row c.requires.1 c.requires.2 c.kind_of.result _ c.kind_of.ensures c.in-Stopwatch.is in
    omega arith

pub slice_bounds-mean_of-end : goal.slice_bounds-mean_of-end
slice_bounds-mean_of-end c =
    let a = c.args in
    let room = watch-room (table_in a.state.now) a.mem.now a.row c.requires.1 c.requires.2 c.kind_of.result _ c.kind_of.ensures c.in-Stopwatch.is in
    omega arith

pub returns-in-Processor : goal.returns-in-Processor
returns-in-Processor c =
    let a = c.args in
    ap (λ (p : ProcessorPhase). status.Processor p) (c.processor_phase.ensures ∙ ap working_of c.phase_at.ensures)
    ∙ status-read (table_in a.state.now) a.mem.now a.row c.requires.1 c.requires.2 c.kind_of.result _ c.kind_of.ensures c.in-Processor.is

pub returns-in-Batcher : goal.returns-in-Batcher
returns-in-Batcher c =
    let a = c.args in
    ap (λ (p : BatcherPhase). status.Batcher p) (c.batcher_phase.ensures ∙ ap batching_of c.phase_at-in-Batcher.ensures)
    ∙ status-read (table_in a.state.now) a.mem.now a.row c.requires.1 c.requires.2 c.kind_of.result _ c.kind_of.ensures c.in-Batcher.is

pub returns-in-Stopwatch : goal.returns-in-Stopwatch
returns-in-Stopwatch c =
    let a = c.args in
    let begin : c.begin_at-begin.result ≡ begin_of (table_in a.state.now) a.row = c.begin_at-begin.ensures ∙ c.requires.1.laid.begins a.row c.requires.2 in
    let width : c.begin_at-begin.result + 192 - c.begin_at-begin.result ≡ 192 = omega arith in
    c.mean_of.ensures
    ∙ (λ i. mean_told (mean_in (c.held_at.ensures i) (take (width i) (drop (begin i) a.mem.now))))
    ∙ status-read (table_in a.state.now) a.mem.now a.row c.requires.1 c.requires.2 c.kind_of.result _ c.kind_of.ensures c.in-Stopwatch.is

pub returns-in-Coupled : goal.returns-in-Coupled
returns-in-Coupled c =
    let a = c.args in
    ap (λ (n : ℕ). status.Parked n) c.held_at-in-Coupled.ensures
    ∙ status-read (table_in a.state.now) a.mem.now a.row c.requires.1 c.requires.2 c.kind_of.result _ c.kind_of.ensures c.in-Coupled.is
