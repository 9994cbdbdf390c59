-- `model_events::atom_external` meets its contract: each kind's event in place is the rules' event. Assumes nothing.
use Rattle.std.specs.Prelude.{Result, ⊤}
use Rattle.rules.specs.declared.Refusal.{Refusal}
use Prim.Native.Nat.{ℕ, suc, ◌^◌}
use mathlib.Core.Path.{◌≡◌, refl, sym, ◌∙◌}
use mathlib.Core.Logic.{inr}
use mathlib.Core.Bool.{false}
use mathlib.Core.List.{List}
use native.Mathlib.Omega.{arith}
use lib.ListN.{length}
use lib.Dec.{T, lt→ltb}
use Rattle.rules.specs.Sizes.{is_word, is_content}
use Rattle.rules.specs.Table as Table
use Rattle.rules.specs.Table.{kind_at, is_coupled}
use Rattle.rules.specs.Step as Step
use Rattle.memory.specs.Words.{begin_in, place_in, width_of, Own}
use Rattle.memory.specs.View.{state_in}
use Rattle.memory.specs.Atoms.{atom_external, Took}
use Rattle.lookup.specs.Inside.{table_in}
use Rattle.lookup.specs.InsideLaws.{fine-in}
use Rattle.views.specs.World.{Does, Frame}
use Rattle.views.proofs.Lifts.{does-kind, row-kind}
use Rattle.model_events.specs.OfKind.{is-processor, is-batcher, is-stopwatch, no-coupled, frame-kind}
use Rattle.model_events.proofs.atom_external.Goals as goal

pub processor_external-requires : goal.processor_external-requires
processor_external-requires c =
    let a = c.args in
    row-kind (table_in a.state.now) a.mem.now a.row c.requires.0.in_table c.requires.0.scene.ready (Table.processor c.in-Processor.model) (is-processor (kind_at (table_in a.state.now) a.row) c.in-Processor.model (sym c.kind_of.ensures ∙ c.in-Processor.is))

pub batcher_external-requires : goal.batcher_external-requires
batcher_external-requires c =
    let a = c.args in
    row-kind (table_in a.state.now) a.mem.now a.row c.requires.0.in_table c.requires.0.scene.ready (Table.batcher c.in-Batcher.model) (is-batcher (kind_at (table_in a.state.now) a.row) c.in-Batcher.model (sym c.kind_of.ensures ∙ c.in-Batcher.is))

pub stopwatch_external-requires : goal.stopwatch_external-requires
stopwatch_external-requires c =
    let a = c.args in
    (row-kind (table_in a.state.now) a.mem.now a.row c.requires.0.in_table c.requires.0.scene.ready (Table.stopwatch c.in-Stopwatch.model) (is-stopwatch (kind_at (table_in a.state.now) a.row) c.in-Stopwatch.model (sym c.kind_of.ensures ∙ c.in-Stopwatch.is)), c.requires.0.scene.time)

pub returns-in-Processor : goal.returns-in-Processor
returns-in-Processor c =
    let taken : (after : List ℕ) (r : Result ⊤ Refusal) (k : Table.Kind) → kind_at (table_in c.args.state.now) c.args.row ≡ k → is_coupled k ≡ false → Own c.args.row (begin_in c.args.mem.now c.args.row) (width_of k) 0 0 c.args.mem.now after → Took r k (begin_in c.args.mem.now c.args.row) c.args.row after (atom_external k c.args.services.now c.args.clock c.args.port c.args.content (state_in k (begin_in c.args.mem.now c.args.row) c.args.mem.now c.args.row) (place_in c.args.mem.now)) → ((depth : ℕ) → Does r (Step.external (table_in c.args.state.now) c.args.services.now (suc depth) c.args.clock c.args.row c.args.port c.args.content) (table_in c.args.state.now) c.args.mem.now after) × Frame (table_in c.args.state.now) 0 0 c.args.mem.now after = λ after r k e atom own took. let a = c.args in let s = c.requires.0.scene in let t = table_in a.state.now in let short : T (is_word (length a.services.now)) = lt→ltb (length a.services.now) (2 ^ 64) c.well_formed.1.0.0 in let narrow : T (is_content a.content) = lt→ltb a.content (2 ^ 32) (omega (arith, c.well_formed, c.ranges)) in (λ depth. does-kind t (fine-in a.state.now s.inside) a.services.now short a.clock s.time depth a.row c.requires.0.in_table a.port a.content narrow a.mem.now after s.ready k e atom (begin_in a.mem.now a.row) refl own r took, frame-kind t a.mem.now after a.row 0 0 c.requires.0.in_table s.ready.laid (λ p l. inr (omega arith)) k e (begin_in a.mem.now a.row) refl own) in
    let a = c.args in
    let e = is-processor (kind_at (table_in a.state.now) a.row) c.in-Processor.model (sym c.kind_of.ensures ∙ c.in-Processor.is) in
    let all = taken c.processor_external.new.mem c.processor_external.result (Table.processor c.in-Processor.model) e refl c.processor_external.ensures.owns (c.processor_external.ensures.takes a.clock) in record { does = all.0; frame = all.1 }

pub returns-in-Batcher : goal.returns-in-Batcher
returns-in-Batcher c =
    let taken : (after : List ℕ) (r : Result ⊤ Refusal) (k : Table.Kind) → kind_at (table_in c.args.state.now) c.args.row ≡ k → is_coupled k ≡ false → Own c.args.row (begin_in c.args.mem.now c.args.row) (width_of k) 0 0 c.args.mem.now after → Took r k (begin_in c.args.mem.now c.args.row) c.args.row after (atom_external k c.args.services.now c.args.clock c.args.port c.args.content (state_in k (begin_in c.args.mem.now c.args.row) c.args.mem.now c.args.row) (place_in c.args.mem.now)) → ((depth : ℕ) → Does r (Step.external (table_in c.args.state.now) c.args.services.now (suc depth) c.args.clock c.args.row c.args.port c.args.content) (table_in c.args.state.now) c.args.mem.now after) × Frame (table_in c.args.state.now) 0 0 c.args.mem.now after = λ after r k e atom own took. let a = c.args in let s = c.requires.0.scene in let t = table_in a.state.now in let short : T (is_word (length a.services.now)) = lt→ltb (length a.services.now) (2 ^ 64) c.well_formed.1.0.0 in let narrow : T (is_content a.content) = lt→ltb a.content (2 ^ 32) (omega (arith, c.well_formed, c.ranges)) in (λ depth. does-kind t (fine-in a.state.now s.inside) a.services.now short a.clock s.time depth a.row c.requires.0.in_table a.port a.content narrow a.mem.now after s.ready k e atom (begin_in a.mem.now a.row) refl own r took, frame-kind t a.mem.now after a.row 0 0 c.requires.0.in_table s.ready.laid (λ p l. inr (omega arith)) k e (begin_in a.mem.now a.row) refl own) in
    let a = c.args in
    let e = is-batcher (kind_at (table_in a.state.now) a.row) c.in-Batcher.model (sym c.kind_of.ensures ∙ c.in-Batcher.is) in
    let all = taken c.batcher_external.new.mem c.batcher_external.result (Table.batcher c.in-Batcher.model) e refl c.batcher_external.ensures.owns (c.batcher_external.ensures.takes a.services.now a.clock a.port) in record { does = all.0; frame = all.1 }

pub returns-in-Stopwatch : goal.returns-in-Stopwatch
returns-in-Stopwatch c =
    let taken : (after : List ℕ) (r : Result ⊤ Refusal) (k : Table.Kind) → kind_at (table_in c.args.state.now) c.args.row ≡ k → is_coupled k ≡ false → Own c.args.row (begin_in c.args.mem.now c.args.row) (width_of k) 0 0 c.args.mem.now after → Took r k (begin_in c.args.mem.now c.args.row) c.args.row after (atom_external k c.args.services.now c.args.clock c.args.port c.args.content (state_in k (begin_in c.args.mem.now c.args.row) c.args.mem.now c.args.row) (place_in c.args.mem.now)) → ((depth : ℕ) → Does r (Step.external (table_in c.args.state.now) c.args.services.now (suc depth) c.args.clock c.args.row c.args.port c.args.content) (table_in c.args.state.now) c.args.mem.now after) × Frame (table_in c.args.state.now) 0 0 c.args.mem.now after = λ after r k e atom own took. let a = c.args in let s = c.requires.0.scene in let t = table_in a.state.now in let short : T (is_word (length a.services.now)) = lt→ltb (length a.services.now) (2 ^ 64) c.well_formed.1.0.0 in let narrow : T (is_content a.content) = lt→ltb a.content (2 ^ 32) (omega (arith, c.well_formed, c.ranges)) in (λ depth. does-kind t (fine-in a.state.now s.inside) a.services.now short a.clock s.time depth a.row c.requires.0.in_table a.port a.content narrow a.mem.now after s.ready k e atom (begin_in a.mem.now a.row) refl own r took, frame-kind t a.mem.now after a.row 0 0 c.requires.0.in_table s.ready.laid (λ p l. inr (omega arith)) k e (begin_in a.mem.now a.row) refl own) in
    let a = c.args in
    let e = is-stopwatch (kind_at (table_in a.state.now) a.row) c.in-Stopwatch.model (sym c.kind_of.ensures ∙ c.in-Stopwatch.is) in
    let all = taken c.stopwatch_external.new.mem c.stopwatch_external.result (Table.stopwatch c.in-Stopwatch.model) e refl c.stopwatch_external.ensures.owns (c.stopwatch_external.ensures.takes a.services.now) in record { does = all.0; frame = all.1 }

pub returns-in-Coupled : goal.returns-in-Coupled
returns-in-Coupled c =
    let a = c.args in
    record { does = absurd (no-coupled (kind_at (table_in a.state.now) a.row) c.requires.1 (sym c.kind_of.ensures ∙ c.in-Coupled.is)); frame = absurd (no-coupled (kind_at (table_in a.state.now) a.row) c.requires.1 (sym c.kind_of.ensures ∙ c.in-Coupled.is)) }
