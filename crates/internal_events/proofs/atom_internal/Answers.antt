-- `internal_events::atom_internal` meets its contract: each kind's event in place is the rules' event. Assumes nothing.
use Rattle.std.specs.Prelude.{Result}
use Rattle.rules.specs.declared.Refusal.{Refusal}
use Prim.Native.Nat.{ℕ, suc, ◌+◌, ◌≤◌, ◌^◌}
use mathlib.Core.Path.{◌≡◌, refl, sym, ap, ◌∙◌}
use mathlib.Core.Logic.{inl}
use mathlib.Core.Bool.{false}
use mathlib.Core.List.{List}
use native.Mathlib.Omega.{arith}
use lib.ListN.{length}
use lib.Dec.{T, lt→ltb}
use Rattle.rules.specs.Sizes.{is_word}
use Rattle.rules.specs.Table as Table
use Rattle.rules.specs.Table.{kind_at, is_coupled}
use Rattle.rules.specs.Step as Step
use Rattle.memory.specs.Words.{begin_in, place_in, width_of, Own}
use Rattle.memory.specs.View.{state_in}
use Rattle.memory.specs.Atoms.{atom_internal, Gave}
use Rattle.lookup.specs.Inside.{table_in}
use Rattle.lookup.specs.InsideLaws.{fine-in}
use Rattle.views.specs.World.{Gives, Frame}
use Rattle.views.proofs.Lifts.{gives-kind, row-kind}
use Rattle.views.proofs.WorldLayout.{begin-end}
use Rattle.views.proofs.Frames.{frame-wider}
use Rattle.model_events.specs.OfKind.{is-processor, is-batcher, is-stopwatch, no-coupled, frame-kind}
use borrow.Author.Rules.{rules}
use Rattle.internal_events.proofs.atom_internal.Goals as goal

-- src/lib.rt:71:13
pub processor_internal-requires : goal.processor_internal-requires
processor_internal-requires c =
    let below : (k : Table.Kind) → kind_at (table_in c.args.state.now) c.args.row ≡ k → begin_in c.args.mem.now c.args.row + width_of k ≤ c.args.at = λ k e. let t = table_in c.args.state.now in let w = ap width_of e in let b = c.requires.0.scene.ready.laid.begins c.args.row c.requires.0.in_table in omega (arith, b, w, begin-end t c.args.row c.requires.0.in_table, c.requires.2) in
    let a = c.args in
    let t = table_in a.state.now in
    let e = is-processor (kind_at t a.row) c.in-Processor.model (sym c.kind_of.ensures ∙ c.in-Processor.is) in
    (row-kind t a.mem.now a.row c.requires.0.in_table c.requires.0.scene.ready (Table.processor c.in-Processor.model) e, below (Table.processor c.in-Processor.model) e, (let r = c.requires.3 in omega arith))

-- src/lib.rt:73:23
pub enum_known-model-in-Batcher-1 : goal.enum_known-model-in-Batcher-1
enum_known-model-in-Batcher-1 c = search rules

-- src/lib.rt:73:33
pub batcher_internal-requires : goal.batcher_internal-requires
batcher_internal-requires c =
    let below : (k : Table.Kind) → kind_at (table_in c.args.state.now) c.args.row ≡ k → begin_in c.args.mem.now c.args.row + width_of k ≤ c.args.at = λ k e. let t = table_in c.args.state.now in let w = ap width_of e in let b = c.requires.0.scene.ready.laid.begins c.args.row c.requires.0.in_table in omega (arith, b, w, begin-end t c.args.row c.requires.0.in_table, c.requires.2) in
    let a = c.args in
    let t = table_in a.state.now in
    let e = is-batcher (kind_at t a.row) c.in-Batcher.model (sym c.kind_of.ensures ∙ c.in-Batcher.is) in
    (row-kind t a.mem.now a.row c.requires.0.in_table c.requires.0.scene.ready (Table.batcher c.in-Batcher.model) e, below (Table.batcher c.in-Batcher.model) e, (let r = c.requires.3 in omega arith))

-- src/lib.rt:74:25
pub enum_known-model-in-Stopwatch-1 : goal.enum_known-model-in-Stopwatch-1
enum_known-model-in-Stopwatch-1 c = search rules

-- src/lib.rt:74:35
pub stopwatch_internal-requires : goal.stopwatch_internal-requires
stopwatch_internal-requires c =
    let below : (k : Table.Kind) → kind_at (table_in c.args.state.now) c.args.row ≡ k → begin_in c.args.mem.now c.args.row + width_of k ≤ c.args.at = λ k e. let t = table_in c.args.state.now in let w = ap width_of e in let b = c.requires.0.scene.ready.laid.begins c.args.row c.requires.0.in_table in omega (arith, b, w, begin-end t c.args.row c.requires.0.in_table, c.requires.2) in
    let a = c.args in
    let t = table_in a.state.now in
    let e = is-stopwatch (kind_at t a.row) c.in-Stopwatch.model (sym c.kind_of.ensures ∙ c.in-Stopwatch.is) in
    (row-kind t a.mem.now a.row c.requires.0.in_table c.requires.0.scene.ready (Table.stopwatch c.in-Stopwatch.model) e, below (Table.stopwatch c.in-Stopwatch.model) e, (let r = c.requires.3 in omega arith))

-- src/lib.rt:75:39
pub enum_told-1 : goal.enum_told-1
enum_told-1 c = search rules

-- src/lib.rt:76:38
-- src/lib.rt:57:1
pub shape_of-mem-in-Processor : goal.shape_of-mem-in-Processor
shape_of-mem-in-Processor c = search rules

-- src/lib.rt:57:1
pub returns-in-Processor : goal.returns-in-Processor
returns-in-Processor c =
    let given : (after : List ℕ) (r : Result ℕ Refusal) (k : Table.Kind) → kind_at (table_in c.args.state.now) c.args.row ≡ k → is_coupled k ≡ false → Own c.args.row (begin_in c.args.mem.now c.args.row) (width_of k) c.args.at (c.args.at + 64) c.args.mem.now after → Gave r c.args.at k (begin_in c.args.mem.now c.args.row) c.args.row after (atom_internal k c.args.services.now (state_in k (begin_in c.args.mem.now c.args.row) c.args.mem.now c.args.row) (place_in c.args.mem.now)) → ((depth : ℕ) → Gives r c.args.at (Step.internal (table_in c.args.state.now) c.args.services.now (suc depth) c.args.clock c.args.row) (table_in c.args.state.now) c.args.mem.now after) × Frame (table_in c.args.state.now) c.args.at (length c.args.mem.now) c.args.mem.now after = λ after r k e atom own gave. let a = c.args in let s = c.requires.0.scene in let t = table_in a.state.now in let short : T (is_word (length a.services.now)) = lt→ltb (length a.services.now) (2 ^ 64) c.well_formed.1.0.0 in (λ depth. gives-kind t (fine-in a.state.now s.inside) a.services.now short a.clock s.time depth a.row c.requires.0.in_table a.mem.now after s.ready a.at c.requires.2 k e atom (begin_in a.mem.now a.row) refl own r gave, frame-wider t a.at (a.at + 64) a.at (length a.mem.now) a.mem.now after (omega arith) (let z = c.requires.3 in omega arith) (frame-kind t a.mem.now after a.row a.at (a.at + 64) c.requires.0.in_table s.ready.laid (λ p l. inl (let z = c.requires.2 in omega arith)) k e (begin_in a.mem.now a.row) refl own)) in
    let a = c.args in
    let e = is-processor (kind_at (table_in a.state.now) a.row) c.in-Processor.model (sym c.kind_of.ensures ∙ c.in-Processor.is) in
    let all = given c.processor_internal.new.mem c.processor_internal.result (Table.processor c.in-Processor.model) e refl c.processor_internal.ensures.owns c.processor_internal.ensures.gives in record { gives = all.0; frame = all.1 }

-- src/lib.rt:57:1
pub shape_of-mem-in-Batcher : goal.shape_of-mem-in-Batcher
shape_of-mem-in-Batcher c = search rules

-- src/lib.rt:57:1
pub returns-in-Batcher : goal.returns-in-Batcher
returns-in-Batcher c =
    let given : (after : List ℕ) (r : Result ℕ Refusal) (k : Table.Kind) → kind_at (table_in c.args.state.now) c.args.row ≡ k → is_coupled k ≡ false → Own c.args.row (begin_in c.args.mem.now c.args.row) (width_of k) c.args.at (c.args.at + 64) c.args.mem.now after → Gave r c.args.at k (begin_in c.args.mem.now c.args.row) c.args.row after (atom_internal k c.args.services.now (state_in k (begin_in c.args.mem.now c.args.row) c.args.mem.now c.args.row) (place_in c.args.mem.now)) → ((depth : ℕ) → Gives r c.args.at (Step.internal (table_in c.args.state.now) c.args.services.now (suc depth) c.args.clock c.args.row) (table_in c.args.state.now) c.args.mem.now after) × Frame (table_in c.args.state.now) c.args.at (length c.args.mem.now) c.args.mem.now after = λ after r k e atom own gave. let a = c.args in let s = c.requires.0.scene in let t = table_in a.state.now in let short : T (is_word (length a.services.now)) = lt→ltb (length a.services.now) (2 ^ 64) c.well_formed.1.0.0 in (λ depth. gives-kind t (fine-in a.state.now s.inside) a.services.now short a.clock s.time depth a.row c.requires.0.in_table a.mem.now after s.ready a.at c.requires.2 k e atom (begin_in a.mem.now a.row) refl own r gave, frame-wider t a.at (a.at + 64) a.at (length a.mem.now) a.mem.now after (omega arith) (let z = c.requires.3 in omega arith) (frame-kind t a.mem.now after a.row a.at (a.at + 64) c.requires.0.in_table s.ready.laid (λ p l. inl (let z = c.requires.2 in omega arith)) k e (begin_in a.mem.now a.row) refl own)) in
    let a = c.args in
    let e = is-batcher (kind_at (table_in a.state.now) a.row) c.in-Batcher.model (sym c.kind_of.ensures ∙ c.in-Batcher.is) in
    let all = given c.batcher_internal.new.mem c.batcher_internal.result (Table.batcher c.in-Batcher.model) e refl c.batcher_internal.ensures.owns (c.batcher_internal.ensures.gives a.services.now) in record { gives = all.0; frame = all.1 }

-- src/lib.rt:57:1
pub shape_of-mem-in-Stopwatch : goal.shape_of-mem-in-Stopwatch
shape_of-mem-in-Stopwatch c = search rules

-- src/lib.rt:57:1
pub returns-in-Stopwatch : goal.returns-in-Stopwatch
returns-in-Stopwatch c =
    let given : (after : List ℕ) (r : Result ℕ Refusal) (k : Table.Kind) → kind_at (table_in c.args.state.now) c.args.row ≡ k → is_coupled k ≡ false → Own c.args.row (begin_in c.args.mem.now c.args.row) (width_of k) c.args.at (c.args.at + 64) c.args.mem.now after → Gave r c.args.at k (begin_in c.args.mem.now c.args.row) c.args.row after (atom_internal k c.args.services.now (state_in k (begin_in c.args.mem.now c.args.row) c.args.mem.now c.args.row) (place_in c.args.mem.now)) → ((depth : ℕ) → Gives r c.args.at (Step.internal (table_in c.args.state.now) c.args.services.now (suc depth) c.args.clock c.args.row) (table_in c.args.state.now) c.args.mem.now after) × Frame (table_in c.args.state.now) c.args.at (length c.args.mem.now) c.args.mem.now after = λ after r k e atom own gave. let a = c.args in let s = c.requires.0.scene in let t = table_in a.state.now in let short : T (is_word (length a.services.now)) = lt→ltb (length a.services.now) (2 ^ 64) c.well_formed.1.0.0 in (λ depth. gives-kind t (fine-in a.state.now s.inside) a.services.now short a.clock s.time depth a.row c.requires.0.in_table a.mem.now after s.ready a.at c.requires.2 k e atom (begin_in a.mem.now a.row) refl own r gave, frame-wider t a.at (a.at + 64) a.at (length a.mem.now) a.mem.now after (omega arith) (let z = c.requires.3 in omega arith) (frame-kind t a.mem.now after a.row a.at (a.at + 64) c.requires.0.in_table s.ready.laid (λ p l. inl (let z = c.requires.2 in omega arith)) k e (begin_in a.mem.now a.row) refl own)) in
    let a = c.args in
    let e = is-stopwatch (kind_at (table_in a.state.now) a.row) c.in-Stopwatch.model (sym c.kind_of.ensures ∙ c.in-Stopwatch.is) in
    let all = given c.stopwatch_internal.new.mem c.stopwatch_internal.result (Table.stopwatch c.in-Stopwatch.model) e refl c.stopwatch_internal.ensures.owns (c.stopwatch_internal.ensures.gives a.services.now) in record { gives = all.0; frame = all.1 }

-- src/lib.rt:57:1
pub returns-in-Coupled : goal.returns-in-Coupled
returns-in-Coupled c =
    let a = c.args in
    record { gives = absurd (no-coupled (kind_at (table_in a.state.now) a.row) c.requires.1 (sym c.kind_of.ensures ∙ c.in-Coupled.is)); frame = absurd (no-coupled (kind_at (table_in a.state.now) a.row) c.requires.1 (sym c.kind_of.ensures ∙ c.in-Coupled.is)) }

-- src/lib.rt:57:1
