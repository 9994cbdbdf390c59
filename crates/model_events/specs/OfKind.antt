-- An atom's event by its kind: from what the row's own event answers to the rules' event. Assumes nothing.
use Rattle.std.specs.Prelude.{ℕ, ◌≤◌, ◌<◌, ◌≡◌, ◌⊎◌, false, List, length}
use Rattle.std.proofs.Common.{sym, ap, subst, ◌∙◌, arith}
use Rattle.rules.specs.declared.Processor.{Processor}
use Rattle.rules.specs.declared.Batcher.{Batcher}
use Rattle.rules.specs.declared.Stopwatch.{Stopwatch}
use Rattle.rules.specs.Table as Table
use Rattle.rules.specs.Table.{Table, kind_at, is_coupled}
use Rattle.table.specs.declared.Kind.TheVariants as kind
use Rattle.table.specs.Readers.{named}
use Rattle.memory.specs.Words.{begin_in, width_of, Own}
use Rattle.views.specs.World.{begin_of, end_of, Laid, Frame}
use Rattle.views.proofs.Frames.{own-frame}

-- ---- what the reader's answer says of the row's kind
other-kind : {A : Type 0} → ◌≡◌ {A = ℕ} 0 1 → A
other-kind e = absurd (omega arith)

pub is-processor : (k : Table.Kind) (p : Processor) → named k ≡ kind.Processor p → k ≡ Table.processor p
is-processor (Table.processor q) p e = ap Table.processor (cc)
is-processor (Table.batcher b) p e = other-kind (cc)
is-processor (Table.stopwatch w) p e = other-kind (cc)
is-processor Table.coupled p e = other-kind (cc)

pub is-batcher : (k : Table.Kind) (b : Batcher) → named k ≡ kind.Batcher b → k ≡ Table.batcher b
is-batcher (Table.processor q) b e = other-kind (cc)
is-batcher (Table.batcher q) b e = ap Table.batcher (cc)
is-batcher (Table.stopwatch w) b e = other-kind (cc)
is-batcher Table.coupled b e = other-kind (cc)

pub is-stopwatch : (k : Table.Kind) (w : Stopwatch) → named k ≡ kind.Stopwatch w → k ≡ Table.stopwatch w
is-stopwatch (Table.processor q) w e = other-kind (cc)
is-stopwatch (Table.batcher b) w e = other-kind (cc)
is-stopwatch (Table.stopwatch q) w e = ap Table.stopwatch (cc)
is-stopwatch Table.coupled w e = other-kind (cc)

pub no-coupled : (k : Table.Kind) → is_coupled k ≡ false → named k ≡ kind.Coupled → ⊥
no-coupled (Table.processor q) a e = other-kind (cc)
no-coupled (Table.batcher b) a e = other-kind (cc)
no-coupled (Table.stopwatch q) a e = other-kind (cc)
no-coupled Table.coupled a e = other-kind (cc)

-- ---- what the row's own event leaves of the other words
pub frame-kind : (t : Table) (mem after : List ℕ) (i lo hi : ℕ) → i < length t.rows → Laid t mem → ((p : ℕ) → p < end_of t → (p < lo) ⊎ (hi ≤ p)) → (k : Table.Kind) → kind_at t i ≡ k → (b : ℕ) → begin_in mem i ≡ b
    → Own i b (width_of k) lo hi mem after → Frame t lo hi mem after
frame-kind t mem after i lo hi inside laid far k e b f own =
    own-frame t i lo hi mem after inside far laid
    (subst (λ (w : ℕ). Own i (begin_of t i) w lo hi mem after) (ap width_of (sym e)) (subst (λ (z : ℕ). Own i z (width_of k) lo hi mem after) (sym f ∙ laid.begins i inside) own))
