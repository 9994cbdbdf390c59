-- The kind of a row of a table that has passed intake, by its words: its number, and a processor's capacity. Assumes nothing.
use Rattle.std.specs.Prelude.{ℕ, ◌+◌, ◌*◌, ◌≤◌, ◌<◌, ◌/◌, ◌%◌, ◌≡◌, Bool, List, length, get_or, drop, eqb, if◌then◌else◌, Option, None, Some}
use Rattle.std.proofs.Math.Path.{refl, sym, ap}
use Rattle.std.proofs.Common.{◌∙◌, arith, get_or-take, get_or-drop}
use Rattle.std.proofs.Math.Bool.{true, false}
use borrow.Author.Tests.{eqb-true}
use Rattle.rules.specs.declared.Processor.{Processor}
use Rattle.rules.specs.declared.Batcher.{Batcher}
use Rattle.rules.specs.declared.Stopwatch.{Stopwatch}
use Rattle.rules.specs.declared.Metric.{Metric}
use Rattle.rules.specs.Sizes.{omitted_capacity}
use Rattle.rules.specs.Table.{Kind, processor, batcher, stopwatch, coupled, kind_at}
use Rattle.rules.specs.Valid.{kind_number}
use Rattle.rules.specs.Ends.{no-some}
use Rattle.rules.specs.Decides.{is_true, is_false, same}
use Rattle.rules.specs.Layout.{cell, model_width, capacity_in, metric_in, stopwatch_in, kind_in}
use Rattle.table.specs.Readers.{row_of}
use Rattle.table.specs.Rows.{row-cell}
use Rattle.table.specs.Passed.{kind-read}
use Rattle.lookup.specs.Inside.{Inside, count_in, models_in, connectors_in, couplings_in, table_in}
use Rattle.lookup.specs.InsideLaws.{counts}

-- ---- what a number says
pub of-processor : {A : Type 0} (k : Kind) → kind_number k ≡ 1 → ((p : Processor) → k ≡ processor p → A) → A
of-processor (processor p) e f = f p refl
of-processor (batcher b) e f = absurd (omega arith)
of-processor (stopwatch w) e f = absurd (omega arith)
of-processor coupled e f = absurd (omega arith)

pub of-batcher : {A : Type 0} (k : Kind) → kind_number k ≡ 2 → ((b : Batcher) → k ≡ batcher b → A) → A
of-batcher (processor p) e f = absurd (omega arith)
of-batcher (batcher b) e f = f b refl
of-batcher (stopwatch w) e f = absurd (omega arith)
of-batcher coupled e f = absurd (omega arith)

pub of-stopwatch : {A : Type 0} (k : Kind) → kind_number k ≡ 3 → ((w : Stopwatch) → k ≡ stopwatch w → A) → A
of-stopwatch (processor p) e f = absurd (omega arith)
of-stopwatch (batcher b) e f = absurd (omega arith)
of-stopwatch (stopwatch w) e f = f w refl
of-stopwatch coupled e f = absurd (omega arith)

pub of-coupled : (k : Kind) → (kind_number k ≡ 1 → ⊥) → (kind_number k ≡ 2 → ⊥) → (kind_number k ≡ 3 → ⊥) → k ≡ coupled
of-coupled (processor p) a b c = absurd (a refl)
of-coupled (batcher m) a b c = absurd (b refl)
of-coupled (stopwatch w) a b c = absurd (c refl)
of-coupled coupled a b c = refl

-- ---- what a row's words say
number_or : Option Kind → ℕ
number_or None = 0
number_or (Some k) = kind_number k

capacity_or : Option Kind → ℕ
capacity_or None = 0
capacity_or (Some (processor p)) = p.queue_capacity
capacity_or (Some (batcher b)) = 0
capacity_or (Some (stopwatch w)) = 0
capacity_or (Some coupled) = 0

module _ (n : ℕ) (p b k : Kind) (s : Option Kind) (first : kind_number p ≡ 1) (second : kind_number b ≡ 2) (third : s ≡ Some k → kind_number k ≡ 3) where
  number-4 : (t : Bool) → eqb n 4 ≡ t → (if t then Some coupled else None) ≡ Some k → n ≡ kind_number k
  unfolding number_or
  number-4 true t e = eqb-true n 4 t ∙ ap number_or e
  number-4 false t e = absurd (no-some e)

  number-3 : (t : Bool) → eqb n 3 ≡ t → (if t then s else if eqb n 4 then Some coupled else None) ≡ Some k → n ≡ kind_number k
  number-3 true t e = eqb-true n 3 t ∙ sym (third e)
  number-3 false t e = number-4 (eqb n 4) refl e

  number-2 : (t : Bool) → eqb n 2 ≡ t → (if t then Some b else if eqb n 3 then s else if eqb n 4 then Some coupled else None) ≡ Some k → n ≡ kind_number k
  unfolding number_or
  number-2 true t e = eqb-true n 2 t ∙ sym second ∙ ap number_or e
  number-2 false t e = number-3 (eqb n 3) refl e

  number-1 : (t : Bool) → eqb n 1 ≡ t → (if t then Some p else if eqb n 2 then Some b else if eqb n 3 then s else if eqb n 4 then Some coupled else None) ≡ Some k → n ≡ kind_number k
  unfolding number_or
  number-1 true t e = eqb-true n 1 t ∙ sym first ∙ ap number_or e
  number-1 false t e = number-2 (eqb n 2) refl e

number_of : (row : List ℕ) (k : Kind) → kind_in row ≡ Some k → cell row 1 ≡ kind_number k
unfolding number_or
number_of row k e = number-1 (cell row 1) _ _ k (stopwatch_in row (metric_in row)) refl refl (watches (metric_in row)) (eqb (cell row 1) 1) refl e
  where
    watches : (o : Option Metric) → stopwatch_in row o ≡ Some k → kind_number k ≡ 3
    watches None e = absurd (no-some e)
    watches (Some m) e = sym (ap number_or e)

capacity-of : (row : List ℕ) (p : Processor) → kind_in row ≡ Some (processor p) → capacity_in row ≡ p.queue_capacity
unfolding capacity_or
capacity-of row p e = ap capacity_or (rw (is_true (same (cell row 1) 1) (number_of row (processor p) e)) at e)

-- ---- the words inside a state
module _ (state : List ℕ) (inside : Inside state) (row : ℕ) (l : row < length (table_in state).rows) where
  -- the row ends where the state does, at the latest
  pub row_inside : row * 10 + 13 ≤ length state
  row_inside = let n = (counts state inside).0 in let room = inside.room in omega arith

  cell_in : (c : ℕ) → c < 10 → get_or state (row * 10 + 3 + c) 0 ≡ cell (row_of model_width (models_in state) row) c
  cell_in c m =
      let n = (counts state inside).0 in
      let below : row * 10 + c < count_in 0 state * 10 = omega arith in
      let place : 3 + (row * 10 + c) ≡ row * 10 + 3 + c = omega arith in
      ap (λ (p : ℕ). get_or state p 0) (sym place) ∙ sym (get_or-drop 3 state (row * 10 + c) 0) ∙ sym (get_or-take (count_in 0 state * 10) (drop 3 state) (row * 10 + c) 0 below)
      ∙ sym (row-cell model_width (models_in state) row c m)

  read-in : kind_in (row_of model_width (models_in state) row) ≡ Some (kind_at (table_in state) row)
  read-in = kind-read (models_in state) (connectors_in state) (couplings_in state) (table_in state) inside.passes row l

  pub number_in : get_or state (row * 10 + 3 + 1) 0 ≡ kind_number (kind_at (table_in state) row)
  number_in = cell_in 1 (omega arith) ∙ number_of (row_of model_width (models_in state) row) (kind_at (table_in state) row) read-in

  module _ (p : Processor) (is : kind_at (table_in state) row ≡ processor p) where
    capacity-in : (if eqb (get_or state (row * 10 + 3 + 2) 0 / 2 % 2) 1 then get_or state (row * 10 + 3 + 8) 0 else omitted_capacity) ≡ p.queue_capacity
    capacity-in = rw (cell_in 2 (omega arith), cell_in 8 (omega arith)) (capacity-of (row_of model_width (models_in state) row) p (read-in ∙ ap Some is))

    pub capacity-given : get_or state (row * 10 + 3 + 2) 0 / 2 % 2 ≡ 1 → get_or state (row * 10 + 3 + 8) 0 ≡ p.queue_capacity
    capacity-given g = rw (is_true (same (get_or state (row * 10 + 3 + 2) 0 / 2 % 2) 1) g) at capacity-in

    pub capacity-omitted : (get_or state (row * 10 + 3 + 2) 0 / 2 % 2 ≡ 1 → ⊥) → omitted_capacity ≡ p.queue_capacity
    capacity-omitted g = rw (is_false (same (get_or state (row * 10 + 3 + 2) 0 / 2 % 2) 1) g) at capacity-in
