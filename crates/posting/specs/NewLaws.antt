-- The laws of new rows: their words by the number of their kind; that they are the rules' fresh ones for a table that passed; and so the words of a state with new rows. Assumes nothing.
use Prim.Native.Nat.{ℕ, zero, suc, ◌+◌, ◌-◌, ◌*◌, ◌/◌, ◌≤◌, ◌<◌}
use Rattle.std.specs.Prelude.{◌≡◌, refl, Bool, true, false, get_or, eqb, Float, if◌then◌else◌, Option, None, Some}
use Rattle.std.proofs.Common.{sym, ◌∙◌, zero-add, add-zero, suc-add, zero-mul, add-one, arith, eqb-true, ext_get_or}
use Rattle.std.proofs.Math.Path.{ap}
use mathlib.Core.List.{List, [], ◌∷◌, ◌++◌, append_assoc}
use Rattle.std.proofs.Math.Nat.{sub-zero}
use Rattle.std.proofs.Math.ListN.{length, get_or-map}
use Rattle.std.proofs.lemmas.List.{length-map}
use Rattle.std.specs.Float.Ieee.{binary64, of_bits, to_bits}
use Rattle.rules.specs.declared.Metric.{Metric}
use Rattle.rules.specs.declared.Message.{Message}
use Rattle.rules.specs.Table.{Kind, processor, batcher, coupled, Row, Table, no_row, kind_at}
use Rattle.rules.specs.Ends.{no-some}
use Rattle.rules.specs.Layout.{cell, model_width, connector_width, coupling_width, kind_in, stopwatch_in, metric_in, capacity_in, written_all}
use Rattle.rules.specs.Simulation.{State, of_processor, of_batcher, of_stopwatch, of_coupled, fresh_processor, fresh_batcher, fresh_stopwatch, fresh, fresh_all}
use Rattle.words.specs.Lists.{get_d-from}
use Rattle.table.specs.Readers.{row_of}
use Rattle.table.specs.Rows.{row-cell}
use Rattle.table.specs.Passed.{models-long, kind-read}
use Rattle.memory.specs.Words.{head_at}
use Rattle.storing.specs.State.{zeros, own_words, phase_word, timer_word, held_word, own_width, heads, owns, changing, laid_state}
use Rattle.posting.specs.Laying.{laid, numbered, new_from, new_rows, widths, front_words, lent_table, Passes}
use Rattle.posting.specs.LayingLaws.{laid_none, laid_more, laid-long}

-- ---- zeros
zeros-both : (m n : ℕ) → zeros m ++ zeros n ≡ zeros (m + n)
zeros-both zero n = ap zeros (sym (zero-add n))
zeros-both (suc m) n = ap (λ (z : List ℕ). 0 ∷ z) (zeros-both m n) ∙ ap zeros (sym (suc-add m n))

-- ---- a new row's words: phase 0, nothing held, the timer infinite but for a Coupled, zeros as its own words
abbrev by_tests : Bool → Bool → Bool → State
by_tests a b c = if a then of_coupled [] else if b then of_stopwatch fresh_stopwatch else if c then of_batcher fresh_batcher else of_processor fresh_processor

abbrev infinite_but : Bool → ℕ
infinite_but b = if b then 0 else 0x7FF0000000000000

new-words : (a b c : Bool) → (phase_word (by_tests a b c) ≡ 0) × (timer_word (by_tests a b c) ≡ infinite_but a) × (held_word (by_tests a b c) ≡ 0) × (own_words (by_tests a b c) ≡ zeros (own_width (by_tests a b c)))
unfolding to_bits
new-words true b c = (refl, refl, refl, refl)
new-words false true c = (refl, refl, refl, refl)
new-words false false true = (refl, refl, refl, refl)
new-words false false false = (refl, refl, refl, refl)

pub timer-new : (n : ℕ) → timer_word (numbered n) ≡ (if eqb n 4 then 0 else 0x7FF0000000000000)
timer-new n = (new-words (eqb n 4) (eqb n 3) (eqb n 2)).1

pub head-new : (begin n : ℕ) → heads begin (numbered n ∷ []) ≡ 0 ∷ timer_word (numbered n) ∷ 0 ∷ begin ∷ []
head-new begin n =
    let w = new-words (eqb n 4) (eqb n 3) (eqb n 2) in
    λ i. w.0 i ∷ timer_word (numbered n) ∷ w.2 i ∷ begin ∷ []

pub width-new : (n : ℕ) → own_width (numbered n) ≡ (if eqb n 3 then 192 else 64)
width-new n = go (eqb n 4) (eqb n 3) (eqb n 2) refl refl
  where
    go : (a b c : Bool) → eqb n 4 ≡ a → eqb n 3 ≡ b → own_width (by_tests a b c) ≡ (if b then 192 else 64)
    go true true c e f = let x = eqb-true n 4 e in let y = eqb-true n 3 f in absurd (omega arith)
    go true false c e f = refl
    go false true c e f = refl
    go false false true e f = refl
    go false false false e f = refl

width-most : (n : ℕ) → own_width (numbered n) ≤ 192
width-most n = rw (width-new n) (go (eqb n 3))
  where
    go : (b : Bool) → (if b then 192 else 64) ≤ 192
    go true = omega arith
    go false = omega arith

-- ---- new rows, one after the other
module _ (models : List ℕ) where
  pub owns-new : (k n : ℕ) → owns (new_from models k n) ≡ zeros (widths (new_from models k n))
  owns-new k zero = refl
  owns-new k (suc n) =
      let first = numbered (get_or models (k * 10 + 1) 0) in
      let number = get_or models (k * 10 + 1) 0 in
      (λ i. (new-words (eqb number 4) (eqb number 3) (eqb number 2)).3 i ++ owns-new (suc k) n i)
      ∙ zeros-both (own_width first) (widths (new_from models (suc k) n))

  pub widths-most : (k n : ℕ) → widths (new_from models k n) ≤ n * 192
  widths-most k zero = omega arith
  widths-most k (suc n) = let h = widths-most (suc k) n in let w = width-most (get_or models (k * 10 + 1) 0) in omega arith

  pub new-long : (k n : ℕ) → length (new_from models k n) ≡ n
  new-long k zero = refl
  new-long k (suc n) = ap suc (new-long (suc k) n)

-- ---- the loop over the heads: those of the rows from `row` on, laid from here, are all of them laid at first
module _ (models : List ℕ) (rows at : ℕ) (before : List ℕ) where
  pub record Underway (row begin : ℕ) (now : List ℕ) : Type 0 where
    pub few : row ≤ rows
    pub ends : begin + widths (new_from models row (rows - row)) ≡ head_at rows + widths (new_from models 0 rows)
    pub lays : laid (at + row * 4) (heads begin (new_from models row (rows - row))) now ≡ laid at (heads (head_at rows) (new_from models 0 rows)) before
    pub long : length now ≡ length before

  pub starts : Underway 0 (head_at rows) before
  starts = record { few = omega arith; ends = simp sub-zero; lays = simp (sub-zero, zero-mul, add-zero); long = refl }

  pub goes_on : (row begin : ℕ) (now after : List ℕ) → Underway row begin now → row < rows → at + rows * 4 ≤ length before
      → after ≡ laid (at + row * 4) (heads begin (numbered (get_or models (row * 10 + 1) 0) ∷ [])) now
      → Underway (row + 1) (begin + own_width (numbered (get_or models (row * 10 + 1) 0))) after
  goes_on row begin now after u l room e =
      let s = numbered (get_or models (row * 10 + 1) 0) in
      let rest = new_from models (row + 1) (rows - (row + 1)) in
      let long = u.long in
      let left : rows - row ≡ suc (rows - (row + 1)) = omega arith in
      let next : new_from models row (rows - row) ≡ s ∷ rest = ap (new_from models row) left ∙ ap (λ (k : ℕ). s ∷ new_from models k (rows - (row + 1))) (sym (add-one row)) in
      let place : at + row * 4 + 4 ≡ at + (row + 1) * 4 = omega arith in
      record {
        few = omega arith;
        ends = (let h = u.ends in let w = ap widths next in omega arith);
        lays =
            laid_more (at + row * 4) (at + (row + 1) * 4) (heads begin (s ∷ [])) (heads (begin + own_width s) rest) now after (laid (at + (row + 1) * 4) (heads (begin + own_width s) rest) after)
            (omega arith) e place refl
            ∙ ap (λ (ss : List State). laid (at + row * 4) (heads begin ss) now) (sym next)
            ∙ u.lays;
        long = ap length e ∙ laid-long (at + row * 4) (heads begin (s ∷ [])) now (omega arith) ∙ u.long;
      }

  pub all_laid : (row begin : ℕ) (now : List ℕ) → Underway row begin now → rows ≤ row
      → (begin ≡ head_at rows + widths (new_from models 0 rows)) × (now ≡ laid at (heads (head_at rows) (new_from models 0 rows)) before)
  all_laid row begin now u l =
      let None : rows - row ≡ 0 = omega arith in
      let gone : new_from models row (rows - row) ≡ [] = ap (new_from models row) None in
      let h = u.ends in
      let w = ap widths gone in
      (omega arith, sym (laid_none (at + row * 4) now) ∙ ap (λ (ss : List State). laid (at + row * 4) (heads begin ss) now) (sym gone) ∙ u.lays)

pub heads-long : (begin : ℕ) (states : List State) → length (heads begin states) ≡ length states * 4
heads-long begin [] = refl
heads-long begin (s ∷ ss) = let h = heads-long (begin + own_width s) ss in omega arith

-- ---- what the number of a row's kind says, where the row says a kind
abbrev fresh_or : Option Kind → State
fresh_or None = of_coupled []
fresh_or (Some k) = fresh k

number_read : (row : List ℕ) (k : Kind) → kind_in row ≡ Some k → numbered (cell row 1) ≡ fresh k
number_read row k = go (eqb (cell row 1) 1) (eqb (cell row 1) 2) (eqb (cell row 1) 3) (eqb (cell row 1) 4) refl refl refl refl
  where
    watch : (o : Option Metric) → stopwatch_in row o ≡ Some k → of_stopwatch fresh_stopwatch ≡ fresh k
    watch None e = absurd (no-some e)
    watch (Some m) e = ap fresh_or e

    go : (a b c d : Bool) → eqb (cell row 1) 1 ≡ a → eqb (cell row 1) 2 ≡ b → eqb (cell row 1) 3 ≡ c → eqb (cell row 1) 4 ≡ d
        → (if a then Some (processor (record { input = cell row 4; output = cell row 7; queue_capacity = capacity_in row }))
        else if b then Some (batcher (record { input = cell row 4; output = cell row 7; max_batch_size = cell row 8; max_batch_time = of_bits binary64 (cell row 9) }))
        else if c then stopwatch_in row (metric_in row)
        else if d then Some coupled else None) ≡ Some k
        → numbered (cell row 1) ≡ fresh k
    go true b c d ea eb ec ed e = ap numbered (eqb-true (cell row 1) 1 ea) ∙ ap fresh_or e
    go false true c d ea eb ec ed e = ap numbered (eqb-true (cell row 1) 2 eb) ∙ ap fresh_or e
    go false false true d ea eb ec ed e = ap numbered (eqb-true (cell row 1) 3 ec) ∙ watch (metric_in row) e
    go false false false true ea eb ec ed e = ap numbered (eqb-true (cell row 1) 4 ed) ∙ ap fresh_or e
    go false false false false ea eb ec ed e = absurd (no-some e)

-- ---- a table that passed
module _ (models connectors couplings : List ℕ) (passes : Passes models connectors couplings) where
  abbrev t : Table
  t = lent_table models connectors couplings

  rows-count : length models / model_width ≡ length t.rows
  rows-count = let l = models-long models connectors couplings t passes in omega arith

  one-new : (i : ℕ) → i < length t.rows → numbered (get_or models (i * 10 + 1) 0) ≡ fresh (kind_at t i)
  one-new i l =
      ap numbered (sym (row-cell model_width models i 1 (omega arith)))
      ∙ number_read (row_of model_width models i) (kind_at t i) (kind-read models connectors couplings t passes i l)

  pub all_new : new_rows models ≡ fresh_all t
  all_new =
      let f : Row → State = (λ (r : Row). fresh r.kind) in
      let n = length models / model_width in
      let long = new-long models 0 n in
      let fresh-long = length-map t.rows f in
      ext_get_or (of_coupled []) (new_rows models) (fresh_all t) (omega (arith, rows-count))
      (λ i l. get_d-from (λ k. numbered (get_or models (k * 10 + 1) 0)) (of_coupled []) 0 n i (omega arith)
      ∙ ap (λ (k : ℕ). numbered (get_or models (k * 10 + 1) 0)) (zero-add i)
      ∙ one-new i (omega (arith, rows-count))
      ∙ sym (get_or-map f t.rows i no_row))

  -- a state with new rows is the words up to its messages, and then these
  pub state-new : (active : List Message) (clock : Float) (place : ℕ)
      → laid_state models connectors couplings (record { table = t; states = fresh_all t; active = active; clock = clock; place = place })
      ≡ front_words models connectors couplings (length active) (to_bits binary64 clock) place ++ written_all active
  unfolding changing
  state-new active clock place =
      let of : List State → List ℕ = (λ (states : List State). laid_state models connectors couplings (record { table = t; states = states; active = active; clock = clock; place = place })) in
      let new = new_rows models in
      let before = heads (head_at (length new)) new in
      let three : List ℕ → List ℕ = (λ (z : List ℕ). length active ∷ to_bits binary64 clock ∷ place ∷ z) in
      let told : List ℕ → List ℕ = (λ (z : List ℕ). length models / model_width ∷ length connectors / connector_width ∷ length couplings / coupling_width ∷ z) in
      ap of (sym all_new)
      ∙ ap (λ (z : List ℕ). told (models ++ (connectors ++ (couplings ++ three (before ++ (z ++ written_all active)))))) (owns-new models 0 (length models / model_width))
      ∙ simp append_assoc
