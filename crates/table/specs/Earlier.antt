-- The tests against the rows before a row, as searches of the words. Assumes nothing.
use Rattle.std.specs.Prelude.{ℕ, zero, suc, ◌+◌, ◌≡◌, refl, Bool, true, false, ◌&&◌, List, [], ◌∷◌, leb, if◌then◌else◌, Option, None, Some}
use Rattle.std.proofs.Math.Path.{sym, ap}
use Rattle.std.proofs.Common.{◌∙◌, add-zero, zero-add, arith, eqb-true, ne_eqb}
use Rattle.std.proofs.Math.Bool.{not}
use Rattle.std.proofs.Math.Dec.{eqb}
use Rattle.rules.specs.declared.Metric.{Metric}
use Rattle.rules.specs.Sizes.{is_port}
use Rattle.rules.specs.Base.{some_of, hold, from}
use Rattle.rules.specs.Table as Table
use Rattle.rules.specs.Table.{is_coupled}
use Rattle.rules.specs.Intake.{is_new, is_coupled_id, depth_of, depth_fits}
use Rattle.rules.specs.Layout.{cell, model_width, capacity_in, metric_in, stopwatch_in}
use Rattle.table.specs.Readers.{row_of, id_in, before, depth_in}
use Rattle.table.specs.Judging.{processor_of, batcher_of, kind_or, read_row, row_in, earlier_in, has_row, parent_joins, row_joins}

-- ---- some of the rows before `k`, in either order
swap : (a b : Bool) (s : Bool) → (if a then true else if b then true else s) ≡ (if b then true else if a then true else s)
swap true true s = refl
swap true false s = refl
swap false b s = refl

module _ (test : ℕ → Bool) where
  some-last : (j k : ℕ) → some_of test (from j (suc k)) ≡ (if test (j + k) then true else some_of test (from j k))
  some-last j zero = rw add-zero
  some-last j (suc k) =
      let e : suc j + k ≡ j + suc k = omega arith in
      rw (some-last (suc j) k, e) (swap (test j) (test (j + suc k)) (some_of test (from (suc j) k)))

pub some-earlier : (test : Table.Row → Bool) (models : List ℕ) (k : ℕ) → some_of test (earlier_in models k) ≡ some_of (λ j. test (row_in models j)) (from 0 k)
some-earlier test models zero = refl
some-earlier test models (suc k) = rw (some-earlier test models k) (sym (some-last (λ j. test (row_in models j)) 0 k ∙ rw zero-add))

-- ---- a row is a Coupled where its kind's word is 4
module _ (n : ℕ) (p b : Table.Kind) (s : Option Table.Kind) (not-p : is_coupled p ≡ false) (not-b : is_coupled b ≡ false) (not-s : is_coupled (kind_or s) ≡ false) where
  abbrev by_4 : Bool → Option Table.Kind
  by_4 t = if t then Some Table.coupled else None

  coupled-4 : (t : Bool) → is_coupled (kind_or (by_4 t)) ≡ t
  coupled-4 true = refl
  coupled-4 false = refl

  coupled-3 : (t : Bool) → eqb n 3 ≡ t → is_coupled (kind_or (if t then s else by_4 (eqb n 4))) ≡ eqb n 4
  coupled-3 true e = let g = eqb-true n 3 e in not-s ∙ sym (ne_eqb n 4 (λ f. omega arith))
  coupled-3 false e = coupled-4 (eqb n 4)

  coupled-2 : (t : Bool) → eqb n 2 ≡ t → is_coupled (kind_or (if t then Some b else if eqb n 3 then s else by_4 (eqb n 4))) ≡ eqb n 4
  coupled-2 true e = let g = eqb-true n 2 e in not-b ∙ sym (ne_eqb n 4 (λ f. omega arith))
  coupled-2 false e = coupled-3 (eqb n 3) refl

  coupled-1 : (t : Bool) → eqb n 1 ≡ t → is_coupled (kind_or (if t then Some p else if eqb n 2 then Some b else if eqb n 3 then s else by_4 (eqb n 4))) ≡ eqb n 4
  coupled-1 true e = let g = eqb-true n 1 e in not-p ∙ sym (ne_eqb n 4 (λ f. omega arith))
  coupled-1 false e = coupled-2 (eqb n 2) refl

pub coupled-is : (row : List ℕ) → is_coupled (read_row row).kind ≡ eqb (cell row 1) 4
coupled-is row =
    coupled-1 (cell row 1) (processor_of (cell row 4) (cell row 7) (capacity_in row)) (batcher_of (cell row 4) (cell row 7) (cell row 8) (cell row 9)) (stopwatch_in row (metric_in row)) refl refl (no-stopwatch (metric_in row)) (eqb (cell row 1) 1) refl
  where
    no-stopwatch : (o : Option Metric) → is_coupled (kind_or (stopwatch_in row o)) ≡ false
    no-stopwatch None = refl
    no-stopwatch (Some m) = refl

-- ---- ids and Coupleds among the rows before
twice : (b : Bool) → (b && b) ≡ b
twice true = refl
twice false = refl

module _ (models : List ℕ) (k id : ℕ) where
  new_is : is_new (earlier_in models k) id ≡ not (has_row models k id 0 id)
  unfolding has_row
  new_is =
      ap not (some-earlier (λ r. eqb r.id id) models k
      ∙ (λ i. some_of (λ j. sym (twice (eqb (cell (row_of model_width models j) 0) id)) i) (from 0 k)))

  pub coupled-id-is : is_coupled_id (earlier_in models k) id ≡ has_row models k id 1 4
  unfolding has_row
  coupled-id-is =
      some-earlier (λ r. eqb r.id id && is_coupled r.kind) models k
      ∙ (λ i. some_of (λ j. eqb (cell (row_of model_width models j) 0) id && coupled-is (row_of model_width models j) i) (from 0 k))

-- ---- depth looks at ids and parents alone
pub none_deep : (models : List ℕ) (k : ℕ) → depth_of (before models k) None ≡ 1
none_deep models zero = refl
none_deep models (suc k) = refl

pub depth_same : (models : List ℕ) (k : ℕ) (parent : Option ℕ) → depth_of (earlier_in models k) parent ≡ depth_of (before models k) parent
depth_same models zero parent = refl
depth_same models (suc k) None = refl
depth_same models (suc k) (Some id) =
    rw (depth_same models k (row_in models k).parent, depth_same models k (Some id))

depth-fits-is : (models : List ℕ) (k : ℕ) → depth_fits (earlier_in models k) (row_in models k) ≡ (if eqb (cell (row_of model_width models k) 1) 4 then leb (depth_in models k) 4 else true)
unfolding depth_in
depth-fits-is models k = rw (coupled-is (row_of model_width models k), depth_same models k (row_in models k).parent)

-- ---- what a row keeps against the rows before it
pub row-joins-is : (models : List ℕ) (k : ℕ)
    → row_joins models k
    ≡ hold (is_port (id_in models k) ∷ not (has_row models k (id_in models k) 0 (id_in models k)) ∷ parent_joins models k ∷ (if eqb (cell (row_of model_width models k) 1) 4 then leb (depth_in models k) 4 else true) ∷ [])
unfolding row_joins
row-joins-is models k = rw (new_is models k (id_in models k), depth-fits-is models k)
