-- A model row that intake refuses breaks the rule that is named: each test that fails breaks its rule, and where all pass the row would be kept. Assumes nothing.
use Rattle.std.specs.Prelude.{ℕ, zero, suc, ◌/◌, ◌≤◌, ◌<◌, ◌^◌, ◌≡◌, Bool, List, length, if◌then◌else◌, None, Some, Option}
use Rattle.std.proofs.Math.Path.{refl, ap, subst}
use Rattle.std.proofs.Common.{sym, ◌∙◌}
use Rattle.std.proofs.Math.Bool.{true, false, not}
use Rattle.std.proofs.lemmas.Bool.{false≢true}
use native.Mathlib.Omega.{arith}
use borrow.Author.Tests.{leb-true, leb-false, ltb-false, eqb-true, eqb-false, ne_eqb, not-false}
use Rattle.std.proofs.Math.Dec.{T, leb, eqb}
use Rattle.std.specs.Float.Ieee.Bits.{is_true}
use Rattle.std.specs.Float.Ieee.Fits.{and_l}
use Rattle.rules.specs.declared.Metric.{Metric}
use Rattle.rules.specs.declared.Metric.TheVariants.{Minimum, Maximum}
use Rattle.rules.specs.Table as Table
use Rattle.rules.specs.Intake.{parent_fits}
use Rattle.rules.specs.Layout.{cell, is_given, model_width, parent_in, metric_in, kind_in}
use Rattle.rules.specs.Ends.{All, nil, ◌&◌}
use Rattle.rules.specs.Decides.{passes, coupled-id-decides}
use Rattle.words.specs.Search.{matches}
use Rattle.words.specs.SearchLaws.{is_found, first-at}
use Rattle.table.specs.Readers.{row_of, id_in, kind_of, depth_in}
use Rattle.table.specs.Judging.{batcher_of, stopwatch_of, setting_in, is_kind, earlier_in, cells_fit, row_fits, parent_joins, row_keeps}
use Rattle.table.specs.Readings.{processor-fits}
use Rattle.table.specs.Searched.{id_and, searched, same_test, has-row}
use Rattle.table.specs.Earlier.{coupled-id-is, depth_same, row-joins-is}
use Rattle.reasons.specs.declared.Reason.{Reason}
use Rattle.reasons.specs.declared.Reason.TheVariants.{ModelWide, IdTaken, NoParent, TooDeep}
use Rattle.reasons.specs.Checks.{widths, first_broken}
use Rattle.reasons.specs.Reasons.{taken_by, place_in, parent_stands, depth_kept, depth_checks, depth_reason, place_checks, place_reason, id_checks, join_reason, batcher_checks, batcher_reason, metric_checks, differ_checks, stopwatch_reason, kind_reason, port_reason, shape_checks, model_reason}
use Rattle.reasons.specs.Breaks.{ModelBreaks, cut_short, unknown-kind, unknown-field, wide-id, wide-port, batch-of-none, large-batch, no-batch-time, unknown-metric, start-is-stop, start-is-ask, stop-is-ask, id-taken, no-parent, too-deep}
use Rattle.reasons.specs.CheckLaws.{Kept, named, wide-named}

-- the metric that a word says, or Minimum where it is omitted
abbrev metric_by : Bool → ℕ → Option Metric
metric_by given w = if given then (if eqb w 0 then Some Minimum else if eqb w 1 then Some Maximum else None) else Some Minimum

equal : (m n : ℕ) → not (eqb m n) ≡ false → m ≡ n
equal m n t = eqb-true m n (not-false (eqb m n) t)

-- ---- what a row's words say of its kind
module _ (row : List ℕ) where
  batcher-in : cell row 1 ≡ 2 → kind_in row ≡ Some (batcher_of (cell row 4) (cell row 7) (cell row 8) (cell row 9))
  batcher-in e = rw e

  stopwatch-in : (m : Metric) → cell row 1 ≡ 3 → metric_in row ≡ Some m → kind_in row ≡ Some (stopwatch_of (cell row 4) (cell row 5) (cell row 6) (cell row 7) m)
  stopwatch-in m e h = rw (e, h)

  coupled-in : cell row 1 ≡ 4 → kind_in row ≡ Some Table.coupled
  coupled-in e = rw e

  -- the metric's word, or 0 where it is omitted
  metric-none : leb (setting_in 4 0 row) 1 ≡ false → metric_in row ≡ None
  metric-none = go (is_given 4 row) (cell row 8)
    where
      go : (given : Bool) (w : ℕ) → leb (if given then w else 0) 1 ≡ false → metric_by given w ≡ None
      go true w h = let l = leb-false w 1 h in rw (ne_eqb w 0 (λ e. omega arith), ne_eqb w 1 (λ e. omega arith))
      go false w h = absurd (false≢true (sym h))

  metric-some : {C : Type 0} → leb (setting_in 4 0 row) 1 ≡ true → ((m : Metric) → metric_in row ≡ Some m → C) → C
  metric-some {C} = go (is_given 4 row) (cell row 8)
    where
      go : (given : Bool) (w : ℕ) → leb (if given then w else 0) 1 ≡ true → ((m : Metric) → metric_by given w ≡ Some m → C) → C
      go true zero h f = f Minimum refl
      go true (suc zero) h f = f Maximum refl
      go true (suc (suc w)) h f = let l = leb-true (suc (suc w)) 1 h in absurd (omega arith)
      go false w h f = f Minimum refl

  -- ---- a kind that keeps its rules, where the ports fit
  abbrev Ports : Type 0
  Ports = All Kept (widths ModelWide row 4 4)

  abbrev KindFits : Type 0
  KindFits = is_kind (kind_of (kind_in row)) ≡ true

  ports-fit : Ports → cells_fit row 4 8 ≡ true
  unfolding cells_fit
  ports-fit (p4 & p5 & p6 & p7 & nil) = rw (p4, p5, p6, p7)

  batcher-fits : cell row 1 ≡ 2 → Ports → All Kept (batcher_checks (cell row 8) (cell row 9)) → KindFits
  batcher-fits e (p4 & p5 & p6 & p7 & nil) (a & b & t & nil) = rw (e, p4, p7, a, b, t)

  stopwatch-fits : (m : Metric) → cell row 1 ≡ 3 → metric_in row ≡ Some m → Ports → All Kept (differ_checks row) → KindFits
  stopwatch-fits m e h (p4 & p5 & p6 & p7 & nil) (a & b & d & nil) = rw (e, h, p4, p5, p6, p7, a, b, d)

  coupled-fits : cell row 1 ≡ 4 → KindFits
  coupled-fits e = rw e

-- ---- the row k, which fails the tests of its words
module _ (models : List ℕ) (k : ℕ) (begins : k ≤ length models / model_width) (word : cell (row_of model_width models k) 8 < 2 ^ 64) (bad : row_keeps models k ≡ false) where
  abbrev row : List ℕ
  row = row_of model_width models k

  abbrev P : Option Reason → Type 0
  P = ModelBreaks (row_of model_width models) (earlier_in models k) k

  coupled-found : (p : ℕ) → parent_fits (earlier_in models k) (Some p) ≡ parent_stands models k (Some p)
  coupled-found p = coupled-id-is models k p ∙ has-row models k p 1 4 begins (omega arith) refl

  parent_is : parent_joins models k ≡ parent_stands models k (parent_in row)
  unfolding parent_joins
  parent_is = go (parent_in row)
    where
      go : (o : Option ℕ) → parent_fits (earlier_in models k) o ≡ parent_stands models k o
      go None = refl
      go (Some p) = coupled-found p

  -- a row that breaks none of the rules would be kept
  complete : All Kept (shape_checks row) → All Kept (widths ModelWide row 0 1) → Ports row → KindFits row
      → All Kept (id_checks models k) → All Kept (place_checks models k) → All Kept (depth_checks models k) → row_keeps models k ≡ true
  unfolding row_keeps row_fits cells_fit
  complete (w & k1 & k2 & g & nil) (i & nil) (p4 & p5 & p6 & p7 & nil) kind (n & nil) (p & nil) (d & nil) =
      rw (row-joins-is models k, w, g, p4, p5, p6, p7, kind, i, ap not (has-row models k (id_in models k) 0 (id_in models k) begins (omega arith) refl) ∙ n, parent_is ∙ p, d)

  -- ---- against the rows before it
  id-breaks : not (is_found (taken_by models k (id_in models k))) ≡ false → P (Some (IdTaken (place_in (taken_by models k (id_in models k)))))
  id-breaks = go (taken_by models k (id_in models k)) refl
    where
      go : (f : Option ℕ) → taken_by models k (id_in models k) ≡ f → not (is_found f) ≡ false → P (Some (IdTaken (place_in f)))
      go (Some j) e h =
          let first = first-at (matches (id_and (id_in models k) 0 (id_in models k)) 10 models) 0 k j (sym (searched models k (id_in models k) 0 (id_in models k) begins (omega arith)) ∙ e) in
          let both = same_test models k (id_in models k) 0 (id_in models k) begins (omega arith) j ∙ first.2 in
          id-taken {j = j} (omega arith) (eqb-true (id_in models j) (id_in models k) (is_true _ (and_l (eqb (id_in models j) (id_in models k)) (eqb (id_in models j) (id_in models k)) (subst T (sym both) tt))))
      go None e h = absurd (false≢true (sym h))

  parent-breaks : parent_stands models k (parent_in row) ≡ false → P (Some NoParent)
  parent-breaks = go (parent_in row) refl
    where
      go : (o : Option ℕ) → parent_in row ≡ o → parent_stands models k o ≡ false → P (Some NoParent)
      go None e h = absurd (false≢true (sym h))
      go (Some p) e h = no-parent {p = p} e (λ found. subst T (coupled-found p ∙ h) (passes (coupled-id-decides (earlier_in models k) p) found))

  depth-breaks : depth_kept models k ≡ false → P (Some TooDeep)
  unfolding depth_in
  depth-breaks = go (eqb (cell row 1) 4) refl
    where
      go : (b : Bool) → eqb (cell row 1) 4 ≡ b → (if b then leb (depth_in models k) 4 else true) ≡ false → P (Some TooDeep)
      go true e h = too-deep (coupled-in row (eqb-true (cell row 1) 4 e)) (rw (depth_same models k (parent_in row)) (leb-false (depth_in models k) 4 h))
      go false e h = absurd (false≢true (sym h))

  -- ---- rule by rule, in their order
  module _ (shape : All Kept (shape_checks row)) (id : All Kept (widths ModelWide row 0 1)) (ports : Ports row) where
    join-told : KindFits row → P (join_reason models k)
    unfolding join_reason place_reason depth_reason
    join-told kind =
        named P (id_checks models k) (place_reason models k) (id-breaks & nil)
        (λ n. named P (place_checks models k) (depth_reason models k) (parent-breaks & nil)
        (λ p. named P (depth_checks models k) None (depth-breaks & nil) (λ d. absurd (false≢true (sym bad ∙ complete shape id ports kind n p d)))))

    batcher-told : cell row 1 ≡ 2 → P (batcher_reason models k (cell row 8) (cell row 9))
    unfolding batcher_reason
    batcher-told e =
        named P (batcher_checks (cell row 8) (cell row 9)) (join_reason models k)
        ((λ h. batch-of-none (batcher-in row e) (let l = leb-false 1 (cell row 8) h in omega arith)) & (λ h. large-batch (batcher-in row e) (leb-false (cell row 8) (2 ^ 62) h))
        & (λ h. no-batch-time (batcher-in row e) (λ t. subst T h t)) & nil)
        (λ own. join-told (batcher-fits row e ports own))

    differ-told : (m : Metric) → cell row 1 ≡ 3 → metric_in row ≡ Some m → P (first_broken (differ_checks row) (join_reason models k))
    differ-told m e h =
        let kind = stopwatch-in row m e h in
        named P (differ_checks row) (join_reason models k)
        ((λ t. start-is-stop kind (equal (cell row 4) (cell row 5) t)) & (λ t. start-is-ask kind (equal (cell row 4) (cell row 6) t)) & (λ t. stop-is-ask kind (equal (cell row 5) (cell row 6) t)) & nil)
        (λ own. join-told (stopwatch-fits row m e h ports own))

    stopwatch-told : cell row 1 ≡ 3 → P (stopwatch_reason models k row)
    unfolding stopwatch_reason
    stopwatch-told e =
        named P (metric_checks row) (first_broken (differ_checks row) (join_reason models k)) ((λ h. unknown-metric e (metric-none row h)) & nil) (one_of e)
      where
        one_of : cell row 1 ≡ 3 → All Kept (metric_checks row) → P (first_broken (differ_checks row) (join_reason models k))
        one_of e (t & nil) = metric-some row t (λ m h. differ-told m e h)

    kind-told : P (kind_reason models k row)
    unfolding kind_reason
    kind-told = go (eqb (cell row 1) 2) refl (eqb (cell row 1) 3) refl (eqb (cell row 1) 1) refl
      where
        go : (b : Bool) → eqb (cell row 1) 2 ≡ b → (d : Bool) → eqb (cell row 1) 3 ≡ d → (a : Bool) → eqb (cell row 1) 1 ≡ a
            → P (if b then batcher_reason models k (cell row 8) (cell row 9) else if d then stopwatch_reason models k row else join_reason models k)
        go true e d f a g = batcher-told (eqb-true (cell row 1) 2 e)
        go false e true f a g = stopwatch-told (eqb-true (cell row 1) 3 f)
        go false e false f true g = join-told (processor-fits row (ports-fit row ports) word (eqb-true (cell row 1) 1 g))
        go false e false f false g = join-told (coupled-fits row (last shape))
          where
            last : All Kept (shape_checks row) → cell row 1 ≡ 4
            last (w & k1 & k2 & g4 & nil) =
                let l = leb-true 1 (cell row 1) k1 in
                let m = leb-true (cell row 1) 4 k2 in
                let x = eqb-false (cell row 1) 2 e in
                let y = eqb-false (cell row 1) 3 f in
                let z = eqb-false (cell row 1) 1 g in
                omega arith

  port-told : All Kept (shape_checks row) → P (port_reason models k row)
  unfolding port_reason
  port-told shape =
      named P (widths ModelWide row 0 1) (first_broken (widths ModelWide row 4 4) (kind_reason models k row)) ((λ h. wide-id (ltb-false (cell row 0) (2 ^ 16) h)) & nil)
      (λ id. named P (widths ModelWide row 4 4) (kind_reason models k row) (wide-named P ModelWide row 4 4 (λ j a b wide. wide-port a (omega arith) wide)) (λ ports. kind-told shape id ports))

  pub model-told : P (model_reason models k)
  unfolding model_reason
  model-told =
      named P (shape_checks row) (port_reason models k row)
      ((λ h. cut_short (eqb-false (length row) model_width h)) & (λ h. unknown-kind (λ a b. let l = leb-false 1 (cell row 1) h in omega arith))
      & (λ h. unknown-kind (λ a b. let l = leb-false (cell row 1) 4 h in omega arith)) & (λ h. unknown-field (ltb-false (cell row 2) 8 h)) & nil)
      port-told
