-- What the private functions of `hints` answer, and the searches that tell what an end names. Assumes nothing.
use Rattle.std.specs.Prelude.{ℕ, ◌/◌, ◌≡◌, refl, Bool, true, false, ◌&&◌, List, [], ◌∷◌, map, length, eqb, if◌then◌else◌, None, Some, Err, Option}
use Rattle.std.proofs.Math.Path.{sym, ap}
use Rattle.std.proofs.Common.{◌∙◌, arith}
use Rattle.std.proofs.lemmas.Bool.{false≢true}
use Rattle.std.proofs.Math.Nat.{sub-zero}
use borrow.Author.Tests.{eqb-true}
use Rattle.rules.specs.Base.{those, chosen, some_of, from}
use Rattle.rules.specs.Table.{is_parent, is_parentless}
use Rattle.rules.specs.Valid.{member}
use Rattle.rules.specs.Layout.{cell, model_width, coupling_width, parent_in, kind_in}
use Rattle.words.specs.declared.Cell.{Cell}
use Rattle.words.specs.Search.{cell_of, first_from, matches, next_row}
use Rattle.words.specs.SearchLaws.{is_found, first-at, first-nothing, first_some, next-row-first}
use Rattle.table.specs.declared.Kind.{Kind}
use Rattle.table.specs.declared.Kind.TheVariants.{Coupled}
use Rattle.table.specs.Readers.{row_of, id_in, parent_of, kind_of}
use Rattle.table.specs.Rows.{row-cell}
use Rattle.table.specs.Judging.{option_of, input_in, output_in, inner_in}
use Rattle.table.specs.Passed.{coupling_at, coupling_of}
use Rattle.hints.specs.declared.Side.{Side}
use Rattle.hints.specs.declared.Side.TheVariants.{In, Out}
use Rattle.hints.specs.declared.BadEnd.TheVariants.{NoModel}
use Rattle.hints.specs.Naming.{of_port, port_from, ports_of, ports_if, couplings_in, ports_in, known_by, rows_where, end_in}

-- ---- the row that is named
-- the parent is the one that is asked for
abbrev pub is_parent_of : Option ℕ → Option ℕ → Bool
is_parent_of None parent = is_parentless parent
is_parent_of (Some owner) parent = is_parent owner parent

abbrev pub is_named : Option ℕ → List ℕ → ℕ → ℕ → Bool
is_named wanted models id k = eqb (id_in models k) id && is_parent_of wanted (parent_in (row_of model_width models k))

-- a parent that was read
pub parent-read : {p : Option ℕ} (o : Option ℕ) → p ≡ parent_of o → option_of p ≡ o
parent-read None e = ap option_of e
parent-read (Some id) e = ap option_of e

-- one test after the other is both
those-both : (f g : ℕ → Bool) (ks : List ℕ) → those f (those g ks) ≡ those (λ k. f k && g k) ks
those-both f g [] = refl
those-both f g (k ∷ ks) = by (f k) refl (g k) (those-both f g ks)
  where
    by : (a : Bool) → f k ≡ a → (b : Bool) → those f (those g ks) ≡ those (λ k. f k && g k) ks
        → those f (if b then k ∷ those g ks else those g ks) ≡ (if a && b then k ∷ those (λ k. f k && g k) ks else those (λ k. f k && g k) ks)
    by true e true later = rw e (ap (λ (l : List ℕ). k ∷ l) later)
    by true e false later = later
    by false e true later = rw e later
    by false e false later = later

and_first : (a b : Bool) → a && b ≡ true → a ≡ true
and_first true b e = refl
and_first false b e = absurd (false≢true e)

module _ (wanted : Option ℕ) (models couplings : List ℕ) (id port : ℕ) (side : Side) where
  abbrev rows : ℕ
  rows = length models / model_width

  named-are : those (λ k. eqb (id_in models k) id) (rows_where (is_parent_of wanted) models) ≡ those (is_named wanted models id) (from 0 rows)
  named-are = those-both (λ k. eqb (id_in models k) id) (λ k. is_parent_of wanted (parent_in (row_of model_width models k))) (from 0 rows)

  pub end-nobody : first_from (is_named wanted models id) 0 rows ≡ None → Err NoModel ≡ end_in (is_parent_of wanted) models couplings id port side
  unfolding end_in
  end-nobody e = sym (ap (known_by (ports_in models couplings side) port) (named-are ∙ first-nothing (is_named wanted models id) 0 rows e))

  -- the row that is found has the id, so its ports are those of a model with it
  pub end-at : (k : ℕ) → first_from (is_named wanted models id) 0 rows ≡ Some k → {kind : Option Kind} → kind ≡ kind_of (kind_in (row_of model_width models k)) → {b : Bool} → b ≡ member port (ports_if side (couplings_in couplings) id kind)
      → of_port b ≡ end_in (is_parent_of wanted) models couplings id port side
  unfolding end_in
  end-at k e {kind} g {b} h =
      let first = first-at (is_named wanted models id) 0 rows k e in
      let same : id_in models k ≡ id = eqb-true (id_in models k) id (and_first _ _ first.2) in
      let ports : ports_if side (couplings_in couplings) id kind ≡ ports_in models couplings side k = λ i. ports_if side (couplings_in couplings) (sym same i) (g i) in
      ap of_port (h ∙ ap (member port) ports)
      ∙ sym (ap (known_by (ports_in models couplings side) port) (named-are ∙ first.3))

-- ---- the ports of a Coupled
-- an input coupling by its source port, an output coupling by its target port
abbrev pub port_cell : Side → ℕ
port_cell In = 3
port_cell Out = 5

abbrev pub kind_number : Side → ℕ
kind_number In = 1
kind_number Out = 2

abbrev pub port_key : Side → ℕ → ℕ → List Cell
port_key side owner port =
    record { at = 0; value = owner } ∷ record { at = 1; value = kind_number side } ∷ record { at = port_cell side; value = port } ∷ []

abbrev passes : (ℕ → Bool) → Option ℕ → Bool
passes test None = false
passes test (Some p) = test p

some-chosen : {A : Type 0} (test : ℕ → Bool) (choose : A → Option ℕ) (f : ℕ → A) (ks : List ℕ) → some_of test (chosen choose (map f ks)) ≡ some_of (λ k. passes test (choose (f k))) ks
some-chosen test choose f [] = refl
some-chosen test choose f (k ∷ ks) = by (choose (f k)) (some-chosen test choose f ks)
  where
    by : (o : Option ℕ) → some_of test (chosen choose (map f ks)) ≡ some_of (λ k. passes test (choose (f k))) ks
        → some_of test (elim o [ None ↦ chosen choose (map f ks) | Some y ↦ y ∷ chosen choose (map f ks) ]) ≡ (if passes test o then true else some_of (λ k. passes test (choose (f k))) ks)
    by None later = later
    by (Some y) later = λ i. if test y then true else later i

module _ (row : List ℕ) (owner port : ℕ) where
  -- what a key of this side asks of a row
  abbrev asks : Side → Bool
  asks side = eqb (cell row 0) owner && eqb (cell row 1) (kind_number side) && eqb (cell row (port_cell side)) port

  hit : (o : Bool) (p : ℕ) → passes (λ p. eqb p port) (if o then Some p else None) ≡ (o && true && eqb p port)
  hit false p = refl
  hit true p = refl

  miss : (o p : Bool) → false ≡ (o && false && p)
  miss true p = refl
  miss false p = refl

  same : (side : Side) → passes (λ p. eqb p port) (port_from side owner (coupling_of row)) ≡ asks side
  same In = by (eqb (cell row 1) 1) (eqb (cell row 1) 2)
    where
      by : (a b : Bool) → passes (λ p. eqb p port) (port_from In owner (if a then input_in row else if b then output_in row else inner_in row)) ≡ (eqb (cell row 0) owner && a && eqb (cell row 3) port)
      by true b = hit (eqb (cell row 0) owner) (cell row 3)
      by false true = miss (eqb (cell row 0) owner) (eqb (cell row 3) port)
      by false false = miss (eqb (cell row 0) owner) (eqb (cell row 3) port)
  same Out = by (eqb (cell row 1) 1) refl (eqb (cell row 1) 2) refl
    where
      by : (a : Bool) → eqb (cell row 1) 1 ≡ a → (b : Bool) → eqb (cell row 1) 2 ≡ b
          → passes (λ p. eqb p port) (port_from Out owner (if a then input_in row else if b then output_in row else inner_in row)) ≡ (eqb (cell row 0) owner && b && eqb (cell row 5) port)
      by true e true f = absurd (let x = eqb-true (cell row 1) 1 e in let y = eqb-true (cell row 1) 2 f in omega arith)
      by true e false f = miss (eqb (cell row 0) owner) (eqb (cell row 5) port)
      by false e true f = hit (eqb (cell row 0) owner) (cell row 5)
      by false e false f = miss (eqb (cell row 0) owner) (eqb (cell row 5) port)

all_three : (a b c : Bool) → (a && b && c) ≡ (if a then (if b then (if c then true else false) else false) else false)
all_three true true true = refl
all_three true true false = refl
all_three true false c = refl
all_three false b c = refl

module _ (couplings : List ℕ) (owner port : ℕ) where
  row-asks : (side : Side) (k : ℕ) → asks (row_of coupling_width couplings k) owner port side ≡ matches (port_key side owner port) coupling_width couplings k
  row-asks In k = rw (row-cell coupling_width couplings k 0 (omega arith), row-cell coupling_width couplings k 1 (omega arith), row-cell coupling_width couplings k 3 (omega arith)) (all_three (eqb (cell_of coupling_width couplings k 0) owner) (eqb (cell_of coupling_width couplings k 1) (kind_number In)) (eqb (cell_of coupling_width couplings k 3) port))
  row-asks Out k = rw (row-cell coupling_width couplings k 0 (omega arith), row-cell coupling_width couplings k 1 (omega arith), row-cell coupling_width couplings k 5 (omega arith)) (all_three (eqb (cell_of coupling_width couplings k 0) owner) (eqb (cell_of coupling_width couplings k 1) (kind_number Out)) (eqb (cell_of coupling_width couplings k 5) port))

  searched : (side : Side) → next_row (port_key side owner port) coupling_width 0 (length couplings / coupling_width) couplings ≡ first_from (matches (port_key side owner port) coupling_width couplings) 0 (length couplings / coupling_width)
  searched In = rw sub-zero at (next-row-first (port_key In owner port) coupling_width 0 (length couplings / coupling_width) couplings refl (omega arith))
  searched Out = rw sub-zero at (next-row-first (port_key Out owner port) coupling_width 0 (length couplings / coupling_width) couplings refl (omega arith))

  ports-are : (side : Side) → chosen (port_from side owner) (couplings_in couplings) ≡ ports_of side (couplings_in couplings) owner Coupled
  ports-are In = refl
  ports-are Out = refl

  -- a search for the key finds a coupling exactly if the Coupled has the port
  pub port-found : (side : Side) {f : Option ℕ} → f ≡ next_row (port_key side owner port) coupling_width 0 (length couplings / coupling_width) couplings → is_found f ≡ member port (ports_of side (couplings_in couplings) owner Coupled)
  port-found side e =
      let n : ℕ = length couplings / coupling_width in
      ap is_found (e ∙ searched side) ∙ first_some (matches (port_key side owner port) coupling_width couplings) 0 n
      ∙ sym (some-chosen (λ p. eqb p port) (port_from side owner) (coupling_at couplings) (from 0 n)
      ∙ (λ i. some_of (λ k. (same (row_of coupling_width couplings k) owner port side ∙ row-asks side k) i) (from 0 n)))
      ∙ ap (member port) (ports-are side)
