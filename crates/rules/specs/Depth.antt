-- What intake tells of a table that passes it: rows, ids, parents, connectors, couplings, sizes; that what it passes, passes again; that five levels do for every event; and the induction from the parentless rows down. Assumes nothing.
use Rattle.std.specs.Prelude.{ℕ, zero, suc, ◌+◌, ◌≤◌, ◌<◌, ◌≡◌, refl, ◌⊎◌, Bool, true, false, not, ◌&&◌, List, [], ◌∷◌, map, length, get_or, T, eqb, if◌then◌else◌, Option, None, Some}
use Rattle.std.proofs.Common.{sym, ap, ◌∙◌, subst, inl, inr, arith, leb→le, eqb→eq, T_not}
use Rattle.std.proofs.lemmas.List.{length-map}
use Rattle.std.proofs.Math.Dec.{eqb_refl}
use Rattle.std.specs.Float.Ieee.Fits.{and_l}
use Rattle.rules.specs.declared.Refusal.{Refusal}
use Rattle.rules.specs.declared.Refusal.TheVariants.{TooLarge, BadRow, BadCoupling}
use Rattle.rules.specs.Sizes.{is_id, most_rows, most_connectors, most_couplings, deepest}
use Rattle.rules.specs.Base.{from, some_of, hold}
use Rattle.rules.specs.Table.{Kind, coupled, Row, Connector, Coupling, Table, no_row, row_at, id_at, kind_at, is_coupled, is_parent, is_parentless, parentless, components}
use Rattle.rules.specs.Intake.{Posted, size_rules, kind_rules, parent_fits, depth_of, depth_fits, row_rules, connector_rules, coupling_rules, Verdict, too_large, bad_row, bad_connector, bad_coupling, passed, first_bad_row, first_bad, whole, intake, taken_in, handed, is_passed, passes_intake}
use Rattle.rules.specs.Step.{levels}
use Rattle.rules.specs.Ends.{or_l, or_r, or_split, not-or, no-some, All, nil, ◌&◌, all-those, parts, Ends, stops, goes}
use Rattle.rules.specs.Decides.{tells, coupled-decides, parent-decides, parentless-decides, whole-some, whole_table}

-- ---- intake's verdict
-- the sizes fit, and no row is the first bad one
record Clean (p : Posted) : Type 0 where
  sizes : All T (size_rules p)
  rows : first_bad_row 0 [] p.rows ≡ None
  connectors : first_bad connector_rules 0 p.connectors ≡ None
  couplings : first_bad (coupling_rules (whole p.rows)) 0 p.couplings ≡ None

clean : (p : Posted) (t : Table) → intake p ≡ passed t → Clean p × (whole_table p ≡ t)
unfolding intake
clean p t e =
    go (hold (size_rules p)) (parts (size_rules p)) (first_bad_row 0 [] p.rows) refl (first_bad connector_rules 0 p.connectors) refl
    (first_bad (coupling_rules (whole p.rows)) 0 p.couplings) refl e
  where
    go : (b : Bool) → (T b → All T (size_rules p)) → (x : Option ℕ) → first_bad_row 0 [] p.rows ≡ x → (y : Option ℕ) → first_bad connector_rules 0 p.connectors ≡ y
        → (z : Option ℕ) → first_bad (coupling_rules (whole p.rows)) 0 p.couplings ≡ z
        → (if b
        then elim x [
          | Some row ↦ bad_row row
          | None ↦ elim y [ Some row ↦ bad_connector row | None ↦ elim z [ Some row ↦ bad_coupling row | None ↦ passed (whole_table p) ] ]
        ]
        else too_large) ≡ passed t
        → Clean p × (whole_table p ≡ t)
    go true s None f None g None h e = (record { sizes = s tt; rows = f; connectors = g; couplings = h }, cc)
    go true s (Some x) f y g z h e = absurd (let n : ◌≡◌ {A = ℕ} 0 1 = cc in omega arith)
    go true s None f (Some y) g z h e = absurd (let n : ◌≡◌ {A = ℕ} 0 1 = cc in omega arith)
    go true s None f None g (Some z) h e = absurd (let n : ◌≡◌ {A = ℕ} 0 1 = cc in omega arith)
    go false s x f y g z h e = absurd (let n : ◌≡◌ {A = ℕ} 0 1 = cc in omega arith)

if_none : (b : Bool) (rest : Option ℕ) (k : ℕ) → (if b then rest else Some k) ≡ None → T b × (rest ≡ None)
if_none true rest k e = (tt, e)
if_none false rest k e = absurd (no-some (sym e))

-- ---- what intake passes was whole, and passes again
rows_whole : (k : ℕ) (earlier : List Row) (rows : List (Option Row)) → first_bad_row k earlier rows ≡ None → map Some (whole rows) ≡ rows
rows_whole k earlier [] e = refl
rows_whole k earlier (None ∷ rs) e = absurd (no-some (sym e))
rows_whole k earlier (Some r ∷ rs) e =
    ap (λ (z : List (Option Row)). Some r ∷ z) (rows_whole (suc k) (r ∷ earlier) rs (if_none (hold (row_rules earlier r)) (first_bad_row (suc k) (r ∷ earlier) rs) k e).1)

all_whole : {A : Type 0} (rules : A → List Bool) (k : ℕ) (xs : List (Option A)) → first_bad rules k xs ≡ None → map Some (whole xs) ≡ xs
all_whole rules k [] e = refl
all_whole rules k (None ∷ xs) e = absurd (no-some (sym e))
all_whole {A} rules k (Some x ∷ xs) e =
    ap (λ (z : List (Option A)). Some x ∷ z) (all_whole rules (suc k) xs (if_none (hold (rules x)) (first_bad rules (suc k) xs) k e).1)

pub passed-again : (p : Posted) (t : Table) → intake p ≡ passed t → T (passes_intake t)
unfolding intake passes_intake
passed-again p t e =
    let c = clean p t e in
    subst (λ (z : Table). T (is_passed (intake (handed z)))) c.1
    (subst (λ (z : Posted). T (is_passed (intake z))) (same p.rows p.connectors p.couplings (rows_whole 0 [] p.rows c.0.rows) (all_whole connector_rules 0 p.connectors c.0.connectors) (all_whole (coupling_rules (whole p.rows)) 0 p.couplings c.0.couplings))
    (subst (λ (z : Verdict). T (is_passed z)) (sym e) tt))
  where
    same : (rows : List (Option Row)) (connectors : List (Option Connector)) (couplings : List (Option Coupling))
        → map Some (whole rows) ≡ rows → map Some (whole connectors) ≡ connectors → map Some (whole couplings) ≡ couplings
        → ◌≡◌ {A = Posted} (record { rows = rows; connectors = connectors; couplings = couplings }) (handed (whole_table (record { rows = rows; connectors = connectors; couplings = couplings })))
    same rows connectors couplings x y z = λ i. record { rows = sym x i; connectors = sym y i; couplings = sym z i }

-- what intake hands on is a table that passes it
pub intake-ends : {B : Refusal → Type 0} (p : Posted) → B TooLarge → B BadRow → B BadCoupling → Ends B (λ t. T (passes_intake t)) (taken_in (intake p))
intake-ends {B} p large row coupling = go (intake p) refl
  where
    go : (v : Verdict) → intake p ≡ v → Ends B (λ t. T (passes_intake t)) (taken_in v)
    go too_large e = stops large
    go (bad_row k) e = stops row
    go (bad_connector k) e = stops coupling
    go (bad_coupling k) e = stops coupling
    go (passed t) e = goes (passed-again p t e)

-- ---- the rows, each after those `earlier`
data Passing : List Row → List Row → Type 0 where
  no_more : {earlier : List Row} → Passing earlier []
  one_more : {earlier : List Row} {r : Row} {rs : List Row} → All T (row_rules earlier r) → Passing (r ∷ earlier) rs → Passing earlier (r ∷ rs)

rows_pass : (k : ℕ) (earlier rows : List Row) → first_bad_row k earlier (map Some rows) ≡ None → Passing earlier rows
rows_pass k earlier [] e = no_more
rows_pass k earlier (r ∷ rs) e =
    let z = if_none (hold (row_rules earlier r)) (first_bad_row (suc k) (r ∷ earlier) (map Some rs)) k e in
    one_more (parts (row_rules earlier r) z.0) (rows_pass (suc k) (r ∷ earlier) rs z.1)

all_pass : {A : Type 0} (rules : A → List Bool) (k : ℕ) (xs : List A) → first_bad rules k (map Some xs) ≡ None → All (λ x. T (hold (rules x))) xs
all_pass rules k [] e = nil
all_pass rules k (x ∷ xs) e = let z = if_none (hold (rules x)) (first_bad rules (suc k) (map Some xs)) k e in z.0 & all_pass rules (suc k) xs z.1

-- ---- ids and kinds
row_fits : {earlier rows : List Row} → Passing earlier rows → (i : ℕ) → All T (kind_rules (get_or rows i no_row).kind) × T (is_id (get_or rows i no_row).id)
row_fits no_more i = (nil, tt)
row_fits (one_more {r = r} (a & b & c & d & e & nil) p) zero = (parts (kind_rules r.kind) e, a)
row_fits (one_more h p) (suc i) = row_fits p i

abbrev is_in : List Row → ℕ → Bool
is_in earlier id = some_of (λ (r : Row). eqb r.id id) earlier

new-ids : {earlier rows : List Row} → Passing earlier rows → (i : ℕ) → i < length rows → T (not (is_in earlier (get_or rows i no_row).id))
new-ids no_more i l = absurd (omega arith)
new-ids (one_more (a & b & c) p) zero l = b
new-ids {earlier} (one_more {r = r} {rs = rs} h p) (suc i) l =
    (not-or (eqb r.id (get_or rs i no_row).id) (is_in earlier (get_or rs i no_row).id) (new-ids p i (omega arith))).1

other : (earlier : List Row) (r : Row) (rs : List Row) → Passing (r ∷ earlier) rs → (j : ℕ) → j < length rs → r.id ≡ (get_or rs j no_row).id → ⊥
other earlier r rs p j l e =
    T_not (eqb r.id (get_or rs j no_row).id) (not-or (eqb r.id (get_or rs j no_row).id) (is_in earlier (get_or rs j no_row).id) (new-ids p j l)).0
    (subst (λ (z : ℕ). T (eqb r.id z)) e (eqb_refl r.id))

unique-ids : {earlier rows : List Row} → Passing earlier rows → (i j : ℕ) → i < length rows → j < length rows → (get_or rows i no_row).id ≡ (get_or rows j no_row).id → i ≡ j
unique-ids no_more i j l m e = absurd (omega arith)
unique-ids (one_more h p) zero zero l m e = refl
unique-ids {earlier} (one_more {r = r} {rs = rs} h p) zero (suc j) l m e = absurd (other earlier r rs p j (omega arith) e)
unique-ids {earlier} (one_more {r = r} {rs = rs} h p) (suc i) zero l m e = absurd (other earlier r rs p i (omega arith) (sym e))
unique-ids (one_more h p) (suc i) (suc j) l m e = ap suc (unique-ids p i j (omega arith) (omega arith) e)

-- ---- the depth of each row, as intake counts it
abbrev pub depths : List Row → List Row → List ℕ
depths earlier [] = []
depths earlier (r ∷ rs) = depth_of earlier r.parent ∷ depths (r ∷ earlier) rs

top-depth : (earlier rows : List Row) (i : ℕ) → (get_or rows i no_row).parent ≡ None → get_or (depths earlier rows) i 1 ≡ 1
top-depth earlier [] i e = refl
top-depth earlier (r ∷ rs) zero e = ap (depth_of earlier) e ∙ one earlier
  where
    one : (earlier : List Row) → depth_of earlier None ≡ 1
    one [] = refl
    one (r ∷ earlier) = refl
top-depth earlier (r ∷ rs) (suc i) e = top-depth (r ∷ earlier) rs i e

most-depth : {earlier rows : List Row} → Passing earlier rows → (i : ℕ) → (get_or rows i no_row).kind ≡ coupled → get_or (depths earlier rows) i 1 ≤ deepest
most-depth no_more i e = omega arith
most-depth {earlier} (one_more {r = r} (a & b & c & d & f) p) zero e =
    leb→le (depth_of earlier r.parent) deepest (subst (λ (z : Kind). T (depth_fits earlier (record { id = r.id; parent = r.parent; kind = z }))) e d)
most-depth (one_more h p) (suc i) e = most-depth p i e

-- ---- the Coupled that holds the row j, by the id p
pub record Holder (earlier rows : List Row) (j p : ℕ) : Type 0 where
  pub at : ℕ
  pub before : at < j
  pub named : (get_or rows at no_row).id ≡ p
  pub couples : (get_or rows at no_row).kind ≡ coupled
  pub deeper : get_or (depths earlier rows) j 1 ≡ get_or (depths earlier rows) at 1 + 1

coupled-in : (earlier : List Row) (p : ℕ) → T (parent_fits earlier (Some p)) → T (is_in earlier p)
coupled-in [] p t = t
coupled-in (r ∷ earlier) p t = elim (or_split (eqb r.id p && is_coupled r.kind) (parent_fits earlier (Some p)) t) [
  | inl u ↦ or_l (eqb r.id p) (is_in earlier p) (and_l (eqb r.id p) (is_coupled r.kind) u)
  | inr u ↦ or_r (eqb r.id p) (is_in earlier p) (coupled-in earlier p u)
]

-- it is one of these rows, or of the earlier ones
holder : {earlier rows : List Row} → Passing earlier rows → (j p : ℕ) → (get_or rows j no_row).parent ≡ Some p
    → Holder earlier rows j p ⊎ (T (parent_fits earlier (Some p)) × (get_or (depths earlier rows) j 1 ≡ depth_of earlier (Some p)))
holder no_more j p e = absurd (no-some e)
holder {earlier} (one_more (a & b & c & d) q) zero p e = inr (subst (λ (z : Option ℕ). T (parent_fits earlier z)) e c, ap (depth_of earlier) e)
holder {earlier} (one_more {r = r} {rs = rs} (a & b & c) q) (suc j) p e = elim (holder q j p e) [
  | inl k ↦ inl (record { at = suc k.at; before = let l = k.before in omega arith; named = k.named; couples = k.couples; deeper = k.deeper })
  | inr k ↦ go (eqb r.id p) (eqb→eq r.id p) k.0 k.1
]
  where
    go : (x : Bool) → (T x → r.id ≡ p) → T (if x && is_coupled r.kind then true else parent_fits earlier (Some p))
        → get_or (depths (r ∷ earlier) rs) j 1 ≡ (if x then depth_of earlier r.parent + 1 else depth_of earlier (Some p))
        → Holder earlier (r ∷ rs) (suc j) p ⊎ (T (parent_fits earlier (Some p)) × (get_or (depths (r ∷ earlier) rs) j 1 ≡ depth_of earlier (Some p)))
    go true n f g = elim (or_split (is_coupled r.kind) (parent_fits earlier (Some p)) f) [
      | inl u ↦ inl (record { at = 0; before = omega arith; named = n tt; couples = tells (coupled-decides r.kind) u; deeper = g })
      | inr u ↦ absurd (T_not (is_in earlier r.id) b (subst (λ (z : ℕ). T (is_in earlier z)) (sym (n tt)) (coupled-in earlier p u)))
    ]
    go false n f g = inr (f, g)

-- ---- what intake tells of a table
abbrev pub depth_at : Table → ℕ → ℕ
depth_at t i = get_or (depths [] t.rows) i 1

pub record Fine (t : Table) : Type 0 where
  -- "At most 64 model rows (components count), 256 connectors, 256 couplings"
  pub few-rows : length t.rows ≤ most_rows
  pub few-connectors : length t.connectors ≤ most_connectors
  pub few-couplings : length t.couplings ≤ most_couplings
  -- each row's own fields. Past the last row they hold too.
  pub kinds : (i : ℕ) → All T (kind_rules (kind_at t i))
  pub ids : (i : ℕ) → T (is_id (id_at t i))
  -- "Ids are unique over the whole table."
  pub unique : (i j : ℕ) → i < length t.rows → j < length t.rows → id_at t i ≡ id_at t j → i ≡ j
  -- "A component's row names its parent, which is an earlier row and a Coupled", and it is one deeper
  pub parents : (j p : ℕ) → (row_at t j).parent ≡ Some p → Holder [] t.rows j p
  -- "A Coupled may hold another Coupled, to depth 4 (a row without parent has depth 1)."
  pub top : (i : ℕ) → (row_at t i).parent ≡ None → depth_at t i ≡ 1
  pub shallow : (i : ℕ) → kind_at t i ≡ coupled → depth_at t i ≤ deepest
  pub links : All (λ c. T (hold (connector_rules c))) t.connectors
  pub inner : All (λ c. T (hold (coupling_rules t.rows c))) t.couplings

pub fine : (t : Table) → T (passes_intake t) → Fine t
unfolding passes_intake
fine t h = go (intake (handed t)) refl h
  where
    facts : Clean (handed t) → Fine t
    facts c = let p = rows_pass 0 [] t.rows c.rows in let s = sizes c.sizes in record {
      few-rows = s.0;
      few-connectors = s.1;
      few-couplings = s.2;
      kinds = λ i. (row_fits p i).0;
      ids = λ i. (row_fits p i).1;
      unique = unique-ids p;
      parents = λ j k e. elim (holder p j k e) [ inl x ↦ x | inr x ↦ absurd x.0 ];
      top = top-depth [] t.rows;
      shallow = most-depth p;
      links = all_pass connector_rules 0 t.connectors c.connectors;
      inner = all_pass (coupling_rules t.rows) 0 t.couplings
          (subst (λ (z : List Row). first_bad (coupling_rules z) 0 (map Some t.couplings) ≡ None) (whole-some t.rows) c.couplings);
    }
      where
        sizes : All T (size_rules (handed t)) → (length t.rows ≤ most_rows) × (length t.connectors ≤ most_connectors) × (length t.couplings ≤ most_couplings)
        sizes (x & y & z & nil) = (
          subst (λ (n : ℕ). n ≤ most_rows) (length-map t.rows Some) (leb→le (length (map Some t.rows)) most_rows x),
          subst (λ (n : ℕ). n ≤ most_connectors) (length-map t.connectors Some) (leb→le (length (map Some t.connectors)) most_connectors y),
          subst (λ (n : ℕ). n ≤ most_couplings) (length-map t.couplings Some) (leb→le (length (map Some t.couplings)) most_couplings z),
        )

    go : (v : Verdict) → intake (handed t) ≡ v → T (is_passed v) → Fine t
    go too_large e k = absurd k
    go (bad_row n) e k = absurd k
    go (bad_connector n) e k = absurd k
    go (bad_coupling n) e k = absurd k
    go (passed u) e k = facts (clean (handed t) u e).0

-- ---- five levels do
-- `d` levels do for an event at the row i
abbrev pub Deep : Table → ℕ → ℕ → Type 0
Deep t zero i = ⊥
Deep t (suc d) i = kind_at t i ≡ coupled → All (Deep t d) (components t (id_at t i))

from-below : (j k n : ℕ) → j + k ≤ n → All (λ i. i < n) (from j k)
from-below j zero n l = nil
from-below j (suc k) n l = (let z : j < n = omega arith in z) & from-below (suc j) k n (omega arith)

module _ (t : Table) (ok : Fine t) where
  abbrev pub In : ℕ → Type 0
  In i = i < length t.rows

  pub all_in : All In (from 0 (length t.rows))
  all_in = from-below 0 (length t.rows) (length t.rows) (omega arith)

  -- a component is one level below its Coupled
  pub component-depth : (i j : ℕ) → In i → In j → T (is_parent (id_at t i) (row_at t j).parent) → depth_at t j ≡ depth_at t i + 1
  component-depth i j l m s =
      let h = ok.parents j (id_at t i) (tells (parent-decides (id_at t i) (row_at t j).parent) s) in
      let b = h.before in
      subst (λ (k : ℕ). depth_at t j ≡ depth_at t k + 1) (ok.unique h.at i (omega arith) l h.named) h.deeper

  deep : (d i : ℕ) → In i → depth_at t i + d ≡ levels → Deep t (suc d) i
  deep zero i l q e = absurd (let m = ok.shallow i e in omega arith)
  deep (suc d) i l q e = all-those (λ j. is_parent (id_at t i) (row_at t j).parent) all_in (λ j m s. deep d j m (let z = component-depth i j l m s in omega arith))

  pub parentless-deep : All (Deep t levels) (parentless t)
  parentless-deep = all-those (λ i. is_parentless (row_at t i).parent) all_in (λ i l s. deep deepest i l (let z = ok.top i (tells (parentless-decides (row_at t i).parent) s) in omega arith))

  -- ---- what holds of the parentless rows with all levels before them, and passes from a Coupled to its components, which have one less, holds of every row
  pub by-parent : (P : ℕ → ℕ → Type 0) → ((i : ℕ) → In i → T (is_parentless (row_at t i).parent) → P levels i)
      → ((d i j : ℕ) → In j → kind_at t i ≡ coupled → T (is_parent (id_at t i) (row_at t j).parent) → P (suc d) i → P d j)
      → (i : ℕ) → In i → (d : ℕ) × P (suc d) i
  by-parent P top down i l = let r = climb (suc i) i (omega arith) l in (r.0, r.2)
    where
      Found : ℕ → Type 0
      Found i = (d : ℕ) × (depth_at t i + d ≡ levels) × P (suc d) i

      one_down : (i j : ℕ) → In j → kind_at t i ≡ coupled → T (is_parent (id_at t i) (row_at t j).parent) → depth_at t j ≡ depth_at t i + 1 → (d : ℕ) → depth_at t i + d ≡ levels → P (suc d) i → Found j
      one_down i j l c s g zero e p = absurd (let m = ok.shallow i c in omega arith)
      one_down i j l c s g (suc d) e p = (d, (let z : depth_at t j + d ≡ levels = omega arith in z), down (suc d) i j l c s p)

      up : (i : ℕ) → In i → (o : Option ℕ) → (row_at t i).parent ≡ o → ((k : ℕ) → k < i → Found k) → Found i
      up i l None q rec = (deepest, (let z = ok.top i q in let w : depth_at t i + deepest ≡ levels = omega arith in w), top i l (subst (λ (z : Option ℕ). T (is_parentless z)) (sym q) tt))
      up i l (Some p) q rec =
          let h = ok.parents i p q in
          let f = rec h.at h.before in
          one_down h.at i l h.couples
          (subst (λ (z : Option ℕ). T (is_parent (id_at t h.at) z)) (sym q) (subst (λ (z : ℕ). T (eqb p z)) (sym h.named) (eqb_refl p)))
          h.deeper f.0 f.1 f.2

      climb : (n i : ℕ) → i < n → In i → Found i
      climb zero i b l = absurd (omega arith)
      climb (suc n) i b l = up i l (row_at t i).parent refl (λ k m. climb n k (omega arith) (omega arith))
