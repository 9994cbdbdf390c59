-- Each definition that reads like a test decides what its sentence of 01 says: `Decides (test ..) P` is the equivalence of `T (test ..)` with the proposition P. Assumes nothing.
use Rattle.std.specs.Prelude.{ℕ, zero, suc, ◌+◌, ◌≤◌, ◌<◌, ◌^◌, ◌/◌, ◌%◌, ◌≡◌, ◌↔◌, ◌≢◌, ◌⊎◌, Bool, not, ◌&&◌, length, get_or, take, T, leb, ltb, eqb, Float, if◌then◌else◌, Option, None, Some}
use Rattle.std.proofs.Common.{zero-le, suc-le-suc, sym, ap, ◌∙◌, inl, inr, le_of_suc-le-suc, not-suc-le-zero, eq-or-lt_of_le, arith, leb→le, le→leb, ltb→lt, lt→ltb, eqb→eq, T_not}
use Rattle.std.proofs.Math.Path.{refl, subst}
use Rattle.std.proofs.Math.Bool.{true, false}
use mathlib.Core.List.{List, [], ◌∷◌, map, reverse_aux}
use Rattle.std.proofs.Math.Dec.{not_T}
use Rattle.std.specs.Float.Ieee.Fits.{and_i, and_l, and_r, eq→eqb}
use Rattle.std.specs.Float.{binary64}
use Rattle.std.specs.Float.Ieee.{fits}
use Rattle.times.specs.Time.{instant, never, is_never, is_time, is_timer}
use Rattle.times.proofs.Laws as law
use Rattle.rules.specs.declared.ProcessorPhase.{ProcessorPhase}
use Rattle.rules.specs.declared.ProcessorPhase.TheVariants as working
use Rattle.rules.specs.declared.Processor.{Processor}
use Rattle.rules.specs.declared.Batcher.{Batcher}
use Rattle.rules.specs.declared.Stopwatch.{Stopwatch}
use Rattle.rules.specs.declared.Message.{Message}
use Rattle.rules.specs.Sizes.{is_id, is_port, is_content, is_word, is_allowance}
use Rattle.rules.specs.Base.{those, chosen, every, some_of, hold, from, is_empty}
use Rattle.rules.specs.Table.{Kind, processor, batcher, stopwatch, coupled, Row, Connector, Coupling, external_input, external_output, internal_coupling, Target, Table, no_row, row_at, is_coupled, is_parent, is_parentless, parentless, components, connected, input_of, output_of, internal_of, inputs, outputs, internals}
use Rattle.rules.specs.Intake.{Posted, size_rules, kind_rules, is_new, parent_fits, depth_of, depth_fits, row_rules, connector_rules, is_coupled_id, is_component_of, coupling_rules, Verdict, too_large, bad_row, bad_connector, bad_coupling, passed, first_bad_row, first_bad, whole, intake, handed, is_passed, passes_intake}
use Rattle.rules.specs.Layout.{cell, is_given}
use Rattle.rules.specs.Simulation.{ProcessorState, BatcherState, Marks, StopwatchState, Parked, State, of_processor, of_batcher, of_stopwatch, of_coupled, Simulation, state_at}
use Rattle.rules.specs.Models.{is_named}
use Rattle.rules.specs.Step.{timer, due}
use Rattle.rules.specs.Valid.{is_active, processor_rules, batcher_rules, mark_fits, member, differ, names, stopwatch_rules, coupled_rules, state_fits, states_fit, message_rules, is_valid, model_fits}
use Rattle.rules.specs.Calls.{Call, InjectInput, Step, StepN, StepUntil, Reset, ResetMessages, ResetGlobalTime, list_rules, call_rules}
use Rattle.rules.specs.Ends.{all-imp, no-some, but-not, but-not-i, if-both, if-both-i, or_l, or_r, or_split, All, every-all, all-every, parts, whole_of}

infixr 3 ◌also◌
infix 4 ◌∈◌
infixr 20 ◌and◌
-- the test b decides P: it passes exactly when P holds
pub record Decides (b : Bool) (P : Type 0) : Type 0 where
  pub is : T b ↔ P

pub exactly : {b : Bool} {P : Type 0} → (T b → P) → (P → T b) → Decides b P
exactly f g = record { is = (f, g) }

pub passes : {b : Bool} {P : Type 0} → Decides b P → P → T b
passes d = d.is.1

pub tells : {b : Bool} {P : Type 0} → Decides b P → T b → P
tells d = d.is.0

pub is_true : {b : Bool} {P : Type 0} → Decides b P → P → b ≡ true
is_true {b} {P} d h = go b d
  where
    go : (b : Bool) → Decides b P → b ≡ true
    go true d = refl
    go false d = absurd (passes d h)

pub is_false : {b : Bool} {P : Type 0} → Decides b P → (P → ⊥) → b ≡ false
is_false {b} {P} d h = go b d
  where
    go : (b : Bool) → Decides b P → b ≡ false
    go true d = absurd (h (tells d tt))
    go false d = refl

pub either : {b : Bool} {P : Type 0} → Decides b P → P ⊎ (P → ⊥)
either {b} {P} d = go b d
  where
    go : (b : Bool) → Decides b P → P ⊎ (P → ⊥)
    go true d = inl (tells d tt)
    go false d = inr (passes d)

-- the same in other words
pub reads : {b : Bool} {P Q : Type 0} → Decides b P → (P → Q) → (Q → P) → Decides b Q
reads d f g = exactly (λ t. f (tells d t)) (λ q. passes d (g q))

-- ---- not, both, and a list of tests
pub fails : {b : Bool} {P : Type 0} → Decides b P → Decides (not b) (P → ⊥)
fails {b} d = exactly (λ t p. T_not b t (passes d p)) (λ n. not_T b (λ t. n (tells d t)))

pub both : {a b : Bool} {P Q : Type 0} → Decides a P → Decides b Q → Decides (a && b) (P × Q)
both {a} {b} c d = exactly (λ t. (tells c (and_l a b t), tells d (and_r a b t))) (λ h. and_i a b (passes c h.0) (passes d h.1))

-- facts in a row, one for each test of a list
abbrev pub ◌also◌ : Type 0 → Type 0 → Type 0
P also Q = P × Q

pub ◌and◌ : {b rest : Bool} {P Q : Type 0} → Decides b P → Decides rest Q → Decides (if b then rest else false) (P also Q)
◌and◌ {b} {rest} c d = exactly (λ t. let z = if-both b rest t in (tells c z.0, tells d z.1)) (λ h. if-both-i b rest (passes c h.0) (passes d h.1))

pub alone : {b : Bool} {P : Type 0} → Decides b P → Decides (if b then true else false) P
alone {b} d = exactly (λ t. tells d (if-both b true t).0) (λ p. if-both-i b true (passes d p) tt)

pub neither : {a b : Bool} {P Q : Type 0} → Decides a P → Decides b Q → Decides (if a then false else b) ((P → ⊥) × Q)
neither {a} {b} c d = exactly (λ t. let z = but-not a b t in (tells (fails c) z.0, tells d z.1)) (λ h. but-not-i a b (passes (fails c) h.0) (passes d h.1))

-- a test that is its own sentence
pub itself : (b : Bool) → Decides b (T b)
itself b = exactly (λ t. t) (λ t. t)

pub implies : {a b : Bool} {P Q : Type 0} → Decides a P → Decides b Q → Decides (if a then b else true) (P → Q)
implies {a} {b} {P} {Q} c d = go a c
  where
    go : (a : Bool) → Decides a P → Decides (if a then b else true) (P → Q)
    go true c = reads d (λ q _. q) (λ f. f (tells c tt))
    go false c = exactly (λ _ p. absurd (passes c p)) (λ _. tt)

-- a test that passes at one value only
picks : {A : Type 0} (test : A → Bool) (a : A) → T (test a) → ((x : A) → T (test x) → x ≡ a) → (x : A) → Decides (test x) (x ≡ a)
picks test a t is x = exactly (is x) (λ e. subst (λ y. T (test y)) (sym e) t)

-- a test of what an option holds, if it holds something
if_none : {A : Type 0} (P : A → Type 0) → Decides true ((y : A) → None ≡ Some y → P y)
if_none P = exactly (λ _ y e. absurd (no-some e)) (λ _. tt)

if-held : {A : Type 0} (P : A → Type 0) {b : Bool} (x : A) → Decides b (P x) → Decides b ((y : A) → Some x ≡ Some y → P y)
if-held P x d = reads d (λ h y e. let z : x ≡ y = cc in subst P z h) (λ f. f x refl)

pub hold-decides : (bs : List Bool) → Decides (hold bs) (All T bs)
hold-decides bs = exactly (parts bs) whole_of

-- ---- every element, and some element
pub data Any {A : Type 0} (P : A → Type 0) : List A → Type 0 where
  here : {x : A} {xs : List A} → P x → Any P (x ∷ xs)
  there : {x : A} {xs : List A} → Any P xs → Any P (x ∷ xs)

module _ {A : Type 0} {P : A → Type 0} {test : A → Bool} (d : (x : A) → Decides (test x) (P x)) where
  pub every-decides : (xs : List A) → Decides (every test xs) (All P xs)
  every-decides xs = exactly (λ t. all-imp (λ x. tells (d x)) (every-all test xs t)) (λ p. all-every test (all-imp (λ x. passes (d x)) p))

  pub some-decides : (xs : List A) → Decides (some_of test xs) (Any P xs)
  some-decides xs = exactly (found xs) pass
    where
      found : (xs : List A) → T (some_of test xs) → Any P xs
      found [] t = absurd t
      found (x ∷ xs) t = elim (or_split (test x) (some_of test xs) t) [ inl u ↦ here (tells (d x) u) | inr u ↦ there (found xs u) ]

      pass : {xs : List A} → Any P xs → T (some_of test xs)
      pass (here {x = x} {xs = xs} h) = or_l (test x) (some_of test xs) (passes (d x) h)
      pass (there {x = x} {xs = xs} p) = or_r (test x) (some_of test xs) (pass p)

-- ---- numbers
pub at-most : (m n : ℕ) → Decides (leb m n) (m ≤ n)
at-most m n = exactly (leb→le m n) (le→leb m n)

pub below : (n bound : ℕ) → Decides (ltb n bound) (n < bound)
below n bound = exactly (ltb→lt n bound) (lt→ltb n bound)

pub same : (m n : ℕ) → Decides (eqb m n) (m ≡ n)
same m n = exactly (eqb→eq m n) eq→eqb

-- "Ids and ports are 16-bit numbers and contents 32-bit ones at every call." "`queue_capacity` is any u64". "the allowance is a 32-bit number"
pub widths : (n : ℕ) → Decides (is_id n) (n < 2 ^ 16) × Decides (is_port n) (n < 2 ^ 16) × Decides (is_content n) (n < 2 ^ 32) × Decides (is_word n) (n < 2 ^ 64) × Decides (is_allowance n) (n < 2 ^ 32)
widths n = (below n (2 ^ 16), below n (2 ^ 16), below n (2 ^ 32), below n (2 ^ 64), below n (2 ^ 32))

-- ---- kinds and parents
-- "which is .. a Coupled"
pub coupled-decides : (k : Kind) → Decides (is_coupled k) (k ≡ coupled)
coupled-decides = picks is_coupled coupled tt is
  where
    is : (k : Kind) → T (is_coupled k) → k ≡ coupled
    is (processor p) t = absurd t
    is (batcher b) t = absurd t
    is (stopwatch w) t = absurd t
    is coupled t = refl

-- "A component's row names its parent"
pub parent-decides : (p : ℕ) (o : Option ℕ) → Decides (is_parent p o) (o ≡ Some p)
parent-decides p = picks (is_parent p) (Some p) (passes (same p p) refl) is
  where
    is : (o : Option ℕ) → T (is_parent p o) → o ≡ Some p
    is None t = absurd t
    is (Some q) t = ap Some (tells (same q p) t)

-- "the models without parent"
pub parentless-decides : (o : Option ℕ) → Decides (is_parentless o) (o ≡ None)
parentless-decides = picks is_parentless None tt is
  where
    is : (o : Option ℕ) → T (is_parentless o) → o ≡ None
    is None t = refl
    is (Some q) t = absurd t

-- ---- a model row
-- "Ids are unique over the whole table.": no earlier row has the id
pub new-decides : (earlier : List Row) (id : ℕ) → Decides (is_new earlier id) (Any (λ (r : Row). r.id ≡ id) earlier → ⊥)
new-decides earlier id = fails (some-decides (λ (r : Row). same r.id id) earlier)

-- some row has this id, and is a Coupled: of the earlier rows, "its parent, which is an earlier row and a Coupled"; of all rows, not "a coupling's owner is no Coupled"
abbrev pub CoupledId : List Row → ℕ → Type 0
CoupledId rows id = Any (λ (r : Row). (r.id ≡ id) × (r.kind ≡ coupled)) rows

pub coupled-id-decides : (rows : List Row) (owner : ℕ) → Decides (is_coupled_id rows owner) (CoupledId rows owner)
coupled-id-decides rows owner = some-decides (λ (r : Row). both (same r.id owner) (coupled-decides r.kind)) rows

-- "A component's row names its parent, which is an earlier row and a Coupled."
pub parent-fits-decides : (earlier : List Row) (o : Option ℕ) → Decides (parent_fits earlier o) ((p : ℕ) → o ≡ Some p → CoupledId earlier p)
parent-fits-decides earlier None = if_none (CoupledId earlier)
parent-fits-decides earlier (Some p) = if-held (CoupledId earlier) p (coupled-id-decides earlier p)

-- "A Coupled may hold another Coupled, to depth 4 (a row without parent has depth 1)."
pub depth-decides : (earlier : List Row) (r : Row) → Decides (depth_fits earlier r) (r.kind ≡ coupled → depth_of earlier r.parent ≤ 4)
depth-decides earlier r = implies (coupled-decides r.kind) (at-most (depth_of earlier r.parent) 4)

-- "`max_batch_size` is 1 to 2^62. `queue_capacity` is any u64 .. A stopwatch's three input ports differ." 2: ".. or its batch time is no time"
abbrev pub KindKeeps : Kind → Type 0
KindKeeps (processor p) = (p.input < 2 ^ 16) also (p.output < 2 ^ 16) also p.queue_capacity < 2 ^ 64
KindKeeps (batcher b) =
    (b.input < 2 ^ 16) also (b.output < 2 ^ 16) also (1 ≤ b.max_batch_size) also (b.max_batch_size ≤ 2 ^ 62) also T (is_time b.max_batch_time)
KindKeeps (stopwatch w) =
    (w.start < 2 ^ 16) also (w.stop < 2 ^ 16) also (w.ask < 2 ^ 16) also (w.output < 2 ^ 16)
    also (w.start ≡ w.stop → ⊥) also (w.start ≡ w.ask → ⊥) also (w.stop ≡ w.ask → ⊥)
KindKeeps coupled = Unit {0}

pub kind-decides : (k : Kind) → Decides (hold (kind_rules k)) (KindKeeps k)
kind-decides (processor p) = below p.input (2 ^ 16) and below p.output (2 ^ 16) and alone (below p.queue_capacity (2 ^ 64))
kind-decides (batcher b) =
    below b.input (2 ^ 16) and below b.output (2 ^ 16) and at-most 1 b.max_batch_size and at-most b.max_batch_size (2 ^ 62)
    and alone (itself (is_time b.max_batch_time))
kind-decides (stopwatch w) =
    below w.start (2 ^ 16) and below w.stop (2 ^ 16) and below w.ask (2 ^ 16) and below w.output (2 ^ 16)
    and fails (same w.start w.stop) and fails (same w.start w.ask) and alone (fails (same w.stop w.ask))
kind-decides coupled = itself true

-- 2: "a model row breaks a rule above", against the rows before it, the nearest first
pub record RowKeeps (earlier : List Row) (r : Row) : Type 0 where
  pub id-width : r.id < 2 ^ 16
  pub unique : Any (λ (e : Row). e.id ≡ r.id) earlier → ⊥
  pub parent_is : (p : ℕ) → r.parent ≡ Some p → CoupledId earlier p
  pub depth : r.kind ≡ coupled → depth_of earlier r.parent ≤ 4
  pub kind-keeps : KindKeeps r.kind

pub row-decides : (earlier : List Row) (r : Row) → Decides (hold (row_rules earlier r)) (RowKeeps earlier r)
row-decides earlier r =
    reads
    (below r.id (2 ^ 16) and new-decides earlier r.id and parent-fits-decides earlier r.parent and depth-decides earlier r and alone (kind-decides r.kind))
    (λ h. record { id-width = h.0; unique = h.1.0; parent_is = h.1.1.0; depth = h.1.1.1.0; kind-keeps = h.1.1.1.1 })
    (λ h. (h.id-width, (h.unique, (h.parent_is, (h.depth, h.kind-keeps)))))

-- ---- connectors and couplings
-- 3: "a connector or coupling .. has a field beyond its width"
abbrev pub ConnectorKeeps : Connector → Type 0
ConnectorKeeps c = (c.source < 2 ^ 16) also (c.source_port < 2 ^ 16) also (c.target < 2 ^ 16) also c.target_port < 2 ^ 16

pub connector-decides : (c : Connector) → Decides (hold (connector_rules c)) (ConnectorKeeps c)
connector-decides c = below c.source (2 ^ 16) and below c.source_port (2 ^ 16) and below c.target (2 ^ 16) and alone (below c.target_port (2 ^ 16))

-- some row has this id, and names this parent: not "an external input coupling's target is not its component"
abbrev pub ComponentOf : List Row → ℕ → ℕ → Type 0
ComponentOf rows owner target = Any (λ (r : Row). (r.id ≡ target) × (r.parent ≡ Some owner)) rows

pub component-decides : (rows : List Row) (owner target : ℕ) → Decides (is_component_of rows owner target) (ComponentOf rows owner target)
component-decides rows owner target = some-decides (λ (r : Row). both (same r.id target) (parent-decides owner r.parent)) rows

-- 3: "a coupling's owner is no Coupled, an external input coupling's target is not its component, or a connector or coupling .. has a field beyond its width"
abbrev pub CouplingKeeps : List Row → Coupling → Type 0
CouplingKeeps rows (external_input owner sp target tp) =
    (owner < 2 ^ 16) also (sp < 2 ^ 16) also (target < 2 ^ 16) also (tp < 2 ^ 16) also CoupledId rows owner also ComponentOf rows owner target
CouplingKeeps rows (external_output owner source sp tp) =
    (owner < 2 ^ 16) also (source < 2 ^ 16) also (sp < 2 ^ 16) also (tp < 2 ^ 16) also CoupledId rows owner
CouplingKeeps rows (internal_coupling owner source sp target tp) =
    (owner < 2 ^ 16) also (source < 2 ^ 16) also (sp < 2 ^ 16) also (target < 2 ^ 16) also (tp < 2 ^ 16) also CoupledId rows owner

pub coupling-decides : (rows : List Row) (c : Coupling) → Decides (hold (coupling_rules rows c)) (CouplingKeeps rows c)
coupling-decides rows (external_input owner sp target tp) =
    below owner (2 ^ 16) and below sp (2 ^ 16) and below target (2 ^ 16) and below tp (2 ^ 16)
    and coupled-id-decides rows owner and alone (component-decides rows owner target)
coupling-decides rows (external_output owner source sp tp) =
    below owner (2 ^ 16) and below source (2 ^ 16) and below sp (2 ^ 16) and below tp (2 ^ 16) and alone (coupled-id-decides rows owner)
coupling-decides rows (internal_coupling owner source sp target tp) =
    below owner (2 ^ 16) and below source (2 ^ 16) and below sp (2 ^ 16) and below target (2 ^ 16) and below tp (2 ^ 16)
    and alone (coupled-id-decides rows owner)

-- ---- intake
-- a row that is whole, and has P
abbrev pub Whole : {A : Type 0} → (A → Type 0) → Option A → Type 0
Whole P None = ⊥
Whole P (Some x) = P x

-- all of the n places are fine
abbrev pub Fine : (ℕ → Type 0) → ℕ → Type 0
Fine F n = (i : ℕ) → i < n → F i

-- k is the first of the n places that is not: all places before it are fine, and it is not
abbrev pub First : (ℕ → Type 0) → ℕ → ℕ → Type 0
First F n k = (k < n) × Fine F k × (F k → ⊥)

-- a search over n places that finds none exactly when all are fine, and k exactly when k is the first that is not
abbrev pub Finds : (ℕ → Type 0) → ℕ → Option ℕ → Type 0
Finds F n o = ((o ≡ None) ↔ Fine F n) × ((k : ℕ) → (o ≡ Some k) ↔ First F n k)

-- what a search that counts its n places from k finds
data Found (F : ℕ → Type 0) (k n : ℕ) : Option ℕ → Type 0 where
  nowhere : Fine F n → Found F k n None
  at : {j : ℕ} (i : ℕ) → First F n i → j ≡ k + i → Found F k n (Some j)

module _ (F : ℕ → Type 0) where
  next-fine : {n : ℕ} → F 0 → Fine (λ i. F (suc i)) n → Fine F (suc n)
  next-fine h f zero l = h
  next-fine h f (suc i) l = f i (le_of_suc-le-suc l)

  found-end : (k : ℕ) → Found F k 0 None
  found-end k = nowhere (λ i l. absurd (not-suc-le-zero l))

  found_here : (k n : ℕ) → (F 0 → ⊥) → Found F k (suc n) (Some k)
  found_here k n h = at {j = k} 0 (suc-le-suc zero-le, λ i l. absurd (not-suc-le-zero l), h) (omega arith)

  found-next : (k n : ℕ) {b : Bool} {o : Option ℕ} → Decides b (F 0) → Found (λ i. F (suc i)) (suc k) n o → Found F k (suc n) (if b then o else Some k)
  found-next k n {b} d p = go b d p
    where
      go : (b : Bool) {o : Option ℕ} → Decides b (F 0) → Found (λ i. F (suc i)) (suc k) n o → Found F k (suc n) (if b then o else Some k)
      go true d (nowhere f) = nowhere (next-fine (tells d tt) f)
      go true d (at {j = j} i h e) = at {j = j} (suc i) (suc-le-suc h.0, next-fine (tells d tt) h.1, h.2) (omega arith)
      go false d p = found_here k n (passes d)

  first-once : {n i k : ℕ} → First F n i → First F n k → i ≡ k
  first-once {i = i} {k = k} g h = elim (either (below i k)) [
    | inl l ↦ absurd (g.2 (h.1 i l))
    | inr l ↦ elim (either (below k i)) [ inl m ↦ absurd (h.2 (g.1 k m)) | inr m ↦ let l : ¬ (i < k) = l in let m : ¬ (k < i) = m in omega arith ]
  ]

  found-exactly : {n : ℕ} {o : Option ℕ} → Found F 0 n o → Finds F n o
  found-exactly (nowhere f) = ((λ _. f, λ _. refl), λ k. (λ q. absurd (no-some q), λ h. absurd (h.2 (f k h.0))))
  found-exactly {n} (at {j = j} i h e) = (
    (λ q. absurd (no-some (sym q)), λ f. absurd (h.2 (f i h.0))),
    λ k. (
      λ q. let w : j ≡ k = cc in let z : i ≡ k = omega arith in subst (λ (z : ℕ). First F n z) z h,
      λ g. ap Some (let w = first-once h g in omega arith),
    ),
  )

-- row i is whole, and keeps its rules against the rows before it, the nearest first
abbrev pub RowFine : List Row → List (Option Row) → ℕ → Type 0
RowFine earlier rows i = Whole (RowKeeps (reverse_aux (whole (take i rows)) earlier)) (get_or rows i None)

rows-found : (k : ℕ) (earlier : List Row) (rows : List (Option Row)) → Found (RowFine earlier rows) k (length rows) (first_bad_row k earlier rows)
rows-found k earlier [] = found-end (RowFine earlier []) k
rows-found k earlier (None ∷ rows) = found_here (RowFine earlier (None ∷ rows)) k (length rows) (λ h. h)
rows-found k earlier (Some r ∷ rows) = found-next (RowFine earlier (Some r ∷ rows)) k (length rows) (row-decides earlier r) (rows-found (suc k) (r ∷ earlier) rows)

-- connector or coupling i is whole, and keeps its rules
abbrev pub LineFine : {A : Type 0} → (A → Type 0) → List (Option A) → ℕ → Type 0
LineFine P lines i = Whole P (get_or lines i None)

lines-found : {A : Type 0} {P : A → Type 0} (rules : A → List Bool) → ((x : A) → Decides (hold (rules x)) (P x)) → (k : ℕ) (lines : List (Option A))
    → Found (LineFine P lines) k (length lines) (first_bad rules k lines)
lines-found {P = P} rules d k [] = found-end (LineFine P []) k
lines-found {P = P} rules d k (None ∷ lines) = found_here (LineFine P (None ∷ lines)) k (length lines) (λ h. h)
lines-found {P = P} rules d k (Some x ∷ lines) = found-next (LineFine P (Some x ∷ lines)) k (length lines) (d x) (lines-found rules d (suc k) lines)

pub whole-some : {A : Type 0} (xs : List A) → whole (map Some xs) ≡ xs
whole-some [] = refl
whole-some {A = A} (x ∷ xs) = ap (λ (ys : List A). x ∷ ys) (whole-some xs)

-- 1: "a table has too many rows, one cut short counted"
abbrev pub SizesKeep : Posted → Type 0
SizesKeep p = (length p.rows ≤ 64) also (length p.connectors ≤ 256) also length p.couplings ≤ 256

pub sizes-decide : (p : Posted) → Decides (hold (size_rules p)) (SizesKeep p)
sizes-decide p = at-most (length p.rows) 64 and at-most (length p.connectors) 256 and alone (at-most (length p.couplings) 256)

abbrev pub whole_table : Posted → Table
whole_table p = record { rows = whole p.rows; connectors = whole p.connectors; couplings = whole p.couplings }

module _ (p : Posted) where
  abbrev pub RowsFine : Type 0
  RowsFine = Fine (RowFine [] p.rows) (length p.rows)

  abbrev pub ConnectorsFine : Type 0
  ConnectorsFine = Fine (LineFine ConnectorKeeps p.connectors) (length p.connectors)

  abbrev pub CouplingsFine : Type 0
  CouplingsFine = Fine (LineFine (CouplingKeeps (whole p.rows)) p.couplings) (length p.couplings)

  abbrev pub FirstRow : ℕ → Type 0
  FirstRow k = First (RowFine [] p.rows) (length p.rows) k

  abbrev pub FirstConnector : ℕ → Type 0
  FirstConnector k = First (LineFine ConnectorKeeps p.connectors) (length p.connectors) k

  abbrev pub FirstCoupling : ℕ → Type 0
  FirstCoupling k = First (LineFine (CouplingKeeps (whole p.rows)) p.couplings) (length p.couplings) k

  pub rows-first : Finds (RowFine [] p.rows) (length p.rows) (first_bad_row 0 [] p.rows)
  rows-first = found-exactly _ (rows-found 0 [] p.rows)

  pub connectors-first : Finds (LineFine ConnectorKeeps p.connectors) (length p.connectors) (first_bad connector_rules 0 p.connectors)
  connectors-first = found-exactly _ (lines-found connector_rules connector-decides 0 p.connectors)

  pub couplings-first : Finds (LineFine (CouplingKeeps (whole p.rows)) p.couplings) (length p.couplings) (first_bad (coupling_rules (whole p.rows)) 0 p.couplings)
  couplings-first = found-exactly _ (lines-found (coupling_rules (whole p.rows)) (coupling-decides (whole p.rows)) 0 p.couplings)

  -- "Table intake checks 1, then 2 in row order, then 3". What each verdict says:
  abbrev pub Judged : Verdict → Type 0
  -- a size is over
  Judged too_large = SizesKeep p → ⊥
  -- the sizes hold, the rows before this one are fine, and this one is not
  Judged (bad_row k) = SizesKeep p × FirstRow k
  -- all rows are fine too, the connectors before this one are fine, and this one is not
  Judged (bad_connector k) = SizesKeep p × RowsFine × FirstConnector k
  -- all connectors are fine too, the couplings before this one are fine, and this one is not
  Judged (bad_coupling k) = SizesKeep p × RowsFine × ConnectorsFine × FirstCoupling k
  -- all rows, connectors and couplings are whole and keep their rules, and it is the table of the whole rows
  Judged (passed t) = SizesKeep p × RowsFine × ConnectorsFine × CouplingsFine × (t ≡ whole_table p)

  pub intake-exactly : (v : Verdict) → (intake p ≡ v) ↔ Judged v
  unfolding intake
  intake-exactly v = (
    λ e. subst Judged e
        (judged (hold (size_rules p)) (first_bad_row 0 [] p.rows) (first_bad connector_rules 0 p.connectors) (first_bad (coupling_rules (whole p.rows)) 0 p.couplings) (sizes-decide p) rows-first connectors-first couplings-first),
    given v,
  )
    where
      judged : (b : Bool) (x y z : Option ℕ) → Decides b (SizesKeep p) → Finds (RowFine [] p.rows) (length p.rows) x
          → Finds (LineFine ConnectorKeeps p.connectors) (length p.connectors) y
          → Finds (LineFine (CouplingKeeps (whole p.rows)) p.couplings) (length p.couplings) z
          → Judged (if b then elim x [ Some k ↦ bad_row k | None ↦ elim y [ Some k ↦ bad_connector k | None ↦ elim z [ Some k ↦ bad_coupling k | None ↦ passed (whole_table p) ] ] ] else too_large)
      judged false x y z s f g h = passes s
      judged true (Some k) y z s f g h = (tells s tt, (f.1 k).0 refl)
      judged true None (Some k) z s f g h = (tells s tt, f.0.0 refl, (g.1 k).0 refl)
      judged true None None (Some k) s f g h = (tells s tt, f.0.0 refl, g.0.0 refl, (h.1 k).0 refl)
      judged true None None None s f g h = (tells s tt, f.0.0 refl, g.0.0 refl, h.0.0 refl, refl)

      given : (v : Verdict) → Judged v → intake p ≡ v
      given too_large n = rw (is_false (sizes-decide p) n)
      given (bad_row k) h = rw (is_true (sizes-decide p) h.0, (rows-first.1 k).1 h.1)
      given (bad_connector k) h = rw (is_true (sizes-decide p) h.0, rows-first.0.1 h.1, (connectors-first.1 k).1 h.2)
      given (bad_coupling k) h = rw (is_true (sizes-decide p) h.0, rows-first.0.1 h.1, connectors-first.0.1 h.2, (couplings-first.1 k).1 h.3)
      given (passed t) h = rw (is_true (sizes-decide p) h.0, rows-first.0.1 h.1, connectors-first.0.1 h.2, couplings-first.0.1 h.3) (ap passed (sym h.4))

-- "the table .. passes intake": taken in as it is
pub passes-decides : (t : Table) → Decides (passes_intake t) (intake (handed t) ≡ passed t)
unfolding passes_intake
passes-decides t = exactly (λ u. go (intake (handed t)) refl u) (λ e. subst (λ (v : Verdict). T (is_passed v)) (sym e) tt)
  where
    go : (v : Verdict) → intake (handed t) ≡ v → T (is_passed v) → intake (handed t) ≡ passed t
    go too_large e u = absurd u
    go (bad_row k) e u = absurd u
    go (bad_connector k) e u = absurd u
    go (bad_coupling k) e u = absurd u
    go (passed t') e u = e ∙ ap passed (((intake-exactly (handed t) (passed t')).0 e).4 ∙ (λ i. record { rows = whole-some t.rows i; connectors = whole-some t.connectors i; couplings = whole-some t.couplings i }))

-- ---- times
-- "timer infinite"
pub never-decides : (x : Float) → Decides (is_never x) (x ≡ never)
never-decides = picks is_never never tt law.never-is

-- "each timer is a time or infinite"
pub timer-decides : (x : Float) → Decides (is_timer x) (T (is_time x) ⊎ (x ≡ never))
timer-decides x = exactly (law.timer-split x) (λ h. elim h [ inl t ↦ law.time-timer x t | inr e ↦ subst (λ (z : Float). T (is_timer z)) (sym e) law.never-timer ])

-- "timer 0", "whose timer equals 0"
pub due-decides : (t : Table) (depth : ℕ) (states : List State) (i : ℕ) → T (is_timer (timer t depth states i)) → Decides (due t depth states i) (timer t depth states i ≡ instant)
due-decides t depth states i h = record { is = law.timers-zero (timer t depth states i) h }

-- "stopwatch marks are times"
pub mark-decides : (o : Option Float) → Decides (mark_fits o) ((x : Float) → o ≡ Some x → T (is_time x))
mark-decides None = if_none (λ x. T (is_time x))
mark-decides (Some x) = if-held (λ x. T (is_time x)) x (itself (is_time x))

-- ---- places in a list
abbrev pub ◌∈◌ : {A : Type 0} → A → List A → Type 0
x ∈ xs = Any (λ y. y ≡ x) xs

any_place : {A : Type 0} {P : A → Type 0} (d : A) {xs : List A} → Any P xs → (i : ℕ) × (i < length xs) × P (get_or xs i d)
any_place d (here h) = (0, suc-le-suc zero-le, h)
any_place d (there p) = let z = any_place d p in (suc z.0, suc-le-suc z.1, z.2)

place-any : {A : Type 0} (P : A → Type 0) (d : A) (xs : List A) (i : ℕ) → i < length xs → P (get_or xs i d) → Any P xs
place-any P d [] i l h = absurd (not-suc-le-zero l)
place-any P d (x ∷ xs) zero l h = here h
place-any P d (x ∷ xs) (suc i) l h = there (place-any P d xs i (le_of_suc-le-suc l) h)

-- x is among the elements
pub member-decides : (x : ℕ) (xs : List ℕ) → Decides (member x xs) (x ∈ xs)
member-decides x xs = some-decides (λ y. same y x) xs

-- "a stopwatch's names differ": at two places stand two names
abbrev pub Differ : List ℕ → Type 0
Differ xs = (i j : ℕ) → i < j → j < length xs → get_or xs i 0 ≡ get_or xs j 0 → ⊥

pub differ-decides : (xs : List ℕ) → Decides (differ xs) (Differ xs)
differ-decides [] = exactly (λ _ i j l m. absurd (not-suc-le-zero m)) (λ _. tt)
differ-decides (x ∷ xs) =
    reads (neither (member-decides x xs) (differ-decides xs)) (λ h. join h.0 h.1)
    (λ f. (λ m. let z = any_place 0 m in f 0 (suc z.0) (suc-le-suc zero-le) (suc-le-suc z.1) (sym z.2), λ i j l m. f (suc i) (suc j) (suc-le-suc l) (suc-le-suc m)))
  where
    join : (x ∈ xs → ⊥) → Differ xs → Differ (x ∷ xs)
    join n f i zero l m e = absurd (not-suc-le-zero l)
    join n f zero (suc j) l m e = n (place-any (λ y. y ≡ x) 0 xs j (le_of_suc-le-suc m) (sym e))
    join n f (suc i) (suc j) l m e = f i j (le_of_suc-le-suc l) (le_of_suc-le-suc m) e

-- ---- the models' states
-- "if Active"
pub active-decides : (phase : ProcessorPhase) → Decides (is_active phase) (phase ≡ working.Active)
active-decides = picks is_active working.Active tt is
  where
    is : (phase : ProcessorPhase) → T (is_active phase) → phase ≡ working.Active
    is working.Passive t = absurd t
    is working.Active t = refl

-- nothing is held
pub empty-decides : {A : Type 0} (xs : List A) → Decides (is_empty xs) (length xs ≡ 0)
empty-decides [] = exactly (λ _. refl) (λ _. tt)
empty-decides (x ∷ xs) = exactly (λ t. absurd t) (λ e. omega arith)

-- "and at least one job if Active"
pub working-decides : (s : ProcessorState) → Decides (not (is_active s.phase && is_empty s.queue)) (s.phase ≡ working.Active → 1 ≤ length s.queue)
working-decides s =
    reads (fails (both (active-decides s.phase) (empty-decides s.queue))) (λ n a. let m : length s.queue ≢ 0 = λ e. n (a, e) in omega arith)
    (λ f (a, e). let z = f a in omega arith)

pub record ProcessorKeeps (p : Processor) (s : ProcessorState) : Type 0 where
  -- "each timer is a time or infinite"
  pub timer : T (is_time s.timer) ⊎ (s.timer ≡ never)
  -- "lengths and fields keep the sizes above"
  pub length_most : length s.queue ≤ 64
  pub contents : All (λ job. job < 2 ^ 32) s.queue
  -- "a processor holds at most its capacity, and at least one job if Active"
  pub capacity : length s.queue ≤ p.queue_capacity
  pub working-on : s.phase ≡ working.Active → 1 ≤ length s.queue

contents-decide : (xs : List ℕ) → Decides (every is_content xs) (All (λ job. job < 2 ^ 32) xs)
contents-decide xs = every-decides (λ job. below job (2 ^ 32)) xs

pub processor-decides : (p : Processor) (s : ProcessorState) → Decides (hold (processor_rules p s)) (ProcessorKeeps p s)
processor-decides p s =
    reads
    (timer-decides s.timer and at-most (length s.queue) 64 and contents-decide s.queue and at-most (length s.queue) p.queue_capacity
    and alone (working-decides s))
    (λ h. record { timer = h.0; length_most = h.1.0; contents = h.1.1.0; capacity = h.1.1.1.0; working-on = h.1.1.1.1 })
    (λ h. (h.timer, (h.length_most, (h.contents, (h.capacity, h.working-on)))))

-- "each timer is a time or infinite", "64 jobs in one processor, batcher or stopwatch"
pub record BatcherKeeps (s : BatcherState) : Type 0 where
  pub timer : T (is_time s.timer) ⊎ (s.timer ≡ never)
  pub length_most : length s.jobs ≤ 64
  pub contents : All (λ job. job < 2 ^ 32) s.jobs

pub batcher-decides : (s : BatcherState) → Decides (hold (batcher_rules s)) (BatcherKeeps s)
batcher-decides s =
    reads (timer-decides s.timer and at-most (length s.jobs) 64 and alone (contents-decide s.jobs))
    (λ h. record { timer = h.0; length_most = h.1.0; contents = h.1.1 }) (λ h. (h.timer, (h.length_most, h.contents)))

-- "stopwatch marks are times"
abbrev pub MarksKeep : Marks → Type 0
MarksKeep j = (j.name < 2 ^ 32) also ((x : Float) → j.start ≡ Some x → T (is_time x)) also ((x : Float) → j.stop ≡ Some x → T (is_time x))

pub record StopwatchKeeps (s : StopwatchState) : Type 0 where
  pub timer : T (is_time s.timer) ⊎ (s.timer ≡ never)
  pub length_most : length s.jobs ≤ 64
  pub marks : All MarksKeep s.jobs
  -- "a stopwatch's names differ"
  pub names-differ : Differ (names s.jobs)

pub stopwatch-decides : (s : StopwatchState) → Decides (hold (stopwatch_rules s)) (StopwatchKeeps s)
stopwatch-decides s =
    reads
    (timer-decides s.timer and at-most (length s.jobs) 64
    and every-decides (λ (j : Marks). below j.name (2 ^ 32) and mark-decides j.start and alone (mark-decides j.stop)) s.jobs
    and alone (differ-decides (names s.jobs)))
    (λ h. record { timer = h.0; length_most = h.1.0; marks = h.1.1.0; names-differ = h.1.1.1 })
    (λ h. (h.timer, (h.length_most, (h.marks, h.names-differ))))

-- "64 parked messages in one Coupled"
abbrev pub ParkedKeeps : Parked → Type 0
ParkedKeeps m = (m.component < 2 ^ 16) also (m.port < 2 ^ 16) also m.content < 2 ^ 32

abbrev pub CoupledKeeps : List Parked → Type 0
CoupledKeeps parked = (length parked ≤ 64) also All ParkedKeeps parked

pub coupled-state-decides : (parked : List Parked) → Decides (hold (coupled_rules parked)) (CoupledKeeps parked)
coupled-state-decides parked =
    at-most (length parked) 64
    and alone (every-decides (λ (m : Parked). below m.component (2 ^ 16) and below m.port (2 ^ 16) and alone (below m.content (2 ^ 32))) parked)

-- the state is of the row's kind, and keeps its rules
pub data StateKeeps : Kind → State → Type 0 where
  of-processor : {p : Processor} {s : ProcessorState} → ProcessorKeeps p s → StateKeeps (processor p) (of_processor s)
  of-batcher : {b : Batcher} {s : BatcherState} → BatcherKeeps s → StateKeeps (batcher b) (of_batcher s)
  of-stopwatch : {w : Stopwatch} {s : StopwatchState} → StopwatchKeeps s → StateKeeps (stopwatch w) (of_stopwatch s)
  of-coupled : {parked : List Parked} → CoupledKeeps parked → StateKeeps coupled (of_coupled parked)

pub state-decides : (k : Kind) (s : State) → Decides (state_fits k s) (StateKeeps k s)
state-decides k s = exactly (is k s) pass
  where
    is : (k : Kind) (s : State) → T (state_fits k s) → StateKeeps k s
    is (processor p) (of_processor s) t = of-processor (tells (processor-decides p s) t)
    is (processor p) (of_batcher s) t = absurd t
    is (processor p) (of_stopwatch s) t = absurd t
    is (processor p) (of_coupled s) t = absurd t
    is (batcher b) (of_processor s) t = absurd t
    is (batcher b) (of_batcher s) t = of-batcher (tells (batcher-decides s) t)
    is (batcher b) (of_stopwatch s) t = absurd t
    is (batcher b) (of_coupled s) t = absurd t
    is (stopwatch w) (of_processor s) t = absurd t
    is (stopwatch w) (of_batcher s) t = absurd t
    is (stopwatch w) (of_stopwatch s) t = of-stopwatch (tells (stopwatch-decides s) t)
    is (stopwatch w) (of_coupled s) t = absurd t
    is coupled (of_processor s) t = absurd t
    is coupled (of_batcher s) t = absurd t
    is coupled (of_stopwatch s) t = absurd t
    is coupled (of_coupled s) t = of-coupled (tells (coupled-state-decides s) t)

    pass : {k : Kind} {s : State} → StateKeeps k s → T (state_fits k s)
    pass (of-processor {p = p} {s = s} h) = passes (processor-decides p s) h
    pass (of-batcher {s = s} h) = passes (batcher-decides s) h
    pass (of-stopwatch {s = s} h) = passes (stopwatch-decides s) h
    pass (of-coupled {parked = s} h) = passes (coupled-state-decides s) h

-- each row has one state, and it fits
abbrev pub StatesKeep : List Row → List State → Type 0
StatesKeep rows states = (length states ≡ length rows) × ((i : ℕ) → i < length rows → StateKeeps (get_or rows i no_row).kind (state_at states i))

pub states-decide : (rows : List Row) (states : List State) → Decides (states_fit rows states) (StatesKeep rows states)
states-decide [] [] = exactly (λ _. (refl, λ i l. absurd (not-suc-le-zero l))) (λ _. tt)
states-decide [] (s ∷ ss) = exactly (λ t. absurd t) (λ h. let z = h.0 in omega arith)
states-decide (r ∷ rs) [] = exactly (λ t. absurd t) (λ h. let z = h.0 in omega arith)
states-decide (r ∷ rs) (s ∷ ss) =
    reads (state-decides r.kind s and states-decide rs ss) (λ h. (ap suc h.1.0, next-fine (λ i. StateKeeps (get_or (r ∷ rs) i no_row).kind (state_at (s ∷ ss) i)) h.0 h.1.1))
    (λ h. (h.1 0 (suc-le-suc zero-le), (let z = h.0 in omega arith, λ i l. h.1 (suc i) (suc-le-suc l))))

-- ---- 20: what a simulation handed in is asked
-- "A message is source id, source port, target id, target port, time, content."
abbrev pub MessageKeeps : Message → Type 0
MessageKeeps m =
    (m.source_id < 2 ^ 16) also (m.source_port < 2 ^ 16) also (m.target_id < 2 ^ 16) also (m.target_port < 2 ^ 16)
    also T (is_time m.time) also m.content < 2 ^ 32

pub message-decides : (m : Message) → Decides (hold (message_rules m)) (MessageKeeps m)
message-decides m =
    below m.source_id (2 ^ 16) and below m.source_port (2 ^ 16) and below m.target_id (2 ^ 16) and below m.target_port (2 ^ 16)
    and itself (is_time m.time) and alone (below m.content (2 ^ 32))

pub record Asked (sim : Simulation) : Type 0 where
  -- "the table .. passes intake"
  pub table : intake (handed sim.table) ≡ passed sim.table
  -- "lengths and fields keep the sizes above; .. stopwatch marks are times; each timer is a time or infinite; a processor holds at most its capacity, and at least one job if Active; a stopwatch's names differ"
  pub states : StatesKeep sim.table.rows sim.states
  -- "256 active messages", "message times .. are times"
  pub active-most : length sim.active ≤ 256
  pub active-keep : All MessageKeeps sim.active
  -- "clock .. are times"
  pub clock : T (is_time sim.clock)
  -- the place in the service list is a 64-bit number
  pub place : sim.place < 2 ^ 64

pub valid-decides : (sim : Simulation) → Decides (is_valid sim) (Asked sim)
unfolding is_valid
valid-decides sim =
    reads
    (passes-decides sim.table and states-decide sim.table.rows sim.states and at-most (length sim.active) 256
    and every-decides message-decides sim.active and itself (is_time sim.clock) and alone (below sim.place (2 ^ 64)))
    (λ h. record { table = h.0; states = h.1.0; active-most = h.1.1.0; active-keep = h.1.1.1.0; clock = h.1.1.1.1.0; place = h.1.1.1.1.1 })
    (λ h. (h.table, (h.states, (h.active-most, (h.active-keep, (h.clock, h.place))))))

-- 20, of an event's own row and state: "the model's row, passes intake"
pub model-decides : (k : Kind) (s : State) → Decides (model_fits k s) (KindKeeps k also StateKeeps k s)
unfolding model_fits
model-decides k s = kind-decides k and alone (state-decides k s)

-- ---- lists taken from the table: every match, and in order
-- ys is made of xs in order: what K makes of each, and nothing of those that have N
pub data Sifted {A B : Type 0} (K : A → B → Type 0) (N : A → Type 0) : List A → List B → Type 0 where
  ended : Sifted K N [] []
  kept : {x : A} {y : B} {xs : List A} {ys : List B} → K x y → Sifted K N xs ys → Sifted K N (x ∷ xs) (y ∷ ys)
  left : {x : A} {xs : List A} {ys : List B} → N x → Sifted K N xs ys → Sifted K N (x ∷ xs) ys

pub those-sifts : {A : Type 0} {P : A → Type 0} {test : A → Bool} → ((x : A) → Decides (test x) (P x)) → (xs : List A) → Sifted (λ x y. (y ≡ x) × P x) (λ x. P x → ⊥) xs (those test xs)
those-sifts d [] = ended
those-sifts {A = A} {P = P} {test = test} d (x ∷ xs) = go (test x) (d x) (those-sifts d xs)
  where
    go : (b : Bool) {ys : List A} → Decides b (P x) → Sifted (λ x y. (y ≡ x) × P x) (λ x. P x → ⊥) xs ys → Sifted (λ x y. (y ≡ x) × P x) (λ x. P x → ⊥) (x ∷ xs) (if b then x ∷ ys else ys)
    go true d p = kept (refl, tells d tt) p
    go false d p = left (passes d) p

pub chosen-sifts : {A B : Type 0} (choose : A → Option B) (xs : List A) → Sifted (λ x y. choose x ≡ Some y) (λ x. choose x ≡ None) xs (chosen choose xs)
chosen-sifts choose [] = ended
chosen-sifts {B = B} choose (x ∷ xs) = go (choose x) refl (chosen-sifts choose xs)
  where
    go : (o : Option B) {ys : List B} → choose x ≡ o → Sifted (λ x y. choose x ≡ Some y) (λ x. choose x ≡ None) xs ys
        → Sifted (λ x y. choose x ≡ Some y) (λ x. choose x ≡ None) (x ∷ xs) (elim o [ None ↦ ys | Some y ↦ y ∷ ys ])
    go None e p = left e p
    go (Some y) e p = kept e p

-- so y is in the list exactly when it was made of some element
sifted-element : {A B : Type 0} {K : A → B → Type 0} {N : A → Type 0} {xs : List A} {ys : List B} → Sifted K N xs ys → (y : B)
    → ((x : A) (z : B) → K x z → K x y → z ≡ y) → ((x : A) → N x → K x y → ⊥) → (y ∈ ys) ↔ Any (λ x. K x y) xs
sifted-element {A} {B} {K} {N} p y one not-both = (from-it p, into p)
  where
    from-it : {xs : List A} {ys : List B} → Sifted K N xs ys → y ∈ ys → Any (λ x. K x y) xs
    from-it ended q = elim q [ ]
    from-it (kept {x = x} k p) (here e) = here (subst (λ (z : B). K x z) e k)
    from-it (kept k p) (there q) = there (from-it p q)
    from-it (left n p) q = there (from-it p q)

    into : {xs : List A} {ys : List B} → Sifted K N xs ys → Any (λ x. K x y) xs → y ∈ ys
    into ended x4 = elim x4 [ ]
    into (kept {x = x} {y = z} k p) (here h) = here (one x z k h)
    into (kept k p) (there q) = there (into p q)
    into (left {x = x} n p) (here h) = absurd (not-both x n h)
    into (left n p) (there q) = into p q

any_out : {A R : Type 0} {P : A → Type 0} {xs : List A} → ((x : A) → P x → R) → Any P xs → R
any_out f (here {x = x} h) = f x h
any_out f (there p) = any_out f p

any-map : {A : Type 0} {P Q : A → Type 0} {xs : List A} → ((x : A) → P x → Q x) → Any P xs → Any Q xs
any-map f (here {x = x} h) = here (f x h)
any-map f (there p) = there (any-map f p)

-- in `those` exactly when in the list, and matching
pub those-element : {A : Type 0} {P : A → Type 0} {test : A → Bool} → ((x : A) → Decides (test x) (P x)) → (xs : List A) (x : A) → (x ∈ those test xs) ↔ ((x ∈ xs) × P x)
those-element {A = A} {P = P} d xs x =
    let z = sifted-element (those-sifts d xs) x (λ a b h k. h.0 ∙ sym k.0) (λ a n k. n k.1) in (
      λ p. let q = z.0 p in (any-map (λ a k. sym k.0) q, any_out (λ a k. subst P (sym k.0) k.1) q),
      λ h. z.1 (any-map (λ a e. (sym e, subst P (sym e) h.1)) h.0),
    )

-- in `chosen` exactly when made of one in the list
pub chosen-element : {A B : Type 0} (choose : A → Option B) (xs : List A) (y : B) → (y ∈ chosen choose xs) ↔ Any (λ x. choose x ≡ Some y) xs
chosen-element choose xs y = sifted-element (chosen-sifts choose xs) y (λ a b h k. cc) (λ a n k. no-some (sym n ∙ k))

-- "every connector, in order, that matches source id and port"
connects : (source port : ℕ) (c : Connector) → Decides (eqb c.source source && eqb c.source_port port) ((c.source ≡ source) × (c.source_port ≡ port))
connects source port c = both (same c.source source) (same c.source_port port)

pub connected-element : (t : Table) (source port : ℕ) (c : Connector) → (c ∈ connected t source port) ↔ ((c ∈ t.connectors) × ((c.source ≡ source) × (c.source_port ≡ port)))
connected-element t source port c = those-element (connects source port) t.connectors c

pub connected-sifts : (t : Table) (source port : ℕ)
    → Sifted (λ (c e : Connector). (e ≡ c) × ((c.source ≡ source) × (c.source_port ≡ port)))
    (λ (c : Connector). (c.source ≡ source) × (c.source_port ≡ port) → ⊥) t.connectors (connected t source port)
connected-sifts t source port = those-sifts (connects source port) t.connectors

-- the models by their places among the rows
from-element : (j k i : ℕ) → (i ∈ from j k) ↔ ((j ≤ i) × (i < j + k))
from-element j k i = (into j k, back j k)
  where
    into : (j k : ℕ) → i ∈ from j k → (j ≤ i) × (i < j + k)
    into j zero q = absurd (passes (member-decides i []) q)
    into j (suc k) (here e) = omega arith
    into j (suc k) (there q) = let z = into (suc j) k q in omega arith

    back : (j k : ℕ) → (j ≤ i) × (i < j + k) → i ∈ from j k
    back j zero h = let z = h.0 in let w = h.1 in absurd (omega arith)
    back j (suc k) h = elim (eq-or-lt_of_le h.0) [ inl e ↦ here e | inr l ↦ there (back (suc j) k (l, let w = h.1 in omega arith)) ]

place-element : (n i : ℕ) → (i ∈ from 0 n) ↔ (i < n)
place-element n i = (λ q. let z = (from-element 0 n i).0 q in omega arith, λ l. (from-element 0 n i).1 (omega arith))

rows-element : (t : Table) {P : Option ℕ → Type 0} {test : Option ℕ → Bool} → ((o : Option ℕ) → Decides (test o) (P o)) → (i : ℕ)
    → (i ∈ those (λ i. test (row_at t i).parent) (from 0 (length t.rows))) ↔ ((i < length t.rows) × P (row_at t i).parent)
rows-element t d i =
    let z = those-element (λ i. d (row_at t i).parent) (from 0 (length t.rows)) i in
    (λ q. ((place-element (length t.rows) i).0 (z.0 q).0, (z.0 q).1), λ h. z.1 ((place-element (length t.rows) i).1 h.0, h.1))

-- the parentless models
pub parentless-element : (t : Table) (i : ℕ) → (i ∈ parentless t) ↔ ((i < length t.rows) × ((row_at t i).parent ≡ None))
parentless-element t i = rows-element t parentless-decides i

-- the components of a Coupled: the rows that name it as their parent
pub components-element : (t : Table) (owner i : ℕ) → (i ∈ components t owner) ↔ ((i < length t.rows) × ((row_at t i).parent ≡ Some owner))
components-element t owner i = rows-element t (parent-decides owner) i

-- ---- couplings by what they match
if_some : {A : Type 0} {b : Bool} {P : Type 0} {x y : A} → Decides b P → ((if b then Some y else None) ≡ Some x) ↔ (P × (y ≡ x))
if_some {A} {b} {P} {x} {y} d = go b d
  where
    go : (b : Bool) → Decides b P → ((if b then Some y else None) ≡ Some x) ↔ (P × (y ≡ x))
    go true d = (λ e. (tells d tt, cc), λ h. ap Some h.1)
    go false d = (λ e. absurd (no-some e), λ h. absurd (passes d h.0))

-- where y is made of c and of nothing else, y is in the list exactly when c is in the table
made_of : {A B : Type 0} (choose : A → Option B) (xs : List A) (c : A) (y : B) → choose c ≡ Some y → ((x : A) → choose x ≡ Some y → x ≡ c) → (y ∈ chosen choose xs) ↔ (c ∈ xs)
made_of {A} choose xs c y e only =
    let z = chosen-element choose xs y in
    (λ q. any-map only (z.0 q), λ q. z.1 (any-map (λ x f. subst (λ (a : A). choose a ≡ Some y) (sym f) e) q))

-- "every matching external input coupling"
pub inputs-element : (t : Table) (owner port : ℕ) (to : Target) → (to ∈ inputs t owner port) ↔ (external_input owner port to.target to.port ∈ t.couplings)
inputs-element t owner port to =
    made_of (input_of owner port) t.couplings (external_input owner port to.target to.port) to ((if_some (match owner port)).1 ((refl, refl), refl)) is
  where
    match : (o sp : ℕ) → Decides (eqb o owner && eqb sp port) ((o ≡ owner) × (sp ≡ port))
    match o sp = both (same o owner) (same sp port)

    is : (c : Coupling) → input_of owner port c ≡ Some to → c ≡ external_input owner port to.target to.port
    is (external_input o sp target tp) e = let h = (if_some (match o sp)).0 e in λ i. external_input (h.0.0 i) (h.0.1 i) (h.1 i).target (h.1 i).port
    is (external_output o s sp tp) e = absurd (no-some e)
    is (internal_coupling o s sp target tp) e = absurd (no-some e)

module _ (owner source port : ℕ) where
  match : (o s sp : ℕ) → Decides (eqb o owner && eqb s source && eqb sp port) (((o ≡ owner) × (s ≡ source)) × (sp ≡ port))
  match o s sp = both (both (same o owner) (same s source)) (same sp port)

  -- "then put out along external output couplings"
  pub outputs-element : (t : Table) (to : ℕ) → (to ∈ outputs t owner source port) ↔ (external_output owner source port to ∈ t.couplings)
  outputs-element t to =
      made_of (output_of owner source port) t.couplings (external_output owner source port to) to ((if_some (match owner source port)).1 (((refl, refl), refl), refl)) is
    where
      is : (c : Coupling) → output_of owner source port c ≡ Some to → c ≡ external_output owner source port to
      is (external_input o sp target tp) e = absurd (no-some e)
      is (external_output o s sp tp) e = let h = (if_some (match o s sp)).0 e in λ i. external_output (h.0.0.0 i) (h.0.0.1 i) (h.0.1 i) (h.1 i)
      is (internal_coupling o s sp target tp) e = absurd (no-some e)

  -- "Each message out is first parked along internal couplings"
  pub internals-element : (t : Table) (to : Target) → (to ∈ internals t owner source port) ↔ (internal_coupling owner source port to.target to.port ∈ t.couplings)
  internals-element t to =
      made_of (internal_of owner source port) t.couplings (internal_coupling owner source port to.target to.port) to ((if_some (match owner source port)).1 (((refl, refl), refl), refl)) is
    where
      is : (c : Coupling) → internal_of owner source port c ≡ Some to → c ≡ internal_coupling owner source port to.target to.port
      is (external_input o sp target tp) e = absurd (no-some e)
      is (external_output o s sp tp) e = absurd (no-some e)
      is (internal_coupling o s sp target tp) e =
          let h = (if_some (match o s sp)).0 e in
          λ i. internal_coupling (h.0.0.0 i) (h.0.0.1 i) (h.0.1 i) (h.1 i).target (h.1 i).port

-- the job of this name
pub named-decides : (name : ℕ) (j : Marks) → Decides (is_named name j) (j.name ≡ name)
named-decides name j = same j.name name

-- a row's word 2: "which optional fields are given: 1 parent, 2 queue_capacity, 4 metric, added up"
pub given-decides : (field : ℕ) (row : List ℕ) → Decides (is_given field row) (cell row 2 / field % 2 ≡ 1)
given-decides field row = same (cell row 2 / field % 2) 1

-- ---- what every call's own numbers keep by their types
abbrev pub ListsKeep : List Float → ℕ → Type 0
ListsKeep services room = All (λ x. T (fits binary64 x)) services also (length services < 2 ^ 64) also room < 2 ^ 64

-- "Ids and ports are 16-bit numbers and contents 32-bit ones at every call." "`step_n` takes a 64-bit count"; "the allowance is a 32-bit number"
abbrev pub CallKeeps : Call → Type 0
CallKeeps (InjectInput m) =
    (m.source_id < 2 ^ 16) also (m.source_port < 2 ^ 16) also (m.target_id < 2 ^ 16) also (m.target_port < 2 ^ 16)
    also T (fits binary64 m.time) also m.content < 2 ^ 32
CallKeeps (Step services room) = ListsKeep services room
CallKeeps (StepN services room count) = (count < 2 ^ 64) also ListsKeep services room
CallKeeps (StepUntil services until room allowance) = T (fits binary64 until) also (allowance < 2 ^ 32) also ListsKeep services room
CallKeeps Reset = Unit {0}
CallKeeps ResetMessages = Unit {0}
CallKeeps ResetGlobalTime = Unit {0}

lists-decide : (services : List Float) (room : ℕ) → Decides (hold (list_rules services room)) (ListsKeep services room)
lists-decide services room = every-decides (λ x. itself (fits binary64 x)) services and below (length services) (2 ^ 64) and alone (below room (2 ^ 64))

pub call-decides : (c : Call) → Decides (hold (call_rules c)) (CallKeeps c)
call-decides (InjectInput m) =
    below m.source_id (2 ^ 16) and below m.source_port (2 ^ 16) and below m.target_id (2 ^ 16) and below m.target_port (2 ^ 16)
    and itself (fits binary64 m.time) and alone (below m.content (2 ^ 32))
call-decides (Step services room) = lists-decide services room
call-decides (StepN services room count) = below count (2 ^ 64) and lists-decide services room
call-decides (StepUntil services until room allowance) = itself (fits binary64 until) and below allowance (2 ^ 32) and lists-decide services room
call-decides Reset = itself true
call-decides ResetMessages = itself true
call-decides ResetGlobalTime = itself true
