-- A3 of document 02: what is parked is not stranded. While a message is parked anywhere, no step is refused with 12. In the next step that is not refused, a Coupled that holds a message has its internal event, with its list as it was and without time passing; in it each message that is parked for a component comes to that component, once and in 01's order. And a run that ends with 12 leaves nothing parked. Assumes nothing.
use Prim.Native.Nat.{ℕ, zero, suc, ◌+◌, ◌-◌, ◌≤◌, ◌<◌}
use Rattle.std.specs.Prelude.{◌≡◌, ◌⊎◌, Bool, set, T, leb, Float, if◌then◌else◌, Some}
use Rattle.std.proofs.Math.Path.{refl, sym, ap, subst}
use Rattle.std.proofs.Common.{◌∙◌, inl, inr, arith, eq-or-lt_of_le, T_not}
use Rattle.std.proofs.Math.Bool.{true, false, not}
use mathlib.Core.List.{List, [], ◌∷◌, ◌++◌, map, append_assoc, append-nil}
use Rattle.std.proofs.Math.ListN.{length, length-set}
use Rattle.std.proofs.Math.Seq.{get_or-set_same}
use Rattle.std.proofs.Math.Dec.{eqb, eqb_refl}
use Rattle.std.specs.Float.{binary64}
use Rattle.std.specs.Float.Ieee.{add, le, lt}
use Rattle.times.specs.Time.{instant, is_never, is_time, is_timer}
use Rattle.times.proofs.Laws as law
use Rattle.rules.specs.declared.Refusal.{Refusal}
use Rattle.rules.specs.declared.Refusal.TheVariants.{NoMessageRoom, BadTime, Idle, NoOutRoom, BadState}
use Rattle.rules.specs.declared.Message.{Message}
use Rattle.rules.specs.Sizes.{is_word, most_parked, most_out}
use Rattle.rules.specs.Base.{Outcome, refused, done, ◌>>=◌, each, those, from, at_most}
use Rattle.rules.specs.Table.{Kind, processor, batcher, stopwatch, coupled, Table, Target, row_at, id_at, kind_at, is_parent, is_parentless, parentless, components, inputs, outputs, internals}
use Rattle.rules.specs.Simulation.{Parked, State, of_processor, of_batcher, of_stopwatch, of_coupled, Simulation, state_at, as_processor, as_batcher, as_stopwatch, as_coupled}
use Rattle.rules.specs.Models.{Fate, Kept, Passed, processor_external, processor_internal, batcher_external, batcher_internal, stopwatch_external, stopwatch_internal}
use Rattle.rules.specs.Step.{Out, out_at, Happening, came, went, waited, World, noted, becomes, moved, levels, due, external_as, external, unpark, hand, turn, internal_as, internal, taken, least_timer, advance, after, all_after, later, send, root_turn, step_on, one_step}
use Rattle.rules.specs.Valid.{state_fits, is_valid}
use Rattle.rules.specs.Calls.{Done, Reached, Spent, Refused, Ran, ended, then_ran, fitting, onward, steps, step_n, look, steps_until, step_until}
use Rattle.rules.specs.Ends.{All, nil, ◌&◌, Among, first, later as further, among-those, all-imp, all-those, all_any, all_append, Ends, stops, goes, ends-if, ends-bind, ends-map, ends-both, ends-done, Whatever, ends-whatever, ends-known, ends-each, ends-most}
use Rattle.rules.specs.Decides.{tells, parent-decides, parentless-decides}
use Rattle.rules.specs.Depth.{Fine, fine, depth_at, all_in, component-depth, Deep, parentless-deep, by-parent}
use Rattle.rules.proofs.Least.{Fitted, own_timer, among, due-parked, due-component, least-below, least-is-timer}
use Rattle.rules.specs.Arriving.{Arrives, arriving, atom-other, set_other}
use Rattle.rules.proofs.Worlds.{Good, fitted-set, after-at, fitted-after, advance-ends, later-ends, Gone, external-keeps, internal-keeps, unpark-keeps, turn-keeps, Sent, taken-keeps, root_turn-keeps, world_of}
use Rattle.rules.proofs.Runs.{Valid, valid-of, is-valid, NotTwenty, any-closed, step-ends}
use Rattle.rules.proofs.Idle.{NoneParked, idle-exactly}
use Rattle.promises.specs.HandedOver.{list_of, is_component, comings, handed_to, parked_by, newly, NotItsEvent, HandsOver, AsLeft}

-- a row with something parked is one of the rows
in_rows : (states : List State) (i : ℕ) → (as_coupled (state_at states i) ≡ [] → ⊥) → i < length states
in_rows [] i n = absurd (n refl)
in_rows (s ∷ states) zero n = omega arith
in_rows (s ∷ states) (suc i) n = let l = in_rows states i n in omega arith

-- x is in a list just once
data Once (x : ℕ) : List ℕ → Type 0 where
  now : {xs : List ℕ} → All (λ y. y ≡ x → ⊥) xs → Once x (x ∷ xs)
  later-on : {y : ℕ} {xs : List ℕ} → (y ≡ x → ⊥) → Once x xs → Once x (y ∷ xs)

none_before : (test : ℕ → Bool) (x j n : ℕ) → x < j → All (λ y. y ≡ x → ⊥) (those test (from j n))
none_before test x j n l = all-those test (above j n l) (λ y p _. p)
  where
    above : (j n : ℕ) → x < j → All (λ y. y ≡ x → ⊥) (from j n)
    above j zero l = nil
    above j (suc n) l = (let apart : j ≡ x → ⊥ = λ e. omega arith in apart) & above (suc j) n (omega arith)

once-those : (test : ℕ → Bool) (x j n : ℕ) → j ≤ x → x < j + n → T (test x) → Once x (those test (from j n))
once-those test x j zero l m t = absurd (omega arith)
once-those test x j (suc n) l m t = go (eq-or-lt_of_le l) (λ b. once-those test x (suc j) n b (omega arith) t)
  where
    here : (b : Bool) → T b → Once x (if b then x ∷ those test (from (suc x) n) else those test (from (suc x) n))
    here true u = now (none_before test x (suc x) n (omega arith))
    here false u = absurd u

    there : (b : Bool) → j < x → Once x (those test (from (suc j) n)) → Once x (if b then j ∷ those test (from (suc j) n) else those test (from (suc j) n))
    there true b o = later-on (let apart : j ≡ x → ⊥ = λ e. omega arith in apart) o
    there false b o = o

    go : (j ≡ x) ⊎ (suc j ≤ x) → (suc j ≤ x → Once x (those test (from (suc j) n))) → Once x (if test j then j ∷ those test (from (suc j) n) else those test (from (suc j) n))
    go (inl e) rec = subst (λ (k : ℕ). Once x (if test k then k ∷ those test (from (suc k) n) else those test (from (suc k) n))) (sym e) (here (test x) t)
    go (inr b) rec = there (test j) b (rec b)

all_both : {P Q : ℕ → Type 0} {xs : List ℕ} → All P xs → All Q xs → All (λ x. P x × Q x) xs
all_both nil nil = nil
all_both (p & ps) (q & qs) = (p, q) & all_both ps qs

all-at : {P : ℕ → Type 0} {x : ℕ} {xs : List ℕ} → All P xs → Among x xs → P x
all-at {P = P} nil x4 = elim x4 [ ]
all-at (p & ps) first = p
all-at (p & ps) (further a) = all-at ps a

-- a sweep that comes by x once: K before, R from there on
ends-once : {S : Type 0} {K R : S → Type 0} {P : ℕ → Type 0} (visit : ℕ → S → Outcome S) (x : ℕ) {xs : List ℕ} (s : S) → Once x xs → All P xs
    → ((y : ℕ) (s : S) → (y ≡ x → ⊥) → P y → K s → Ends Whatever K (visit y s)) → ((s : S) → P x → K s → Ends Whatever R (visit x s)) → ((y : ℕ) (s : S) → (y ≡ x → ⊥) → P y → R s → Ends Whatever R (visit y s)) → K s
    → Ends Whatever R (each visit xs s)
ends-once {P = P} visit x s (now {xs = xs} others) (p & ps) keeps makes stays k =
    ends-bind (each visit xs) (makes s p k) (λ s₁ r. ends-each {P = λ y. (y ≡ x → ⊥) × P y} visit s₁ (all_both others ps) (λ y s₂ q r₁. stays y s₂ q.0 q.1 r₁) r)
ends-once visit x s (later-on {y = y} {xs = xs} n o) (p & ps) keeps makes stays k = ends-bind (each visit xs) (keeps y s n p k) (λ s₁ k₁. ends-once visit x s₁ o ps keeps makes stays k₁)

module _ (t : Table) (services : List Float) (clock : Float) (ok : Fine t) where
  -- a Coupled's event puts its list, and hands on what its components put out
  hand-keeps : (X : World → Type 0) (k j : ℕ) → ((w : World) (parked : List Parked) → X w → X (becomes k (of_coupled parked) w)) → (m : Out) (r : World × List Out) → X r.0 → Ends Whatever (λ r. X r.0) (hand t services k j m r)
  hand-keeps X k j put m r x =
      ends-bind {Q = X} _
      (ends-bind _ (ends-whatever (at_most most_parked NoMessageRoom (as_coupled (state_at r.0.states k) ++ map (λ (to : Target). record { component = to.target; port = to.port; content = m.content }) (internals t (id_at t k) (id_at t j) m.port))))
      (λ parked _. goes (put r.0 parked x)))
      (λ w x₁. ends-bind {Q = Whatever} _ (ends-whatever (at_most most_out NoMessageRoom (r.1 ++ map (λ port. out_at port m.content) (outputs t (id_at t k) (id_at t j) m.port)))) (λ out _. goes {a = (w, out)} x₁))

  hands-keep : (X : World → Type 0) (k j : ℕ) → ((w : World) (parked : List Parked) → X w → X (becomes k (of_coupled parked) w)) → (ms : List Out) (r : World × List Out) → X r.0 → Ends Whatever (λ r. X r.0) (each (hand t services k j) ms r)
  hands-keep X k j put ms r x = ends-each {P = Whatever} (hand t services k j) r (all_any ms (λ _. tt)) (λ m r₁ _ x₁. hand-keeps X k j put m r₁ x₁) x

  -- a Coupled's internal event, at any depth
  event-as : {Q : World × List Out → Type 0} (depth k : ℕ) (w : World) → kind_at t k ≡ coupled → Ends Whatever Q (internal_as t services coupled depth (external t services depth clock) (internal t services depth clock) clock k w)
      → Ends Whatever Q (internal t services (suc depth) clock k w)
  unfolding internal
  event-as {Q} depth k w e h = subst (λ (z : Kind). Ends Whatever Q (internal_as t services z depth (external t services depth clock) (internal t services depth clock) clock k w)) (sym e) h

  -- ---- components
  abbrev Part : ℕ → ℕ → Type 0
  Part i c = (c < length t.rows) × T (is_component t i c)

  parts-of : (i : ℕ) → All (Part i) (components t (id_at t i))
  parts-of i = all-those (is_component t i) (all_in t ok) (λ c l s. (l, s))

  one_deeper : (i c : ℕ) → i < length t.rows → Part i c → depth_at t c ≡ depth_at t i + 1
  one_deeper i c l p = component-depth t ok i c l p.0 p.1

  -- ---- the rows of a model: itself, its components, and theirs
  data Under (c : ℕ) : ℕ → Type 0 where
    top : Under c c
    part : {k r : ℕ} → Under c k → k < length t.rows → Part k r → Under c r

  under-in : {c r : ℕ} → c < length t.rows → Under c r → r < length t.rows
  under-in l top = l
  under-in l (part u m p) = p.0

  under-deeper : {c r : ℕ} → Under c r → depth_at t c ≤ depth_at t r
  under-deeper top = omega arith
  under-deeper (part {k = k} {r = r} u m p) = let h = under-deeper u in let e = one_deeper k r m p in omega arith

  under-join : {j c r : ℕ} → j < length t.rows → Part j c → Under c r → Under j r
  under-join l q top = part top l q
  under-join l q (part u m p) = part (under-join l q u) m p

  -- a row has one parent
  one_parent : {k m r : ℕ} → k < length t.rows → m < length t.rows → Part k r → Part m r → k ≡ m
  one_parent {k} {m} {r} l n p q =
      let e = tells (parent-decides (id_at t k) (row_at t r).parent) p.1 in
      let f = tells (parent-decides (id_at t m) (row_at t r).parent) q.1 in
      let g : Some (id_at t k) ≡ Some (id_at t m) = sym e ∙ f in
      ok.unique k m l n cc

  -- of the rows of one depth a row is under one alone
  under_one : {a b r : ℕ} → Under a r → Under b r → depth_at t a ≡ depth_at t b → a ≡ b
  under_one top top d = refl
  under_one {a} {b} top (part {k = k} v n q) d = absurd (let h = under-deeper v in let e = one_deeper k a n q in omega arith)
  under_one {a} {b} (part {k = k} u m p) top d = absurd (let h = under-deeper u in let e = one_deeper k b m p in omega arith)
  under_one {a} {b} (part {k = k} u m p) (part {k = j} v n q) d = under_one (subst (Under a) (one_parent m n p q) u) v d

  -- of two that a row is under, one is under the other
  under-chain : {a b r : ℕ} → Under a r → Under b r → depth_at t a ≤ depth_at t b → Under a b
  under-chain {a} {b} top v d = let h = under-deeper v in let e : depth_at t a ≡ depth_at t b = omega arith in subst (Under a) (under_one top v e) top
  under-chain {a} {b} (part u m p) top d = part u m p
  under-chain {a} {b} (part u m p) (part v n q) d = under-chain u (subst (Under b) (one_parent n m q p) v) d

  -- ---- an event happens at its row and below it, and changes no other
  abbrev Below : ℕ → ℕ → Type 0
  Below j k = (c : ℕ) × Part j c × Under c k

  abbrev Inner : ℕ → Happening → Type 0
  Inner j (came clock k port content fate) = Below j k
  Inner j (went clock k out) = Below j k
  Inner j (waited advance) = Unit {0}

  below-under : {j k : ℕ} → j < length t.rows → Below j k → Under j k
  below-under l (c, p, u) = under-join l p u

  inner_up : (i c : ℕ) → Part i c → (h : Happening) → Inner c h → Inner i h
  inner_up i c p (came clock k port content fate) b = (c, p, below-under p.0 b)
  inner_up i c p (went clock k out) b = (c, p, below-under p.0 b)
  inner_up i c p (waited advance) u = tt

  record Beside (j : ℕ) (states after : List State) : Type 0 where
    long : length after ≡ length states
    same : (r : ℕ) → (Under j r → ⊥) → state_at after r ≡ state_at states r

  beside-on : {j : ℕ} {x y z : List State} → Beside j x y → Beside j y z → Beside j x z
  beside-on a b = record { long = b.long ∙ a.long; same = λ r l. b.same r l ∙ a.same r l }

  beside-up : {i c : ℕ} {x y : List State} → i < length t.rows → Part i c → Beside c x y → Beside i x y
  beside-up l p a = record { long = a.long; same = λ r n. a.same r (λ u. n (under-join l p u)) }

  put-beside : (j : ℕ) (s : State) (states : List State) → Beside j states (set states j s)
  put-beside j s states = record { long = length-set states j s; same = λ r n. set_other j r s states (λ e. n (subst (Under j) e top)) }

  record Reach (j : ℕ) (w z : World) : Type 0 where
    more : List Happening
    is : z.log ≡ w.log ++ more
    inner : All (Inner j) more
    beside : Beside j w.states z.states

  record Comes (j port content : ℕ) (w z : World) : Type 0 where
    fate : Fate
    more : List Happening
    is : z.log ≡ w.log ++ came clock j port content fate ∷ more
    inner : All (Inner j) more
    beside : Beside j w.states z.states

  record Goes (j : ℕ) (w : World) (r : World × List Out) : Type 0 where
    more : List Happening
    is : r.0.log ≡ w.log ++ (more ++ went clock j r.1 ∷ [])
    inner : All (Inner j) more
    beside : Beside j w.states r.0.states

  joined : (L a b : List Happening) (y z : List Happening) → y ≡ L ++ a → z ≡ y ++ b → z ≡ L ++ (a ++ b)
  joined L a b y z e f = f ∙ ap (λ (x : List Happening). x ++ b) e ∙ append_assoc L a b

  reach-none : (j : ℕ) (w : World) → Reach j w w
  reach-none j w = record { more = []; is = sym (append-nil w.log); inner = nil; beside = record { long = refl; same = λ r l. refl } }

  reach-on : {j : ℕ} {w z y : World} → Reach j w z → Reach j z y → Reach j w y
  reach-on {j} {w} {z} {y} a b = record {
    more = a.more ++ b.more;
    is = joined w.log a.more b.more z.log y.log a.is b.is;
    inner = all_append a.inner b.inner;
    beside = beside-on a.beside b.beside;
  }

  put-reach : (j : ℕ) (s : State) (w : World) → Reach j w (becomes j s w)
  put-reach j s w = record { more = []; is = sym (append-nil w.log); inner = nil; beside = put-beside j s w.states }

  comes-reach : {i c port content : ℕ} {w z : World} → i < length t.rows → Part i c → Comes c port content w z → Reach i w z
  comes-reach {i} {c} {port} {content} {w} {z} l p a = let one : Inner i (came clock c port content a.fate) = (c, p, top) in record {
    more = came clock c port content a.fate ∷ a.more;
    is = a.is;
    inner = one & all-imp (inner_up i c p) a.inner;
    beside = beside-up l p a.beside;
  }

  goes-reach : {i c : ℕ} {w : World} {r : World × List Out} → i < length t.rows → Part i c → Goes c w r → Reach i w r.0
  goes-reach {i} {c} {w} {r} l p a = let one : Inner i (went clock c r.1) = (c, p, top) in record {
    more = a.more ++ went clock c r.1 ∷ [];
    is = a.is;
    inner = all_append (all-imp (inner_up i c p) a.inner) (one & nil);
    beside = beside-up l p a.beside;
  }

  comes-on : {j port content : ℕ} {w z y : World} → Comes j port content w z → Reach j z y → Comes j port content w y
  comes-on {j} {port} {content} {w} {z} {y} a b = record {
    fate = a.fate;
    more = a.more ++ b.more;
    is = joined w.log (came clock j port content a.fate ∷ a.more) b.more z.log y.log a.is b.is;
    inner = all_append a.inner b.inner;
    beside = beside-on a.beside b.beside;
  }

  comes-atom : (j port content place : ℕ) (fate : Fate) (s : State) (w : World) → Comes j port content w (noted (came clock j port content fate) (becomes j s (moved place w)))
  comes-atom j port content place fate s w = record { fate = fate; more = []; is = refl; inner = nil; beside = put-beside j s w.states }

  external-as : (k : Kind) (depth j port content : ℕ) (w : World) → j < length t.rows → ((c port content : ℕ) (w : World) → c < length t.rows → Ends Whatever (Comes c port content w) (external t services depth clock c port content w))
      → Ends Whatever (Comes j port content w) (external_as t services k (external t services depth clock) clock j port content w)
  external-as (processor p) depth j port content w l rec =
      ends-bind _ (ends-whatever (processor_external p services port content (as_processor (state_at w.states j)) w.place)) (λ r _. goes (comes-atom j port content r.1 r.2 (of_processor r.0) w))
  external-as (batcher b) depth j port content w l rec =
      ends-bind _ (ends-whatever (batcher_external b content (as_batcher (state_at w.states j)))) (λ n _. goes (comes-atom j port content w.place Kept (of_batcher n) w))
  external-as (stopwatch p) depth j port content w l rec =
      ends-bind _ (ends-whatever (stopwatch_external p clock port content (as_stopwatch (state_at w.states j)))) (λ r _. goes (comes-atom j port content w.place r.1 (of_stopwatch r.0) w))
  external-as coupled depth j port content w l rec =
      ends-each {P = Whatever} _ _ (all_any (inputs t (id_at t j) port) (λ _. tt))
      (λ (to : Target) w₁ _ a. ends-each {P = Part j} _ w₁ (all-those (λ c. eqb (id_at t c) to.target) (parts-of j) (λ c p _. p))
      (λ c w₂ p b. ends-map (rec c to.port content w₂ p.0) (λ r x. x) (λ z x. comes-on b (comes-reach l p x))) a)
      (record { fate = Passed; more = []; is = refl; inner = nil; beside = record { long = refl; same = λ r l. refl } })

  external-comes : (depth j port content : ℕ) (w : World) → j < length t.rows → Ends Whatever (Comes j port content w) (external t services depth clock j port content w)
  unfolding external
  external-comes zero j port content w l = stops tt
  external-comes (suc depth) j port content w l = external-as (kind_at t j) depth j port content w l (external-comes depth)

  goes-atom : (j place : ℕ) (s : State) (out : List Out) (w : World) → Goes j w (noted (went clock j out) (becomes j s (moved place w)), out)
  goes-atom j place s out w = record { more = []; is = refl; inner = nil; beside = put-beside j s w.states }

  internal-as : (k : Kind) (depth j : ℕ) (w : World) → j < length t.rows → ((c : ℕ) (w : World) → c < length t.rows → Ends Whatever (Goes c w) (internal t services depth clock c w))
      → Ends Whatever (Goes j w) (internal_as t services k depth (external t services depth clock) (internal t services depth clock) clock j w)
  internal-as (processor p) depth j w l rec =
      ends-bind _ (ends-whatever (processor_internal services (as_processor (state_at w.states j)) w.place)) (λ r _. goes (goes-atom j r.1 (of_processor r.0) (map (out_at p.output) r.2) w))
  internal-as (batcher b) depth j w l rec =
      let r = batcher_internal b (as_batcher (state_at w.states j)) in goes (goes-atom j w.place (of_batcher r.0) (map (out_at b.output) r.1) w)
  internal-as (stopwatch p) depth j w l rec =
      let r = stopwatch_internal p (as_stopwatch (state_at w.states j)) in goes (goes-atom j w.place (of_stopwatch r.0) (map (out_at p.output) r.1) w)
  internal-as coupled depth j w l rec =
      ends-bind {Q = Reach j w} _
      (ends-each {P = Part j} _ w (parts-of j)
      (λ c w₁ p a. ends-each {P = Whatever} _ w₁ (all_any (those (λ (m : Parked). eqb m.component (id_at t c)) (as_coupled (state_at w.states j))) (λ _. tt))
      (λ m w₂ _ b. ends-map (external-comes depth c m.port m.content w₂ p.0) (λ r x. x) (λ z x. reach-on b (comes-reach l p x))) a) (reach-none j w))
      (λ w₁ a. ends-bind {Q = λ r. Reach j w r.0} _
      (ends-each {P = Part j} (turn t services depth (internal t services depth clock) j) (becomes j (of_coupled []) w₁, []) (parts-of j)
      (λ c r p b. ends-if (due t depth r.0.states c)
      (λ _. ends-bind _ (rec c r.0 p.0) (λ x g. hands-keep (Reach j w) j c (λ z list q. reach-on q (put-reach j (of_coupled list) z)) x.1 (x.0, r.1) (reach-on b (goes-reach l p g))))
      (λ _. goes {a = r} b))
      (reach-on a (put-reach j (of_coupled []) w₁)))
      (λ r a. goes {a = (noted (went clock j r.1) r.0, r.1)} (record {
        more = a.more;
        is = joined w.log a.more (went clock j r.1 ∷ []) r.0.log (r.0.log ++ went clock j r.1 ∷ []) a.is refl;
        inner = a.inner;
        beside = a.beside;
      })))

  internal-goes : (depth j : ℕ) (w : World) → j < length t.rows → Ends Whatever (Goes j w) (internal t services depth clock j w)
  unfolding internal
  internal-goes zero j w l = stops tt
  internal-goes (suc depth) j w l = internal-as (kind_at t j) depth j w l (internal-goes depth)

  -- ---- the event of the Coupled i: what comes to its components, and what is in its list
  module _ (i : ℕ) (li : i < length t.rows) where
    apart : (k : ℕ) → k < length t.rows → depth_at t i + 1 < depth_at t k → is_component t i k ≡ false
    apart k l d = go (is_component t i k) (λ u. one_deeper i k li (l, u))
      where
        go : (b : Bool) → (T b → depth_at t k ≡ depth_at t i + 1) → b ≡ false
        go true f = absurd (let e = f tt in omega arith)
        go false f = refl

    comings-append : (xs ys : List Happening) → comings t i (xs ++ ys) ≡ comings t i xs ++ comings t i ys
    comings-append [] ys = refl
    comings-append (came clock k port content fate ∷ xs) ys = go (is_component t i k) (comings-append xs ys)
      where
        go : (b : Bool) → comings t i (xs ++ ys) ≡ comings t i xs ++ comings t i ys
            → (if b then (k, port, content) ∷ comings t i (xs ++ ys) else comings t i (xs ++ ys)) ≡ (if b then (k, port, content) ∷ comings t i xs else comings t i xs) ++ comings t i ys
        go true e = ap (λ (z : List (ℕ × ℕ × ℕ)). (k, port, content) ∷ z) e
        go false e = e
    comings-append (went clock k out ∷ xs) ys = comings-append xs ys
    comings-append (waited advance ∷ xs) ys = comings-append xs ys

    newly-append : (xs ys : List Happening) → newly t i (xs ++ ys) ≡ newly t i xs ++ newly t i ys
    newly-append [] ys = refl
    newly-append (came clock k port content fate ∷ xs) ys = newly-append xs ys
    newly-append (went clock k out ∷ xs) ys = go (is_component t i k) (newly-append xs ys)
      where
        go : (b : Bool) → newly t i (xs ++ ys) ≡ newly t i xs ++ newly t i ys
            → (if b then parked_by t i k out ++ newly t i (xs ++ ys) else newly t i (xs ++ ys)) ≡ (if b then parked_by t i k out ++ newly t i xs else newly t i xs) ++ newly t i ys
        go true e = ap (λ (z : List Parked). parked_by t i k out ++ z) e ∙ sym (append_assoc (parked_by t i k out) (newly t i xs) (newly t i ys))
        go false e = e
    newly-append (waited advance ∷ xs) ys = newly-append xs ys

    -- inside a component, nothing comes to a component, and none of them goes
    further-in : (c k : ℕ) → Part i c → Below c k → is_component t i k ≡ false
    further-in c k p (b, q, u) = apart k (under-in q.0 u) (let h = under-deeper u in let e = one_deeper c b p.0 q in let f = one_deeper i c li p in omega arith)

    comings-inside : (c : ℕ) → Part i c → {log : List Happening} → All (Inner c) log → comings t i log ≡ []
    comings-inside c q nil = refl
    comings-inside c q (◌&◌ {x = came clock k port content fate} {xs = xs} h p) = ap (λ (b : Bool). if b then (k, port, content) ∷ comings t i xs else comings t i xs) (further-in c k q h) ∙ comings-inside c q p
    comings-inside c q (◌&◌ {x = went clock k out} h p) = comings-inside c q p
    comings-inside c q (◌&◌ {x = waited advance} h p) = comings-inside c q p

    newly-inside : (c : ℕ) → Part i c → {log : List Happening} → All (Inner c) log → newly t i log ≡ []
    newly-inside c q nil = refl
    newly-inside c q (◌&◌ {x = came clock k port content fate} h p) = newly-inside c q p
    newly-inside c q (◌&◌ {x = went clock k out} {xs = xs} h p) = ap (λ (b : Bool). if b then parked_by t i k out ++ newly t i xs else newly t i xs) (further-in c k q h) ∙ newly-inside c q p
    newly-inside c q (◌&◌ {x = waited advance} h p) = newly-inside c q p

    -- from w to z this came to the components, and of what they put out this list is made
    record Hand (w : World) (arrived : List (ℕ × ℕ × ℕ)) (parked : List Parked) (z : World) : Type 0 where
      more : List Happening
      is : z.log ≡ w.log ++ more
      arrives : comings t i more ≡ arrived
      parks : newly t i more ≡ parked
      long : length z.states ≡ length w.states

    hand_on : {w z y : World} {a b : List (ℕ × ℕ × ℕ)} {p q : List Parked} → Hand w a p z → Hand z b q y → Hand w (a ++ b) (p ++ q) y
    hand_on {w} {z} {y} h k = record {
      more = h.more ++ k.more;
      is = joined w.log h.more k.more z.log y.log h.is k.is;
      arrives = comings-append h.more k.more ∙ rw (h.arrives, k.arrives) refl;
      parks = newly-append h.more k.more ∙ rw (h.parks, k.parks) refl;
      long = k.long ∙ h.long;
    }

    hand-none : (w : World) → Hand w [] [] w
    hand-none w = record { more = []; is = sym (append-nil w.log); arrives = refl; parks = refl; long = refl }

    is-part : (c : ℕ) → Part i c → is_component t i c ≡ true
    is-part c p = go (is_component t i c) p.1
      where
        go : (b : Bool) → T b → b ≡ true
        go true u = refl
        go false u = absurd u

    hand-comes : {c port content : ℕ} {w z : World} → Part i c → Comes c port content w z → Hand w ((c, port, content) ∷ []) [] z
    hand-comes {c} {port} {content} p a = record {
      more = came clock c port content a.fate ∷ a.more;
      is = a.is;
      arrives = ap (λ (b : Bool). if b then (c, port, content) ∷ comings t i a.more else comings t i a.more) (is-part c p) ∙ ap (λ (z : List (ℕ × ℕ × ℕ)). (c, port, content) ∷ z) (comings-inside c p a.inner);
      parks = newly-inside c p a.inner;
      long = a.beside.long;
    }

    hand-goes : {c : ℕ} {w : World} {r : World × List Out} → Part i c → Goes c w r → Hand w [] (parked_by t i c r.1) r.0
    hand-goes {c} {w} {r} p a = record {
      more = a.more ++ went clock c r.1 ∷ [];
      is = a.is;
      arrives = comings-append a.more (went clock c r.1 ∷ []) ∙ rw (comings-inside c p a.inner) refl;
      parks =
          newly-append a.more (went clock c r.1 ∷ [])
          ∙ ap (λ (z : List Parked). z ++ newly t i (went clock c r.1 ∷ [])) (newly-inside c p a.inner)
          ∙ ap (λ (b : Bool). if b then parked_by t i c r.1 ++ [] else []) (is-part c p)
          ∙ append-nil (parked_by t i c r.1);
      long = a.beside.long;
    }

    -- what the component c takes, and what all take
    takes : (depth c : ℕ) → Part i c → (ms : List Parked) (w : World) → Ends Whatever (Hand w (map (λ (m : Parked). (c, m.port, m.content)) ms) []) (each (λ (m : Parked). external t services depth clock c m.port m.content) ms w)
    takes depth c p [] w = goes (hand-none w)
    takes depth c p (m ∷ ms) w = ends-bind _ (external-comes depth c m.port m.content w p.0) (λ z a. ends-map (takes depth c p ms z) (λ r b. b) (λ y h. hand_on (hand-comes p a) h))

    take_all : (depth : ℕ) (list : List Parked) {cs : List ℕ} → All (Part i) cs → (w : World)
        → Ends Whatever (Hand w (handed_to t list cs) []) (each (λ c. each (λ (m : Parked). external t services depth clock c m.port m.content) (those (λ (m : Parked). eqb m.component (id_at t c)) list)) cs w)
    take_all depth list nil w = goes (hand-none w)
    take_all depth list (◌&◌ {x = c} p ps) w = ends-bind _ (takes depth c p (those (λ (m : Parked). eqb m.component (id_at t c)) list) w) (λ z a. ends-map (take_all depth list ps z) (λ r b. b) (λ y h. hand_on a h))

    -- what a component puts out is parked behind what the list has
    abbrev Lists : List Parked → List Happening → ℕ → World × List Out → Type 0
    Lists list log long r = (state_at r.0.states i ≡ of_coupled list) × (r.0.log ≡ log) × (length r.0.states ≡ long)

    abbrev parks_as : ℕ → Out → List Parked
    parks_as c m = map (λ (to : Target). record { component = to.target; port = to.port; content = m.content }) (internals t (id_at t i) (id_at t c) m.port)

    hand-lists : (c : ℕ) (m : Out) (r : World × List Out) (list : List Parked) → i < length r.0.states → state_at r.0.states i ≡ of_coupled list
        → Ends Whatever (Lists (list ++ parks_as c m) r.0.log (length r.0.states)) (hand t services i c m r)
    hand-lists c m r list l e =
        ends-bind {Q = λ w. Lists (list ++ parks_as c m) r.0.log (length r.0.states) (w, [])} _
        (ends-bind _ (ends-most most_parked NoMessageRoom (as_coupled (state_at r.0.states i) ++ parks_as c m) tt)
        (λ more k. goes (get_or-set_same r.0.states i (of_coupled more) (of_coupled []) l ∙ ap of_coupled (k.0 ∙ ap (λ (z : State). as_coupled z ++ parks_as c m) e), refl, length-set r.0.states i (of_coupled more))))
        (λ w k. ends-bind {Q = Whatever} _ (ends-whatever (at_most most_out NoMessageRoom (r.1 ++ map (λ port. out_at port m.content) (outputs t (id_at t i) (id_at t c) m.port)))) (λ out _. goes {a = (w, out)} k))

    hands-list : (c : ℕ) (out : List Out) (r : World × List Out) (list : List Parked) → i < length r.0.states → state_at r.0.states i ≡ of_coupled list
        → Ends Whatever (Lists (list ++ parked_by t i c out) r.0.log (length r.0.states)) (each (hand t services i c) out r)
    hands-list c [] r list l e = goes (e ∙ ap of_coupled (sym (append-nil list)), refl, refl)
    hands-list c (m ∷ out) r list l e =
        ends-bind _ (hand-lists c m r list l e)
        (λ y k. ends-map (hands-list c out y (list ++ parks_as c m) (let n = k.2 in omega arith) k.0) (λ r b. b)
        (λ x h. (h.0 ∙ ap of_coupled (append_assoc list (parks_as c m) (parked_by t i c out)), h.1 ∙ k.1, h.2 ∙ k.2)))

    -- the turns of the components, after the list was emptied in w
    record Turned (w : World) (r : World × List Out) : Type 0 where
      list : List Parked
      made : Hand w [] list r.0
      has : state_at r.0.states i ≡ of_coupled list

    turned_on : (depth c : ℕ) → Part i c → (w : World) → i < length w.states → (r : World × List Out) → Turned w r → Ends Whatever (Turned w) (turn t services depth (internal t services depth clock) i c r)
    turned_on depth c p w l r h =
        ends-if (due t depth r.0.states c)
        (λ _. ends-bind _ (internal-goes depth c r.0 p.0)
        (λ x g. let made = hand_on h.made (hand-goes p g) in let deeper = one_deeper i c li p in
        ends-map (hands-list c x.1 (x.0, r.1) h.list (let n = made.long in omega arith) (g.beside.same i (λ u. let b = under-deeper u in absurd (omega arith)) ∙ h.has)) (λ r b. b)
        (λ y k. record {
          list = h.list ++ parked_by t i c x.1;
          made = record { more = made.more; is = k.1 ∙ made.is; arrives = made.arrives; parks = made.parks; long = k.2 ∙ made.long };
          has = k.0;
        })))
        (λ _. goes {a = r} h)

    itself-no-part : is_component t i i ≡ false
    itself-no-part = go (is_component t i i) (λ u. one_deeper i i li (li, u))
      where
        go : (b : Bool) → (T b → depth_at t i ≡ depth_at t i + 1) → b ≡ false
        go true f = absurd (let e = f tt in omega arith)
        go false f = refl

    record Event (w : World) (r : World × List Out) : Type 0 where
      since : List Happening
      behind-it : r.0.log ≡ w.log ++ since
      handed : comings t i since ≡ handed_to t (as_coupled (state_at w.states i)) (components t (id_at t i))
      list-after : state_at r.0.states i ≡ of_coupled (newly t i since)

    its-event : (depth : ℕ) (w : World) → kind_at t i ≡ coupled → i < length w.states → Ends Whatever (Event w) (internal t services depth clock i w)
    unfolding internal
    its-event zero w is l = stops tt
    its-event (suc depth) w is l =
        event-as depth i w is
        (ends-bind _ (take_all depth (as_coupled (state_at w.states i)) (parts-of i) w)
        (λ w₁ a. let long : i < length w₁.states = (let n = a.long in omega arith) in
        ends-bind {Q = Turned w₁} _
        (ends-each {P = Part i} (turn t services depth (internal t services depth clock) i) (becomes i (of_coupled []) w₁, []) (parts-of i) (λ c r p h. turned_on depth c p w₁ long r h)
        (record {
          list = [];
          made = record { more = []; is = sym (append-nil w₁.log); arrives = refl; parks = refl; long = length-set w₁.states i (of_coupled []) };
          has = get_or-set_same w₁.states i (of_coupled []) (of_coupled []) long;
        }))
        (λ r h. let both = hand_on a h.made in let last = went clock i r.1 ∷ [] in goes {a = (noted (went clock i r.1) r.0, r.1)} (record {
          since = both.more ++ last;
          behind-it = joined w.log both.more last r.0.log (r.0.log ++ last) both.is refl;
          handed = comings-append both.more last ∙ ap (λ (z : List (ℕ × ℕ × ℕ)). z ++ []) both.arrives ∙ append-nil _ ∙ append-nil _;
          list-after =
              h.has
              ∙ ap of_coupled (sym (newly-append both.more last ∙ rw (both.parks, itself-no-part) (append-nil h.list)));
        }))))

  -- ---- the Coupled i, with `parked` in its list
  module _ (i : ℕ) (li : i < length t.rows) (is : kind_at t i ≡ coupled) (parked : List Parked) (full : parked ≡ [] → ⊥) where
    -- it waits for its event, its list as it was
    record Waits (w : World) : Type 0 where
      list : state_at w.states i ≡ of_coupled parked
      silent : All (NotItsEvent i) w.log

    -- it has had it, and it and all that is inside is as the event left it
    record Handled (w : World) : Type 0 where
      hands : HandsOver t services clock i parked w.log
      list : state_at w.states i ≡ of_coupled (newly t i hands.since)
      inside : (k : ℕ) → Under i k → state_at w.states k ≡ state_at hands.left.states k

    -- both are kept by what happens elsewhere: where no event of the Coupled is told, and the rows F stay as they are
    abbrev Calm : (ℕ → Type 0) → (World → Type 0) → Type 0
    Calm F X = (w z : World) (more : List Happening) → z.log ≡ w.log ++ more → All (NotItsEvent i) more → ((k : ℕ) → F k → state_at z.states k ≡ state_at w.states k) → X w → X z

    waits-more : Calm (λ k. k ≡ i) Waits
    waits-more w z more e n s h = record { list = s i refl ∙ h.list; silent = subst (All (NotItsEvent i)) (sym e) (all_append h.silent n) }

    handled-more : Calm (Under i) Handled
    handled-more w z more e n s r = let h = r.hands in record {
      hands = record {
        depth = h.depth;
        before = h.before;
        left = h.left;
        out = h.out;
        deep-enough = h.deep-enough;
        event = h.event;
        held = h.held;
        its-first = h.its-first;
        since = h.since;
        behind-it = h.behind-it;
        handed = h.handed;
        list-after = h.list-after;
        rest = h.rest ++ more;
        its-last = all_append h.its-last n;
        told = joined h.left.log h.rest more w.log z.log h.told e;
      };
      list = s i top ∙ r.list;
      inside = λ k u. s k u ∙ r.inside k u;
    }

    module _ (F : ℕ → Type 0) (X : World → Type 0) (calm : Calm F X) where
      calm_put : (k place : ℕ) (s : State) (w : World) → (F k → ⊥) → X w → X (becomes k s (moved place w))
      calm_put k place s w apart x = calm w (becomes k s (moved place w)) [] (sym (append-nil w.log)) nil (λ j f. set_other k j s w.states (λ e. apart (subst F (sym e) f))) x

      calm-noted : (h : Happening) (w : World) → NotItsEvent i h → X w → X (noted h w)
      calm-noted h w n x = calm w (noted h w) (h ∷ []) refl (n & nil) (λ j f. refl) x

      elsewhere : (y : ℕ) → y < length t.rows → (Under y i → ⊥) → (h : Happening) → Inner y h → NotItsEvent i h
      elsewhere y l n (came clock k port content fate) b = tt
      elsewhere y l n (went clock k out) b = λ e. n (subst (Under y) e (below-under l b))
      elsewhere y l n (waited advance) b = tt

      calm_goes : (y : ℕ) → y < length t.rows → (Under y i → ⊥) → ((k : ℕ) → F k → Under y k → ⊥) → (w : World) (r : World × List Out) → Goes y w r → X w → X r.0
      calm_goes y l n clear w r g x =
          calm w r.0 (g.more ++ went clock y r.1 ∷ []) g.is (all_append (all-imp (elsewhere y l n) g.inner) ((λ e. n (subst (Under y) e top)) & nil)) (λ k f. g.beside.same k (clear k f)) x

      turn-calm : (depth k y : ℕ) → (F k → ⊥) → y < length t.rows → (Under y i → ⊥) → ((k : ℕ) → F k → Under y k → ⊥) → (r : World × List Out) → X r.0 → Ends Whatever (λ r. X r.0) (turn t services depth (internal t services depth clock) k y r)
      turn-calm depth k y apart l n clear r x =
          ends-if (due t depth r.0.states y)
          (λ _. ends-bind _ (internal-goes depth y r.0 l) (λ z g. hands-keep X k y (λ w list x₁. calm_put k w.place (of_coupled list) w apart x₁) z.1 (z.0, r.1) (calm_goes y l n clear r.0 z g x)))
          (λ _. goes {a = r} x)

      root_turn-calm : (y : ℕ) → y < length t.rows → (Under y i → ⊥) → ((k : ℕ) → F k → Under y k → ⊥) → (r : World × List Message) → X r.0 → Ends Whatever (λ r. X r.0) (root_turn t services clock y r)
      root_turn-calm y l n clear r x =
          ends-if (due t levels r.0.states y)
          (λ _. ends-bind _ (internal-goes levels y r.0 l)
          (λ z g. ends-bind {Q = Whatever} _ (ends-whatever (each (send t clock y) z.1 r.1)) (λ sent _. goes {a = (z.0, sent)} (calm_goes y l n clear r.0 z g x))))
          (λ _. goes {a = r} x)

    waits-arrives : Arrives t Waits
    waits-arrives = record {
      atom = λ k place s w a x. calm_put (λ k. k ≡ i) Waits waits-more k place s w (atom-other t i k is a) x;
      message = λ clock k port content fate w x. calm-noted (λ k. k ≡ i) Waits waits-more (came clock k port content fate) w tt x;
    }

    -- what is not around the Coupled has no row of it, if it is no deeper
    clear-of-it : (y : ℕ) → (Under y i → ⊥) → (k : ℕ) → k ≡ i → Under y k → ⊥
    clear-of-it y n k e u = n (subst (Under y) e u)

    clear-inside : (y : ℕ) → depth_at t y ≤ depth_at t i → (Under y i → ⊥) → (k : ℕ) → Under i k → Under y k → ⊥
    clear-inside y d n k u v = n (under-chain v u d)

    unpark-waits : (depth k : ℕ) (list : List Parked) (w : World) → Waits w → Ends Whatever Waits (unpark t services (external t services depth clock) k list w)
    unpark-waits depth k list w h =
        ends-each {P = Whatever} _ w (all_any (components t (id_at t k)) (λ _. tt))
        (λ c w₁ _ h₁. ends-each {P = Whatever} _ w₁ (all_any (those (λ (p : Parked). eqb p.component (id_at t c)) list) (λ _. tt))
        (λ p w₂ _ h₂. arriving t services Waits waits-arrives depth clock c p.port p.content w₂ h₂) h₁) h

    -- so its components are as the event left them
    parts-inside : (w : World) (h : Handled w) (j : ℕ) → Among j (components t (id_at t i)) → state_at w.states j ≡ state_at h.hands.left.states j
    parts-inside w h j a = h.inside j (part top li (all-at (parts-of i) a))

    -- its own event
    in-states : (w : World) → Waits w → i < length w.states
    in-states w h = in_rows w.states i (λ e. full (sym (ap as_coupled h.list) ∙ e))

    itself : (depth : ℕ) (w : World) → Deep t depth i → Waits w → Ends Whatever (λ r. Handled r.0) (internal t services depth clock i w)
    itself depth w deep h = ends-map (ends-both (ends-known (ends-whatever (internal t services depth clock i w))) (its-event i li depth w is (in-states w h))) (λ r b. b) (λ r e. record {
      hands = record {
        depth = depth;
        before = w;
        left = r.0;
        out = r.1;
        deep-enough = deep;
        event = e.0;
        held = ap as_coupled h.list;
        its-first = h.silent;
        since = e.1.since;
        behind-it = e.1.behind-it;
        handed = e.1.handed ∙ ap (λ (s : State). handed_to t (as_coupled s) (components t (id_at t i))) h.list;
        list-after = ap as_coupled e.1.list-after;
        rest = [];
        its-last = nil;
        told = sym (append-nil r.0.log);
      };
      list = e.1.list-after;
      inside = λ k u. refl;
    })

    -- ---- it has its turn: while it waits, it and each Coupled around it is due
    module _ (short : T (is_word (length services))) (c : T (is_time clock)) (first-in : Parked) (others : List Parked) (begins : parked ≡ first-in ∷ others) where
      abbrev Fits : World × List Out → Type 0
      Fits = Gone t ok services short NotTwenty Whatever (any-closed t)

      -- the row k is that Coupled or one around it; it is due, and in its event the Coupled has its own
      abbrev Leads : ℕ → ℕ → Type 0
      Leads depth k = Under k i × ((w : World) → Good t w → Waits w → T (due t depth w.states k) × Ends Whatever (λ r. Handled r.0) (internal t services depth clock k w))

      leads-itself : (depth : ℕ) → Deep t (suc depth) i → Leads (suc depth) i
      leads-itself depth deep = (top, λ w g h. (subst T (sym (due-parked t ok w.states g.0 depth i first-in others (h.list ∙ ap of_coupled begins))) tt, itself (suc depth) w deep h))

      module _ (depth k j : ℕ) (lk : k < length t.rows) (p : Part k j) (couples : kind_at t k ≡ coupled) (deep : Deep t (suc depth) k) (leads : Leads depth j) where
        around : k ≡ i → ⊥
        around e = let d = under-deeper leads.0 in let f = one_deeper k j lk p in let z = ap (depth_at t) e in omega arith

        not-inside : Under i k → ⊥
        not-inside u = let d = under-deeper leads.0 in let f = one_deeper k j lk p in let z = under-deeper u in omega arith

        -- the other components have nothing to do with it
        not-other : (y : ℕ) → (y ≡ j → ⊥) → Part k y → Under y i → ⊥
        not-other y n q u = n (under_one u leads.0 (one_deeper k y lk q ∙ sym (one_deeper k j lk p)))

        not-deeper : (y : ℕ) → Part k y → depth_at t y ≤ depth_at t i
        not-deeper y q = let d = under-deeper leads.0 in let f = one_deeper k j lk p in let e = one_deeper k y lk q in omega arith

        brings : (r : World × List Out) → Good t r.0 → Waits r.0 → Ends Whatever (λ r. Handled r.0) (turn t services depth (internal t services depth clock) k j r)
        brings r g h =
            let l = leads.1 r.0 g h in
            ends-if (due t depth r.0.states j)
            (λ _. ends-bind _ l.1 (λ x q. hands-keep Handled k j (λ w list q₁. calm_put (Under i) Handled handled-more k w.place (of_coupled list) w not-inside q₁) x.1 (x.0, r.1) q))
            (λ n. absurd (T_not (due t depth r.0.states j) n l.0))

        event-brings : (w : World) → Good t w → Waits w → Ends Whatever (λ r. Handled r.0) (internal t services (suc depth) clock k w)
        event-brings w g h =
            event-as depth k w couples
            (ends-bind _
            (ends-both (unpark-waits depth k (as_coupled (state_at w.states k)) w h)
            (unpark-keeps t ok services short NotTwenty Whatever (any-closed t) depth (external t services depth clock) (external-keeps t ok services short NotTwenty Whatever (any-closed t) clock c depth) k w couples deep (g, tt)))
            (λ w₁ b. ends-bind {Q = λ r. Handled r.0} _
            (ends-once {K = λ r. Waits r.0 × Fits r} {R = λ r. Handled r.0} {P = λ y. Deep t depth y × Part k y} (turn t services depth (internal t services depth clock) k) j (becomes k (of_coupled []) w₁, [])
            (once-those (is_component t k) j 0 (length t.rows) (omega arith) (let l = p.0 in omega arith) p.1) (all_both (deep couples) (parts-of k))
            (λ y r n q b₁. ends-both (turn-calm (λ k. k ≡ i) Waits waits-more depth k y around q.1.0 (not-other y n q.1) (clear-of-it y (not-other y n q.1)) r b₁.0)
            (turn-keeps t ok services short NotTwenty Whatever (any-closed t) depth k y (internal t services depth clock) r (internal-keeps t ok services short NotTwenty Whatever (any-closed t) clock c depth) q.0 couples b₁.1))
            (λ r _ b₁. brings r b₁.1.0.0 b₁.0)
            (λ y r n q r₁. turn-calm (Under i) Handled handled-more depth k y not-inside q.1.0 (not-other y n q.1) (clear-inside y (not-deeper y q.1) (not-other y n q.1)) r r₁) (
              calm_put (λ k. k ≡ i) Waits waits-more k w₁.place (of_coupled []) w₁ around b.0,
              (((fitted-set k (of_coupled []) b.1.0.0 (subst (λ (z : Kind). T (state_fits z (of_coupled []))) (sym couples) tt), b.1.0.1), tt), nil),
            ))
            (λ r q. goes {a = (noted (went clock k r.1) r.0, r.1)} (calm-noted (Under i) Handled handled-more (went clock k r.1) r.0 around q))))

        leads-up : Leads (suc depth) k
        leads-up = (under-join lk p leads.0, λ w g h. (due-component t ok w.states g.0 depth k j p.0 couples p.1 (leads.1 w g h).0, event-brings w g h))

      -- ---- the turns of the parentless rows
      abbrev Turns : World × List Message → Type 0
      Turns r = Ends Whatever (λ r. Handled r.0) (each (root_turn t services clock) (parentless t) r)

      abbrev Top : ℕ → Type 0
      Top k = (k < length t.rows) × T (is_parentless (row_at t k).parent)

      tops : All Top (parentless t)
      tops = all-those (λ k. is_parentless (row_at t k).parent) (all_in t ok) (λ k l p. (l, p))

      depth-one : (k : ℕ) → Top k → depth_at t k ≡ 1
      depth-one k p = ok.top k (tells (parentless-decides (row_at t k).parent) p.1)

      -- another parentless row has nothing to do with it
      not_there : (k y : ℕ) → Top k → Top y → (y ≡ k → ⊥) → Under k i → Under y i → ⊥
      not_there k y p q n u v = n (under_one v u (depth-one y q ∙ sym (depth-one k p)))

      top-depth : (k y : ℕ) → Top k → Top y → Under k i → depth_at t y ≤ depth_at t i
      top-depth k y p q u = let d = under-deeper u in let e = depth-one k p in let f = depth-one y q in omega arith

      root-brings : (k : ℕ) → Leads levels k → (r : World × List Message) → Good t r.0 → Waits r.0 → Ends Whatever (λ r. Handled r.0) (root_turn t services clock k r)
      root-brings k leads r g h =
          let l = leads.1 r.0 g h in
          ends-if (due t levels r.0.states k)
          (λ _. ends-bind _ l.1 (λ x q. ends-bind {Q = Whatever} _ (ends-whatever (each (send t clock k) x.1 r.1)) (λ sent _. goes {a = (x.0, sent)} q)))
          (λ n. absurd (T_not (due t levels r.0.states k) n l.0))

      turns : (r : World × List Message) → Waits r.0 → Sent t ok services short NotTwenty Whatever (any-closed t) clock c r → Turns r
      turns r h sent = let found = by-parent t ok Way at_top down i li in found.1.2 (leads-itself found.0 found.1.1)
        where
          Way : ℕ → ℕ → Type 0
          Way depth k = (k < length t.rows) × Deep t depth k × (Leads depth k → Turns r)

          at_top : (k : ℕ) → k < length t.rows → T (is_parentless (row_at t k).parent) → Way levels k
          at_top k l p = (
            l,
            among (λ k. is_parentless (row_at t k).parent) 0 (length t.rows) (parentless-deep t ok) k (omega arith) (omega arith) p,
            λ leads.
                ends-once {K = λ r. Waits r.0 × Sent t ok services short NotTwenty Whatever (any-closed t) clock c r} {R = λ r. Handled r.0} {P = λ y. Deep t levels y × Top y} (root_turn t services clock) k r
                (once-those (λ k. is_parentless (row_at t k).parent) k 0 (length t.rows) (omega arith) (omega arith) p) (all_both (parentless-deep t ok) tops)
                (λ y r₁ n q b. ends-both (root_turn-calm (λ k. k ≡ i) Waits waits-more y q.1.0 (not_there k y (l, p) q.1 n leads.0) (clear-of-it y (not_there k y (l, p) q.1 n leads.0)) r₁ b.0) (root_turn-keeps t ok services short NotTwenty Whatever (any-closed t) clock c y r₁ q.0 b.1))
                (λ r₁ _ b. root-brings k leads r₁ b.1.0.0 b.0)
                (λ y r₁ n q r₂. root_turn-calm (Under i) Handled handled-more y q.1.0 (not_there k y (l, p) q.1 n leads.0) (clear-inside y (top-depth k y (l, p) q.1 leads.0) (not_there k y (l, p) q.1 n leads.0)) r₁ r₂)
                (h, sent),
          )

          down : (depth k j : ℕ) → j < length t.rows → kind_at t k ≡ coupled → T (is_parent (id_at t k) (row_at t j).parent) → Way (suc depth) k → Way depth j
          down depth k j l e s way = (
            l,
            among (λ j. is_parent (id_at t k) (row_at t j).parent) 0 (length t.rows) (way.1 e) j (omega arith) (omega arith) s,
            λ leads. way.2 (leads-up depth k j way.0 (l, s) e way.1 leads),
          )

-- ---- the step
-- a state with something parked is a Coupled's
is-holding : (k : Kind) (s : State) → T (state_fits k s) → (as_coupled s ≡ [] → ⊥) → (k ≡ coupled) × (s ≡ of_coupled (as_coupled s))
is-holding k (of_processor s) f n = absurd (n refl)
is-holding k (of_batcher s) f n = absurd (n refl)
is-holding k (of_stopwatch s) f n = absurd (n refl)
is-holding (processor p) (of_coupled s) f n = absurd f
is-holding (batcher p) (of_coupled s) f n = absurd f
is-holding (stopwatch p) (of_coupled s) f n = absurd f
is-holding coupled (of_coupled s) f n = (refl, refl)

not-empty : (parked : List Parked) → (parked ≡ [] → ⊥) → (m : Parked) × (ms : List Parked) × (parked ≡ m ∷ ms)
not-empty [] n = absurd (n refl)
not-empty (m ∷ ms) n = (m, ms, refl)

module _ (sim : Simulation) (v : Valid sim) (services : List Float) (short : T (is_word (length services))) (i : ℕ) (holds : list_of sim i ≡ [] → ⊥) where
  abbrev t : Table
  t = sim.table

  ok : Fine t
  ok = fine t v.table

  shape : (kind_at t i ≡ coupled) × (state_at sim.states i ≡ of_coupled (list_of sim i))
  shape = is-holding (kind_at t i) (state_at sim.states i) (v.fitted.fit i) holds

  full : (m : Parked) × (ms : List Parked) × (list_of sim i ≡ m ∷ ms)
  full = not-empty (list_of sim i) holds

  inside : i < length t.rows
  inside = let l = in_rows sim.states i holds in let e = v.fitted.same in omega arith

  -- while it is parked, no time passes
  no-advance : (active : List Message) (states : List State) → Fitted t states → state_at states i ≡ of_coupled (list_of sim i) → Ends Whatever (λ a. a ≡ instant) (advance t active states)
  no-advance (m ∷ active) states g e = goes refl
  no-advance [] states g e =
      ends-if (is_never (least_timer t states)) (λ _. stops tt)
      (λ _. goes (law.timers-antisymmetric (least_timer t states) instant (least-is-timer t ok states g) zero
      (subst (λ (s : State). T (le (least_timer t states) (own_timer s))) (e ∙ ap of_coupled full.2) (least-below t ok states g i)) (law.timers-instant (least_timer t states) (least-is-timer t ok states g))))
    where
      zero : T (is_timer instant)
      zero = law.time-timer instant law.instant-time

  no-later : (a : Float) → a ≡ instant → Ends Whatever (λ clock. clock ≡ sim.clock) (later sim.clock a)
  no-later a e =
      ends-if (is_time (add binary64 sim.clock a)) (λ _. goes (ap (add binary64 sim.clock) e ∙ law.later-instant sim.clock v.clock)) (λ _. stops tt)

  abbrev Hands : Simulation → List Happening → Type 0
  Hands next log = (h : HandsOver t services next.clock i (list_of sim i) log) × (list_of next i ≡ newly t i h.since) × AsLeft t i h.left next × (next.clock ≡ sim.clock)

  step-hands : Ends Whatever (λ r. Hands r.0 r.1) (step_on t services sim)
  unfolding step_on
  step-hands =
      ends-bind _
      (ends-both (taken-waits sim.active (world_of sim []) (record { list = shape.1; silent = nil }))
      (taken-keeps t ok services short NotTwenty Whatever (any-closed t) sim.clock v.clock sim.active (world_of sim []) v.active ((v.fitted, v.place), tt)))
      (λ w₁ h. ends-bind _ (ends-both (no-advance sim.active w₁.states h.1.0.0 h.0.list) (advance-ends {B = Whatever} t ok sim.active w₁.states tt h.1.0.0))
      (λ a u. ends-bind _ (ends-both (no-later a u.0) (later-ends {B = Whatever} sim.clock a tt))
      (λ clock e. ends-bind {Q = λ r. Handled t services clock ok i inside shape.0 (list_of sim i) holds r.0} _
      (turns t services clock ok i inside shape.0 (list_of sim i) holds short e.1 full.0 full.1 full.2 (all_after a w₁, [])
      (record { list = after-at a w₁.states i ∙ ap (after a) h.0.list; silent = all_append h.0.silent (tt & nil) })
      (((fitted-after a w₁.states h.1.0.0 u.1.0 u.1.1, h.1.0.1), tt), (nil, omega arith)))
      (λ r q. goes (q.hands, ap as_coupled q.list, parts-inside t services clock ok i inside shape.0 (list_of sim i) holds r.0 q, e.0)))))
    where
      taken-waits : (active : List Message) (w : World) → Waits t services sim.clock ok i inside shape.0 (list_of sim i) holds w → Ends Whatever (Waits t services sim.clock ok i inside shape.0 (list_of sim i) holds) (taken t services sim.clock active w)
      taken-waits active w h =
          ends-each {P = Whatever} _ w (all_any (parentless t) (λ _. tt))
          (λ k w₁ _ h₁. ends-each {P = Whatever} _ w₁ (all_any (those (λ (m : Message). eqb m.target_id (id_at t k)) active) (λ _. tt))
          (λ m w₂ _ h₂. arriving t services _ (waits-arrives t services sim.clock ok i inside shape.0 (list_of sim i) holds) levels sim.clock k m.target_port m.content w₂ h₂) h₁) h

-- ---- the theorems
-- in the next step that is not refused, the Coupled hands over what is parked in it; after the step its list is what was newly parked, its components are as its event left them, and the clock is what it was
pub handed-on : (services : List Float) (sim next : Simulation) (log : List Happening) (i : ℕ) → T (is_word (length services)) → T (is_valid sim) → (list_of sim i ≡ [] → ⊥) → one_step services sim ≡ done (next, log)
    → (h : HandsOver sim.table services next.clock i (list_of sim i) log) × (list_of next i ≡ newly sim.table i h.since) × AsLeft sim.table i h.left next × (next.clock ≡ sim.clock)
handed-on services sim next log i short valid holds e = ends-done (step-hands sim (valid-of sim valid) services short i holds) e

-- a message that is parked for a component is among what comes to it then
pub comes-to-it : (t : Table) (services : List Float) (clock : Float) (i : ℕ) (parked : List Parked) (log : List Happening) (h : HandsOver t services clock i parked log) (m : Parked) (j : ℕ)
    → Among m parked → Among j (components t (id_at t i)) → id_at t j ≡ m.component → Among {A = ℕ × ℕ × ℕ} (j, m.port, m.content) (comings t i h.since)
comes-to-it t services clock i parked log h m j listed component for-it = subst (Among {A = ℕ × ℕ × ℕ} (j, m.port, m.content)) (sym h.handed) (go component)
  where
    before : {A : Type 0} {x : A} {xs : List A} (ys : List A) → Among x xs → Among x (xs ++ ys)
    before ys first = first
    before ys (further a) = further (before ys a)

    behind-them : {A : Type 0} {x : A} (xs : List A) {ys : List A} → Among x ys → Among x (xs ++ ys)
    behind-them [] a = a
    behind-them (y ∷ xs) a = further (behind-them xs a)

    mapped : {xs : List Parked} → Among m xs → Among {A = ℕ × ℕ × ℕ} (j, m.port, m.content) (map (λ (p : Parked). (j, p.port, p.content)) xs)
    mapped first = first
    mapped (further a) = further (mapped a)

    its_own : Among m (those (λ (p : Parked). eqb p.component (id_at t j)) parked)
    its_own = among-those (λ (p : Parked). eqb p.component (id_at t j)) m listed (subst (λ (n : ℕ). T (eqb m.component n)) (sym for-it) (eqb_refl m.component))

    go : {cs : List ℕ} → Among j cs → Among {A = ℕ × ℕ × ℕ} (j, m.port, m.content) (handed_to t parked cs)
    go (first {xs = cs}) = before (handed_to t parked cs) (mapped its_own)
    go (further {y = c} {xs = cs} a) = behind-them (map (λ (p : Parked). (c, p.port, p.content)) (those (λ (p : Parked). eqb p.component (id_at t c)) parked)) (go a)

-- while something is parked anywhere, a step is not refused with 12
pub parked-not-idle : (services : List Float) (sim : Simulation) (i : ℕ) → T (is_valid sim) → (list_of sim i ≡ [] → ⊥) → one_step services sim ≡ refused Idle → ⊥
parked-not-idle services sim i valid holds e = holds (((idle-exactly services sim valid).0 e).2 i)

-- so after any step that is not refused, whatever services the next one has
pub next-not-idle : (services more : List Float) (sim next : Simulation) (log : List Happening) (i : ℕ) → T (is_word (length services)) → T (is_valid sim) → one_step services sim ≡ done (next, log)
    → (list_of next i ≡ [] → ⊥) → one_step more next ≡ refused Idle → ⊥
next-not-idle services more sim next log i short valid e holds =
    parked-not-idle more next i (is-valid next (ends-done (step-ends NotTwenty Whatever services sim short (any-closed sim.table) (valid-of sim valid) tt) e).0) holds

-- ---- so a run that ends with 12 leaves nothing parked
same-refusal : (r q : Refusal) → Refused r ≡ Refused q → r ≡ q
same-refusal r q e = cc

full-not-idle : Refused NoOutRoom ≡ Refused Idle → ⊥
full-not-idle e = let n : ◌≡◌ {A = ℕ} 0 1 = cc in omega arith

done-not-idle : Done ≡ Refused Idle → ⊥
done-not-idle e = let n : ◌≡◌ {A = ℕ} 0 1 = cc in omega arith

reached-not-idle : Reached ≡ Refused Idle → ⊥
reached-not-idle e = let n : ◌≡◌ {A = ℕ} 0 1 = cc in omega arith

spent-not-idle : Spent ≡ Refused Idle → ⊥
spent-not-idle e = let n : ◌≡◌ {A = ℕ} 0 1 = cc in omega arith

bad-not-idle : Refused BadState ≡ Refused Idle → ⊥
bad-not-idle e = let n : ◌≡◌ {A = ℕ} 0 1 = cc in omega arith

late-not-idle : Refused BadTime ≡ Refused Idle → ⊥
late-not-idle e = let n : ◌≡◌ {A = ℕ} 0 1 = cc in omega arith

module _ (services : List Float) (short : T (is_word (length services))) where
  abbrev Empties : Ran → Type 0
  Empties r = r.end ≡ Refused Idle → NoneParked r.sim.states

  -- a step and then the rest, which is asked about only where the step is done
  after_one : (room : ℕ) (sim : Simulation) → Valid sim → (rest : Simulation → Ran) → ((next : Simulation) → Valid next → Empties (rest next))
      → (o : Outcome (Simulation × List Happening)) → one_step services sim ≡ o → Empties (onward sim (o >>= fitting room) rest)
  after_one room sim v rest rec (refused r) e q = ((idle-exactly services sim (is-valid sim v)).0 (e ∙ ap refused (same-refusal r Idle q))).2
  after_one room sim v rest rec (done (next, log)) e q = go (leb (length next.active) room) q
    where
      left : Valid next
      left = (ends-done (step-ends NotTwenty Whatever services sim short (any-closed sim.table) v tt) e).0

      go : (b : Bool) → Empties (onward sim (if b then done (next, log) else refused NoOutRoom) rest)
      go true q = rec next left q
      go false q = absurd (full-not-idle q)

  steps-empty : (n room : ℕ) (sim : Simulation) → Valid sim → Empties (steps services room n sim)
  unfolding steps
  steps-empty zero room sim v q = absurd (done-not-idle q)
  steps-empty (suc n) room sim v q = after_one room sim v (λ next. steps services (room - length next.active) n next) (λ next w. steps-empty n (room - length next.active) next w) (one_step services sim) refl q

  until-empty : (until : Float) (n room : ℕ) (sim : Simulation) → Valid sim → Empties (steps_until services until room n sim)
  unfolding steps_until
  until-empty until zero room sim v q = absurd (spent-not-idle q)
  until-empty until (suc n) room sim v q = go (one_step services sim) refl (λ next w. until-empty until n (room - length next.active) next w) q
    where
      rest : Simulation → Ran
      rest next = steps_until services until (room - length next.active) n next

      one : (o : Outcome (Simulation × List Happening)) → one_step services sim ≡ o → ((next : Simulation) → Valid next → Empties (rest next)) → Empties (onward sim (o >>= fitting room) rest)
      one o e rec = after_one room sim v rest rec o e

      go : (o : Outcome (Simulation × List Happening)) → one_step services sim ≡ o → ((next : Simulation) → Valid next → Empties (rest next)) → Empties (look until room sim o rest)
      go (refused r) e rec = one (refused r) e rec
      go (done (next, log)) e rec = looked (lt next.clock until)
        where
          looked : (b : Bool) → Empties (if b then onward sim (fitting room (next, log)) rest else then_ran [] log (ended Reached next))
          looked true q = one (done (next, log)) e rec q
          looked false q = absurd (reached-not-idle q)

  pub step_n-empties : (room count : ℕ) (sim : Simulation) → (step_n services room count sim).end ≡ Refused Idle → NoneParked (step_n services room count sim).sim.states
  unfolding step_n
  step_n-empties room count sim = go (is_valid sim) (valid-of sim)
    where
      go : (b : Bool) → (T b → Valid sim) → Empties (if b then steps services room count sim else ended (Refused BadState) sim)
      go true v q = steps-empty count room sim (v tt) q
      go false v q = absurd (bad-not-idle q)

  pub step_until-empties : (until : Float) (room allowance : ℕ) (sim : Simulation) → (step_until services until room allowance sim).end ≡ Refused Idle → NoneParked (step_until services until room allowance sim).sim.states
  unfolding step_until
  step_until-empties until room allowance sim = go (is_valid sim) (valid-of sim) (not (is_time until))
    where
      go : (b : Bool) → (T b → Valid sim) → (late : Bool) → Empties (if not b then ended (Refused BadState) sim else if late then ended (Refused BadTime) sim else steps_until services until room allowance sim)
      go true v false q = until-empty until allowance room sim (v tt) q
      go true v true q = absurd (late-not-idle q)
      go false v late q = absurd (bad-not-idle q)
