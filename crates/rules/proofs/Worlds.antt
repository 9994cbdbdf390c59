-- What every event and every step keeps: the rules of refusal 20, and any K that the single events keep (`Closed`), with the refusals among a set B. Assumes nothing.
use Prim.Native.Nat.{ℕ, zero, suc, ◌≤◌}
use Rattle.std.specs.Prelude.{◌≡◌, ◌⊎◌, Bool, true, false, not, ◌&&◌, List, [], ◌∷◌, ◌++◌, map, length, set, T, eqb, Float, if◌then◌else◌, Option, None, Some}
use Rattle.std.proofs.Math.Path.{refl}
use Rattle.std.proofs.Common.{sym, ◌∙◌, subst, inl, inr, arith, length-set, le→leb}
use Rattle.std.proofs.lemmas.List.{length-map}
use Rattle.std.proofs.Math.ListN.{get_or-map}
use Rattle.std.specs.Float.{binary64}
use Rattle.std.specs.Float.Ieee.{sub, add, le}
use Rattle.times.specs.Time.{never, is_never, is_time, is_timer}
use Rattle.times.proofs.Laws as law
use Rattle.rules.specs.declared.Refusal.{Refusal}
use Rattle.rules.specs.declared.Refusal.TheVariants.{InvalidModelState, NoMessageRoom, ClockOverflow, Idle}
use Rattle.rules.specs.declared.Processor.{Processor}
use Rattle.rules.specs.declared.Batcher.{Batcher}
use Rattle.rules.specs.declared.Stopwatch.{Stopwatch}
use Rattle.rules.specs.declared.Message.{Message}
use Rattle.rules.specs.Sizes.{is_id, is_port, is_content, is_word, most_parked, most_out, most_active}
use Rattle.rules.specs.Base.{hold}
use Rattle.rules.specs.Table.{Kind, processor, batcher, stopwatch, coupled, Row, Connector, Coupling, external_input, external_output, internal_coupling, Table, Target, id_at, kind_at, connected, inputs, outputs, internals, output_of, internal_of}
use Rattle.rules.specs.Intake.{kind_rules, connector_rules, coupling_rules}
use Rattle.rules.specs.Simulation.{BatcherState, StopwatchState, Parked, State, of_processor, of_batcher, of_stopwatch, of_coupled, Simulation, state_at, as_processor, as_batcher, as_stopwatch, as_coupled}
use Rattle.rules.specs.Models.{Fate, Kept, Passed, batcher_external, batcher_internal, stopwatch_internal}
use Rattle.rules.specs.Step.{Out, out_at, Happening, came, went, World, noted, becomes, moved, levels, due, External, Internal, external_as, external, unpark, park, hand, turn, internal_as, internal, taken, least_timer, advance, after, all_after, later, along, send, root_turn, step_on}
use Rattle.rules.specs.Valid.{batcher_rules, stopwatch_rules, parked_rules, coupled_rules, kind_number, state_number, state_rules, state_fits, message_rules}
use Rattle.rules.specs.Ends.{if-both, no-some, All, nil, ◌&◌, all_any, all_append, all_map, all-those, all-chosen, every-all, all-every, parts, whole_of, Ends, stops, goes, ends-if, ends-bind, ends-map, ends-both, ends-each, ends-most}
use Rattle.rules.specs.Decides.{tells, passes, timer-decides, processor-decides, batcher-decides, stopwatch-decides, coupled-state-decides, StateKeeps, of-processor, of-batcher, of-stopwatch, of-coupled, state-decides}
use Rattle.rules.specs.Depth.{Fine, Deep, parentless-deep}
use Rattle.rules.proofs.Least.{Fitted, own_timer, Below, fits-timer, least-is-timer, least-below}
use Rattle.rules.specs.Kept.{Other, Contents, processor-external, processor-internal, batcher-external, batcher-internal, stopwatch-external, stopwatch-internal}

-- ---- a world whose states fit, and whose place is a word
abbrev pub Good : Table → World → Type 0
Good t w = Fitted t w.states × T (is_word w.place)

-- what is true of each row's state is true after one is set, where it is true of the new one
pub set_all : (P : ℕ → State → Type 0) (l : List State) (i : ℕ) (s : State) → ((j : ℕ) → P j (state_at l j)) → P i s → (j : ℕ) → P j (state_at (set l i s) j)
set_all P [] i s h k j = h j
set_all P (x ∷ xs) zero s h k zero = k
set_all P (x ∷ xs) zero s h k (suc j) = h (suc j)
set_all P (x ∷ xs) (suc i) s h k zero = h zero
set_all P (x ∷ xs) (suc i) s h k (suc j) = set_all (λ n. P (suc n)) xs i s (λ n. h (suc n)) k j

pub fitted-set : {t : Table} {states : List State} (i : ℕ) (s : State) → Fitted t states → T (state_fits (kind_at t i) s) → Fitted t (set states i s)
fitted-set {t} {states} i s g f = record { same = length-set states i s ∙ g.same; fit = set_all (λ j z. T (state_fits (kind_at t j) z)) states i s g.fit f }

-- ---- what the single events must keep of K, and of a refusal
abbrev pub NotBatcher : Kind → Type 0
NotBatcher (processor p) = Unit {0}
NotBatcher (batcher b) = ⊥
NotBatcher (stopwatch w) = Unit {0}
NotBatcher coupled = Unit {0}

pub record Closed (t : Table) (B : Refusal → Type 0) (K : World → Type 0) : Type 0 where
  pub other : (r : Refusal) → Other r → B r
  pub six : (i : ℕ) (p : Processor) → kind_at t i ≡ processor p → p.queue_capacity ≡ 0 → B InvalidModelState
  pub put_other : (i : ℕ) (s : State) (place : ℕ) (w : World) → NotBatcher (kind_at t i) → K w → K (becomes i s (moved place w))
  pub came-other : (clock : Float) (i port content : ℕ) (fate : Fate) (w : World) → T (is_time clock) → NotBatcher (kind_at t i) → K w → K (noted (came clock i port content fate) w)
  pub went-other : (clock : Float) (i : ℕ) (out : List Out) (w : World) → T (is_time clock) → NotBatcher (kind_at t i) → K w → K (noted (went clock i out) w)
  pub took : (clock : Float) (i port content : ℕ) (b : Batcher) (s : BatcherState) (w : World) → T (is_time clock) → kind_at t i ≡ batcher b → state_at w.states i ≡ of_batcher s → Good t w → K w
      → Ends B (λ n. K (noted (came clock i port content Kept) (becomes i (of_batcher n) w))) (batcher_external b content s)
  pub gave : (clock : Float) (i : ℕ) (b : Batcher) (s : BatcherState) (w : World) → T (is_time clock) → kind_at t i ≡ batcher b → state_at w.states i ≡ of_batcher s → Good t w → K w
      → K (noted (went clock i (map (out_at b.output) (batcher_internal b s).1)) (becomes i (of_batcher (batcher_internal b s).0) w))
  pub aged : (a : Float) (w : World) → Good t w → T (is_time a) → Below a w.states → K w → K (all_after a w)

-- ---- a state of the kind of its row
rules-of : (k : Kind) (s : State) → T (state_fits k s) → All T (state_rules k s)
rules-of k s h = parts (state_rules k s) (if-both (eqb (kind_number k) (state_number s)) (hold (state_rules k s)) h).1

is-batcher : (b : Batcher) (s : State) → T (state_fits (batcher b) s) → s ≡ of_batcher (as_batcher s)
is-batcher b (of_processor x) h = absurd h
is-batcher b (of_batcher x) h = refl
is-batcher b (of_stopwatch x) h = absurd h
is-batcher b (of_coupled x) h = absurd h

-- what is put out has its widths
abbrev pub OutFits : Out → Type 0
OutFits m = T (is_port m.port) × T (is_content m.content)

pub outs-fit : (port : ℕ) {jobs : List ℕ} → T (is_port port) → Contents jobs → All OutFits (map (out_at port) jobs)
outs-fit port s ws = all_map (out_at port) ws (λ x h. (s, h))

processor-output : (p : Processor) → All T (kind_rules (processor p)) → T (is_port p.output)
processor-output p (a & b & c) = b

batcher-output : (b : Batcher) → All T (kind_rules (batcher b)) → T (is_port b.output)
batcher-output b (x & y & z) = y

pub batcher-time : (b : Batcher) → All T (kind_rules (batcher b)) → T (is_time b.max_batch_time)
batcher-time b (x & y & z & u & v & nil) = v

stopwatch-output : (w : Stopwatch) → All T (kind_rules (stopwatch w)) → T (is_port w.output)
stopwatch-output w (a & b & c & d & rest) = d

-- ---- along the couplings
if_some : {A : Type 0} (b : Bool) (x y : A) → ◌≡◌ {A = Option A} (if b then Some x else None) (Some y) → x ≡ y
if_some true x y e = let z : x ≡ y = cc in z
if_some false x y e = absurd (no-some e)

abbrev TargetFits : Target → Type 0
TargetFits to = T (is_id to.target) × T (is_port to.port)

internal-fits : (rows : List Row) (owner source port : ℕ) (c : Coupling) (to : Target) → T (hold (coupling_rules rows c)) → internal_of owner source port c ≡ Some to → TargetFits to
internal-fits rows owner source port (external_input o sp target tp) to h e = absurd (no-some e)
internal-fits rows owner source port (external_output o s sp tp) to h e = absurd (no-some e)
internal-fits rows owner source port (internal_coupling o s sp target tp) to h e =
    subst TargetFits (if_some (eqb o owner && eqb s source && eqb sp port) (record { target = target; port = tp }) to e) (go (parts (coupling_rules rows (internal_coupling o s sp target tp)) h))
  where
    go : All T (coupling_rules rows (internal_coupling o s sp target tp)) → T (is_id target) × T (is_port tp)
    go (a & b & c & d & x & y) = (d, x)

output-fits : (rows : List Row) (owner source port : ℕ) (c : Coupling) (to : ℕ) → T (hold (coupling_rules rows c)) → output_of owner source port c ≡ Some to → T (is_port to)
output-fits rows owner source port (external_input o sp target tp) to h e = absurd (no-some e)
output-fits rows owner source port (external_output o s sp tp) to h e =
    subst (λ (n : ℕ). T (is_port n)) (if_some (eqb o owner && eqb s source && eqb sp port) tp to e) (go (parts (coupling_rules rows (external_output o s sp tp)) h))
  where
    go : All T (coupling_rules rows (external_output o s sp tp)) → T (is_port tp)
    go (a & b & c & d & y) = d
output-fits rows owner source port (internal_coupling o s sp target tp) to h e = absurd (no-some e)

abbrev pub ParkedFits : Parked → Type 0
ParkedFits m = T (hold (parked_rules m))

parked-content : (m : Parked) → All T (parked_rules m) → T (is_content m.content)
parked-content m (a & b & c & nil) = c

abbrev pub MessageFits : Message → Type 0
MessageFits m = T (hold (message_rules m))

message-content : (m : Message) → All T (message_rules m) → T (is_content m.content)
message-content m (a & b & c & d & e & f & nil) = f

pub parked-fit : (parked : List Parked) → All T (coupled_rules parked) → All ParkedFits parked
parked-fit parked (a & b & nil) = every-all (λ m. hold (parked_rules m)) parked b

-- ---- every timer less an advance that is at most each
after-fits : (k : Kind) (s : State) (a : Float) → T (is_time a) → T (le a (own_timer s)) → T (state_fits k s) → T (state_fits k (after a s))
after-fits k s a u l h = go (tells (state-decides k s) h) l
  where
    less : (x : Float) → T (is_time x) ⊎ (x ≡ never) → T (le a x) → T (is_time (sub binary64 x a)) ⊎ (sub binary64 x a ≡ never)
    less x t l = tells (timer-decides (sub binary64 x a)) (law.after-timer x a (passes (timer-decides x) t) u l)

    go : {k : Kind} {s : State} → StateKeeps k s → T (le a (own_timer s)) → T (state_fits k (after a s))
    go (of-processor {p = p} {s = s} h) l =
        passes (processor-decides p (record { phase = s.phase; timer = sub binary64 s.timer a; queue = s.queue }))
        (record { timer = less s.timer h.timer l; length_most = h.length_most; contents = h.contents; capacity = h.capacity; working-on = h.working-on })
    go (of-batcher {s = s} h) l =
        passes (batcher-decides (record { phase = s.phase; timer = sub binary64 s.timer a; jobs = s.jobs }))
        (record { timer = less s.timer h.timer l; length_most = h.length_most; contents = h.contents })
    go (of-stopwatch {s = s} h) l =
        passes (stopwatch-decides (record { phase = s.phase; timer = sub binary64 s.timer a; jobs = s.jobs }))
        (record { timer = less s.timer h.timer l; length_most = h.length_most; marks = h.marks; names-differ = h.names-differ })
    go (of-coupled {parked = parked} h) l = passes (coupled-state-decides parked) h

pub after-at : (a : Float) (states : List State) (i : ℕ) → state_at (map (after a) states) i ≡ after a (state_at states i)
after-at a states i = get_or-map (after a) states i (of_coupled [])

pub fitted-after : {t : Table} (a : Float) (states : List State) → Fitted t states → T (is_time a) → Below a states → Fitted t (map (after a) states)
fitted-after {t} a states g u l = record {
  same = length-map states (after a) ∙ g.same;
  fit = λ i. subst (λ (z : State). T (state_fits (kind_at t i) z)) (sym (after-at a states i)) (after-fits (kind_at t i) (state_at states i) a u (l i) (g.fit i));
}

-- a timer that is not infinite is a time
time-or : (x : Float) → T (is_timer x) → T (not (is_never x)) → T (is_time x)
time-or x t n = elim (law.timer-split x t) [ inl u ↦ u | inr e ↦ absurd (subst (λ (z : Float). T (not (is_never z))) e n) ]

pub advance-ends : {B : Refusal → Type 0} (t : Table) → Fine t → (active : List Message) (states : List State) → B Idle → Fitted t states → Ends B (λ a. T (is_time a) × Below a states) (advance t active states)
advance-ends t ok (m ∷ ms) states b g = goes (law.instant-time, λ i. law.timers-instant (own_timer (state_at states i)) (fits-timer (kind_at t i) (state_at states i) (g.fit i)))
advance-ends t ok [] states b g = ends-if (is_never (least_timer t states)) (λ _. stops b) (λ n. goes (time-or (least_timer t states) (least-is-timer t ok states g) n, least-below t ok states g))

pub later-ends : {B : Refusal → Type 0} (clock a : Float) → B ClockOverflow → Ends B (λ c. T (is_time c)) (later clock a)
later-ends clock a b = ends-if (is_time (add binary64 clock a)) (λ t. goes t) (λ _. stops b)

abbrev pub Queued : List Message → Type 0
Queued sent = All MessageFits sent × (length sent ≤ most_active)

module _ (t : Table) (ok : Fine t) (services : List Float) (short : T (is_word (length services))) (B : Refusal → Type 0) (K : World → Type 0) (closed : Closed t B K) where
  abbrev pub Kept-in : World → Type 0
  Kept-in w = Good t w × K w

  -- at each row for which `depth` levels do
  abbrev pub ExtKeeps : ℕ → External t services → Type 0
  ExtKeeps depth ext = (i port content : ℕ) (w : World) → Deep t depth i → T (is_content content) → Kept-in w → Ends B Kept-in (ext i port content w)

  not-batcher : (i : ℕ) (k : Kind) → kind_at t i ≡ k → NotBatcher k → NotBatcher (kind_at t i)
  not-batcher i k e n = subst NotBatcher (sym e) n

  fits-as : (i : ℕ) (k : Kind) (w : World) → kind_at t i ≡ k → Kept-in w → T (state_fits k (state_at w.states i))
  fits-as i k w e h = subst (λ (z : Kind). T (state_fits z (state_at w.states i))) e (h.0.0.fit i)

  rules-at : (i : ℕ) (k : Kind) (w : World) → kind_at t i ≡ k → Kept-in w → All T (state_rules k (state_at w.states i))
  rules-at i k w e h = rules-of k (state_at w.states i) (fits-as i k w e h)

  kind-rules : (i : ℕ) (k : Kind) → kind_at t i ≡ k → All T (kind_rules k)
  kind-rules i k e = subst (λ (z : Kind). All T (kind_rules z)) e (ok.kinds i)

  set-fits : (i : ℕ) (k : Kind) (s : State) (w : World) → kind_at t i ≡ k → T (state_fits k s) → Kept-in w → Fitted t (set w.states i s)
  set-fits i k s w e f h = fitted-set i s h.0.0 (subst (λ (z : Kind). T (state_fits z s)) (sym e) f)

  -- a row that is no batcher's gets a state
  put_keeps : (i : ℕ) (k : Kind) (s : State) (place : ℕ) (w : World) → kind_at t i ≡ k → NotBatcher k → T (state_fits k s) → T (is_word place) → Kept-in w → Kept-in (becomes i s (moved place w))
  put_keeps i k s place w e n f v h = ((set-fits i k s w e f h, v), closed.put_other i s place w (not-batcher i k e n) h.1)

  module _ (clock : Float) (c : T (is_time clock)) where
    noted-came : (i port content : ℕ) (fate : Fate) (k : Kind) (w : World) → kind_at t i ≡ k → NotBatcher k → Kept-in w → Kept-in (noted (came clock i port content fate) w)
    noted-came i port content fate k w e n h = (h.0, closed.came-other clock i port content fate w c (not-batcher i k e n) h.1)

    noted-went : (i : ℕ) (out : List Out) (k : Kind) (w : World) → kind_at t i ≡ k → NotBatcher k → Kept-in w → Kept-in (noted (went clock i out) w)
    noted-went i out k w e n h = (h.0, closed.went-other clock i out w c (not-batcher i k e n) h.1)

    external_as-keeps : (k : Kind) (depth : ℕ) (ext : External t services) → ExtKeeps depth ext → (i port content : ℕ) (w : World) → kind_at t i ≡ k → Deep t (suc depth) i → T (is_content content) → Kept-in w
        → Ends B Kept-in (external_as t services k ext clock i port content w)
    external_as-keeps (processor p) depth ext rec i port content w e deep u h =
        ends-bind _ (processor-external B closed.other p services short port content (as_processor (state_at w.states i)) w.place (closed.six i p e) u h.0.1 (rules-at i (processor p) w e h))
        (λ r g. goes (noted-came i port content r.2 (processor p) _ e tt (put_keeps i (processor p) (of_processor r.0) r.1 w e tt (whole_of g.0) g.1 h)))
    external_as-keeps (batcher b) depth ext rec i port content w e deep u h =
        ends-bind _
        (ends-both (closed.took clock i port content b (as_batcher (state_at w.states i)) w c e (is-batcher b (state_at w.states i) (fits-as i (batcher b) w e h)) h.0 h.1)
        (batcher-external (λ _. Unit {0}) (λ _ _. tt) b content (as_batcher (state_at w.states i)) tt (batcher-time b (kind-rules i (batcher b) e)) u (rules-at i (batcher b) w e h)))
        (λ n g. goes ((set-fits i (batcher b) (of_batcher n) w e (whole_of g.1) h, h.0.1), g.0))
    external_as-keeps (stopwatch p) depth ext rec i port content w e deep u h =
        ends-bind _ (stopwatch-external B closed.other p clock port content (as_stopwatch (state_at w.states i)) c u (rules-at i (stopwatch p) w e h))
        (λ r g. goes (noted-came i port content r.1 (stopwatch p) _ e tt (put_keeps i (stopwatch p) (of_stopwatch r.0) w.place w e tt (whole_of g) h.0.1 h)))
    external_as-keeps coupled depth ext rec i port content w e deep u h =
        ends-each {P = λ _. Unit {0}} _ _ (all_any (inputs t (id_at t i) port) (λ _. tt))
        (λ to w₁ _ h₁. ends-each {P = Deep t depth} _ w₁ (all-those (λ j. eqb (id_at t j) to.target) (deep e) (λ j d _. d)) (λ j w₂ d h₂. rec j to.port content w₂ d u h₂) h₁)
        (noted-came i port content Passed coupled w e tt h)

    pub external-keeps : (depth : ℕ) → ExtKeeps depth (external t services depth clock)
    unfolding external
    external-keeps zero i port content w d u h = absurd d
    external-keeps (suc depth) i port content w d u h = external_as-keeps (kind_at t i) depth (external t services depth clock) (external-keeps depth) i port content w refl d u h

  -- ---- internal events
  abbrev pub Gone : World × List Out → Type 0
  Gone r = Kept-in r.0 × All OutFits r.1

  abbrev pub IntKeeps : ℕ → Internal t services → Type 0
  IntKeeps depth int = (i : ℕ) (w : World) → Deep t depth i → Kept-in w → Ends B Gone (int i w)

  -- a message of the component j is parked in the Coupled i
  pub park-keeps : (i j : ℕ) (m : Out) (w : World) → kind_at t i ≡ coupled → OutFits m → Kept-in w → Ends B Kept-in (park t services i j m w)
  park-keeps i j m w e f h =
      ends-bind _ (ends-most most_parked NoMessageRoom (held ++ map parked-as (internals t (id_at t i) (id_at t j) m.port)) (closed.other NoMessageRoom tt))
      (λ more k. goes (put_keeps i coupled (of_coupled more) w.place w e tt
      (whole_of {bs = coupled_rules more} (le→leb (length more) most_parked k.1 & all-every (λ p. hold (parked_rules p)) (subst (λ (z : List Parked). All ParkedFits z) (sym k.0) all_fit) & nil)) h.0.1 h))
    where
      held : List Parked
      held = as_coupled (state_at w.states i)

      parked-as : Target → Parked
      parked-as to = record { component = to.target; port = to.port; content = m.content }

      all_fit : All ParkedFits (held ++ map parked-as (internals t (id_at t i) (id_at t j) m.port))
      all_fit =
          all_append (parked-fit held (rules-at i coupled w e h))
          (all_map parked-as (all-chosen (internal_of (id_at t i) (id_at t j) m.port) ok.inner (internal-fits t.rows (id_at t i) (id_at t j) m.port))
          (λ to v. whole_of {bs = parked_rules (parked-as to)} (v.0 & v.1 & f.1 & nil)))

  -- what is parked in the Coupled i goes to its components
  pub unpark-keeps : (depth : ℕ) (ext : External t services) → ExtKeeps depth ext → (i : ℕ) (w : World) → kind_at t i ≡ coupled → Deep t (suc depth) i → Kept-in w
      → Ends B Kept-in (unpark t services ext i (as_coupled (state_at w.states i)) w)
  unpark-keeps depth ext ek i w e deep h =
      ends-each {P = Deep t depth} _ w (deep e)
      (λ j w₁ d h₁. ends-each {P = ParkedFits} _ w₁ (all-those (λ (m : Parked). eqb m.component (id_at t j)) (parked-fit (as_coupled (state_at w.states i)) (rules-at i coupled w e h)) (λ m q _. q))
      (λ m w₂ q h₂. ek j m.port m.content w₂ d (parked-content m (parts (parked_rules m) q)) h₂) h₁) h

  pub hand-keeps : (i j : ℕ) (m : Out) (r : World × List Out) → kind_at t i ≡ coupled → OutFits m → Gone r → Ends B Gone (hand t services i j m r)
  hand-keeps i j m r e f h =
      ends-bind _ (park-keeps i j m r.0 e f h.0)
      (λ w k. ends-bind _ (ends-most most_out NoMessageRoom (r.1 ++ map (λ port. out_at port m.content) (outputs t (id_at t i) (id_at t j) m.port)) (closed.other NoMessageRoom tt))
      (λ out q. goes {a = (w, out)} (
        k,
        subst (λ (z : List Out). All OutFits z) (sym q.0)
            (all_append h.1 (all_map (λ port. out_at port m.content) (all-chosen (output_of (id_at t i) (id_at t j) m.port) ok.inner (output-fits t.rows (id_at t i) (id_at t j) m.port)) (λ port s. (s, f.1)))),
      )))

  pub turn-keeps : (depth i j : ℕ) (int : Internal t services) (r : World × List Out) → IntKeeps depth int → Deep t depth j → kind_at t i ≡ coupled → Gone r → Ends B Gone (turn t services depth int i j r)
  turn-keeps depth i j int r rec d e h =
      ends-if (due t depth r.0.states j)
      (λ _. ends-bind _ (rec j r.0 d h.0) (λ x g. ends-each {P = OutFits} (hand t services i j) (x.0, r.1) g.1 (λ m y f k. hand-keeps i j m y e f k) (g.0, h.1)))
      (λ _. goes {a = r} h)

  module _ (clock : Float) (c : T (is_time clock)) where
    internal_as-keeps : (k : Kind) (depth : ℕ) (ext : External t services) (int : Internal t services) → ExtKeeps depth ext → IntKeeps depth int → (i : ℕ) (w : World) → kind_at t i ≡ k → Deep t (suc depth) i → Kept-in w
        → Ends B Gone (internal_as t services k depth ext int clock i w)
    internal_as-keeps (processor p) depth ext int ek ik i w e deep h =
        ends-bind _ (processor-internal B closed.other p services short (as_processor (state_at w.states i)) w.place h.0.1 (rules-at i (processor p) w e h))
        (λ r g. goes {a = (noted (went clock i (map (out_at p.output) r.2)) (becomes i (of_processor r.0) (moved r.1 w)), map (out_at p.output) r.2)} (
          noted-went clock c i (map (out_at p.output) r.2) (processor p) (becomes i (of_processor r.0) (moved r.1 w)) e tt (put_keeps i (processor p) (of_processor r.0) r.1 w e tt (whole_of g.0) g.1 h),
          outs-fit p.output (processor-output p (kind-rules i (processor p) e)) g.2,
        ))
    internal_as-keeps (batcher b) depth ext int ek ik i w e deep h =
        goes {a = (noted (went clock i (map (out_at b.output) (batcher_internal b s).1)) (becomes i (of_batcher (batcher_internal b s).0) w), map (out_at b.output) (batcher_internal b s).1)} (
          (
            (set-fits i (batcher b) (of_batcher (batcher_internal b s).0) w e (whole_of kept.0) h, h.0.1),
            closed.gave clock i b s w c e (is-batcher b (state_at w.states i) (fits-as i (batcher b) w e h)) h.0 h.1,
          ),
          outs-fit b.output (batcher-output b (kind-rules i (batcher b) e)) kept.1,
        )
      where
        s : BatcherState
        s = as_batcher (state_at w.states i)

        kept : All T (batcher_rules (batcher_internal b s).0) × Contents (batcher_internal b s).1
        kept = batcher-internal b s (batcher-time b (kind-rules i (batcher b) e)) (rules-at i (batcher b) w e h)
    internal_as-keeps (stopwatch p) depth ext int ek ik i w e deep h =
        goes {a = (noted (went clock i (map (out_at p.output) (stopwatch_internal p s).1)) (becomes i (of_stopwatch (stopwatch_internal p s).0) w), map (out_at p.output) (stopwatch_internal p s).1)} (
          noted-went clock c i (map (out_at p.output) (stopwatch_internal p s).1) (stopwatch p) (becomes i (of_stopwatch (stopwatch_internal p s).0) w) e tt
              (put_keeps i (stopwatch p) (of_stopwatch (stopwatch_internal p s).0) w.place w e tt (whole_of kept.0) h.0.1 h),
          outs-fit p.output (stopwatch-output p (kind-rules i (stopwatch p) e)) kept.1,
        )
      where
        s : StopwatchState
        s = as_stopwatch (state_at w.states i)

        kept : All T (stopwatch_rules (stopwatch_internal p s).0) × Contents (stopwatch_internal p s).1
        kept = stopwatch-internal p s (rules-at i (stopwatch p) w e h)
    internal_as-keeps coupled depth ext int ek ik i w e deep h =
        ends-bind {Q = Kept-in} _ (unpark-keeps depth ext ek i w e deep h)
        (λ w₁ h₁. ends-bind {Q = Gone} _
        (ends-each {P = Deep t depth} (turn t services depth int i) (becomes i (of_coupled []) w₁, []) (deep e) (λ j r d g. turn-keeps depth i j int r ik d e g)
        (put_keeps i coupled (of_coupled []) w₁.place w₁ e tt tt h₁.0.1 h₁, nil))
        (λ r g. goes {a = (noted (went clock i r.1) r.0, r.1)} (noted-went clock c i r.1 coupled r.0 e tt g.0, g.1)))

    pub internal-keeps : (depth : ℕ) → IntKeeps depth (internal t services depth clock)
    unfolding internal
    internal-keeps zero i w d h = absurd d
    internal-keeps (suc depth) i w d h =
        internal_as-keeps (kind_at t i) depth (external t services depth clock) (internal t services depth clock) (external-keeps clock c depth) (internal-keeps depth) i w refl d h

    -- ---- the step
    abbrev pub Sent : World × List Message → Type 0
    Sent r = Kept-in r.0 × Queued r.1

    pub taken-keeps : (active : List Message) (w : World) → All MessageFits active → Kept-in w → Ends B Kept-in (taken t services clock active w)
    taken-keeps active w ms h =
        ends-each {P = Deep t levels} _ w (parentless-deep t ok)
        (λ i w₁ d h₁. ends-each {P = MessageFits} _ w₁ (all-those (λ (m : Message). eqb m.target_id (id_at t i)) ms (λ m q _. q))
        (λ m w₂ q h₂. external-keeps clock c levels i m.target_port m.content w₂ d (message-content m (parts (message_rules m) q)) h₂) h₁) h

    pub send-keeps : (i : ℕ) (m : Out) (sent : List Message) → OutFits m → Queued sent → Ends B Queued (send t clock i m sent)
    send-keeps i m sent f h =
        ends-map (ends-most most_active NoMessageRoom (sent ++ map (along t clock i m) (connected t (id_at t i) m.port)) (closed.other NoMessageRoom tt)) (λ r b. b)
        (λ more k. (
          subst (λ (z : List Message). All MessageFits z) (sym k.0)
              (all_append h.0 (all_map (along t clock i m) (all-those (λ x. eqb x.source (id_at t i) && eqb x.source_port m.port) ok.links (λ x q _. q)) (λ x g. go x (parts (connector_rules x) g)))),
          k.1,
        ))
      where
        go : (x : Connector) → All T (connector_rules x) → MessageFits (along t clock i m x)
        go x (p & q & r & s & nil) = whole_of {bs = message_rules (along t clock i m x)} (ok.ids i & f.0 & r & s & c & f.1 & nil)

    pub root_turn-keeps : (i : ℕ) (r : World × List Message) → Deep t levels i → Sent r → Ends B Sent (root_turn t services clock i r)
    root_turn-keeps i r d h =
        ends-if (due t levels r.0.states i)
        (λ _. ends-bind _ (internal-keeps levels i r.0 d h.0)
        (λ x g. ends-bind {Q = Queued} _ (ends-each {P = OutFits} (send t clock i) r.1 g.1 (λ m sent f k. send-keeps i m sent f k) h.1) (λ sent k. goes {a = (x.0, sent)} (g.0, k))))
        (λ _. goes {a = r} h)

-- ---- the step as a whole
-- the world that a simulation is, with what happened
abbrev pub world_of : Simulation → List Happening → World
world_of sim log = record { states = sim.states; place = sim.place; log = log }

pub record Stepped (t : Table) (K : World → Type 0) (sim : Simulation) (r : Simulation × List Happening) : Type 0 where
  pub table : r.0.table ≡ sim.table
  pub clock : T (is_time r.0.clock)
  pub good : Good t (world_of r.0 r.1)
  pub kept : K (world_of r.0 r.1)
  pub active : All MessageFits r.0.active
  pub few : length r.0.active ≤ most_active

pub step_on-keeps : (t : Table) → Fine t → (services : List Float) → T (is_word (length services)) → (B : Refusal → Type 0) (K : World → Type 0) → Closed t B K
    → (sim : Simulation) → T (is_time sim.clock) → All MessageFits sim.active → Good t (world_of sim []) → K (world_of sim []) → Ends B (Stepped t K sim) (step_on t services sim)
unfolding step_on
step_on-keeps t ok services short B K closed sim c ms g k =
    ends-bind _ (taken-keeps t ok services short B K closed sim.clock c sim.active (world_of sim []) ms (g, k))
    (λ w₁ h₁. ends-bind _ (advance-ends t ok sim.active w₁.states (closed.other Idle tt) h₁.0.0)
    (λ a u. ends-bind _ (later-ends sim.clock a (closed.other ClockOverflow tt))
    (λ clock v. ends-bind {Q = Sent t ok services short B K closed clock v} _
    (ends-each {P = Deep t levels} (root_turn t services clock) (all_after a w₁, []) (parentless-deep t ok) (λ i r d q. root_turn-keeps t ok services short B K closed clock v i r d q)
    (((fitted-after a w₁.states h₁.0.0 u.0 u.1, h₁.0.1), closed.aged a w₁ h₁.0 u.0 u.1 h₁.1), (nil, omega arith)))
    (λ r q. goes (record { table = refl; clock = v; good = q.0.0; kept = q.0.1; active = q.1.0; few = q.1.1 })))))
