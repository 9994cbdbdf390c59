-- No rule reads the log: each event, and each part of a step, after any log L does what it does after none, and writes the same behind L. Assumes nothing.
use Prim.Native.Nat.{ℕ, zero, suc}
use Rattle.std.specs.Prelude.{◌≡◌, Bool, true, false, List, [], ◌∷◌, ◌++◌, map, eqb, Float, if◌then◌else◌}
use Rattle.std.proofs.Math.Path.{refl}
use Rattle.std.proofs.Common.{ap, ◌∙◌, append_assoc}
use Rattle.rules.specs.declared.Refusal.TheVariants.{NoMessageRoom}
use Rattle.rules.specs.declared.Message.{Message}
use Rattle.rules.specs.Sizes.{most_parked, most_out}
use Rattle.rules.specs.Base.{Outcome, refused, done, ◌>>=◌, each, those, at_most}
use Rattle.rules.specs.Table.{Kind, processor, batcher, stopwatch, coupled, Table, Target, id_at, kind_at, parentless, components, inputs, outputs, internals}
use Rattle.rules.specs.Simulation.{Parked, of_coupled, state_at, as_processor, as_batcher, as_stopwatch, as_coupled}
use Rattle.rules.specs.Models.{processor_external, processor_internal, batcher_external, batcher_internal, stopwatch_external, stopwatch_internal}
use Rattle.rules.specs.Step.{Out, out_at, Happening, went, waited, World, noted, becomes, levels, due, External, Internal, to_components, external_as, external, unpark, park, hand, turn, internal_as, internal, taken, after, all_after, send, root_turn}

abbrev pub map_o : {A C : Type 0} → (A → C) → Outcome A → Outcome C
map_o f (refused r) = refused r
map_o f (done a) = done (f a)

-- the world with L before its log
abbrev pub behind : List Happening → World → World
behind L w = record { states = w.states; place = w.place; log = L ++ w.log }

abbrev pub behind_both : {A : Type 0} → List Happening → World × A → World × A
behind_both L r = (behind L r.0, r.1)

-- ---- the words of `Base` carry a map through
same-bind : {A C D : Type 0} (o : Outcome A) (f : A → Outcome C) (g : A → Outcome D) (m : C → D) → ((a : A) → g a ≡ map_o m (f a)) → (o >>= g) ≡ map_o m (o >>= f)
same-bind (refused r) f g m h = refl
same-bind (done a) f g m h = h a

map-bind : {A A' C D : Type 0} (o : Outcome A) (p : A → A') (f : A → Outcome C) (g : A' → Outcome D) (m : C → D) → ((a : A) → g (p a) ≡ map_o m (f a)) → (map_o p o >>= g) ≡ map_o m (o >>= f)
map-bind (refused r) p f g m h = refl
map-bind (done a) p f g m h = h a

each_map : {A S : Type 0} (visit : A → S → Outcome S) (m : S → S) → ((x : A) (s : S) → visit x (m s) ≡ map_o m (visit x s)) → (xs : List A) (s : S) → each visit xs (m s) ≡ map_o m (each visit xs s)
each_map visit m h [] s = refl
each_map visit m h (x ∷ xs) s = ap (λ (o : Outcome _). o >>= each visit xs) (h x s) ∙ map-bind (visit x s) m (each visit xs) (each visit xs) m (each_map visit m h xs)

if-map : {A C : Type 0} (m : A → C) (b : Bool) (x y : Outcome C) (x' y' : Outcome A) → x ≡ map_o m x' → y ≡ map_o m y' → (if b then x else y) ≡ map_o m (if b then x' else y')
if-map m true x y x' y' p q = p
if-map m false x y x' y' p q = q

noted-behind : (L : List Happening) (h : Happening) (w : World) → noted h (behind L w) ≡ behind L (noted h w)
noted-behind L h w = let p : L ++ w.log ++ h ∷ [] ≡ L ++ (w.log ++ h ∷ []) = append_assoc L w.log (h ∷ []) in λ i. record { states = w.states; place = w.place; log = p i }

module _ (t : Table) (services : List Float) (L : List Happening) where
  abbrev ExtGhost : External t services → Type 0
  ExtGhost ext = (i port content : ℕ) (w : World) → ext i port content (behind L w) ≡ map_o (behind L) (ext i port content w)

  abbrev IntGhost : Internal t services → Type 0
  IntGhost int = (i : ℕ) (w : World) → int i (behind L w) ≡ map_o (behind_both L) (int i w)

  external_as-ghost : (k : Kind) (ext : External t services) → ExtGhost ext → (clock : Float) (i port content : ℕ) (w : World)
      → external_as t services k ext clock i port content (behind L w) ≡ map_o (behind L) (external_as t services k ext clock i port content w)
  external_as-ghost (processor p) ext rec clock i port content w =
      same-bind (processor_external p services port content (as_processor (state_at w.states i)) w.place) _ _ (behind L) (λ r. ap done (noted-behind L _ _))
  external_as-ghost (batcher b) ext rec clock i port content w = same-bind (batcher_external b content (as_batcher (state_at w.states i))) _ _ (behind L) (λ n. ap done (noted-behind L _ _))
  external_as-ghost (stopwatch p) ext rec clock i port content w =
      same-bind (stopwatch_external p clock port content (as_stopwatch (state_at w.states i))) _ _ (behind L) (λ r. ap done (noted-behind L _ _))
  external_as-ghost coupled ext rec clock i port content w =
      ap (to_components t services ext i port content) (noted-behind L _ w)
      ∙ each_map (λ (to : Target). each (λ j. ext j to.port content) (those (λ j. eqb (id_at t j) to.target) (components t (id_at t i)))) (behind L)
      (λ to w₁. each_map (λ j. ext j to.port content) (behind L) (λ j w₂. rec j to.port content w₂) (those (λ j. eqb (id_at t j) to.target) (components t (id_at t i))) w₁)
      (inputs t (id_at t i) port) _

  pub external-ghost : (depth : ℕ) (clock : Float) → ExtGhost (external t services depth clock)
  unfolding external
  external-ghost zero clock i port content w = refl
  external-ghost (suc depth) clock i port content w = external_as-ghost (kind_at t i) (external t services depth clock) (external-ghost depth clock) clock i port content w

  park-ghost : (i j : ℕ) (m : Out) (w : World) → park t services i j m (behind L w) ≡ map_o (behind L) (park t services i j m w)
  park-ghost i j m w =
      same-bind
      (at_most most_parked NoMessageRoom (as_coupled (state_at w.states i) ++ map (λ (to : Target). record { component = to.target; port = to.port; content = m.content }) (internals t (id_at t i) (id_at t j) m.port)))
      _ _ (behind L) (λ more. refl)

  hand-ghost : (i j : ℕ) (m : Out) (r : World × List Out) → hand t services i j m (behind_both L r) ≡ map_o (behind_both L) (hand t services i j m r)
  hand-ghost i j m r =
      ap (λ (o : Outcome World). o >>= λ w. at_most most_out NoMessageRoom (r.1 ++ map (λ port. out_at port m.content) (outputs t (id_at t i) (id_at t j) m.port)) >>= λ out. done (w, out)) (park-ghost i j m r.0)
      ∙ map-bind (park t services i j m r.0) (behind L) _ _ (behind_both L)
      (λ w. same-bind (at_most most_out NoMessageRoom (r.1 ++ map (λ port. out_at port m.content) (outputs t (id_at t i) (id_at t j) m.port))) _ _ (behind_both L) (λ out. refl))

  turn-ghost : (depth i j : ℕ) (int : Internal t services) → IntGhost int → (r : World × List Out) → turn t services depth int i j (behind_both L r) ≡ map_o (behind_both L) (turn t services depth int i j r)
  turn-ghost depth i j int rec r =
      if-map (behind_both L) (due t depth r.0.states j) _ _ _ _
      (ap (λ (o : Outcome (World × List Out)). o >>= λ x. each (hand t services i j) x.1 (x.0, r.1)) (rec j r.0)
      ∙ map-bind (int j r.0) (behind_both L) _ _ (behind_both L) (λ x. each_map (hand t services i j) (behind_both L) (λ m y. hand-ghost i j m y) x.1 (x.0, r.1)))
      refl

  internal_as-ghost : (k : Kind) (depth : ℕ) (ext : External t services) (int : Internal t services) → ExtGhost ext → IntGhost int → (clock : Float) (i : ℕ) (w : World)
      → internal_as t services k depth ext int clock i (behind L w) ≡ map_o (behind_both L) (internal_as t services k depth ext int clock i w)
  internal_as-ghost (processor p) depth ext int e n clock i w =
      same-bind (processor_internal services (as_processor (state_at w.states i)) w.place) _ _ (behind_both L) (λ r. ap (λ (z : World). done (z, map (out_at p.output) r.2)) (noted-behind L _ _))
  internal_as-ghost (batcher b) depth ext int e n clock i w =
      ap (λ (z : World). done (z, map (out_at b.output) (batcher_internal b (as_batcher (state_at w.states i))).1)) (noted-behind L _ _)
  internal_as-ghost (stopwatch p) depth ext int e n clock i w =
      ap (λ (z : World). done (z, map (out_at p.output) (stopwatch_internal p (as_stopwatch (state_at w.states i))).1)) (noted-behind L _ _)
  internal_as-ghost coupled depth ext int e n clock i w =
      ap (λ (o : Outcome World). o >>= rest)
      (each_map (λ j. each (λ (m : Parked). ext j m.port m.content) (those (λ (m : Parked). eqb m.component (id_at t j)) parked)) (behind L)
      (λ j w₁. each_map (λ (m : Parked). ext j m.port m.content) (behind L) (λ m w₂. e j m.port m.content w₂) (those (λ (m : Parked). eqb m.component (id_at t j)) parked) w₁)
      (components t (id_at t i)) w)
      ∙ map-bind (unpark t services ext i parked w) (behind L) rest rest (behind_both L)
      (λ w₁. ap (λ (o : Outcome (World × List Out)). o >>= last) (each_map (turn t services depth int i) (behind_both L) (λ j r. turn-ghost depth i j int n r) (components t (id_at t i)) (becomes i (of_coupled []) w₁, []))
      ∙ map-bind (each (turn t services depth int i) (components t (id_at t i)) (becomes i (of_coupled []) w₁, [])) (behind_both L) last last (behind_both L)
      (λ r. ap (λ (z : World). done (z, r.1)) (noted-behind L _ _)))
    where
      parked : List Parked
      parked = as_coupled (state_at w.states i)

      last : World × List Out → Outcome (World × List Out)
      last r = done (noted (went clock i r.1) r.0, r.1)

      rest : World → Outcome (World × List Out)
      rest w₁ = each (turn t services depth int i) (components t (id_at t i)) (becomes i (of_coupled []) w₁, []) >>= last

  pub internal-ghost : (depth : ℕ) (clock : Float) → IntGhost (internal t services depth clock)
  unfolding internal
  internal-ghost zero clock i w = refl
  internal-ghost (suc depth) clock i w = internal_as-ghost (kind_at t i) depth (external t services depth clock) (internal t services depth clock) (external-ghost depth clock) (internal-ghost depth clock) clock i w

  -- ---- the parts of a step
  pub taken-ghost : (clock : Float) (active : List Message) (w : World) → taken t services clock active (behind L w) ≡ map_o (behind L) (taken t services clock active w)
  taken-ghost clock active w =
      each_map (λ i. each (λ (m : Message). external t services levels clock i m.target_port m.content) (those (λ (m : Message). eqb m.target_id (id_at t i)) active)) (behind L)
      (λ i w₁. each_map (λ (m : Message). external t services levels clock i m.target_port m.content) (behind L) (λ m w₂. external-ghost levels clock i m.target_port m.content w₂)
      (those (λ (m : Message). eqb m.target_id (id_at t i)) active) w₁)
      (parentless t) w

  pub all_after-ghost : (a : Float) (w : World) → all_after a (behind L w) ≡ behind L (all_after a w)
  all_after-ghost a w = noted-behind L (waited a) (record { states = map (after a) w.states; place = w.place; log = w.log })

  pub root_turn-ghost : (clock : Float) (i : ℕ) (r : World × List Message) → root_turn t services clock i (behind_both L r) ≡ map_o (behind_both L) (root_turn t services clock i r)
  root_turn-ghost clock i r =
      if-map (behind_both L) (due t levels r.0.states i) _ _ _ _
      (ap (λ (o : Outcome (World × List Out)). o >>= λ x. each (send t clock i) x.1 r.1 >>= λ sent. done (x.0, sent)) (internal-ghost levels clock i r.0)
      ∙ map-bind (internal t services levels clock i r.0) (behind_both L) _ _ (behind_both L) (λ x. same-bind (each (send t clock i) x.1 r.1) _ _ (behind_both L) (λ sent. refl)))
      refl
