-- What is not known takes nothing: a message to an end that names no model reaches nobody, and one to a port that is not there is refused with 5 or ignored (but a Batcher takes it). Assumes nothing.
use Prim.Native.Nat.{ℕ, suc, ◌<◌}
use Rattle.std.specs.Prelude.{◌≡◌, refl, ◌↔◌, Bool, true, false, List, [], ◌∷◌, ◌++◌, length, T, eqb, Float, if◌then◌else◌, Ok, Err, Result, ⊤, Option, Some}
use Rattle.std.proofs.Common.{sym, ap, ◌∙◌, inl, inr, arith}
use Rattle.std.proofs.lemmas.Bool.{false≢true}
use Rattle.rules.specs.declared.Refusal.{Refusal}
use Rattle.rules.specs.declared.Refusal.TheVariants.{ModelNotFound, InvalidMessage}
use Rattle.rules.specs.declared.Processor.{Processor}
use Rattle.rules.specs.declared.Stopwatch.{Stopwatch}
use Rattle.rules.specs.declared.Message.{Message}
use Rattle.rules.specs.Base.{Outcome, refused, done, ◌>>=◌, each, those, chosen, from}
use Rattle.rules.specs.Table.{processor, stopwatch, coupled, Coupling, external_input, external_output, internal_coupling, Table, row_at, id_at, kind_at, is_parent, is_parentless, parentless, components, inputs}
use Rattle.rules.specs.Simulation.{Simulation, ProcessorState, StopwatchState, Parked, state_at, as_processor, as_stopwatch, of_processor, of_stopwatch}
use Rattle.rules.specs.Models.{Fate, Passed, processor_external, stopwatch_external}
use Rattle.rules.specs.Step.{World, External, came, noted, external, levels, taken, unpark, becomes, moved}
use Rattle.rules.specs.Valid.{is_valid, member}
use Rattle.rules.specs.Calls.{get_status}
use Rattle.rules.specs.Ends.{no-some, All, nil, ◌&◌, all-those}
use Rattle.rules.proofs.Exactly.{processor-external-exactly, stopwatch-external-exactly, status-exactly}
use Rattle.rules.specs.Depth.{Fine, all_in}
use Rattle.rules.specs.Decides.{Decides, tells, passes, either, is_true, is_false, Any, here, there, same, ◌∈◌, member-decides, those-element, chosen-element, parentless-element, components-element, inputs-element}
use Rattle.hints.specs.declared.Side.{Side}
use Rattle.hints.specs.declared.Side.TheVariants as sides
use Rattle.hints.specs.declared.BadEnd.{BadEnd}
use Rattle.hints.specs.declared.BadEnd.TheVariants.{NoModel, NoPort}
use Rattle.hints.specs.Naming.{of_port, port_from, ports_at, known_by, end_among, root_end, component_end}

-- ---- no model
known-not : ◌≡◌ {A = Result ⊤ BadEnd} (Ok tt) (Err NoModel) → ⊥
known-not e = let z : ◌≡◌ {A = ℕ} 0 1 = cc in omega arith

port-not : ◌≡◌ {A = Result ⊤ BadEnd} (Err NoPort) (Err NoModel) → ⊥
port-not e = let z : ◌≡◌ {A = ℕ} 0 1 = cc in omega arith

some-model : (ports : ℕ → List ℕ) (port i : ℕ) (more : List ℕ) → known_by ports port (i ∷ more) ≡ Err NoModel → ⊥
some-model ports port i more = by (member port (ports i))
  where
    by : (b : Bool) → of_port b ≡ Err NoModel → ⊥
    by true e = known-not e
    by false e = port-not e

-- an end names no model exactly if no row of those has the id
pub no-model : (t : Table) (rows : List ℕ) (id port : ℕ) (side : Side) → (end_among t rows id port side ≡ Err NoModel) ↔ ((i : ℕ) → i ∈ rows → id_at t i ≡ id → ⊥)
no-model t rows id port side = (λ e i at named. out (those (λ i. eqb (id_at t i) id) rows) e i ((element i).1 (at, named)), λ never. back (those (λ i. eqb (id_at t i) id) rows) (λ i at. let h = (element i).0 at in never i h.0 h.1))
  where
    element : (i : ℕ) → (i ∈ those (λ i. eqb (id_at t i) id) rows) ↔ ((i ∈ rows) × (id_at t i ≡ id))
    element i = those-element (λ i. same (id_at t i) id) rows i

    out : (found : List ℕ) → known_by (ports_at t side) port found ≡ Err NoModel → (i : ℕ) → i ∈ found → ⊥
    out [] e i at = passes (member-decides i []) at
    out (k ∷ more) e i at = some-model (ports_at t side) port k more e

    back : (found : List ℕ) → ((i : ℕ) → i ∈ found → ⊥) → known_by (ports_at t side) port found ≡ Err NoModel
    back [] never = refl
    back (k ∷ more) never = absurd (never k (here refl))

-- ---- a message to nobody
-- what no test passes is left out
left_out : {A : Type 0} (test : A → Bool) (before : List A) (x : A) (after : List A) → test x ≡ false → those test (before ++ x ∷ after) ≡ those test (before ++ after)
left_out test [] x after e = rw e
left_out test (y ∷ before) x after e = by (test y) (left_out test before x after e)
  where
    by : (b : Bool) → those test (before ++ x ∷ after) ≡ those test (before ++ after)
        → (if b then y ∷ those test (before ++ x ∷ after) else those test (before ++ x ∷ after)) ≡ (if b then y ∷ those test (before ++ after) else those test (before ++ after))
    by true later = ap (λ l. y ∷ l) later
    by false later = later

-- two sweeps that do the same at each place
alike : {S : Type 0} (f g : ℕ → S → Outcome S) (is : List ℕ) → ((i : ℕ) → i ∈ is → f i ≡ g i) → (s : S) → each f is s ≡ each g is s
alike f g [] agree s = refl
alike {S} f g (i ∷ is) agree s = (λ k. agree i (here refl) k s >>= each f is) ∙ on (g i s) (alike f g is (λ j at. agree j (there at)))
  where
    on : (o : Outcome S) → ((s : S) → each f is s ≡ each g is s) → (o >>= each f is) ≡ (o >>= each g is)
    on (refused r) later = refl
    on (done s) later = later s

module _ (t : Table) (services : List Float) where
  -- "their messages reach nobody": a message whose target names no model is as none
  pub nobody-takes : (clock : Float) (before : List Message) (m : Message) (after : List Message) (w : World) → root_end t m.target_id m.target_port sides.In ≡ Err NoModel
      → taken t services clock (before ++ m ∷ after) w ≡ taken t services clock (before ++ after) w
  nobody-takes clock before m after w e =
      alike _ _ (parentless t)
      (λ i at k s. each (λ (m : Message). external t services levels clock i m.target_port m.content) (left_out (λ (m : Message). eqb m.target_id (id_at t i)) before m after (is_false (same m.target_id (id_at t i)) (λ named. (no-model t (parentless t) m.target_id m.target_port sides.In).0 e i at (sym named))) k) s) w

  -- "those for no component are lost": a parked message whose component is none is as none
  pub nobody-gets : (deeper : External t services) (i : ℕ) (before : List Parked) (m : Parked) (after : List Parked) (w : World) → component_end t (id_at t i) m.component m.port sides.In ≡ Err NoModel
      → unpark t services deeper i (before ++ m ∷ after) w ≡ unpark t services deeper i (before ++ after) w
  nobody-gets deeper i before m after w e =
      alike _ _ (components t (id_at t i))
      (λ j at k s. each (λ (m : Parked). deeper j m.port m.content) (left_out (λ (m : Parked). eqb m.component (id_at t j)) before m after (is_false (same m.component (id_at t j)) (λ named. (no-model t (components t (id_at t i)) m.component m.port sides.In).0 e j at (sym named))) k) s) w

-- ---- the model that is meant: in a table that passes intake one row at most has the id
meant-by : (ports : ℕ → List ℕ) (port i : ℕ) {found : List ℕ} → i ∈ found → All (λ k. k ≡ i) found → known_by ports port found ≡ of_port (member port (ports i))
meant-by ports port i at nil = absurd (passes (member-decides i []) at)
meant-by ports port i at (e & more) = ap (λ (k : ℕ). of_port (member port (ports k))) e

module _ (t : Table) (ok : Fine t) (port : ℕ) (side : Side) where
  meant : (test : Option ℕ → Bool) (i : ℕ) → i < length t.rows → i ∈ those (λ k. test (row_at t k).parent) (from 0 (length t.rows))
      → end_among t (those (λ k. test (row_at t k).parent) (from 0 (length t.rows))) (id_at t i) port side ≡ of_port (member port (ports_at t side i))
  meant test i l at =
      meant-by (ports_at t side) port i ((those-element (λ k. same (id_at t k) (id_at t i)) _ i).1 (at, refl))
      (all-those (λ k. eqb (id_at t k) (id_at t i)) (all-those (λ k. test (row_at t k).parent) (all_in t ok) (λ k m passes. m)) (λ k m named. ok.unique k i m l (tells (same (id_at t k) (id_at t i)) named)))

  -- an end with a root's id is told by that root's ports
  pub root-meant : (i : ℕ) → i ∈ parentless t → root_end t (id_at t i) port side ≡ of_port (member port (ports_at t side i))
  root-meant i at = meant is_parentless i ((parentless-element t i).0 at).0 at

  -- and so is a component's
  pub component-meant : (owner i : ℕ) → i ∈ components t owner → component_end t owner (id_at t i) port side ≡ of_port (member port (ports_at t side i))
  component-meant owner i at = meant (is_parent owner) i ((components-element t owner i).0 at).0 at

  -- "a port that the model does not have"
  told : (b : Bool) → (of_port b ≡ Err NoPort) ↔ (b ≡ false)
  told true = (λ e. let z : ◌≡◌ {A = ℕ} 0 1 = cc in absurd (omega arith), λ e. absurd (false≢true (sym e)))
  told false = (λ e. refl, λ e. refl)

  pub root-no-port : (i : ℕ) → i ∈ parentless t → (root_end t (id_at t i) port side ≡ Err NoPort) ↔ (member port (ports_at t side i) ≡ false)
  root-no-port i at = rw (root-meant i at) (told (member port (ports_at t side i)))

  pub component-no-port : (owner i : ℕ) → i ∈ components t owner → (component_end t owner (id_at t i) port side ≡ Err NoPort) ↔ (member port (ports_at t side i) ≡ false)
  component-no-port owner i at = rw (component-meant owner i at) (told (member port (ports_at t side i)))

-- 4: "status of an id not among the models without parent" is given exactly where a root's end names no model
pub status-not-found : (sim : Simulation) → T (is_valid sim) → (id port : ℕ) (side : Side) → (get_status id sim ≡ refused ModelNotFound) ↔ (root_end sim.table id port side ≡ Err NoModel)
status-not-found sim valid id port side =
    let status = status-exactly sim id ModelNotFound in
    let end = no-model sim.table (parentless sim.table) id port side in (
      λ e. end.1 (λ i at named. let root = (parentless-element sim.table i).0 at in (status.0 e).1 i root.0 root.1 named),
      λ e. status.1 (valid, λ i l root named. end.0 e i ((parentless-element sim.table i).1 (l, root)) named),
    )

-- ---- a port that takes no messages
through : {A B : Type 0} (o : Outcome A) (f : A → B) (r : Refusal) → ((o >>= λ a. done (f a)) ≡ refused r) ↔ (o ≡ refused r)
through (refused s) f r = (λ e. let same : s ≡ r = cc in ap refused same, λ e. let same : s ≡ r = cc in ap refused same)
through (done a) f r = (λ e. let z : ◌≡◌ {A = ℕ} 0 1 = cc in absurd (omega arith), λ e. let z : ◌≡◌ {A = ℕ} 0 1 = cc in absurd (omega arith))

-- a test that fails, and what it decides
fails-is : {b : Bool} {P : Type 0} → Decides b P → (b ≡ false) ↔ (P → ⊥)
fails-is d = (λ e p. false≢true (sym e ∙ is_true d p), λ n. is_false d n)

module _ (t : Table) (services : List Float) (depth : ℕ) (clock : Float) (i port content : ℕ) (w : World) where
  abbrev arrives : Outcome World
  arrives = external t services (suc depth) clock i port content w

  -- 5: "processor or stopwatch, unknown port"
  pub processor-hears : (p : Processor) → kind_at t i ≡ processor p → (arrives ≡ refused InvalidMessage) ↔ (member port (ports_at t sides.In i) ≡ false)
  unfolding external
  processor-hears p e = rw e (
    λ r. has.1 (λ at. elim at [ here f ↦ exact.0 (back.0 r) (sym f) | there z ↦ passes (member-decides port []) z ]),
    λ f. back.1 (exact.1 (λ g. has.0 f (here (sym g)))),
  )
    where
      event : Outcome (ProcessorState × ℕ × Fate)
      event = processor_external p services port content (as_processor (state_at w.states i)) w.place

      back : ((event >>= λ (x : ProcessorState × ℕ × Fate). done (noted (came clock i port content x.2) (becomes i (of_processor x.0) (moved x.1 w)))) ≡ refused InvalidMessage) ↔ (event ≡ refused InvalidMessage)
      back = through event _ InvalidMessage

      exact : (event ≡ refused InvalidMessage) ↔ (port ≡ p.input → ⊥)
      exact = processor-external-exactly p services port content (as_processor (state_at w.states i)) w.place InvalidMessage

      has : (member port (p.input ∷ []) ≡ false) ↔ (port ∈ (p.input ∷ []) → ⊥)
      has = fails-is (member-decides port (p.input ∷ []))

  pub stopwatch-hears : (p : Stopwatch) → kind_at t i ≡ stopwatch p → (arrives ≡ refused InvalidMessage) ↔ (member port (ports_at t sides.In i) ≡ false)
  unfolding external
  stopwatch-hears p e = rw e (
    λ r. let n = exact.0 (back.0 r) in has.1 (λ at. elim at [ here f ↦ n.0 (sym f) | there at ↦ elim at [ here f ↦ n.1 (sym f) | there at ↦ elim at [ here f ↦ n.2 (sym f) | there z ↦ passes (member-decides port []) z ] ] ]),
    λ f. let n = has.0 f in back.1 (exact.1 (λ g. n (here (sym g)), λ g. n (there (here (sym g))), λ g. n (there (there (here (sym g)))))),
  )
    where
      event : Outcome (StopwatchState × Fate)
      event = stopwatch_external p clock port content (as_stopwatch (state_at w.states i))

      back : ((event >>= λ (x : StopwatchState × Fate). done (noted (came clock i port content x.1) (becomes i (of_stopwatch x.0) w))) ≡ refused InvalidMessage) ↔ (event ≡ refused InvalidMessage)
      back = through event _ InvalidMessage

      exact : (event ≡ refused InvalidMessage) ↔ ((port ≡ p.start → ⊥) × (port ≡ p.stop → ⊥) × (port ≡ p.ask → ⊥))
      exact = stopwatch-external-exactly p clock port content (as_stopwatch (state_at w.states i)) InvalidMessage

      has : (member port (p.start ∷ p.stop ∷ p.ask ∷ []) ≡ false) ↔ (port ∈ (p.start ∷ p.stop ∷ p.ask ∷ []) → ⊥)
      has = fails-is (member-decides port (p.start ∷ p.stop ∷ p.ask ∷ []))

-- ---- a Coupled
pub any-map : {A : Type 0} {P Q : A → Type 0} {xs : List A} → ((x : A) → P x → Q x) → Any P xs → Any Q xs
any-map f (here {x = x} h) = here (f x h)
any-map f (there p) = there (any-map f p)

nothing-in : {A : Type 0} (xs : List A) → ((x : A) → x ∈ xs → ⊥) → xs ≡ []
nothing-in [] never = refl
nothing-in (x ∷ xs) never = absurd (never x (here refl))

module _ (t : Table) (owner port : ℕ) where
  input-port : (c : Coupling) → port_from sides.In owner c ≡ Some port → (target tp : ℕ) × (c ≡ external_input owner port target tp)
  input-port (external_input o sp target tp) e = elim (either (same o owner)) [
    | inl f ↦ let g : Some sp ≡ Some port = sym (rw (is_true (same o owner) f)) ∙ e in let q : sp ≡ port = cc in (target, tp, λ k. external_input (f k) (q k) target tp)
    | inr n ↦ absurd (no-some (sym (rw (is_false (same o owner) n)) ∙ e))
  ]
  input-port (external_output o source sp tp) e = absurd (no-some e)
  input-port (internal_coupling o source sp target tp) e = absurd (no-some e)

  -- "none matching, it is ignored": a Coupled has no such port exactly if no input coupling of it matches
  pub no-inputs : (inputs t owner port ≡ []) ↔ (member port (chosen (port_from sides.In owner) t.couplings) ≡ false)
  no-inputs = (
    λ e. has.1 (λ at. from-any (ports.0 at) e),
    λ f. nothing-in (inputs t owner port) (λ to at. has.0 f (ports.1 (any-map (λ c e. ap (port_from sides.In owner) e ∙ rw (is_true (same owner owner) refl)) ((inputs-element t owner port to).0 at)))),
  )
    where
      has : (member port (chosen (port_from sides.In owner) t.couplings) ≡ false) ↔ (port ∈ chosen (port_from sides.In owner) t.couplings → ⊥)
      has = fails-is (member-decides port (chosen (port_from sides.In owner) t.couplings))

      ports : (port ∈ chosen (port_from sides.In owner) t.couplings) ↔ Any (λ c. port_from sides.In owner c ≡ Some port) t.couplings
      ports = chosen-element (port_from sides.In owner) t.couplings port

      none_of : {A : Type 0} {x : A} {xs : List A} → xs ≡ [] → x ∈ xs → ⊥
      none_of e (here f) = let z : ◌≡◌ {A = ℕ} 0 1 = cc in omega arith
      none_of e (there at) = let z : ◌≡◌ {A = ℕ} 0 1 = cc in omega arith

      from-any : Any (λ c. port_from sides.In owner c ≡ Some port) t.couplings → inputs t owner port ≡ [] → ⊥
      from-any at e = let found = witness at in none_of e ((inputs-element t owner port (record { target = found.0; port = found.1 })).1 found.2)
        where
          witness : {cs : List Coupling} → Any (λ c. port_from sides.In owner c ≡ Some port) cs → (target tp : ℕ) × (external_input owner port target tp ∈ cs)
          witness (here {x = c} e) = let is = input-port c e in (is.0, is.1, here is.2)
          witness (there at) = let is = witness at in (is.0, is.1, there is.2)

-- a Coupled passes on nothing of what comes to such a port
pub coupled-hears : (t : Table) (services : List Float) (depth : ℕ) (clock : Float) (i port content : ℕ) (w : World) → kind_at t i ≡ coupled → member port (ports_at t sides.In i) ≡ false
    → external t services (suc depth) clock i port content w ≡ done (noted (came clock i port content Passed) w)
unfolding external
coupled-hears t services depth clock i port content w e f = rw e (rw ((no-inputs t (id_at t i) port).1 (rw e at f)))
