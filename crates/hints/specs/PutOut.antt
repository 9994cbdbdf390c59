-- Nothing comes out of a model at a port that it does not have; so a connector or coupling whose source is not known carries nothing. Assumes nothing.
use Prim.Native.Nat.{ℕ, zero, suc}
use Rattle.std.specs.Prelude.{◌≡◌, refl, true, List, [], ◌∷◌, ◌++◌, map, Float, Ok}
use Rattle.std.proofs.Common.{sym, ap, ◌∙◌, subst}
use Rattle.rules.specs.declared.Refusal.TheVariants.{NoMessageRoom}
use Rattle.rules.specs.Sizes.{most_out}
use Rattle.rules.specs.Base.{done}
use Rattle.rules.specs.Table.{Kind, processor, batcher, stopwatch, coupled, Table, Connector, id_at, kind_at, parentless, components, outputs, connected}
use Rattle.rules.specs.Simulation.{state_at, as_processor, as_batcher, as_stopwatch, as_coupled, of_coupled}
use Rattle.rules.specs.Models.{processor_internal, batcher_internal, stopwatch_internal}
use Rattle.rules.specs.Step.{World, Out, out_at, Internal, External, becomes, due, park, hand, turn, unpark, internal_as, external, internal}
use Rattle.rules.specs.Valid.{member}
use Rattle.rules.specs.Ends.{All, nil, ◌&◌, all_any, all_append, all_map, Ends, stops, goes, ends-if, ends-bind, ends-done, ends-each, ends-most, Whatever, ends-whatever}
use Rattle.rules.specs.Depth.{Fine}
use Rattle.rules.specs.Decides.{is_true, here, there, same, ◌∈◌, member-decides, chosen-element, outputs-element, connected-element}
use Rattle.table.specs.Readers.{named}
use Rattle.hints.specs.declared.Side.TheVariants as sides
use Rattle.hints.specs.Naming.{port_from, ports_of, ports_at, root_end, component_end}
use Rattle.hints.specs.Heard.{any-map, root-meant, component-meant}

-- ---- lists
-- what holds of each element
all_of : {A : Type 0} {P : A → Type 0} (xs : List A) → ((x : A) → x ∈ xs → P x) → All P xs
all_of [] f = nil
all_of (x ∷ xs) f = f x (here refl) & all_of xs (λ y at. f y (there at))

of-all : {A : Type 0} {P : A → Type 0} {xs : List A} {x : A} → All P xs → x ∈ xs → P x
of-all {A = A} {P = P} nil x6 = elim x6 [ ]
of-all {P = P} (h & p) (here e) = subst P e h
of-all (h & p) (there at) = of-all p at

-- ---- one event
-- the ports of the model of this kind in the row i
abbrev out_ports : Table → ℕ → Kind → List ℕ
out_ports t i kind = ports_of sides.Out t.couplings (id_at t i) (named kind)

-- each message is at one of them
abbrev AtThem : Table → ℕ → Kind → World × List Out → Type 0
AtThem t i kind r = All (λ (m : Out). m.port ∈ out_ports t i kind) r.1

module _ (t : Table) (services : List Float) where
  -- an atom's jobs, at its port
  atom-out : (port : ℕ) (jobs : List ℕ) → All (λ (m : Out). m.port ∈ (port ∷ [])) (map (out_at port) jobs)
  atom-out port jobs = all_map (out_at port) (all_any {P = Whatever} jobs (λ _. tt)) (λ job _. here refl)

  -- an output coupling's target port is the Coupled's
  outputs-at : (i source port to : ℕ) → to ∈ outputs t (id_at t i) source port → to ∈ out_ports t i coupled
  outputs-at i source port to at =
      (chosen-element (port_from sides.Out (id_at t i)) t.couplings to).1
      (any-map (λ c e. ap (port_from sides.Out (id_at t i)) e ∙ rw (is_true (same (id_at t i) (id_at t i)) refl)) ((outputs-element (id_at t i) source port t to).0 at))

  hand-out : (i j : ℕ) (m : Out) (r : World × List Out) → AtThem t i coupled r → Ends Whatever (AtThem t i coupled) (hand t services i j m r)
  hand-out i j m (w, out) h =
      let to = outputs t (id_at t i) (id_at t j) m.port in
      ends-bind _ (ends-whatever (park t services i j m w))
      (λ w' _. ends-bind _ (ends-most most_out NoMessageRoom (out ++ map (λ port. out_at port m.content) to) tt)
      (λ out' e. goes (subst (All (λ (m : Out). m.port ∈ out_ports t i coupled)) (sym e.0) (all_append h (all_map (λ port. out_at port m.content) (all_of to (outputs-at i (id_at t j) m.port)) (λ port at. at))))))

  turn-out : (depth i j : ℕ) (int : Internal t services) (r : World × List Out) → AtThem t i coupled r → Ends Whatever (AtThem t i coupled) (turn t services depth int i j r)
  turn-out depth i j int (w, out) h =
      ends-if (due t depth w.states j)
      (λ _. ends-bind _ (ends-whatever (int j w)) (λ r _. ends-each (hand t services i j) (r.0, out) (all_any {P = Whatever} r.1 (λ _. tt)) (λ m s _ g. hand-out i j m s g) h))
      (λ _. goes h)

  event-out : (kind : Kind) (depth : ℕ) (ext : External t services) (int : Internal t services) (clock : Float) (i : ℕ) (w : World) → Ends Whatever (AtThem t i kind) (internal_as t services kind depth ext int clock i w)
  event-out (processor p) depth ext int clock i w =
      ends-bind _ (ends-whatever (processor_internal services (as_processor (state_at w.states i)) w.place)) (λ r _. goes (atom-out p.output r.2))
  event-out (batcher b) depth ext int clock i w = goes (atom-out b.output (batcher_internal b (as_batcher (state_at w.states i))).1)
  event-out (stopwatch p) depth ext int clock i w = goes (atom-out p.output (stopwatch_internal p (as_stopwatch (state_at w.states i))).1)
  event-out coupled depth ext int clock i w =
      ends-bind _ (ends-whatever (unpark t services ext i (as_coupled (state_at w.states i)) w))
      (λ w₁ _. ends-bind _ (ends-each (turn t services depth int i) (becomes i (of_coupled []) w₁, []) (all_any {P = Whatever} (components t (id_at t i)) (λ _. tt)) (λ j r _ h. turn-out depth i j int r h) nil)
      (λ r h. goes h))

  -- what an internal event puts out is at ports of its model
  pub comes-out : (depth : ℕ) (clock : Float) (i : ℕ) (w : World) → Ends Whatever (λ (r : World × List Out). All (λ (m : Out). m.port ∈ ports_at t sides.Out i) r.1) (internal t services depth clock i w)
  unfolding internal
  comes-out zero clock i w = stops tt
  comes-out (suc depth) clock i w = event-out (kind_at t i) depth (external t services depth clock) (internal t services depth clock) clock i w

  -- ---- ends
  module _ (ok : Fine t) (depth : ℕ) (clock : Float) (i : ℕ) (w after : World) (ms : List Out) (e : internal t services depth clock i w ≡ done (after, ms)) (m : Out) (at : m ∈ ms) where
    there-is : member m.port (ports_at t sides.Out i) ≡ true
    there-is = is_true (member-decides m.port (ports_at t sides.Out i)) (of-all (ends-done (comes-out depth clock i w) e) at)

    -- of a message out, the end that it comes from is known
    pub root-out : i ∈ parentless t → root_end t (id_at t i) m.port sides.Out ≡ Ok tt
    root-out root = root-meant t ok m.port sides.Out i root ∙ rw there-is

    pub component-out : (owner : ℕ) → i ∈ components t owner → component_end t owner (id_at t i) m.port sides.Out ≡ Ok tt
    component-out owner inside = component-meant t ok m.port sides.Out owner i inside ∙ rw there-is

    -- so is the source of each connector that it goes along
    pub connector-out : i ∈ parentless t → (c : Connector) → c ∈ connected t (id_at t i) m.port → root_end t c.source c.source_port sides.Out ≡ Ok tt
    connector-out root c along = let same = ((connected-element t (id_at t i) m.port c).0 along).1 in (λ k. root_end t (same.0 k) (same.1 k) sides.Out) ∙ root-out root
