-- What is sent to a batcher is accepted: a step that is not refused has a parentless batcher accept every active message with its id, in list order, and nothing else. Assumes nothing.
use Prim.Native.Nat.{ℕ, zero, suc, ◌+◌, ◌≤◌, ◌<◌}
use Rattle.std.specs.Prelude.{◌≡◌, Bool, not, length, get_or, Float, if◌then◌else◌, Option, None, Some}
use Rattle.std.proofs.Math.Path.{refl, sym, ap, subst}
use Rattle.std.proofs.Common.{◌∙◌, arith, eqb→eq}
use Rattle.std.proofs.Math.Bool.{true, false}
use mathlib.Core.List.{List, [], ◌∷◌, ◌++◌, map, append_assoc, append-nil}
use Rattle.std.proofs.Math.Dec.{T, eqb, eqb_refl, T_not}
use Rattle.rules.specs.declared.Refusal.TheVariants.{NoMessageRoom}
use Rattle.rules.specs.declared.Batcher.{Batcher}
use Rattle.rules.specs.declared.Message.{Message}
use Rattle.rules.specs.Sizes.{most_parked, most_out, deepest}
use Rattle.rules.specs.Base.{Outcome, done, each, those, from, at_most}
use Rattle.rules.specs.Table.{Kind, processor, batcher, stopwatch, coupled, Row, Table, Target, no_row, row_at, id_at, kind_at, is_parent, is_parentless, parentless, components, inputs, outputs, internals}
use Rattle.rules.specs.Simulation.{Parked, of_processor, of_batcher, of_stopwatch, of_coupled, Simulation, state_at, as_processor, as_batcher, as_stopwatch, as_coupled}
use Rattle.rules.specs.Models.{Fate, Kept, Passed, processor_external, processor_internal, batcher_external, batcher_internal, stopwatch_external, stopwatch_internal}
use Rattle.rules.specs.Step.{Out, out_at, Happening, came, went, waited, World, noted, becomes, moved, levels, due, External, Internal, external_as, external, park, hand, turn, internal_as, internal, taken, advance, all_after, later, send, root_turn, step_on, one_step}
use Rattle.rules.specs.Ends.{All, all_any, all-those, Ends, stops, goes, ends-if, ends-bind, ends-each, Whatever, ends-whatever, ends-done}
use Rattle.rules.proofs.Worlds.{world_of}
use Rattle.promises.specs.Story.{Event, Accepted, Released, Waited, was_kept, event_of, history, accepted_in, accepted, sent_to}
use Rattle.promises.specs.Machine.{history-append, accepted-append, if-not, if-so, another-row, this-row}

module _ (t : Table) (services : List Float) (row : ℕ) (alone : T (is_parentless (row_at t row).parent)) where
  -- the row has accepted xs so far
  abbrev Has : List ℕ → World → Type 0
  Has xs w = accepted row w.log ≡ xs

  noted-has : (h : Happening) (xs : List ℕ) (es : List Event) (w : World) → event_of row h ≡ es → Has xs w → Has (xs ++ accepted_in es) (noted h w)
  noted-has h xs es w e k =
      ap accepted_in (history-append row w.log (h ∷ []) ∙ ap (λ (z : List Event). history row w.log ++ z) (append-nil (event_of row h) ∙ e))
      ∙ accepted-append (history row w.log) es ∙ ap (λ (z : List ℕ). z ++ accepted_in es) k

  noted-still : (h : Happening) (xs : List ℕ) (es : List Event) (w : World) → event_of row h ≡ es → accepted_in es ≡ [] → Has xs w → Has xs (noted h w)
  noted-still h xs es w e n k = noted-has h xs es w e k ∙ ap (λ (z : List ℕ). xs ++ z) n ∙ append-nil xs

  abbrev Else : ℕ → Type 0
  Else i = row ≡ i → ⊥

  -- no component is a parentless row
  inside : (owner : ℕ) → All Else (components t owner)
  inside owner =
      all-those {P = Whatever} (λ i. is_parent owner (row_at t i).parent) (all_any (from 0 (length t.rows)) (λ _. tt))
      (λ i _ p e. go (row_at t row).parent alone (subst (λ (z : ℕ). T (is_parent owner (row_at t z).parent)) (sym e) p))
    where
      go : (o : Option ℕ) → T (is_parentless o) → T (is_parent owner o) → ⊥
      go None a p = p
      go (Some q) a p = a

  came-still : (clock : Float) (i port content : ℕ) (fate : Fate) (xs : List ℕ) (w : World) → Else i → Has xs w → Has xs (noted (came clock i port content fate) w)
  came-still clock i port content fate xs w n k = noted-still (came clock i port content fate) xs [] w (another-row row i (if was_kept fate then Accepted content ∷ [] else []) n) refl k

  went-still : (clock : Float) (i : ℕ) (out : List Out) (xs : List ℕ) (w : World) → Has xs w → Has xs (noted (went clock i out) w)
  went-still clock i out xs w k = go (eqb i row) refl
    where
      go : (b : Bool) → eqb i row ≡ b → Has xs (noted (went clock i out) w)
      go true e = noted-still (went clock i out) xs _ w (ap (λ (z : Bool). if z then Released (map (λ (m : Out). m.content) out) ∷ [] else []) e) refl k
      go false e = noted-still (went clock i out) xs [] w (ap (λ (z : Bool). if z then Released (map (λ (m : Out). m.content) out) ∷ [] else []) e) refl k

  -- ---- events at other rows
  abbrev ExtStill : External t services → Type 0
  ExtStill ext = (i port content : ℕ) (xs : List ℕ) (w : World) → Else i → Has xs w → Ends Whatever (Has xs) (ext i port content w)

  external_as-still : (k : Kind) (ext : External t services) → ExtStill ext → (clock : Float) (i port content : ℕ) (xs : List ℕ) (w : World) → Else i → Has xs w → Ends Whatever (Has xs) (external_as t services k ext clock i port content w)
  external_as-still (processor p) ext rec clock i port content xs w n k =
      ends-bind {Q = Whatever} _ (ends-whatever (processor_external p services port content (as_processor (state_at w.states i)) w.place))
      (λ r _. goes (came-still clock i port content r.2 xs (becomes i (of_processor r.0) (moved r.1 w)) n k))
  external_as-still (batcher b) ext rec clock i port content xs w n k =
      ends-bind {Q = Whatever} _ (ends-whatever (batcher_external b content (as_batcher (state_at w.states i)))) (λ s _. goes (came-still clock i port content Kept xs (becomes i (of_batcher s) w) n k))
  external_as-still (stopwatch p) ext rec clock i port content xs w n k =
      ends-bind {Q = Whatever} _ (ends-whatever (stopwatch_external p clock port content (as_stopwatch (state_at w.states i)))) (λ r _. goes (came-still clock i port content r.1 xs (becomes i (of_stopwatch r.0) w) n k))
  external_as-still coupled ext rec clock i port content xs w n k =
      ends-each {P = Whatever} _ _ (all_any (inputs t (id_at t i) port) (λ _. tt))
      (λ to w₁ _ k₁. ends-each {P = Else} _ w₁ (all-those (λ j. eqb (id_at t j) to.target) (inside (id_at t i)) (λ j d _. d)) (λ j w₂ d k₂. rec j to.port content xs w₂ d k₂) k₁)
      (came-still clock i port content Passed xs w n k)

  external-still : (depth : ℕ) (clock : Float) → ExtStill (external t services depth clock)
  unfolding external
  external-still zero clock i port content xs w n k = stops tt
  external-still (suc depth) clock i port content xs w n k = external_as-still (kind_at t i) (external t services depth clock) (external-still depth clock) clock i port content xs w n k

  -- ---- internal events, of the row itself too
  abbrev IntStill : Internal t services → Type 0
  IntStill int = (i : ℕ) (xs : List ℕ) (w : World) → Has xs w → Ends Whatever (λ r. Has xs r.0) (int i w)

  park-still : (i j : ℕ) (m : Out) (xs : List ℕ) (w : World) → Has xs w → Ends Whatever (Has xs) (park t services i j m w)
  park-still i j m xs w k =
      ends-bind {Q = Whatever} _
      (ends-whatever (at_most most_parked NoMessageRoom (as_coupled (state_at w.states i) ++ map (λ (to : Target). record { component = to.target; port = to.port; content = m.content }) (internals t (id_at t i) (id_at t j) m.port))))
      (λ more _. goes k)

  hand-still : (i j : ℕ) (m : Out) (xs : List ℕ) (r : World × List Out) → Has xs r.0 → Ends Whatever (λ r. Has xs r.0) (hand t services i j m r)
  hand-still i j m xs r k =
      ends-bind _ (park-still i j m xs r.0 k)
      (λ w k₁. ends-bind {Q = Whatever} _ (ends-whatever (at_most most_out NoMessageRoom (r.1 ++ map (λ port. out_at port m.content) (outputs t (id_at t i) (id_at t j) m.port)))) (λ out _. goes {a = (w, out)} k₁))

  turn-still : (depth i j : ℕ) (int : Internal t services) → IntStill int → (xs : List ℕ) (r : World × List Out) → Has xs r.0 → Ends Whatever (λ r. Has xs r.0) (turn t services depth int i j r)
  turn-still depth i j int rec xs r k =
      ends-if (due t depth r.0.states j)
      (λ _. ends-bind _ (rec j xs r.0 k) (λ x g. ends-each {P = Whatever} (hand t services i j) (x.0, r.1) (all_any x.1 (λ _. tt)) (λ m y _ h. hand-still i j m xs y h) g))
      (λ _. goes {a = r} k)

  internal_as-still : (k : Kind) (depth : ℕ) (ext : External t services) (int : Internal t services) → ExtStill ext → IntStill int → (clock : Float) (i : ℕ) (xs : List ℕ) (w : World) → Has xs w
      → Ends Whatever (λ r. Has xs r.0) (internal_as t services k depth ext int clock i w)
  internal_as-still (processor p) depth ext int e n clock i xs w k =
      ends-bind {Q = Whatever} _ (ends-whatever (processor_internal services (as_processor (state_at w.states i)) w.place))
      (λ r _. goes {a = (noted (went clock i (map (out_at p.output) r.2)) (becomes i (of_processor r.0) (moved r.1 w)), map (out_at p.output) r.2)}
      (went-still clock i (map (out_at p.output) r.2) xs (becomes i (of_processor r.0) (moved r.1 w)) k))
  internal_as-still (batcher b) depth ext int e n clock i xs w k = goes (went-still clock i _ xs (becomes i (of_batcher (batcher_internal b (as_batcher (state_at w.states i))).0) w) k)
  internal_as-still (stopwatch p) depth ext int e n clock i xs w k = goes (went-still clock i _ xs (becomes i (of_stopwatch (stopwatch_internal p (as_stopwatch (state_at w.states i))).0) w) k)
  internal_as-still coupled depth ext int e n clock i xs w k =
      ends-bind {Q = Has xs} _
      (ends-each {P = Else} _ w (inside (id_at t i))
      (λ j w₁ d k₁. ends-each {P = Whatever} _ w₁ (all_any (those (λ (m : Parked). eqb m.component (id_at t j)) (as_coupled (state_at w.states i))) (λ _. tt)) (λ m w₂ _ k₂. e j m.port m.content xs w₂ d k₂) k₁) k)
      (λ w₁ k₁. ends-bind {Q = λ r. Has xs r.0} _
      (ends-each {P = Whatever} (turn t services depth int i) (becomes i (of_coupled []) w₁, []) (all_any (components t (id_at t i)) (λ _. tt)) (λ j r _ g. turn-still depth i j int n xs r g) k₁)
      (λ r g. goes {a = (noted (went clock i r.1) r.0, r.1)} (went-still clock i r.1 xs r.0 g)))

  internal-still : (depth : ℕ) (clock : Float) → IntStill (internal t services depth clock)
  unfolding internal
  internal-still zero clock i xs w k = stops tt
  internal-still (suc depth) clock i xs w k =
      internal_as-still (kind_at t i) depth (external t services depth clock) (internal t services depth clock) (external-still depth clock) (internal-still depth clock) clock i xs w k

  root_turn-still : (clock : Float) (i : ℕ) (xs : List ℕ) (r : World × List Message) → Has xs r.0 → Ends Whatever (λ r. Has xs r.0) (root_turn t services clock i r)
  root_turn-still clock i xs r k =
      ends-if (due t levels r.0.states i)
      (λ _. ends-bind _ (internal-still levels clock i xs r.0 k) (λ x g. ends-bind {Q = Whatever} _ (ends-whatever (each (send t clock i) x.1 r.1)) (λ sent _. goes {a = (x.0, sent)} g)))
      (λ _. goes {a = r} k)

  -- ---- the row's own messages, when it is a batcher's
  module _ (b : Batcher) (is : kind_at t row ≡ batcher b) where
    own-event : (clock : Float) (port content : ℕ) (xs : List ℕ) (w : World) → Has xs w → Ends Whatever (Has (xs ++ content ∷ [])) (external t services levels clock row port content w)
    unfolding external
    own-event clock port content xs w k =
        subst (λ (z : Kind). Ends Whatever (Has (xs ++ content ∷ [])) (external_as t services z (external t services deepest clock) clock row port content w)) (sym is)
        (ends-bind {Q = Whatever} _ (ends-whatever (batcher_external b content (as_batcher (state_at w.states row))))
        (λ s _. goes (noted-has (came clock row port content Kept) xs (Accepted content ∷ []) (becomes row (of_batcher s) w) (this-row row (Accepted content ∷ [])) k)))

    own-messages : (clock : Float) (ms : List Message) (xs : List ℕ) (w : World) → Has xs w
        → Ends Whatever (Has (xs ++ map (λ (m : Message). m.content) ms)) (each (λ (m : Message). external t services levels clock row m.target_port m.content) ms w)
    own-messages clock [] xs w k = goes (k ∙ sym (append-nil xs))
    own-messages clock (m ∷ ms) xs w k =
        ends-bind _ (own-event clock m.target_port m.content xs w k)
        (λ w₁ k₁. subst (λ (z : List ℕ). Ends Whatever (Has z) (each (λ (m : Message). external t services levels clock row m.target_port m.content) ms w₁)) (append_assoc xs (m.content ∷ []) (map (λ (m : Message). m.content) ms))
        (own-messages clock ms (xs ++ m.content ∷ []) w₁ k₁))

    module _ (active : List Message) where
      -- what the rows of a list bring to this one
      gained : List ℕ → List ℕ
      gained [] = []
      gained (i ∷ is) = (if eqb i row then sent_to t row active else []) ++ gained is

      visit : Float → ℕ → World → Outcome World
      visit clock i = each (λ (m : Message). external t services levels clock i m.target_port m.content) (those (λ (m : Message). eqb m.target_id (id_at t i)) active)

      visit-gains : (clock : Float) (i : ℕ) (xs : List ℕ) (w : World) → Has xs w → Ends Whatever (Has (xs ++ (if eqb i row then sent_to t row active else []))) (visit clock i w)
      unfolding visit
      visit-gains clock i xs w k = go (eqb i row) (eqb→eq i row) (λ f e. T_not (eqb i row) f (subst (λ (z : ℕ). T (eqb z row)) e (eqb_refl row)))
        where
          go : (x : Bool) → (T x → i ≡ row) → (T (not x) → row ≡ i → ⊥) → Ends Whatever (Has (xs ++ (if x then sent_to t row active else []))) (visit clock i w)
          go true f g = subst (λ (z : ℕ). Ends Whatever (Has (xs ++ sent_to t row active)) (visit clock z w)) (sym (f tt)) (own-messages clock (those (λ (m : Message). eqb m.target_id (id_at t row)) active) xs w k)
          go false f g =
              subst (λ (z : List ℕ). Ends Whatever (Has z) (visit clock i w)) (sym (append-nil xs))
              (ends-each {P = Whatever} _ w (all_any (those (λ (m : Message). eqb m.target_id (id_at t i)) active) (λ _. tt)) (λ m w₁ _ k₁. external-still levels clock i m.target_port m.content xs w₁ (g tt) k₁) k)

      rows-gain : (clock : Float) (rows : List ℕ) (xs : List ℕ) (w : World) → Has xs w → Ends Whatever (Has (xs ++ gained rows)) (each (visit clock) rows w)
      unfolding gained
      rows-gain clock [] xs w k = goes (k ∙ sym (append-nil xs))
      rows-gain clock (i ∷ rows) xs w k =
          ends-bind _ (visit-gains clock i xs w k)
          (λ w₁ k₁. subst (λ (z : List ℕ). Ends Whatever (Has z) (each (visit clock) rows w₁)) (append_assoc xs (if eqb i row then sent_to t row active else []) (gained rows))
          (rows-gain clock rows (xs ++ (if eqb i row then sent_to t row active else [])) w₁ k₁))

      -- the row stands among the parentless ones once
      abbrev roots : ℕ → ℕ → List ℕ
      roots j k = those (λ i. is_parentless (row_at t i).parent) (from j k)

      -- a row of another number brings nothing
      front : (j : ℕ) (rest xs : List ℕ) → (j ≡ row → ⊥) → gained rest ≡ xs → (x : Bool) → gained (if x then j ∷ rest else rest) ≡ xs
      unfolding gained
      front j rest xs n e true = ap (λ (z : List ℕ). z ++ gained rest) (if-not (eqb j row) (sent_to t row active) [] (λ h. n (eqb→eq j row h))) ∙ e
      front j rest xs n e false = e

      gained-past : (k j : ℕ) → row < j → gained (roots j k) ≡ []
      unfolding gained
      gained-past zero j l = refl
      gained-past (suc k) j l = front j (roots (suc j) k) [] (λ e. omega arith) (gained-past k (suc j) (omega arith)) (is_parentless (row_at t j).parent)

      gained-once : (k j : ℕ) → j ≤ row → row < j + k → gained (roots j k) ≡ sent_to t row active
      unfolding gained
      gained-once zero j l u = absurd (omega arith)
      gained-once (suc k) j l u = go (eqb j row) (eqb→eq j row) (λ f e. T_not (eqb j row) f (subst (λ (z : ℕ). T (eqb z row)) (sym e) (eqb_refl row))) (λ l₁. gained-once k (suc j) l₁ (omega arith))
        where
          here : j ≡ row → gained (roots j (suc k)) ≡ sent_to t row active
          here e =
              ap gained (if-so (is_parentless (row_at t j).parent) (j ∷ roots (suc j) k) (roots (suc j) k) (subst (λ (z : ℕ). T (is_parentless (row_at t z).parent)) (sym e) alone))
              ∙ ap (λ (z : List ℕ). z ++ gained (roots (suc j) k)) (if-so (eqb j row) (sent_to t row active) [] (subst (λ (z : ℕ). T (eqb z row)) (sym e) (eqb_refl row)))
              ∙ ap (λ (z : List ℕ). sent_to t row active ++ z) (gained-past k (suc j) (omega arith)) ∙ append-nil (sent_to t row active)

          go : (x : Bool) → (T x → j ≡ row) → (T (not x) → j ≡ row → ⊥) → (suc j ≤ row → gained (roots (suc j) k) ≡ sent_to t row active) → gained (roots j (suc k)) ≡ sent_to t row active
          go true f g rec = here (f tt)
          go false f g rec = let n = g tt in front j (roots (suc j) k) (sent_to t row active) n (rec (let z : (j ≡ row → ⊥) = n in omega arith)) (is_parentless (row_at t j).parent)

    step-gains : (sim : Simulation) → row < length t.rows → Ends Whatever (λ r. accepted row r.1 ≡ sent_to t row sim.active) (step_on t services sim)
    unfolding step_on visit
    step-gains sim l =
        ends-bind {Q = Has (sent_to t row sim.active)} _
        (subst (λ (z : List ℕ). Ends Whatever (Has z) (taken t services sim.clock sim.active (world_of sim []))) (gained-once sim.active (length t.rows) 0 (omega arith) (omega arith)) (rows-gain sim.active sim.clock (parentless t) [] (world_of sim []) refl))
        (λ w₁ k₁. ends-bind {Q = Whatever} _ (ends-whatever (advance t sim.active w₁.states))
        (λ a _. ends-bind {Q = Whatever} _ (ends-whatever (later sim.clock a))
        (λ clock _. ends-bind {Q = λ r. Has (sent_to t row sim.active) r.0} _
        (ends-each {P = Whatever} (root_turn t services clock) (all_after a w₁, []) (all_any (parentless t) (λ _. tt)) (λ i r _ g. root_turn-still clock i (sent_to t row sim.active) r g)
        (noted-still (waited a) (sent_to t row sim.active) (Waited a ∷ []) w₁ refl refl k₁))
        (λ r g. goes g))))

-- a row of a kind stands in the table
in_table : (rows : List Row) (i : ℕ) (b : Batcher) → (get_or rows i no_row).kind ≡ batcher b → i < length rows
in_table [] i b e = absurd (let z : ◌≡◌ {A = ℕ} 0 1 = cc in omega arith)
in_table (r ∷ rows) zero b e = omega arith
in_table (r ∷ rows) (suc i) b e = let l = in_table rows i b e in omega arith

pub step-accepts : (services : List Float) (sim next : Simulation) (log : List Happening) → one_step services sim ≡ done (next, log) → (row : ℕ) (b : Batcher) → kind_at sim.table row ≡ batcher b
    → T (is_parentless (row_at sim.table row).parent) → accepted row log ≡ sent_to sim.table row sim.active
step-accepts services sim next log e row b is alone = ends-done (step-gains sim.table services row alone b is sim (in_table sim.table.rows row b is)) e
