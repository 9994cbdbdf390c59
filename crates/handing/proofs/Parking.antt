-- Messages parked one coupling at a time are the rules' `park`; and one that is parked in a row's words is parked in the world. Assumes nothing.
use Rattle.std.specs.Prelude.{Err, Ok, Option, Result, ⊤}
use Prim.Native.Nat.{ℕ, ◌-◌, ◌^◌, ◌≤◌, ◌<◌}
use mathlib.Core.Path.{◌≡◌, refl, sym, ap, subst, subst₂, ◌∙◌}
use mathlib.Core.Logic.{inr}
use mathlib.Core.Bool.{Bool}
use mathlib.Core.List.{List, [], ◌∷◌, ◌++◌, map, map-map}
use native.Mathlib.Omega.{arith}
use lib.ListN.{length, set, length-set}
use lib.Seq.{get_or-set_same, set-get_or, set-set}
use lib.Dec.{T, leb→le, le→leb, lt→ltb}
use Rattle.rules.specs.declared.Refusal.{Refusal}
use Rattle.rules.specs.declared.Refusal.TheVariants.{NoMessageRoom}
use Rattle.rules.specs.Base.{Outcome, refused, done, ◌>>=◌, each, those, hold, from, at_most}
use Rattle.rules.specs.Sizes.{is_word, most_parked}
use Rattle.rules.specs.Table.{Kind, coupled, Table, kind_at, id_at, internals}
use Rattle.rules.specs.Simulation.{Parked, State, of_coupled, state_at, as_coupled}
use Rattle.rules.specs.Step.{Happening, World, becomes}
use Rattle.rules.specs.Valid.{parked_rules, coupled_rules, state_fits}
use Rattle.rules.specs.Ends.{All, nil, ◌&◌, all_append, all-every, parts, whole_of, ends-most, ends-done}
use Rattle.rules.proofs.Least.{Fitted}
use Rattle.rules.proofs.Worlds.{Good, fitted-set, ParkedFits, parked-fit}
use Rattle.words.specs.Search.{first_from}
use Rattle.selection.specs.Selecting.{is_internal}
use Rattle.selection.specs.Selected.{leads_to, each_map}
use Rattle.memory.specs.Words.{place_in, begin_in, width_of, Own}
use Rattle.memory.specs.View.{parked_in, state_in, WordsFit, Row}
use Rattle.parked_rows.specs.Parking.{with_one, Parks}
use Rattle.views.specs.World.{begin_of, state_of, states_in, world_in, Ready, Frame, Moves, Does}
use Rattle.views.proofs.WorldLayout.{states-long, state-is, row_of}
use Rattle.views.proofs.Frames.{own-laid, own-states, own-frame}
use Rattle.views.proofs.Lifts.{row-kind}
use Rattle.lookup.specs.Inside.{Inside, table_in, couplings_in}
use Rattle.lookup.specs.InsideLaws.{internals-in, coupling-fits}
use Rattle.sweeps.specs.Appends.{one_more, appended}
use Rattle.sweeps.specs.Loops.{Going}
use Rattle.handing.specs.Handing.{parked_as, park_one, park_from}

-- ---- one at a time: what is parked is appended one at a time, and the row gets the whole
same-state : (i : ℕ) (s : State) (w : World) → state_at w.states i ≡ s → w ≡ becomes i s w
same-state i s w e = λ n. record { states = (sym (set-get_or w.states i (of_coupled [])) ∙ ap (set w.states i) e) n; place = w.place; log = w.log }

parked-each : (i : ℕ) (ms xs : List Parked) (w : World) → i < length w.states → state_at w.states i ≡ of_coupled xs
    → each (park_one i) ms w ≡ (each (one_more most_parked NoMessageRoom) ms xs >>= λ parked. done (becomes i (of_coupled parked) w))
parked-each i [] xs w inside e = ap done (same-state i (of_coupled xs) w e)
parked-each i (m ∷ ms) xs w inside e =
    ap (λ (s : State). with_one (as_coupled s) m >>= (λ parked. done (becomes i (of_coupled parked) w)) >>= each (park_one i) ms) e
    ∙ go (with_one xs m) (λ more. parked-each i ms more (becomes i (of_coupled more) w) (omega (arith, length-set w.states i (of_coupled more))) (get_or-set_same w.states i (of_coupled more) (of_coupled []) inside))
  where
    go : (o : Outcome (List Parked))
        → ((more : List Parked) → each (park_one i) ms (becomes i (of_coupled more) w) ≡ (each (one_more most_parked NoMessageRoom) ms more >>= λ parked. done (becomes i (of_coupled parked) (becomes i (of_coupled more) w))))
        → (o >>= (λ parked. done (becomes i (of_coupled parked) w)) >>= each (park_one i) ms) ≡ (o >>= each (one_more most_parked NoMessageRoom) ms >>= λ parked. done (becomes i (of_coupled parked) w))
    go (refused r) rest = refl
    go (done more) rest =
        rest more
        ∙ (λ n. each (one_more most_parked NoMessageRoom) ms more >>= λ parked. done (record { states = set-set w.states i (of_coupled more) (of_coupled parked) n; place = w.place; log = w.log }))

-- ---- what was done has at most so many
most-done : {A : Type 0} (most : ℕ) (r : Refusal) (xs ys : List A) → at_most most r xs ≡ done ys → (ys ≡ xs) × (length ys ≤ most)
most-done most r xs ys e = ends-done {B = λ _. Unit {0}} {Q = λ zs. (zs ≡ xs) × (length zs ≤ most)} (ends-most most r xs tt) e

-- ---- a row of a Coupled, whose own words begin at b
module _ (t : Table) (i : ℕ) (inside : i < length t.rows) (is : kind_at t i ≡ coupled) (mem : List ℕ) (ready : Ready t mem) where
  abbrev b : ℕ
  b = begin_in mem i

  abbrev begins : b ≡ begin_of t i
  begins = ready.laid.begins i inside

  -- what it holds is what the words say, in these and in any others
  state-of : (words : List ℕ) → state_of t words i ≡ of_coupled (parked_in b words i)
  state-of words = λ n. state_in (is n) (sym begins n) words i

  holds : (log : List Happening) → state_at (world_in t mem log).states i ≡ of_coupled (parked_in b mem i)
  holds log = state-is t mem i inside ∙ state-of mem

  rules : All T (coupled_rules (parked_in b mem i))
  rules = parts (coupled_rules (parked_in b mem i)) (subst (λ (k : Kind). T (state_fits k (of_coupled (parked_in b mem i)))) is (subst (λ (s : State). T (state_fits (kind_at t i) s)) (state-of mem) (row_of t mem i inside ready).fits))

  few : length (parked_in b mem i) ≤ most_parked
  few = go rules
    where
      go : All T (coupled_rules (parked_in b mem i)) → length (parked_in b mem i) ≤ most_parked
      go (short & rest) = leb→le (length (parked_in b mem i)) most_parked short

  -- ---- one message is parked in the words
  module _ (m : Parked) (fits : ParkedFits m) (after : List ℕ) (own : Own i b 64 0 0 mem after) (place : place_in after ≡ place_in mem) where
    owned : Own i (begin_of t i) (width_of (kind_at t i)) 0 0 mem after
    owned = subst₂ (λ (k : Kind) (b : ℕ). Own i b (width_of k) 0 0 mem after) (sym is) begins own

    states : states_in t after ≡ set (states_in t mem) i (of_coupled (parked_in b after i))
    states = own-states t i 0 0 mem after inside (λ p l. inr (omega arith)) ready.laid owned ∙ ap (set (states_in t mem) i) (state-of after)

    park-frame : Frame t 0 0 mem after
    park-frame = own-frame t i 0 0 mem after inside (λ p l. inr (omega arith)) ready.laid owned

    one-is : (log : List Happening) → park_one i m (world_in t mem log) ≡ (with_one (parked_in b mem i) m >>= λ parked. done (becomes i (of_coupled parked) (world_in t mem log)))
    one-is log = ap (λ (s : State). with_one (as_coupled s) m >>= λ parked. done (becomes i (of_coupled parked) (world_in t mem log))) (holds log)

    module _ (more : with_one (parked_in b mem i) m ≡ done (parked_in b after i)) where
      fits_after : T (state_fits coupled (of_coupled (parked_in b after i)))
      fits_after =
          let h = most-done most_parked NoMessageRoom (parked_in b mem i ++ m ∷ []) (parked_in b after i) more in
          whole_of {bs = coupled_rules (parked_in b after i)}
          (le→leb (length (parked_in b after i)) most_parked h.1
          & all-every (λ p. hold (parked_rules p)) (subst (λ (z : List Parked). All ParkedFits z) (sym h.0) (all_append (parked-fit (parked_in b mem i) rules) (fits & nil)))
          & nil)

      good : Good t (world_in t after [])
      good = (
        subst (λ (z : List State). Fitted t z) (sym states) (fitted-set i (of_coupled (parked_in b after i)) ready.good.0 (subst (λ (k : Kind). T (state_fits k (of_coupled (parked_in b after i)))) (sym is) fits_after)),
        subst (λ (n : ℕ). T (is_word n)) (sym place) ready.good.1,
      )

      moves : WordsFit coupled b after i → Moves (park_one i m) t mem after
      moves words = record {
        ready = record { laid = own-laid t i 0 0 mem after inside (λ p l. inr (omega arith)) ready.laid owned (subst₂ (λ (k : Kind) (b : ℕ). WordsFit k b after i) (sym is) begins words); good = good };
        more = λ log. log;
        is = λ log.
            one-is log
            ∙ ap (λ (o : Outcome (List Parked)). o >>= λ parked. done (becomes i (of_coupled parked) (world_in t mem log))) more
            ∙ (λ n. done (record { states = sym states n; place = sym place n; log = log }));
      }

    park-lifts : (r : Result ⊤ Refusal) → Parks r b i mem after m → Does r (park_one i m) t mem after
    park-lifts (Ok tt) parks = moves parks.is parks.words
    park-lifts (Err r) parks = λ log. one-is log ∙ ap (λ (o : Outcome (List Parked)). o >>= λ parked. done (becomes i (of_coupled parked) (world_in t mem log))) parks

-- ---- a message is parked along each coupling that matches
module _ (state : List ℕ) (i source port content : ℕ) where
  abbrev park_at : ℕ → World → Outcome World
  park_at k = park_one i (parked_as content (leads_to (couplings_in state) k))

  abbrev pub is_along : ℕ → Bool
  is_along = is_internal (couplings_in state) (id_at (table_in state) i) source port

  abbrev parks_all : World → Outcome World
  parks_all w = each park_at (those is_along (from 0 (length (table_in state).couplings))) w

  -- those before the coupling k were taken, and so `mem` was reached
  abbrev pub Parking : List ℕ → ℕ → List ℕ → Type 0
  Parking mem₀ k mem = Going (table_in state) park_at is_along mem₀ (length (table_in state).couplings) k mem

  module _ (table : Inside state) where
    targets : map (parked_as content) (internals (table_in state) (id_at (table_in state) i) source port)
        ≡ map (λ k. parked_as content (leads_to (couplings_in state) k)) (those is_along (from 0 (length (table_in state).couplings)))
    targets =
        ap (map (parked_as content)) (internals-in state table (id_at (table_in state) i) source port)
        ∙ map-map (parked_as content) (leads_to (couplings_in state)) (those is_along (from 0 (length (table_in state).couplings)))

    -- what a search answers, by the Coupled's id as it was read
    pub found-along : (owner : ℕ) → owner ≡ id_at (table_in state) i → (k : ℕ) (r f : Option ℕ) → r ≡ first_from (is_internal (couplings_in state) owner source port) k (length (table_in state).couplings - k) → r ≡ f
        → first_from is_along k (length (table_in state).couplings - k) ≡ f
    found-along owner e k r f h g = ap (λ (o : ℕ). first_from (is_internal (couplings_in state) o source port) k (length (table_in state).couplings - k)) (sym e) ∙ sym h ∙ g

    module _ (inside : i < length (table_in state).rows) (is : kind_at (table_in state) i ≡ coupled) (mem : List ℕ) (ready : Ready (table_in state) mem) where
      park-sweep : (log : List Happening) → park_from (table_in state) i source port content (world_in (table_in state) mem log) ≡ parks_all (world_in (table_in state) mem log)
      park-sweep log =
          let t = table_in state in
          let w = world_in t mem log in
          let parked = parked_in (begin_in mem i) mem i in
          let read : ℕ → Parked = λ k. parked_as content (leads_to (couplings_in state) k) in
          let ms = map read (those is_along (from 0 (length t.couplings))) in
          let whole : Outcome (List Parked) → Outcome World = λ o. o >>= λ l. done (becomes i (of_coupled l) w) in
          (λ n. whole (at_most most_parked NoMessageRoom (as_coupled (holds t i inside is mem ready log n) ++ targets n)))
          ∙ ap whole (sym (appended most_parked NoMessageRoom ms parked (few t i inside is mem ready)))
          ∙ sym (parked-each i ms parked w (omega (arith, inside, states-long t mem)) (holds t i inside is mem ready log))
          ∙ each_map (park_one i) read (those is_along (from 0 (length t.couplings))) w

      -- what the loop has done is the rules' `park`
      pub parks-moves : (after : List ℕ) → Moves parks_all (table_in state) mem after → Moves (park_from (table_in state) i source port content) (table_in state) mem after
      parks-moves after m = record { ready = m.ready; more = m.more; is = λ log. park-sweep log ∙ m.is log }

      pub parks-stops : (r : Refusal) → ((log : List Happening) → parks_all (world_in (table_in state) mem log) ≡ refused r)
          → (log : List Happening) → park_from (table_in state) i source port content (world_in (table_in state) mem log) ≡ refused r
      parks-stops r stops log = park-sweep log ∙ stops log

      -- ---- the coupling k is the next one
      module _ (k : ℕ) (below : k < length (table_in state).couplings) (small : content < 2 ^ 32) where
        target_fits : ParkedFits (parked_as content (leads_to (couplings_in state) k))
        target_fits =
            let to = leads_to (couplings_in state) k in
            let fits = coupling-fits state table k below in
            whole_of {bs = parked_rules (parked_as content to)} (lt→ltb to.target 65536 fits.0 & lt→ltb to.port 65536 fits.1 & lt→ltb content (2 ^ 32) small & nil)

        pub target_row : (id to : ℕ) → id ≡ (leads_to (couplings_in state) k).target → to ≡ (leads_to (couplings_in state) k).port → Row coupled (begin_in mem i) mem i × (id < 65536) × (to < 65536)
        target_row id to e f =
            let fits = coupling-fits state table k below in
            (row-kind (table_in state) mem i inside ready coupled is, omega (arith, fits.0), omega (arith, fits.1))

        module _ (id to : ℕ) (e : id ≡ (leads_to (couplings_in state) k).target) (f : to ≡ (leads_to (couplings_in state) k).port) (after : List ℕ)
            (own : Own i (begin_in mem i) 64 0 0 mem after) (place : place_in after ≡ place_in mem) where
          pub parks-frame : Frame (table_in state) 0 0 mem after
          parks-frame = park-frame (table_in state) i inside is mem ready (parked_as content (leads_to (couplings_in state) k)) target_fits after own place

          pub parks-at : (r : Result ⊤ Refusal) → Parks r (begin_in mem i) i mem after (record { component = id; port = to; content = content }) → (s : Result ⊤ Refusal) → r ≡ s → Does s (park_at k) (table_in state) mem after
          parks-at r parks s g =
              park-lifts (table_in state) i inside is mem ready (parked_as content (leads_to (couplings_in state) k)) target_fits after own place s
              (subst₂ (λ (m : Parked) (a : Result ⊤ Refusal). Parks a (begin_in mem i) i mem after m) (λ n. record { component = e n; port = f n; content = content }) g parks)
