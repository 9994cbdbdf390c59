-- The laws of a Coupled's parked messages: a sweep over them is one over their places, and external events leave them as they are. Assumes nothing.
use Rattle.std.specs.Prelude.{ℕ, ◌+◌, ◌-◌, ◌≤◌, ◌<◌, ◌≡◌, refl, Bool, List, [], ◌∷◌, map, length, get_or, take, drop, eqb, Float, Option, Result, ⊤}
use Rattle.rules.specs.declared.Refusal.{Refusal}
use Rattle.std.proofs.Common.{sym, ap, ◌∙◌, zero-add, arith, ext_get_or, get_or-take, get_or-drop}
use Rattle.std.proofs.Math.ListN.{get_or-map}
use Rattle.rules.specs.Base.{Outcome, refused, done, ◌>>=◌, each, those, from}
use Rattle.rules.specs.Table.{Kind, coupled, Table, id_at, kind_at}
use Rattle.rules.specs.Simulation.{Parked, state_at, as_coupled}
use Rattle.rules.specs.Step.{World, external, unpark}
use Rattle.rules.specs.Arriving.{parked-stays}
use Rattle.words.specs.Lists.{length-lines, get_d-from}
use Rattle.words.specs.Search.{first_from}
use Rattle.words.specs.SearchLaws.{first-ext}
use Rattle.selection.specs.Selected.{each_map, those-map}
use Rattle.memory.specs.Words.{held_in, own_in}
use Rattle.memory.specs.View.{parked_of, parked_in, state_in, Row}
use Rattle.views.specs.World.{begin_of, state_of, world_in, Ready, Moves, Does}
use Rattle.views.proofs.WorldLayout.{state-is}
use Rattle.views.proofs.Parked.{few-held, held-length, row-coupled}
use Rattle.sweeps.specs.Loops.{all_of, does-as}
use Rattle.model_events.specs.DueHere.{is_one, components-all}
use Rattle.unparking.specs.Unparking.{parked_at, is_for, handed, takes}

-- ---- an event leaves a row's state as it was, where it is done
abbrev pub Leaves : ℕ → (World → Outcome World) → Type 0
Leaves row event = (w after : World) → event w ≡ done after → state_at after.states row ≡ state_at w.states row

-- so does a sweep of such events
each-leaves : {A : Type 0} (row : ℕ) (visit : A → World → Outcome World) → ((x : A) → Leaves row (visit x)) → (xs : List A) → Leaves row (each visit xs)
each-leaves row visit leaves [] w after e = let same : after ≡ w = cc in ap (λ (v : World). state_at v.states row) same
each-leaves row visit leaves (x ∷ xs) w after e = by (each-leaves row visit leaves xs) (visit x w) refl e
  where
    by : Leaves row (each visit xs) → (o : Outcome World) → visit x w ≡ o → (o >>= each visit xs) ≡ done after → state_at after.states row ≡ state_at w.states row
    by later (refused r) h e = absurd (let n : ◌≡◌ {A = ℕ} 0 1 = cc in omega arith)
    by later (done v) h e = later v after e ∙ leaves x w v h

module _ (t : Table) (services : List Float) (depth : ℕ) (clock : Float) (row : ℕ) (is : kind_at t row ≡ coupled) where
  pub handed-leaves : (j : ℕ) (m : Parked) → Leaves row (handed t services depth clock j m)
  handed-leaves j m w after e = parked-stays t services row is depth clock j m.port m.content w after e

  pub takes-leaves : (parked : List Parked) (j : ℕ) → Leaves row (takes t services depth clock parked j)
  takes-leaves parked j = each-leaves row (handed t services depth clock j) (handed-leaves j) (those (λ (m : Parked). eqb m.component (id_at t j)) parked)

-- and the words of a Coupled then hold the messages that they held
pub list-stays : (t : Table) (row : ℕ) → row < length t.rows → kind_at t row ≡ coupled → (event : World → Outcome World) → Leaves row event → (mem after : List ℕ) → Moves event t mem after
    → parked_in (begin_of t row) after row ≡ parked_in (begin_of t row) mem row
list-stays t row inside is event leaves mem after m =
    let b = begin_of t row in
    let same : state_of t after row ≡ state_of t mem row = sym (state-is t after row inside) ∙ leaves (world_in t mem []) (world_in t after (m.more [])) (m.is []) ∙ state-is t mem row inside in
    ap as_coupled (ap (λ (k : Kind). state_in k b after row) (sym is) ∙ same ∙ ap (λ (k : Kind). state_in k b mem row) is)

-- ---- the messages by their places
module _ (t : Table) (row : ℕ) (inside : row < length t.rows) (is : kind_at t row ≡ coupled) where
  abbrev b : ℕ
  b = begin_of t row

  module _ (mem : List ℕ) (ready : Ready t mem) where
    here : Row coupled b mem row
    here = row-coupled t mem row inside is ready

    pub held-few : held_in mem row ≤ 64
    held-few = few-held b mem row here

    pub own_room : b + 64 ≤ length mem
    own_room = here.placed.room

    at_place : (k : ℕ) → k < held_in mem row → get_or (parked_in b mem row) k (parked_of 0) ≡ parked_at b mem k
    at_place k l =
        get_or-map parked_of (take (held_in mem row) (own_in b 64 mem)) k 0
        ∙ ap parked_of (get_or-take (held_in mem row) (own_in b 64 mem) k 0 l ∙ get_or-take 64 (drop b mem) k 0 (omega (arith, held-few)) ∙ get_or-drop b mem k 0)

    parked-places : parked_in b mem row ≡ map (parked_at b mem) (from 0 (held_in mem row))
    parked-places =
        ext_get_or (parked_of 0) (parked_in b mem row) (map (parked_at b mem) (from 0 (held_in mem row)))
        (held-length b mem row here ∙ sym (length-lines (parked_at b mem) (held_in mem row)))
        (λ k l. let m : k < held_in mem row = omega (arith, held-length b mem row here) in at_place k m ∙ sym (get_d-from (parked_at b mem) (parked_of 0) 0 (held_in mem row) k m ∙ ap (parked_at b mem) (zero-add k)))

    -- what the row j takes is what stands at the places that are for it
    pub takes-does : (services : List Float) (depth : ℕ) (clock : Float) (j id begin held : ℕ) → id ≡ id_at t j → begin ≡ b → held ≡ held_in mem row → (after : List ℕ) (r : Result ⊤ Refusal)
        → Does r (all_of t (λ k. handed t services depth clock j (parked_at begin mem k)) (is_for id begin mem) mem held) t mem after
        → Does r (takes t services depth clock (parked_in b mem row) j) t mem after
    takes-does services depth clock j id begin held d e n after r =
        does-as t mem after (all_of t (λ k. handed t services depth clock j (parked_at begin mem k)) (is_for id begin mem) mem held) (takes t services depth clock (parked_in b mem row) j) r same
      where
        test : Parked → Bool
        test m = eqb m.component (id_at t j)

        same : (w : World) → takes t services depth clock (parked_in b mem row) j w ≡ all_of t (λ k. handed t services depth clock j (parked_at begin mem k)) (is_for id begin mem) mem held w
        same w =
            ap (λ (l : List Parked). each (handed t services depth clock j) (those test l) w) parked-places
            ∙ ap (λ (l : List Parked). each (handed t services depth clock j) l w) (those-map test (parked_at b mem) (from 0 (held_in mem row)))
            ∙ each_map (handed t services depth clock j) (parked_at b mem) (those (λ k. test (parked_at b mem k)) (from 0 (held_in mem row))) w
            ∙ rw (d, e, n)

  -- ---- words that hold the same messages
  module _ (mem after : List ℕ) (ready : Ready t mem) (ready' : Ready t after) (same : parked_in b after row ≡ parked_in b mem row) (begin held : ℕ) (e : begin ≡ b) (n : held ≡ held_in mem row) where
    pub same_at : (k : ℕ) → k < held → parked_at begin after k ≡ parked_at begin mem k
    same_at k l =
        let long : length (parked_in b after row) ≡ length (parked_in b mem row) = ap length same in
        rw e (sym (at_place after ready' k (omega (arith, held-length b after row (here after ready'), held-length b mem row (here mem ready), long, n)))
        ∙ ap (λ (l : List Parked). get_or l k (parked_of 0)) same
        ∙ at_place mem ready k (omega (arith, n)))

    -- a search among them finds the same
    pub same-found : (id start : ℕ) (r x : Option ℕ) → r ≡ first_from (is_for id begin after) start (held - start) → r ≡ x → first_from (is_for id begin mem) start (held - start) ≡ x
    same-found id start r x h g =
        sym (first-ext (is_for id begin after) (is_for id begin mem) start (held - start) (λ k low high. ap (λ (m : Parked). eqb m.component id) (same_at k (omega arith)))) ∙ sym h ∙ g

-- ---- the components, in row order, take what is parked for them
pub unpark-does : (t : Table) (services : List Float) (depth : ℕ) (clock : Float) (i owner end : ℕ) (parked : List Parked) → owner ≡ id_at t i → end ≡ length t.rows → (mem after : List ℕ) (r : Result ⊤ Refusal)
    → Does r (all_of t (takes t services depth clock parked) (is_one t owner) mem end) t mem after
    → Does r (unpark t services (external t services depth clock) i parked) t mem after
unpark-does t services depth clock i owner end parked o n mem after r =
    does-as t mem after (all_of t (takes t services depth clock parked) (is_one t owner) mem end) (unpark t services (external t services depth clock) i parked) r
    (λ w. ap (λ (l : List ℕ). each (takes t services depth clock parked) l w) (sym (components-all t owner end i o n)))
