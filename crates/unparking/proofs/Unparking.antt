-- The loop over a Coupled's components: each takes what is parked for it, and the list stays as it is. Assumes nothing.
use Rattle.std.specs.Prelude.{Err, None, Ok, Option, Result, Some, ⊤}
use Prim.Native.Nat.{ℕ, ◌+◌, ◌-◌, ◌≤◌, ◌<◌}
use mathlib.Core.Path.{◌≡◌, refl, sym, subst, ◌∙◌}
use mathlib.Core.Bool.{true}
use mathlib.Core.List.{List}
use native.Mathlib.Omega.{arith}
use lib.ListN.{length}
use lib.Dec.{T}
use lib.Ieee.{Float}
use Rattle.rules.specs.declared.Refusal.{Refusal}
use Rattle.rules.specs.Base.{Outcome, done}
use Rattle.rules.specs.Table.{Table, id_at, kind_at, coupled, components}
use Rattle.rules.specs.Simulation.{Parked}
use Rattle.rules.specs.Step.{World, external, unpark}
use Rattle.rules.specs.Ends.{All}
use Rattle.rules.specs.Depth.{Deep}
use Rattle.words.specs.Search.{first_from}
use Rattle.selection.specs.Selected.{sweep-bounds}
use Rattle.lookup.specs.Inside.{table_in}
use Rattle.lookup.specs.InsideLaws.{in-components, sizes-in}
use Rattle.memory.specs.View.{parked_in}
use Rattle.views.specs.World.{begin_of, Frame, Does}
use Rattle.views.proofs.Frames.{frame_then}
use Rattle.sweeps.specs.Loops.{all_of, Going, going_start, going_on, going-stops, going-none}
use Rattle.model_events.specs.Events.{Event}
use Rattle.model_events.specs.DueHere.{is_one, found-next}
use Rattle.unparking.specs.Unparking.{takes}
use Rattle.unparking.specs.UnparkingLaws.{takes-leaves, list-stays, unpark-does}

-- what `unpark` asks for, with the words at first
pub record Asked (state : List ℕ) (depth : ℕ) (clock : Float) (row : ℕ) (mem₀ : List ℕ) : Type 0 where
  pub event : Event state mem₀ clock row
  pub is : kind_at (table_in state) row ≡ coupled
  pub deep : All (Deep (table_in state) depth) (components (table_in state) (id_at (table_in state) row))

module _ (state : List ℕ) (services : List Float) (depth : ℕ) (clock : Float) (row owner end : ℕ) (mem₀ : List ℕ) where
  -- the list at first
  abbrev parked : List Parked
  parked = parked_in (begin_of (table_in state) row) mem₀ row

  abbrev visit : ℕ → World → Outcome World
  visit = takes (table_in state) services depth clock parked

  -- the components before `from` took theirs, and so `mem` was reached
  pub record Unparking (from : ℕ) (mem : List ℕ) : Type 0 where
    pub asked : Asked state depth clock row mem₀
    pub owned : owner ≡ id_at (table_in state) row
    pub ends : end ≡ length (table_in state).rows
    pub same : parked_in (begin_of (table_in state) row) mem row ≡ parked
    pub going : Going (table_in state) visit (is_one (table_in state) owner) mem₀ end from mem

  abbrev whole : World → Outcome World
  whole = unpark (table_in state) services (external (table_in state) services depth clock) row parked

  -- an answer, and what `unpark` then shows
  abbrev Unparks : Result ⊤ Refusal → List ℕ → Type 0
  Unparks r after = Does r whole (table_in state) mem₀ after × Frame (table_in state) 0 0 mem₀ after

  pub unpark-start : Asked state depth clock row mem₀ → owner ≡ id_at (table_in state) row → end ≡ length (table_in state).rows → Unparking 0 mem₀
  unpark-start asked o n = record {
    asked = asked;
    owned = o;
    ends = n;
    same = refl;
    going = going_start (table_in state) visit (is_one (table_in state) owner) mem₀ end asked.event.scene.ready;
  }

module _ {state : List ℕ} {services : List Float} {depth : ℕ} {clock : Float} {row owner end : ℕ} {mem₀ : List ℕ} {from : ℕ} {mem : List ℕ} (u : Unparking state services depth clock row owner end mem₀ from mem) where
  abbrev t : Table
  t = table_in state

  abbrev list : List Parked
  list = parked state services depth clock row owner end mem₀

  abbrev next : ℕ → World → Outcome World
  next = takes t services depth clock list

  as-whole : (after : List ℕ) (r : Result ⊤ Refusal) → Does r (all_of t next (is_one t owner) mem₀ end) t mem₀ after → Does r (whole state services depth clock row owner end mem₀) t mem₀ after
  as-whole after r = unpark-does t services depth clock row owner end list u.owned u.ends mem₀ after r

  module _ {found : Option ℕ} (searched : found ≡ first_from (is_one t owner) from (length t.rows - from)) where
    first : (x : Option ℕ) → found ≡ x → first_from (is_one t owner) from (end - from) ≡ x
    first x e = found-next t owner end u.ends from found x searched e

    pub unpark-none : found ≡ None → Unparks state services depth clock row owner end mem₀ (Ok tt) mem
    unpark-none e = (as-whole mem (Ok tt) (going-none t next (is_one t owner) mem₀ end from mem u.going (first None e)), u.going.frame)

    module _ {j : ℕ} (e : found ≡ Some j) where
      bounds : (from ≤ j) × (j < end) × (is_one t owner j ≡ true)
      bounds = sweep-bounds {S = ℕ} (λ k s. done s) (is_one t owner) from end 0 j (first (Some j) e)

      pub component-bounds : (from ≤ j) × (j < end) × (end ≤ 64)
      component-bounds = let few = sizes-in state u.asked.event.scene.inside in let n = u.ends in (bounds.0, bounds.1, omega arith)

      -- the component may take its messages: it is one of the table's, with the depth that is left
      pub may-deliver : Event state mem clock row × (kind_at t row ≡ coupled) × (j < length t.rows) × Deep t depth j
      may-deliver =
          let scene = u.asked.event.scene in
          let below : j < length t.rows = omega (arith, bounds.1, u.ends) in
          let deep = subst (λ (k : ℕ). All (Deep t depth) (components t k)) (sym u.owned) u.asked.deep in (
            record { scene = record { inside = scene.inside; ready = u.going.ready; time = scene.time }; in_table = u.asked.event.in_table },
            u.asked.is,
            below,
            in-components state scene.inside owner j below (subst T (sym bounds.2) tt) (Deep t depth) deep,
          )

      module _ (after : List ℕ) (r : Result ⊤ Refusal) (does : Does r (takes t services depth clock (parked_in (begin_of t row) mem row) j) t mem after) (frame : Frame t 0 0 mem after) where
        visited : (x : Result ⊤ Refusal) → r ≡ x → Does x (next j) t mem after
        visited x q =
            subst (λ (x : Result ⊤ Refusal). Does x (next j) t mem after) q
            (subst (λ (l : List Parked). Does r (takes t services depth clock l j) t mem after) u.same does)

        pub unpark-on : r ≡ Ok tt → Unparking state services depth clock row owner end mem₀ (j + 1) after
        unpark-on q = record {
          asked = u.asked;
          owned = u.owned;
          ends = u.ends;
          same = list-stays t row u.asked.event.in_table u.asked.is (next j) (takes-leaves t services depth clock row u.asked.is list j) mem after (visited (Ok tt) q) ∙ u.same;
          going = going_on t next (is_one t owner) mem₀ end from mem u.going j after (first (Some j) e) (visited (Ok tt) q) frame;
        }

        pub unpark-stops : {refusal : Refusal} → r ≡ Err refusal → Unparks state services depth clock row owner end mem₀ (Err refusal) after
        unpark-stops {refusal} q = (
          as-whole after (Err refusal) (going-stops t next (is_one t owner) mem₀ end from mem u.going j refusal after (first (Some j) e) (visited (Err refusal) q)),
          frame_then t 0 0 mem₀ mem after u.going.frame frame,
        )
