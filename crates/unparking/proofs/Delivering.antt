-- The loop over the messages parked for one component: the words keep the list that they held at first, and what is left of it is the whole of it. Assumes nothing.
use Rattle.std.specs.Prelude.{Err, None, Ok, Option, Result, Some, ⊤}
use Prim.Native.Nat.{ℕ, ◌+◌, ◌-◌, ◌≤◌, ◌<◌}
use mathlib.Core.Path.{◌≡◌, refl, subst, ◌∙◌}
use mathlib.Core.List.{List}
use native.Mathlib.Omega.{arith}
use lib.ListN.{length}
use lib.Ieee.{Float}
use Rattle.rules.specs.declared.Refusal.{Refusal}
use Rattle.rules.specs.Base.{Outcome, done}
use Rattle.rules.specs.Table.{Table, id_at, kind_at, coupled}
use Rattle.rules.specs.Simulation.{Parked}
use Rattle.rules.specs.Step.{World}
use Rattle.rules.specs.Depth.{Deep}
use Rattle.words.specs.Search.{first_from}
use Rattle.selection.specs.Selected.{sweep-bounds}
use Rattle.lookup.specs.Inside.{table_in}
use Rattle.memory.specs.Words.{head_at, held_in, begin_in}
use Rattle.memory.specs.View.{parked_in}
use Rattle.views.specs.World.{begin_of, Frame, Does}
use Rattle.views.proofs.Frames.{frame_then}
use Rattle.sweeps.specs.Loops.{all_of, Going, going_start, going_on, going-stops, going-none}
use Rattle.model_events.specs.Events.{Event}
use Rattle.views.proofs.Timers.{head-here}
use Rattle.unparking.specs.Unparking.{parked_at, is_for, handed, takes}
use Rattle.unparking.specs.UnparkingLaws.{handed-leaves, list-stays, held-few, own_room, takes-does, same_at, same-found}

-- what `deliver` asks for, with the words at first
pub record Asked (state : List ℕ) (depth : ℕ) (clock : Float) (row j : ℕ) (mem₀ : List ℕ) : Type 0 where
  pub event : Event state mem₀ clock row
  pub is : kind_at (table_in state) row ≡ coupled
  pub below : j < length (table_in state).rows
  pub deep : Deep (table_in state) depth j

pub head-there : {state : List ℕ} {clock : Float} {row : ℕ} {mem : List ℕ} → Event state mem clock row → head_at row + 4 ≤ length mem
head-there {state} {clock} {row} {mem} e = head-here (table_in state) mem row e.in_table e.scene.ready.laid

module _ (state : List ℕ) (services : List Float) (depth : ℕ) (clock : Float) (row j id begin held : ℕ) (mem₀ : List ℕ) where
  abbrev visit : ℕ → World → Outcome World
  visit k = handed (table_in state) services depth clock j (parked_at begin mem₀ k)

  abbrev whole : World → Outcome World
  whole = takes (table_in state) services depth clock (parked_in (begin_of (table_in state) row) mem₀ row) j

  -- the messages before `from` were handed over, and so `mem` was reached
  pub record Delivering (from : ℕ) (mem : List ℕ) : Type 0 where
    pub asked : Asked state depth clock row j mem₀
    pub named : id ≡ id_at (table_in state) j
    pub starts : begin ≡ begin_of (table_in state) row
    pub holds : held ≡ held_in mem₀ row
    pub same : parked_in (begin_of (table_in state) row) mem row ≡ parked_in (begin_of (table_in state) row) mem₀ row
    pub going : Going (table_in state) visit (is_for id begin mem₀) mem₀ held from mem

  -- an answer, and what `deliver` then shows
  abbrev Delivers : Result ⊤ Refusal → List ℕ → Type 0
  Delivers r after = Does r whole (table_in state) mem₀ after × Frame (table_in state) 0 0 mem₀ after

  pub deliver-start : Asked state depth clock row j mem₀ → id ≡ id_at (table_in state) j → begin ≡ begin_in mem₀ row → held ≡ held_in mem₀ row → Delivering 0 mem₀
  deliver-start asked d b h = record {
    asked = asked;
    named = d;
    starts = b ∙ asked.event.scene.ready.laid.begins row asked.event.in_table;
    holds = h;
    same = refl;
    going = going_start (table_in state) visit (is_for id begin mem₀) mem₀ held asked.event.scene.ready;
  }

module _ {state : List ℕ} {services : List Float} {depth : ℕ} {clock : Float} {row j id begin held : ℕ} {mem₀ : List ℕ} {from : ℕ} {mem : List ℕ} (d : Delivering state services depth clock row j id begin held mem₀ from mem) where
  abbrev t : Table
  t = table_in state

  abbrev inside : row < length t.rows
  inside = d.asked.event.in_table

  abbrev next : ℕ → World → Outcome World
  next = visit state services depth clock row j id begin held mem₀

  pub all_there : (begin + held ≤ length mem) × (held ≤ 64)
  all_there =
      let few = held-few t row inside d.asked.is mem₀ d.asked.event.scene.ready in
      let room = own_room t row inside d.asked.is mem d.going.ready in
      let s = d.starts in
      let h = d.holds in
      (omega arith, omega arith)

  pub may-hand : Event state mem clock j × Deep t depth j
  may-hand =
      let scene = d.asked.event.scene in
      (record { scene = record { inside = scene.inside; ready = d.going.ready; time = scene.time }; in_table = d.asked.below }, d.asked.deep)

  as-whole : (after : List ℕ) (r : Result ⊤ Refusal) → Does r (all_of t next (is_for id begin mem₀) mem₀ held) t mem₀ after → Does r (whole state services depth clock row j id begin held mem₀) t mem₀ after
  as-whole = takes-does t row inside d.asked.is mem₀ d.asked.event.scene.ready services depth clock j id begin held d.named d.starts d.holds

  module _ {found : Option ℕ} (searched : found ≡ first_from (is_for id begin mem) from (held - from)) where
    first : (x : Option ℕ) → found ≡ x → first_from (is_for id begin mem₀) from (held - from) ≡ x
    first x e = same-found t row inside d.asked.is mem₀ mem d.asked.event.scene.ready d.going.ready d.same begin held d.starts d.holds id from found x searched e

    pub deliver-none : found ≡ None → Delivers state services depth clock row j id begin held mem₀ (Ok tt) mem
    deliver-none e = (as-whole mem (Ok tt) (going-none t next (is_for id begin mem₀) mem₀ held from mem d.going (first None e)), d.going.frame)

    module _ {place : ℕ} (e : found ≡ Some place) where
      pub place-bounds : (from ≤ place) × (place < held) × (begin + held ≤ length mem) × (held ≤ 64)
      place-bounds =
          let b = sweep-bounds {S = ℕ} (λ k s. done s) (is_for id begin mem₀) from held 0 place (first (Some place) e) in
          (b.0, b.1, all_there.0, all_there.1)

      module _ (after : List ℕ) (r : Result ⊤ Refusal) (does : Does r (handed t services depth clock j (parked_at begin mem place)) t mem after) (frame : Frame t 0 0 mem after) where
        visited : (x : Result ⊤ Refusal) → r ≡ x → Does x (next place) t mem after
        visited x q =
            subst (λ (x : Result ⊤ Refusal). Does x (next place) t mem after) q
            (subst (λ (m : Parked). Does r (handed t services depth clock j m) t mem after) (same_at t row inside d.asked.is mem₀ mem d.asked.event.scene.ready d.going.ready d.same begin held d.starts d.holds place place-bounds.1) does)

        pub deliver-on : r ≡ Ok tt → Delivering state services depth clock row j id begin held mem₀ (place + 1) after
        deliver-on q = record {
          asked = d.asked;
          named = d.named;
          starts = d.starts;
          holds = d.holds;
          same = list-stays t row inside d.asked.is (next place) (handed-leaves t services depth clock row d.asked.is j (parked_at begin mem₀ place)) mem after (visited (Ok tt) q) ∙ d.same;
          going = going_on t next (is_for id begin mem₀) mem₀ held from mem d.going place after (first (Some place) e) (visited (Ok tt) q) frame;
        }

        pub deliver-stops : {refusal : Refusal} → r ≡ Err refusal → Delivers state services depth clock row j id begin held mem₀ (Err refusal) after
        deliver-stops {refusal} q = (
          as-whole after (Err refusal) (going-stops t next (is_for id begin mem₀) mem₀ held from mem d.going place refusal after (first (Some place) e) (visited (Err refusal) q)),
          frame_then t 0 0 mem₀ mem after d.going.frame frame,
        )
