-- A Coupled's external event: along its external input couplings, by their places in the table. Assumes nothing.
use Rattle.std.specs.Prelude.{ℕ, suc, ◌≡◌, refl, length, eqb, Float, Err, Ok, Result, ⊤}
use Rattle.rules.specs.declared.Refusal.{Refusal}
use Rattle.std.proofs.Common.{sym, ◌∙◌}
use Rattle.std.proofs.Math.Path.{ap}
use mathlib.Core.List.{List, [], ◌∷◌, ◌++◌}
use Rattle.rules.specs.Base.{Outcome, refused, done, ◌>>=◌, each, those, from}
use Rattle.rules.specs.Table.{Kind, coupled, Table, Target, id_at, kind_at, components}
use Rattle.rules.specs.Models.{Passed}
use Rattle.rules.specs.Step.{came, World, noted, external_as, external}
use Rattle.selection.specs.Selecting.{is_input}
use Rattle.selection.specs.Selected.{leads_to, each_map}
use Rattle.lookup.specs.Inside.{Inside, table_in, couplings_in}
use Rattle.lookup.specs.InsideLaws.{inputs_in}
use Rattle.views.specs.World.{Ready, Moves, Does}
use Rattle.model_events.specs.Events.{to_target}
use Rattle.sweeps.specs.Loops.{all_of, stays, does-as}

-- ---- one coupling: to nobody, or to the one component that has the target's id
module _ (t : Table) (services : List Float) (depth : ℕ) (clock : Float) (owner : ℕ) (to : Target) (content : ℕ) where
  abbrev visit : ℕ → World → Outcome World
  visit j = external t services depth clock j to.port content

  bind_done : (o : Outcome World) → (o >>= each visit []) ≡ o
  bind_done (refused r) = refl
  bind_done (done w) = refl

  pub target_none : (mem : List ℕ) → Ready t mem → [] ≡ those (λ j. eqb (id_at t j) to.target) (components t owner) → Moves (to_target t services depth clock owner to content) t mem mem
  target_none mem ready e = does-as t mem mem done (to_target t services depth clock owner to content) (Ok tt) (λ w. ap (λ (l : List ℕ). each visit l w) (sym e)) (stays t mem ready)

  pub target_one : (mem after : List ℕ) (r : Result ⊤ Refusal) (j : ℕ) → (j ∷ []) ≡ those (λ j. eqb (id_at t j) to.target) (components t owner) → Does r (external t services depth clock j to.port content) t mem after
      → Does r (to_target t services depth clock owner to content) t mem after
  target_one mem after r j e d = does-as t mem after (visit j) (to_target t services depth clock owner to content) r (λ w. ap (λ (l : List ℕ). each visit l w) (sym e) ∙ bind_done (visit j w)) d

-- ---- all that match, in order
abbrev pub along_input : List ℕ → List Float → ℕ → Float → ℕ → ℕ → ℕ → World → Outcome World
along_input state services depth clock owner content k = to_target (table_in state) services depth clock owner (leads_to (couplings_in state) k) content

module _ (state : List ℕ) (inside : Inside state) (services : List Float) (depth : ℕ) (clock : Float) where
  -- what a Coupled does with a message is to hand it along these
  pub coupled-does : (mem after : List ℕ) (r : Result ⊤ Refusal) (i port content owner end : ℕ) → kind_at (table_in state) i ≡ coupled → owner ≡ id_at (table_in state) i → end ≡ length (table_in state).couplings
      → Does r (all_of (table_in state) (along_input state services depth clock owner content) (is_input (couplings_in state) owner port) mem end) (table_in state) mem after
      → Does r (external (table_in state) services (suc depth) clock i port content) (table_in state) mem after
  unfolding external
  coupled-does mem after r i port content owner end e o n d = logged r d
    where
      same : (w : World) → external (table_in state) services (suc depth) clock i port content w ≡ all_of (table_in state) (along_input state services depth clock owner content) (is_input (couplings_in state) owner port) mem end (noted (came clock i port content Passed) w)
      same w =
          ap (λ (k : Kind). external_as (table_in state) services k (external (table_in state) services depth clock) clock i port content w) e
          ∙ ap (λ (l : List Target). each (λ (to : Target). to_target (table_in state) services depth clock (id_at (table_in state) i) to content) l (noted (came clock i port content Passed) w)) (inputs_in state inside (id_at (table_in state) i) port)
          ∙ each_map (λ (to : Target). to_target (table_in state) services depth clock (id_at (table_in state) i) to content) (leads_to (couplings_in state)) (those (is_input (couplings_in state) (id_at (table_in state) i) port) (from 0 (length (table_in state).couplings))) (noted (came clock i port content Passed) w)
          ∙ rw (o, n)

      logged : (r : Result ⊤ Refusal) → Does r (all_of (table_in state) (along_input state services depth clock owner content) (is_input (couplings_in state) owner port) mem end) (table_in state) mem after
          → Does r (external (table_in state) services (suc depth) clock i port content) (table_in state) mem after
      logged (Ok tt) m = record { ready = m.ready; more = λ log. m.more (log ++ came clock i port content Passed ∷ []); is = λ log. same _ ∙ m.is _ }
      logged (Err r) m = λ log. same _ ∙ m _
