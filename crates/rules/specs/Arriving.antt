-- An external event changes only atoms' rows and the place, and adds to the log: what these changes keep, it keeps. So it leaves the parked messages of every Coupled as they are. Assumes nothing.
use Prim.Native.Nat.{ℕ, zero, suc}
use Rattle.std.specs.Prelude.{◌≡◌, true, false, List, [], eqb, set, Float}
use Rattle.std.proofs.Math.Path.{refl}
use Rattle.std.proofs.Common.{sym, ◌∙◌, subst, true≢false, get_or-set_other}
use Rattle.rules.specs.Base.{done, those}
use Rattle.rules.specs.Table.{Kind, processor, batcher, stopwatch, coupled, Table, Target, id_at, kind_at, components, inputs, is_coupled}
use Rattle.rules.specs.Simulation.{State, of_coupled, state_at, as_processor, as_batcher, as_stopwatch}
use Rattle.rules.specs.Models.{Fate, Passed, processor_external, batcher_external, stopwatch_external}
use Rattle.rules.specs.Step.{World, came, noted, becomes, moved, External, external_as, external}
use Rattle.rules.specs.Ends.{Ends, stops, goes, Whatever, ends-whatever, ends-done, ends-bind, ends-each, all_any}

-- X is kept by each change that an external event can make
pub record Arrives (t : Table) (X : World → Type 0) : Type 0 where
  pub atom : (i place : ℕ) (s : State) (w : World) → is_coupled (kind_at t i) ≡ false → X w → X (becomes i s (moved place w))
  pub message : (clock : Float) (i port content : ℕ) (fate : Fate) (w : World) → X w → X (noted (came clock i port content fate) w)

module _ (t : Table) (services : List Float) (X : World → Type 0) (allowed : Arrives t X) where
  abbrev Keeps : External t services → Type 0
  Keeps ext = (i port content : ℕ) (w : World) → X w → Ends Whatever X (ext i port content w)

  is-atom : (i : ℕ) (k : Kind) → kind_at t i ≡ k → is_coupled k ≡ false → is_coupled (kind_at t i) ≡ false
  is-atom i k e a = subst (λ (z : Kind). is_coupled z ≡ false) (sym e) a

  put : (clock : Float) (i port content place : ℕ) (fate : Fate) (s : State) (w : World) → is_coupled (kind_at t i) ≡ false → X w → X (noted (came clock i port content fate) (becomes i s (moved place w)))
  put clock i port content place fate s w a x = allowed.message clock i port content fate (becomes i s (moved place w)) (allowed.atom i place s w a x)

  as-keeps : (k : Kind) (ext : External t services) → Keeps ext → (clock : Float) (i port content : ℕ) (w : World) → kind_at t i ≡ k → X w → Ends Whatever X (external_as t services k ext clock i port content w)
  as-keeps (processor p) ext rec clock i port content w e x =
      ends-bind _ (ends-whatever (processor_external p services port content (as_processor (state_at w.states i)) w.place)) (λ r _. goes (put clock i port content r.1 r.2 _ w (is-atom i (processor p) e refl) x))
  as-keeps (batcher b) ext rec clock i port content w e x =
      ends-bind _ (ends-whatever (batcher_external b content (as_batcher (state_at w.states i)))) (λ n _. goes (put clock i port content w.place _ _ w (is-atom i (batcher b) e refl) x))
  as-keeps (stopwatch p) ext rec clock i port content w e x =
      ends-bind _ (ends-whatever (stopwatch_external p clock port content (as_stopwatch (state_at w.states i)))) (λ r _. goes (put clock i port content w.place r.1 _ w (is-atom i (stopwatch p) e refl) x))
  as-keeps coupled ext rec clock i port content w e x =
      ends-each {P = λ _. Unit {0}} _ _ (all_any (inputs t (id_at t i) port) (λ _. tt))
      (λ (to : Target) w₁ _ x₁. ends-each {P = λ _. Unit {0}} _ w₁ (all_any (those (λ j. eqb (id_at t j) to.target) (components t (id_at t i))) (λ _. tt)) (λ j w₂ _ x₂. rec j to.port content w₂ x₂) x₁)
      (allowed.message clock i port content Passed w x)

  pub arriving : (depth : ℕ) (clock : Float) → Keeps (external t services depth clock)
  unfolding external
  arriving zero clock i port content w x = stops tt
  arriving (suc depth) clock i port content w x = as-keeps (kind_at t i) (external t services depth clock) (arriving depth clock) clock i port content w refl x

-- ---- what a Coupled has parked
-- a row of another kind is another row
pub atom-other : (t : Table) (c i : ℕ) → kind_at t c ≡ coupled → is_coupled (kind_at t i) ≡ false → i ≡ c → ⊥
atom-other t c i is a e = true≢false (sym (subst (λ (k : Kind). is_coupled k ≡ true) (sym is) refl) ∙ subst (λ (j : ℕ). is_coupled (kind_at t j) ≡ false) e a)

pub set_other : (i c : ℕ) (s : State) (states : List State) → (i ≡ c → ⊥) → state_at (set states i s) c ≡ state_at states c
set_other i c s states apart = get_or-set_other states i c s (of_coupled []) (λ e. apart (sym e))

pub parked-stays : (t : Table) (services : List Float) (c : ℕ) → kind_at t c ≡ coupled → (depth : ℕ) (clock : Float) (i port content : ℕ) (w after : World) → external t services depth clock i port content w ≡ done after
    → state_at after.states c ≡ state_at w.states c
parked-stays t services c is depth clock i port content w after e =
    ends-done {B = Whatever} {Q = Same} (arriving t services Same allowed depth clock i port content w refl) e
  where
    Same : World → Type 0
    Same z = state_at z.states c ≡ state_at w.states c

    allowed : Arrives t Same
    allowed = record {
      atom = λ i place s z a h. set_other i c s z.states (atom-other t c i is a) ∙ h;
      message = λ clock i port content fate z h. h;
    }
