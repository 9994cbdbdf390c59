-- When a model is due, by the words of its row. Assumes nothing.
use Rattle.std.specs.Prelude.{ℕ, suc, ◌-◌, ◌≤◌, ◌<◌, ◌≡◌, refl, Bool, true, false, List, length, Float, Option}
use Rattle.std.proofs.Common.{ap, ◌∙◌, subst, arith}
use Rattle.std.proofs.lemmas.Bool.{false≢true}
use Rattle.std.proofs.Math.Nat.{sub-zero}
use Rattle.std.specs.Float.{binary64}
use Rattle.std.specs.Float.Ieee.{of_bits, eq}
use Rattle.times.specs.Time.{instant}
use Rattle.rules.specs.Base.{some_of, those, from}
use Rattle.rules.specs.Table.{Kind, processor, batcher, stopwatch, coupled, Table, id_at, kind_at, row_at, is_coupled, is_parent, components}
use Rattle.rules.specs.Simulation.{State}
use Rattle.rules.specs.Step.{due}
use Rattle.rules.specs.Depth.{Fine}
use Rattle.rules.proofs.Least.{own_timer, due-parked}
use Rattle.words.specs.Search.{first_from}
use Rattle.words.specs.SearchLaws.{found-to}
use Rattle.memory.specs.Words.{timer_in, held_in}
use Rattle.views.specs.World.{begin_of, states_in, Ready}
use Rattle.views.proofs.WorldLayout.{state-is}
use Rattle.views.proofs.Timers.{own-here}
use Rattle.views.proofs.Parked.{state-none, state-some}
use Rattle.model_events.specs.Due.{due-atom, due-coupled}

pub is-coupled-is : (k : Kind) → is_coupled k ≡ true → k ≡ coupled
is-coupled-is (processor p) e = absurd (false≢true e)
is-coupled-is (batcher b) e = absurd (false≢true e)
is-coupled-is (stopwatch w) e = absurd (false≢true e)
is-coupled-is coupled e = refl

above : (P : ℕ → Type 0) (depth : ℕ) → 0 < depth → P (suc (depth - 1)) → P depth
above P depth l h = let e : suc (depth - 1) ≡ depth = omega arith in subst P e h

module _ (t : Table) (ok : Fine t) (mem : List ℕ) (ready : Ready t mem) (i : ℕ) (inside : i < length t.rows) where
  pub due-here : (depth : ℕ) → 0 < depth → is_coupled (kind_at t i) ≡ false → due t depth (states_in t mem) i ≡ eq (of_bits binary64 (timer_in mem i)) instant
  due-here depth l e =
      above (λ d. due t d (states_in t mem) i ≡ eq (of_bits binary64 (timer_in mem i)) instant) depth l
      (due-atom t ok (states_in t mem) ready.good.0 (depth - 1) i e
      ∙ ap (λ (s : State). eq (own_timer s) instant) (state-is t mem i inside)
      ∙ ap (λ (x : Float). eq x instant) (own-here (kind_at t i) (begin_of t i) mem i e))

  -- a Coupled: something is parked in it, or nothing is
  pub due-held : (depth : ℕ) → 0 < depth → is_coupled (kind_at t i) ≡ true → 0 < held_in mem i → due t depth (states_in t mem) i ≡ true
  due-held depth l e held =
      let s = state-some t mem i inside (is-coupled-is (kind_at t i) e) ready held in
      above (λ d. due t d (states_in t mem) i ≡ true) depth l
      (due-parked t ok (states_in t mem) ready.good.0 (depth - 1) i s.0 s.1 (state-is t mem i inside ∙ s.2))

  pub due-inside : (depth : ℕ) → 0 < depth → is_coupled (kind_at t i) ≡ true → held_in mem i ≤ 0 → due t depth (states_in t mem) i ≡ some_of (due t (depth - 1) (states_in t mem)) (components t (id_at t i))
  due-inside depth l e none =
      above (λ d. due t d (states_in t mem) i ≡ some_of (due t (depth - 1) (states_in t mem)) (components t (id_at t i))) depth l
      (due-coupled t ok (states_in t mem) ready.good.0 (depth - 1) i (state-is t mem i inside ∙ state-none t mem i inside (is-coupled-is (kind_at t i) e) ready (omega arith)))

-- ---- a loop over the components
abbrev pub is_one : Table → ℕ → ℕ → Bool
is_one t owner j = is_parent owner (row_at t j).parent

pub components-all : (t : Table) (owner end i : ℕ) → owner ≡ id_at t i → end ≡ length t.rows → those (is_one t owner) (from 0 end) ≡ components t (id_at t i)
components-all t owner end i e whole = rw (e, whole)

module _ (t : Table) (owner end : ℕ) (whole : end ≡ length t.rows) where
  pub components_from : (i : ℕ) → owner ≡ id_at t i → those (is_one t owner) (from 0 (end - 0)) ≡ components t (id_at t i)
  components_from i e = ap (λ (n : ℕ). those (is_one t owner) (from 0 n)) (sub-zero end) ∙ components-all t owner end i e whole

  pub found-next : (start : ℕ) (r x : Option ℕ) → r ≡ first_from (is_one t owner) start (length t.rows - start) → r ≡ x → first_from (is_one t owner) start (end - start) ≡ x
  found-next start r x h e = found-to (is_one t owner) start end (length t.rows) r x whole h e
