-- Refusal 12 in 01's own words, "a step with no active message and every timer infinite", as 02's A3 amends them: it "now also needs every parked list empty". Assumes nothing.
use Rattle.std.specs.Prelude.{ℕ, suc, ◌≡◌, refl, ◌↔◌, List, [], ◌∷◌, map, T, Float}
use Rattle.std.proofs.Common.{sym, ◌∙◌, subst, arith}
use Rattle.std.specs.Float.Ieee.{lt, le}
use Rattle.times.specs.Time.{instant, never, is_never, least_of}
use Rattle.times.proofs.Laws.{never-timer, timers-antisymmetric, timers-never}
use Rattle.rules.specs.declared.Refusal.TheVariants.{Idle}
use Rattle.rules.specs.Base.{refused}
use Rattle.rules.specs.Table.{kind_at}
use Rattle.rules.specs.Simulation.{State, of_processor, of_batcher, of_stopwatch, of_coupled, Simulation, state_at, as_coupled}
use Rattle.rules.specs.Step.{least, least_timer, one_step}
use Rattle.rules.specs.Valid.{is_valid}
use Rattle.rules.specs.Decides.{tells, never-decides}
use Rattle.rules.specs.Depth.{fine}
use Rattle.rules.proofs.Exactly.{step-idle}
use Rattle.rules.proofs.Least.{own_timer, fits-timer, fitted-fits, least-below, least-is}
use Rattle.rules.proofs.Runs.{Valid, valid-of}

-- "every timer infinite": those that are kept. A Coupled keeps none: its timer follows from these and what is parked.
abbrev pub Infinite : State → Type 0
Infinite (of_processor s) = s.timer ≡ never
Infinite (of_batcher s) = s.timer ≡ never
Infinite (of_stopwatch s) = s.timer ≡ never
Infinite (of_coupled parked) = Unit {0}

abbrev pub AllInfinite : List State → Type 0
AllInfinite states = (i : ℕ) → Infinite (state_at states i)

-- "every parked list empty": at every depth, since components have rows of their own
abbrev pub NoneParked : List State → Type 0
NoneParked states = (i : ℕ) → as_coupled (state_at states i) ≡ []

zero-ends : instant ≡ never → ⊥
zero-ends e = let y : ◌≡◌ {A = ℕ} 0 1 = cc in absurd (omega arith)

-- a row's own timer is infinite exactly where it has none that will run out, and nothing is parked
rests : (s : State) → (own_timer s ≡ never) ↔ (Infinite s × (as_coupled s ≡ []))
rests (of_processor s) = (λ e. (e, refl), λ h. h.0)
rests (of_batcher s) = (λ e. (e, refl), λ h. h.0)
rests (of_stopwatch s) = (λ e. (e, refl), λ h. h.0)
rests (of_coupled []) = (λ e. (tt, refl), λ h. refl)
rests (of_coupled (m ∷ parked)) = (λ e. absurd (zero-ends e), λ h. absurd (let e = h.1 in let y : ◌≡◌ {A = ℕ} 0 1 = cc in omega arith))

abbrev AllRest : List State → Type 0
AllRest states = (i : ℕ) → own_timer (state_at states i) ≡ never

least-of-nevers : least_of never never ≡ never
unfolding least_of lt
least-of-nevers = refl

never-least : (states : List State) → AllRest states → least (map own_timer states) ≡ never
never-least [] h = refl
never-least (s ∷ ss) h = rw (h 0, never-least ss (λ i. h (suc i)), least-of-nevers)

module _ (sim : Simulation) (v : Valid sim) where
  never-rest : T (is_never (least_timer sim.table sim.states)) → AllRest sim.states
  never-rest n i =
      let x = own_timer (state_at sim.states i) in
      let timer = fits-timer (kind_at sim.table i) (state_at sim.states i) (v.fitted.fit i) in
      timers-antisymmetric x never timer never-timer (timers-never x timer)
      (subst (λ (a : Float). T (le a x)) (tells (never-decides (least_timer sim.table sim.states)) n) (least-below sim.table (fine sim.table v.table) sim.states v.fitted i))

  rest-never : AllRest sim.states → T (is_never (least_timer sim.table sim.states))
  rest-never h =
      subst (λ (a : Float). T (is_never a)) (sym (least-is sim.table sim.states v.table (fitted-fits sim.table sim.states v.fitted) ∙ never-least sim.states h)) tt

pub idle-exactly : (services : List Float) (sim : Simulation) → T (is_valid sim) → (one_step services sim ≡ refused Idle) ↔ ((sim.active ≡ []) × AllInfinite sim.states × NoneParked sim.states)
idle-exactly services sim valid =
    let v = valid-of sim valid in
    let e = step-idle services sim in
    let at : (i : ℕ) → (own_timer (state_at sim.states i) ≡ never) ↔ (Infinite (state_at sim.states i) × (as_coupled (state_at sim.states i) ≡ [])) = λ i. rests (state_at sim.states i) in (
      λ r. ((e.0 r).0, λ i. ((at i).0 (never-rest sim v (e.0 r).1 i)).0, λ i. ((at i).0 (never-rest sim v (e.0 r).1 i)).1),
      λ h. e.1 (h.0, rest-never sim v (λ i. (at i).1 (h.1 i, h.2 i))),
    )
