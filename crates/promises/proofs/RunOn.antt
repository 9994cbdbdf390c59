-- A11: running on is the same as running through, of `step_n`, and of `step_until` as far as it is true: the theorems on the definitions of RunOn. Assumes nothing.
-- Words in quotes are the request's own.
use Prim.Native.Nat.{ℕ, zero, suc, ◌+◌, ◌-◌}
use Rattle.std.proofs.Math.Path.{◌≡◌, refl, ap}
use Rattle.std.proofs.Common.{sym, subst, ◌∙◌, suc-add, zero-add, length-append}
use Rattle.std.specs.Prelude.{Bool, leb, Float, if◌then◌else◌}
use Rattle.std.proofs.Math.Bool.{true, false, not}
use mathlib.Core.List.{List, [], ◌∷◌, ◌++◌, append_assoc}
use native.Mathlib.Omega.{arith}
use Rattle.std.proofs.Math.Nat.{sub-zero}
use Rattle.std.proofs.Math.ListN.{length}
use Rattle.std.proofs.Math.Dec.{T, not_T}
use Rattle.std.specs.Float.Ieee.{lt}
use Rattle.times.specs.Time.{is_time}
use Rattle.rules.specs.declared.Refusal.{Refusal}
use Rattle.rules.specs.declared.Refusal.TheVariants.{BadTime, NoOutRoom, BadState}
use Rattle.rules.specs.declared.Message.{Message}
use Rattle.rules.specs.Sizes.{is_word}
use Rattle.rules.specs.Base.{Outcome, refused, done, ◌>>=◌}
use Rattle.rules.specs.Simulation.{Simulation}
use Rattle.rules.specs.Step.{Happening, one_step}
use Rattle.rules.specs.Valid.{is_valid}
use Rattle.rules.specs.Calls.{End, Done, Reached, Spent, Refused, Ran, ended, then_ran, fitting, onward, steps, step_n, look, steps_until, step_until}
use Rattle.rules.proofs.Runs.{step_n-valid, step_until-valid}
use Rattle.promises.specs.RunOn.{whole_end, joined, room_left, run_on_after, step_n_on, total, in_parts, step_until_on}

-- ---- tools: a completed step stands before both parts alike
pub join-then : (rows : List Message) (log : List Happening) (first second : Ran) → joined (then_ran rows log first) second ≡ then_ran rows log (joined first second)
join-then rows log first second =
    let p = suc-add first.steps second.steps in
    let q = append_assoc rows first.rows second.rows in
    let r = append_assoc log first.log second.log in
    λ i. record { end = whole_end first.end second.end; sim = second.sim; steps = p i; rows = q i; log = r i }

pub less-rows : (room : ℕ) (xs ys : List Message) → room - length (xs ++ ys) ≡ room - length xs - length ys
less-rows room xs ys = omega (arith, length-append xs ys)

refused-same : (r x : Refusal) → Refused x ≡ Refused r → x ≡ r
refused-same r x e = cc

pub reached-not : (r : Refusal) → Refused r ≡ Reached → ⊥
reached-not r e = let z : ◌≡◌ {A = ℕ} 0 1 = cc in omega arith

-- ---- runs that go step by step, `step_n` and `step_until` alike: what the next step is does not go by how many are asked for
data Turn (run : ℕ → ℕ → Simulation → Ran) (room : ℕ) (sim : Simulation) : Type 0 where
  stop : (r : Refusal) → ((n : ℕ) → run room (suc n) sim ≡ ended (Refused r) sim) → Turn run room sim
  reach : (next : Simulation) (log : List Happening) → ((n : ℕ) → run room (suc n) sim ≡ then_ran [] log (ended Reached next)) → Turn run room sim
  go : (next : Simulation) (log : List Happening) → ((n : ℕ) → run room (suc n) sim ≡ then_ran next.active log (run (room - length next.active) n next)) → Turn run room sim

record Stepwise (finish : End) (run : ℕ → ℕ → Simulation → Ran) : Type 0 where
  none : (room : ℕ) (sim : Simulation) → run room 0 sim ≡ ended finish sim
  turn : (room : ℕ) (sim : Simulation) → Turn run room sim
  not-refused : (r : Refusal) → finish ≡ Refused r → ⊥
  not-reached : finish ≡ Reached → ⊥

module _ (finish : End) (run : ℕ → ℕ → Simulation → Ran) (stepwise : Stepwise finish run) where
  abbrev on : (room a b : ℕ) → Simulation → Ran
  on room a b sim = run_on_after (run room a sim) room (λ left next. run left b next)

  from-none : (sim : Simulation) (second : Ran) → joined (ended finish sim) second ≡ second
  from-none sim second =
      let e = go finish stepwise.not-refused in
      let p = zero-add second.steps in
      λ i. record { end = e i; sim = second.sim; steps = p i; rows = second.rows; log = second.log }
    where
      go : (end : End) → ((r : Refusal) → end ≡ Refused r → ⊥) → whole_end end second.end ≡ second.end
      go Done h = refl
      go Reached h = refl
      go Spent h = refl
      go (Refused r) h = absurd (h r refl)

  -- a first step that is refused is refused in each part
  at_once : (room b : ℕ) (sim : Simulation) (r : Refusal) → ((n : ℕ) → run room (suc n) sim ≡ ended (Refused r) sim) → joined (ended (Refused r) sim) (run (room - 0) b sim) ≡ ended (Refused r) sim
  at_once room zero sim r e = ap (joined (ended (Refused r) sim)) (stepwise.none (room - 0) sim)
  at_once room (suc b) sim r e = ap (λ (left : ℕ). joined (ended (Refused r) sim) (run left (suc b) sim)) (sub-zero room) ∙ ap (joined (ended (Refused r) sim)) (e b)

  run-through : (a b room : ℕ) (sim : Simulation) → ((run room a sim).end ≡ Reached → ⊥) → on room a b sim ≡ run room (a + b) sim
  run-through zero b room sim h =
      ap (λ (r : Ran). run_on_after r room (λ left next. run left b next)) (stepwise.none room sim)
      ∙ from-none sim (run (room - 0) b sim)
      ∙ ap (λ (left : ℕ). run left b sim) (sub-zero room)
      ∙ ap (λ (n : ℕ). run room n sim) (sym (zero-add b))
  run-through (suc a) b room sim h = through (stepwise.turn room sim) (λ next. run-through a b (room - length next.active) next) ∙ ap (λ (n : ℕ). run room n sim) (sym (suc-add a b))
    where
      second : ℕ → Simulation → Ran
      second left next = run left b next

      through : Turn run room sim
          → ((next : Simulation) → ((run (room - length next.active) a next).end ≡ Reached → ⊥) → on (room - length next.active) a b next ≡ run (room - length next.active) (a + b) next)
          → on room (suc a) b sim ≡ run room (suc (a + b)) sim
      through (stop r e) ih = ap (λ (r : Ran). run_on_after r room second) (e a) ∙ at_once room b sim r e ∙ sym (e (a + b))
      through (reach next log e) ih = absurd (h (ap (λ (r : Ran). r.end) (e a)))
      through (go next log e) ih =
          let left = room - length next.active in
          let first = run left a next in
          ap (λ (r : Ran). run_on_after r room second) (e a)
          ∙ ap (λ (n : ℕ). joined (then_ran next.active log first) (run n b first.sim)) (less-rows room next.active first.rows)
          ∙ join-then next.active log first (run (left - length first.rows) b first.sim)
          ∙ ap (then_ran next.active log) (ih next (λ q. h (ap (λ (r : Ran). r.end) (e a) ∙ q)))
          ∙ sym (e (a + b))

  -- a run that has reached its `until` is the whole run
  run-reached : (a b room : ℕ) (sim : Simulation) → (run room a sim).end ≡ Reached → run room (a + b) sim ≡ run room a sim
  run-reached zero b room sim h = absurd (stepwise.not-reached (ap (λ (r : Ran). r.end) (sym (stepwise.none room sim)) ∙ h))
  run-reached (suc a) b room sim h = ap (λ (n : ℕ). run room n sim) (suc-add a b) ∙ through (stepwise.turn room sim) (λ next. run-reached a b (room - length next.active) next)
    where
      through : Turn run room sim
          → ((next : Simulation) → (run (room - length next.active) a next).end ≡ Reached → run (room - length next.active) (a + b) next ≡ run (room - length next.active) a next)
          → run room (suc (a + b)) sim ≡ run room (suc a) sim
      through (stop r e) ih = absurd (reached-not r (ap (λ (r : Ran). r.end) (sym (e a)) ∙ h))
      through (reach next log e) ih = e (a + b) ∙ sym (e a)
      through (go next log e) ih = e (a + b) ∙ ap (then_ran next.active log) (ih next (ap (λ (r : Ran). r.end) (sym (e a)) ∙ h)) ∙ sym (e a)

  -- a part that is refused is refused again at once
  run-again : (a b room : ℕ) (sim : Simulation) (r : Refusal) → (run room a sim).end ≡ Refused r
      → run (room_left room (run room a sim)) (suc b) (run room a sim).sim ≡ ended (Refused r) (run room a sim).sim
  run-again zero b room sim r q = absurd (stepwise.not-refused r (ap (λ (r : Ran). r.end) (sym (stepwise.none room sim)) ∙ q))
  run-again (suc a) b room sim r q = subst Again (sym (e-of turn)) (again turn (ap (λ (r : Ran). r.end) (sym (e-of turn)) ∙ q) (λ next. run-again a b (room - length next.active) next r))
    where
      Again : Ran → Type 0
      Again first = run (room_left room first) (suc b) first.sim ≡ ended (Refused r) first.sim

      turn : Turn run room sim
      turn = stepwise.turn room sim

      made : Turn run room sim → Ran
      made (stop x e) = ended (Refused x) sim
      made (reach next log e) = then_ran [] log (ended Reached next)
      made (go next log e) = then_ran next.active log (run (room - length next.active) a next)

      e-of : (t : Turn run room sim) → run room (suc a) sim ≡ made t
      e-of (stop x e) = e a
      e-of (reach next log e) = e a
      e-of (go next log e) = e a

      again : (t : Turn run room sim) → (made t).end ≡ Refused r
          → ((next : Simulation) → (run (room - length next.active) a next).end ≡ Refused r
          → run (room_left (room - length next.active) (run (room - length next.active) a next)) (suc b) (run (room - length next.active) a next).sim ≡ ended (Refused r) (run (room - length next.active) a next).sim)
          → Again (made t)
      again (stop x e) q ih = ap (λ (left : ℕ). run left (suc b) sim) (sub-zero room) ∙ e b ∙ ap (λ (y : Refusal). ended (Refused y) sim) (refused-same r x q)
      again (reach next log e) q ih = absurd (reached-not r (sym q))
      again (go next log e) q ih =
          let first = run (room - length next.active) a next in
          ap (λ (left : ℕ). run left (suc b) first.sim) (less-rows room next.active first.rows) ∙ ih next q

-- ---- `step_n` goes so, and `step_until` too
module _ (services : List Float) where
  steps-stepwise : Stepwise Done (λ room n sim. steps services room n sim)
  unfolding steps
  steps-stepwise = record {
    none = λ room sim. refl;
    turn = λ room sim. one room sim (one_step services sim >>= fitting room) refl;
    not-refused = λ r e. let z : ◌≡◌ {A = ℕ} 0 1 = cc in omega arith;
    not-reached = λ e. let z : ◌≡◌ {A = ℕ} 0 1 = cc in omega arith;
  }
    where
      one : (room : ℕ) (sim : Simulation) (o : Outcome (Simulation × List Happening)) → (one_step services sim >>= fitting room) ≡ o → Turn (λ room n sim. steps services room n sim) room sim
      one room sim (refused r) e = stop r (λ n. ap (λ (o : Outcome (Simulation × List Happening)). onward sim o (λ next. steps services (room - length next.active) n next)) e)
      one room sim (done (next, log)) e = go next log (λ n. ap (λ (o : Outcome (Simulation × List Happening)). onward sim o (λ next. steps services (room - length next.active) n next)) e)

  until-stepwise : (until : Float) → Stepwise Spent (λ room n sim. steps_until services until room n sim)
  unfolding steps_until
  until-stepwise until = record {
    none = λ room sim. refl;
    turn = λ room sim. one room sim (one_step services sim) refl;
    not-refused = λ r e. let z : ◌≡◌ {A = ℕ} 0 1 = cc in omega arith;
    not-reached = λ e. let z : ◌≡◌ {A = ℕ} 0 1 = cc in omega arith;
  }
    where
      rest : ℕ → ℕ → Simulation → Ran
      rest room n next = steps_until services until (room - length next.active) n next

      one : (room : ℕ) (sim : Simulation) (o : Outcome (Simulation × List Happening)) → one_step services sim ≡ o → Turn (λ room n sim. steps_until services until room n sim) room sim
      one room sim (refused r) e = stop r (λ n. ap (λ (o : Outcome (Simulation × List Happening)). look until room sim o (rest room n)) e)
      one room sim (done (next, log)) e = below (lt next.clock until) refl (leb (length next.active) room) refl
        where
          looked : Bool → Bool → ℕ → Ran
          looked l f n = if l then onward sim (if f then done (next, log) else refused NoOutRoom) (rest room n) else then_ran [] log (ended Reached next)

          is : (n : ℕ) → steps_until services until room (suc n) sim ≡ looked (lt next.clock until) (leb (length next.active) room) n
          is n = ap (λ (o : Outcome (Simulation × List Happening)). look until room sim o (rest room n)) e

          below : (l : Bool) → lt next.clock until ≡ l → (f : Bool) → leb (length next.active) room ≡ f → Turn (λ room n sim. steps_until services until room n sim) room sim
          below true p true q = go next log (λ n. is n ∙ λ i. looked (p i) (q i) n)
          below true p false q = stop NoOutRoom (λ n. is n ∙ λ i. looked (p i) (q i) n)
          below false p f q = reach next log (λ n. is n ∙ ap (λ (l : Bool). looked l (leb (length next.active) room) n) p)

-- ---- "20 comes first": of a simulation that it lets pass `step_n` is its steps; of others it is the refusal
module _ (services : List Float) where
  pub passes : (room n : ℕ) (sim : Simulation) → T (is_valid sim) → step_n services room n sim ≡ steps services room n sim
  unfolding step_n
  passes room n sim v = go (is_valid sim) v
    where
      go : (b : Bool) → T b → (if b then steps services room n sim else ended (Refused BadState) sim) ≡ steps services room n sim
      go true t = refl
      go false t = absurd t

  -- in each part, one of no steps too
  pub bad-state-twice : (room n : ℕ) (sim : Simulation) → T (not (is_valid sim)) → step_n services room n sim ≡ ended (Refused BadState) sim
  unfolding step_n
  bad-state-twice room n sim v = go (is_valid sim) v
    where
      go : (b : Bool) → T (not b) → (if b then steps services room n sim else ended (Refused BadState) sim) ≡ ended (Refused BadState) sim
      go true t = absurd t
      go false t = refl

  never-reached : (room n : ℕ) (sim : Simulation) → (steps services room n sim).end ≡ Reached → ⊥
  unfolding steps
  never-reached room zero sim e = let z : ◌≡◌ {A = ℕ} 0 1 = cc in omega arith
  never-reached room (suc n) sim e = go (one_step services sim >>= fitting room) e (λ next. never-reached (room - length next.active) n next)
    where
      rest : Simulation → Ran
      rest next = steps services (room - length next.active) n next

      go : (o : Outcome (Simulation × List Happening)) → (onward sim o rest).end ≡ Reached → ((next : Simulation) → (rest next).end ≡ Reached → ⊥) → ⊥
      go (refused r) e ih = reached-not r e
      go (done (next, log)) e ih = ih next e

  -- ==== the theorems of `step_n`. The service list is no longer than one that is lent can be: below 2^64 times
  module _ (short : T (is_word (length services))) where
    next-valid : (room n : ℕ) (sim : Simulation) → T (is_valid sim) → T (is_valid (steps services room n sim).sim)
    next-valid room n sim v = subst (λ (r : Ran). T (is_valid r.sim)) (passes room n sim v) (step_n-valid services room n sim short v).sim

    -- "a steps and then b steps .. shall give the end state, rows, total steps and answer of one call with a + b": for every simulation, one that 20 refuses too, and whatever the room. One call takes a + b only below 2^64; the theorem does not need it
    pub run_on : (room a b : ℕ) (sim : Simulation) → step_n_on services room a b sim ≡ step_n services room (a + b) sim
    run_on room a b sim = go (is_valid sim) refl
      where
        second : ℕ → Simulation → Ran
        second left next = step_n services left b next

        go : (x : Bool) → is_valid sim ≡ x → step_n_on services room a b sim ≡ step_n services room (a + b) sim
        go true e =
            let v = subst T (sym e) tt in
            let first = steps services room a sim in
            ap (λ (r : Ran). run_on_after r room second) (passes room a sim v)
            ∙ ap (joined first) (passes (room_left room first) b first.sim (next-valid room a sim v))
            ∙ run-through Done (λ left n s. steps services left n s) (steps-stepwise services) a b room sim (never-reached room a sim)
            ∙ sym (passes room (a + b) sim v)
        go false e =
            let v = not_T (is_valid sim) (λ t. subst T e t) in
            ap (λ (r : Ran). run_on_after r room second) (bad-state-twice room a sim v)
            ∙ ap (joined (ended (Refused BadState) sim)) (bad-state-twice (room - 0) b sim v)
            ∙ sym (bad-state-twice room (a + b) sim v)

    -- the same with any number of pauses
    pub in-parts : (ns : List ℕ) (room : ℕ) (sim : Simulation) → in_parts services room ns sim ≡ step_n services room (total ns) sim
    in-parts [] room sim = refl
    in-parts (n ∷ ns) room sim =
        let first = step_n services room n sim in
        ap (joined first) (in-parts ns (room_left room first) first.sim) ∙ run_on room n (total ns) sim

    -- "a second part of at least one step is then refused at once with the same number and 0 steps"
    pub refused-again : (room a b : ℕ) (sim : Simulation) (r : Refusal) → (step_n services room a sim).end ≡ Refused r
        → step_n services (room_left room (step_n services room a sim)) (suc b) (step_n services room a sim).sim ≡ ended (Refused r) (step_n services room a sim).sim
    refused-again room a b sim r q = go (is_valid sim) refl
      where
        Again : Ran → Type 0
        Again f = step_n services (room_left room f) (suc b) f.sim ≡ ended (Refused r) f.sim

        go : (x : Bool) → is_valid sim ≡ x → Again (step_n services room a sim)
        go true e =
            let v = subst T (sym e) tt in
            let first = steps services room a sim in
            let is = passes room a sim v in
            subst Again (sym is)
            (passes (room_left room first) (suc b) first.sim (next-valid room a sim v) ∙ run-again Done (λ left n s. steps services left n s) (steps-stepwise services) a b room sim r (ap (λ (f : Ran). f.end) (sym is) ∙ q))
        go false e =
            let v = not_T (is_valid sim) (λ t. subst T e t) in
            let is = bad-state-twice room a sim v in
            subst Again (sym is) (bad-state-twice (room - 0) (suc b) sim v ∙ ap (λ (y : Refusal). ended (Refused y) sim) (refused-same r BadState (ap (λ (f : Ran). f.end) (sym is) ∙ q)))

    -- "a second part of no steps answers done"
    pub nothing-more : (room left a : ℕ) (sim : Simulation) → T (is_valid sim) → step_n services left 0 (step_n services room a sim).sim ≡ ended Done (step_n services room a sim).sim
    unfolding steps
    nothing-more room left a sim v = passes left 0 (step_n services room a sim).sim (step_n-valid services room a sim short v).sim

-- ---- `step_until`: 20, then 10, then its steps
module _ (services : List Float) (until : Float) where
  pub looks : (room n : ℕ) (sim : Simulation) → T (is_valid sim) → T (is_time until) → step_until services until room n sim ≡ steps_until services until room n sim
  unfolding step_until
  looks room n sim v u = go (is_valid sim) (is_time until) v u
    where
      go : (x y : Bool) → T x → T y → (if not x then ended (Refused BadState) sim else if not y then ended (Refused BadTime) sim else steps_until services until room n sim) ≡ steps_until services until room n sim
      go true true v u = refl
      go true false v u = absurd u
      go false y v u = absurd v

  -- a simulation that 20 refuses, or a bad `until`: each part is refused alike, one with allowance 0 too
  pub bad-state-again : (room n : ℕ) (sim : Simulation) → T (not (is_valid sim)) → step_until services until room n sim ≡ ended (Refused BadState) sim
  unfolding step_until
  bad-state-again room n sim v = go (is_valid sim) v
    where
      go : (x : Bool) → T (not x) → (if not x then ended (Refused BadState) sim else if not (is_time until) then ended (Refused BadTime) sim else steps_until services until room n sim) ≡ ended (Refused BadState) sim
      go true v = absurd v
      go false v = refl

  pub bad-until-again : (room n : ℕ) (sim : Simulation) → T (is_valid sim) → T (not (is_time until)) → step_until services until room n sim ≡ ended (Refused BadTime) sim
  unfolding step_until
  bad-until-again room n sim v u = go (is_valid sim) (is_time until) v u
    where
      go : (x y : Bool) → T x → T (not y) → (if not x then ended (Refused BadState) sim else if not y then ended (Refused BadTime) sim else steps_until services until room n sim) ≡ ended (Refused BadTime) sim
      go true true v u = absurd u
      go true false v u = refl
      go false y v u = absurd v

  -- one of three: its steps, 10, or 20
  pub data Judged (sim : Simulation) : Type 0 where
    fine : T (is_valid sim) → T (is_time until) → Judged sim
    bad : (r : Refusal) → ((room n : ℕ) → step_until services until room n sim ≡ ended (Refused r) sim) → Judged sim

  pub judge : (sim : Simulation) → Judged sim
  judge sim = go (is_valid sim) refl (is_time until) refl
    where
      go : (x : Bool) → is_valid sim ≡ x → (y : Bool) → is_time until ≡ y → Judged sim
      go true e true f = fine (subst T (sym e) tt) (subst T (sym f) tt)
      go true e false f = bad BadTime (λ room n. bad-until-again room n sim (subst T (sym e) tt) (not_T (is_time until) (λ t. subst T f t)))
      go false e y f = bad BadState (λ room n. bad-state-again room n sim (not_T (is_valid sim) (λ t. subst T e t)))

  abbrev run : ℕ → ℕ → Simulation → Ran
  run room n sim = steps_until services until room n sim

  -- ==== the theorems of `step_until`
  module _ (short : T (is_word (length services))) where
    left-valid : (room n : ℕ) (sim : Simulation) → T (is_valid sim) → T (is_time until) → T (is_valid (run room n sim).sim)
    left-valid room n sim v u = subst (λ (r : Ran). T (is_valid r.sim)) (looks room n sim v u) (step_until-valid services until room n sim short v).sim

    -- an allowance cut in two is the whole allowance, where the first part did not reach `until`. One call takes a + b only below 2^32; the theorem does not need it
    pub until-on : (room a b : ℕ) (sim : Simulation) → ((step_until services until room a sim).end ≡ Reached → ⊥) → step_until_on services until room a b sim ≡ step_until services until room (a + b) sim
    until-on room a b sim h = go (judge sim)
      where
        second : ℕ → Simulation → Ran
        second left next = step_until services until left b next

        go : Judged sim → step_until_on services until room a b sim ≡ step_until services until room (a + b) sim
        go (bad r e) = ap (λ (f : Ran). run_on_after f room second) (e room a) ∙ ap (joined (ended (Refused r) sim)) (e (room - 0) b) ∙ sym (e room (a + b))
        go (fine v u) =
            let first = run room a sim in
            let is = looks room a sim v u in
            ap (λ (f : Ran). run_on_after f room second) is
            ∙ ap (joined first) (looks (room_left room first) b first.sim (left-valid room a sim v u) u)
            ∙ run-through Spent run (until-stepwise services until) a b room sim (λ q. h (ap (λ (f : Ran). f.end) is ∙ q))
            ∙ sym (looks room (a + b) sim v u)

    -- where it did, it is the whole run
    pub until-reached : (room a b : ℕ) (sim : Simulation) → (step_until services until room a sim).end ≡ Reached → step_until services until room (a + b) sim ≡ step_until services until room a sim
    until-reached room a b sim h = go (judge sim)
      where
        go : Judged sim → step_until services until room (a + b) sim ≡ step_until services until room a sim
        go (bad r e) = e room (a + b) ∙ sym (e room a)
        go (fine v u) =
            looks room (a + b) sim v u
            ∙ run-reached Spent run (until-stepwise services until) a b room sim (ap (λ (f : Ran). f.end) (sym (looks room a sim v u)) ∙ h)
            ∙ sym (looks room a sim v u)

    -- a part that ends Reached has made a step
    reached-steps : (room n : ℕ) (sim : Simulation) → (step_until services until room n sim).end ≡ Reached → (step_until services until room n sim).steps ≡ 0 → ⊥
    reached-steps room n sim h q = go (judge sim)
      where
        some : (n : ℕ) → (run room n sim).end ≡ Reached → (run room n sim).steps ≡ 0 → ⊥
        some zero h q = (until-stepwise services until).not-reached (ap (λ (f : Ran). f.end) (sym ((until-stepwise services until).none room sim)) ∙ h)
        some (suc n) h q = turned ((until-stepwise services until).turn room sim)
          where
            turned : Turn run room sim → ⊥
            turned (stop r e) = reached-not r (ap (λ (f : Ran). f.end) (sym (e n)) ∙ h)
            turned (reach next log e) = let z = ap (λ (f : Ran). f.steps) (sym (e n)) ∙ q in omega arith
            turned (go next log e) = let z = ap (λ (f : Ran). f.steps) (sym (e n)) ∙ q in omega arith

        go : Judged sim → ⊥
        go (bad r e) = reached-not r (ap (λ (f : Ran). f.end) (sym (e room n)) ∙ h)
        go (fine v u) = let is = looks room n sim v u in some n (ap (λ (f : Ran). f.end) (sym is) ∙ h) (ap (λ (f : Ran). f.steps) (sym is) ∙ q)

    -- and then two parts joined are never the whole: the second makes a step, or does not end Reached
    pub until-not-on : (room a b : ℕ) (sim : Simulation) → (step_until services until room a sim).end ≡ Reached → step_until_on services until room a b sim ≡ step_until services until room (a + b) sim → ⊥
    until-not-on room a b sim h same =
        let first = step_until services until room a sim in
        let second = step_until services until (room_left room first) b first.sim in
        let whole = same ∙ until-reached room a b sim h in
        let e : second.end ≡ Reached = ap (λ (end : End). whole_end end second.end) (sym h) ∙ ap (λ (f : Ran). f.end) whole ∙ h in
        let n : first.steps + second.steps ≡ first.steps = ap (λ (f : Ran). f.steps) whole in
        reached-steps (room_left room first) b first.sim e (omega arith)

    -- a first part that is refused: a second one with an allowance is refused at once with the same number and 0 steps
    pub until-refused-again : (room a b : ℕ) (sim : Simulation) (r : Refusal) → (step_until services until room a sim).end ≡ Refused r
        → step_until services until (room_left room (step_until services until room a sim)) (suc b) (step_until services until room a sim).sim ≡ ended (Refused r) (step_until services until room a sim).sim
    until-refused-again room a b sim r q = go (judge sim)
      where
        Again : Ran → Type 0
        Again first = step_until services until (room_left room first) (suc b) first.sim ≡ ended (Refused r) first.sim

        go : Judged sim → Again (step_until services until room a sim)
        go (bad x e) = subst Again (sym (e room a)) (e (room - 0) (suc b) ∙ ap (λ (y : Refusal). ended (Refused y) sim) (refused-same r x (ap (λ (f : Ran). f.end) (sym (e room a)) ∙ q)))
        go (fine v u) =
            let first = run room a sim in
            let is = looks room a sim v u in
            subst Again (sym is)
            (looks (room_left room first) (suc b) first.sim (left-valid room a sim v u) u
            ∙ run-again Spent run (until-stepwise services until) a b room sim r (ap (λ (f : Ran). f.end) (sym is) ∙ q))

    -- one with no allowance is Spent, but for a bad `until`, which is 10 again, and a bad state, which is 20
    pub until-nothing-more : (room left a : ℕ) (sim : Simulation) → T (is_valid sim) → T (is_time until)
        → step_until services until left 0 (step_until services until room a sim).sim ≡ ended Spent (step_until services until room a sim).sim
    until-nothing-more room left a sim v u =
        let next = (step_until services until room a sim).sim in
        looks left 0 next (step_until-valid services until room a sim short v).sim u ∙ (until-stepwise services until).none left next
