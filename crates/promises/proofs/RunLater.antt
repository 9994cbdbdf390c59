-- A run of `step_until` paused at an earlier clock: until `early`, and then until `later`. With the messages collected that the pause left active it is the run until `later`. Assumes nothing.
use Prim.Native.Nat.{ℕ, zero, suc, ◌+◌, ◌-◌, ◌≤◌}
use Rattle.std.proofs.Math.Path.{◌≡◌, refl, ap}
use Rattle.std.proofs.Common.{sym, subst, ◌∙◌, inl, inr, arith, suc-add, zero-add, length-append, le→leb, T_not}
use Rattle.std.specs.Prelude.{Bool, true, false, not, T, leb, Float, if◌then◌else◌}
use mathlib.Core.List.{List, [], ◌++◌, append_assoc, append-nil}
use Rattle.std.proofs.Math.ListN.{length}
use Rattle.std.proofs.Math.Dec.{not_T}
use Rattle.std.specs.Float.Ieee.{lt, le}
use Rattle.times.specs.Time.{is_time}
use Rattle.times.proofs.Laws as law
use Rattle.rules.specs.declared.Refusal.TheVariants.{NoOutRoom}
use Rattle.rules.specs.declared.Message.{Message}
use Rattle.rules.specs.Sizes.{is_word}
use Rattle.rules.specs.Base.{Outcome, refused, done}
use Rattle.rules.specs.Simulation.{Simulation}
use Rattle.rules.specs.Step.{Happening, one_step}
use Rattle.rules.specs.Valid.{is_valid}
use Rattle.rules.specs.Calls.{Reached, Ran, ended, then_ran, onward, look, steps_until, step_until}
use Rattle.rules.specs.Ends.{Ends, goes, ends-map}
use Rattle.rules.proofs.Runs.{Valid, valid-of, step-ends, NotTwenty, any-closed, step_until-valid}
use Rattle.promises.specs.RunOn.{joined, room_left, run_on_after, collected}
use Rattle.promises.proofs.RunOn.{join-then, less-rows, reached-not, looks, Judged, judge, fine, bad, bad-state-again, until-on}

-- ---- a clock below `early` is below `later`
below_both : (clock early later : Float) → T (is_time clock) → T (is_time early) → T (is_time later) → T (le early later) → T (lt clock early) → T (lt clock later)
below_both clock early later c e l h b =
    let c' = law.time-timer clock c in
    let e' = law.time-timer early e in
    let l' = law.time-timer later l in
    subst T (sym (law.timers-lt clock later c' l'))
    (not_T (le later clock) (λ q. T_not (le early clock) (subst T (law.timers-lt clock early c' e') b) (law.timers-transitive early later clock e' l' c' h q)))

module _ (services : List Float) (short : T (is_word (length services))) (early later : Float) (e-time : T (is_time early)) (l-time : T (is_time later)) (order : T (le early later)) where
  abbrev first : ℕ → ℕ → Simulation → Ran
  first room a sim = steps_until services early room a sim

  abbrev on : ℕ → ℕ → Simulation → Ran
  on left b next = steps_until services later left b next

  -- where a pause lies: `early` is reached, `later` is not, and there is room for the messages of that step
  record Paused (room : ℕ) (r : Ran) : Type 0 where
    reached : r.end ≡ Reached
    before : T (lt r.sim.clock later)
    fits : length (r.rows ++ r.sim.active) ≤ room

  -- one step of the run until `later` that does not reach it
  one : (room n : ℕ) (sim next : Simulation) (log : List Happening) → one_step services sim ≡ done (next, log) → T (lt next.clock later) → length next.active ≤ room
      → on room (suc n) sim ≡ then_ran next.active log (on (room - length next.active) n next)
  unfolding steps_until
  one room n sim next log e below fits =
      ap (λ (o : Outcome (Simulation × List Happening)). look later room sim o rest) e ∙ go (lt next.clock later) below (leb (length next.active) room) (le→leb (length next.active) room fits)
    where
      rest : Simulation → Ran
      rest next = on (room - length next.active) n next

      go : (l : Bool) → T l → (f : Bool) → T f
          → (if l then onward sim (if f then done (next, log) else refused NoOutRoom) rest else then_ran [] log (ended Reached next)) ≡ then_ran next.active log (rest next)
      go true t true u = refl
      go true t false u = absurd u
      go false t f u = absurd t

  -- the last step before the pause: it stands first in the rest of the run
  last : (log : List Happening) (next : Simulation) (second : Ran) → joined (collected (then_ran [] log (ended Reached next))) second ≡ then_ran next.active log second
  last log next second =
      let p = suc-add 0 second.steps ∙ ap suc (zero-add second.steps) in
      let q = ap (λ (l : List Happening). l ++ second.log) (append-nil log) in
      λ i. record { end = second.end; sim = second.sim; steps = p i; rows = next.active ++ second.rows; log = q i }

  collected-then : (rows : List Message) (log : List Happening) (r : Ran) → collected (then_ran rows log r) ≡ then_ran rows log (collected r)
  collected-then rows log r = let q = append_assoc rows r.rows r.sim.active in λ i. record { end = r.end; sim = r.sim; steps = suc r.steps; rows = q i; log = log ++ r.log }

  next-valid : (sim : Simulation) → Valid sim → Ends NotTwenty (λ (r : Simulation × List Happening). Valid r.0) (one_step services sim)
  next-valid sim v = ends-map (step-ends NotTwenty (λ _. Unit {0}) services sim short (any-closed sim.table) v tt) (λ r b. b) (λ r h. h.0)

  steps-later : (a b room : ℕ) (sim : Simulation) → Valid sim → Paused room (first room a sim)
      → run_on_after (collected (first room a sim)) room (λ left next. on left b next) ≡ on room ((first room a sim).steps + b) sim
  unfolding steps_until
  steps-later zero b room sim v p = let h = p.reached in let z : ◌≡◌ {A = ℕ} 0 1 = cc in absurd (omega arith)
  steps-later (suc a) b room sim v p = go (one_step services sim) refl (next-valid sim v) p (λ next. steps-later a b (room - length next.active) next)
    where
      rest : Simulation → Ran
      rest next = first (room - length next.active) a next

      Later : Ran → Type 0
      Later r = run_on_after (collected r) room (λ left next. on left b next) ≡ on room (r.steps + b) sim

      go : (o : Outcome (Simulation × List Happening)) → one_step services sim ≡ o → Ends NotTwenty (λ (r : Simulation × List Happening). Valid r.0) o
          → Paused room (look early room sim o rest)
          → ((next : Simulation) → Valid next → Paused (room - length next.active) (rest next)
          → run_on_after (collected (rest next)) (room - length next.active) (λ left s. on left b s) ≡ on (room - length next.active) ((rest next).steps + b) next)
          → Later (look early room sim o rest)
      go (refused r) e k p ih = absurd (reached-not r p.reached)
      go (done (next, log)) e (goes k) p ih = below (lt next.clock early) (λ t. below_both next.clock early later k.clock e-time l-time order t) (leb (length next.active) room) p
        where
          looked : Bool → Bool → Ran
          looked l f = if l then onward sim (if f then done (next, log) else refused NoOutRoom) rest else then_ran [] log (ended Reached next)

          below : (l : Bool) → (T l → T (lt next.clock later)) → (f : Bool) → Paused room (looked l f) → Later (looked l f)
          below true t false p = absurd (reached-not NoOutRoom p.reached)
          below true t true p =
              let r = rest next in
              let left = room - length next.active in
              let long = p.fits in
              let all = length-append next.active r.rows in
              let more = length-append (next.active ++ r.rows) r.sim.active in
              let inner = length-append r.rows r.sim.active in
              ap (λ (f : Ran). run_on_after f room (λ left s. on left b s)) (collected-then next.active log r)
              ∙ ap (λ (n : ℕ). joined (then_ran next.active log (collected r)) (on n b r.sim)) (less-rows room next.active (collected r).rows)
              ∙ join-then next.active log (collected r) (on (room_left left (collected r)) b r.sim)
              ∙ ap (then_ran next.active log) (ih next k (record { reached = p.reached; before = p.before; fits = omega arith }))
              ∙ sym (one room (r.steps + b) sim next log e (t tt) (omega arith))
              ∙ ap (λ (n : ℕ). on room n sim) (sym (suc-add r.steps b))
          below false t f p =
              let long = p.fits in
              last log next (on (room - length next.active) b next)
              ∙ sym (one room b sim next log e p.before long)
              ∙ ap (λ (n : ℕ). on room n sim) (sym (suc-add 0 b ∙ ap suc (zero-add b)))

  -- a run until `early` that did not reach it, or reached `later` with it, is the run until `later`
  steps-same : (a room : ℕ) (sim : Simulation) → Valid sim → ((first room a sim).end ≡ Reached → T (not (lt (first room a sim).sim.clock later))) → on room a sim ≡ first room a sim
  unfolding steps_until
  steps-same zero room sim v h = refl
  steps-same (suc a) room sim v h = go (one_step services sim) (next-valid sim v) h (λ next. steps-same a (room - length next.active) next)
    where
      rest : Simulation → Ran
      rest next = first (room - length next.active) a next

      more : Simulation → Ran
      more next = on (room - length next.active) a next

      Past : Ran → Type 0
      Past r = r.end ≡ Reached → T (not (lt r.sim.clock later))

      go : (o : Outcome (Simulation × List Happening)) → Ends NotTwenty (λ (r : Simulation × List Happening). Valid r.0) o → Past (look early room sim o rest)
          → ((next : Simulation) → Valid next → Past (rest next) → more next ≡ rest next)
          → look later room sim o more ≡ look early room sim o rest
      go (refused r) k h ih = refl
      go (done (next, log)) (goes k) h ih = below (lt next.clock early) (λ t. below_both next.clock early later k.clock e-time l-time order t) (lt next.clock later) refl (leb (length next.active) room) h
        where
          looked : (Simulation → Ran) → Bool → Bool → Ran
          looked on l f = if l then onward sim (if f then done (next, log) else refused NoOutRoom) on else then_ran [] log (ended Reached next)

          below : (l : Bool) → (T l → T (lt next.clock later)) → (m : Bool) → lt next.clock later ≡ m → (f : Bool) → Past (looked rest l f) → looked more m f ≡ looked rest l f
          below true t true e true h = ap (then_ran next.active log) (ih next k h)
          below true t true e false h = refl
          below true t false e f h = absurd (subst T e (t tt))
          below false t true e f h = absurd (T_not (lt next.clock later) (h refl) (subst T (sym e) tt))
          below false t false e f h = refl

-- a run that has reached `until` left a clock that is not below it
both-nots : (b : Bool) → T (not (not b)) → T b
both-nots true t = tt
both-nots false t = absurd t

reached-late : (services : List Float) (until : Float) (n room : ℕ) (sim : Simulation) → (steps_until services until room n sim).end ≡ Reached → T (not (lt (steps_until services until room n sim).sim.clock until))
unfolding steps_until
reached-late services until zero room sim h = let z : ◌≡◌ {A = ℕ} 0 1 = cc in absurd (omega arith)
reached-late services until (suc n) room sim h = go (one_step services sim) h (λ next. reached-late services until n (room - length next.active) next)
  where
    rest : Simulation → Ran
    rest next = steps_until services until (room - length next.active) n next

    Late : Ran → Type 0
    Late r = T (not (lt r.sim.clock until))

    go : (o : Outcome (Simulation × List Happening)) → (look until room sim o rest).end ≡ Reached → ((next : Simulation) → (rest next).end ≡ Reached → Late (rest next)) → Late (look until room sim o rest)
    go (refused r) h ih = absurd (reached-not r h)
    go (done (next, log)) h ih = below (lt next.clock until) refl (leb (length next.active) room) h
      where
        looked : Bool → Bool → Ran
        looked l f = if l then onward sim (if f then done (next, log) else refused NoOutRoom) rest else then_ran [] log (ended Reached next)

        below : (l : Bool) → lt next.clock until ≡ l → (f : Bool) → (looked l f).end ≡ Reached → Late (looked l f)
        below true e true h = ih next h
        below true e false h = absurd (reached-not NoOutRoom h)
        below false e f h = subst (λ (b : Bool). T (not b)) (sym e) tt

-- ==== the theorems
module _ (services : List Float) (short : T (is_word (length services))) (early later : Float) where
  -- paused where `early` is reached and `later` is not, with the messages of the pause collected: as many steps are allowed as were made before it and are allowed after it
  pub until-later : (room a b : ℕ) (sim : Simulation) → T (is_time later)
      → (step_until services early room a sim).end ≡ Reached → T (lt (step_until services early room a sim).sim.clock later) → length (collected (step_until services early room a sim)).rows ≤ room
      → run_on_after (collected (step_until services early room a sim)) room (λ left next. step_until services later left b next)
      ≡ step_until services later room ((step_until services early room a sim).steps + b) sim
  until-later room a b sim l reached before room_for = go (judge services early sim)
    where
      Later : Ran → Type 0
      Later r = run_on_after (collected r) room (λ left next. step_until services later left b next) ≡ step_until services later room (r.steps + b) sim

      go : Judged services early sim → Later (step_until services early room a sim)
      go (bad r e) = absurd (reached-not r (ap (λ (f : Ran). f.end) (sym (e room a)) ∙ reached))
      go (fine v e) =
          let is = looks services early room a sim v e in
          let r = steps_until services early room a sim in
          let next-valid = subst (λ (f : Ran). T (is_valid f.sim)) is (step_until-valid services early room a sim short v).sim in
          let c = law.time-timer r.sim.clock (valid-of r.sim next-valid).clock in
          let e' = law.time-timer early e in
          let l' = law.time-timer later l in
          let before' = subst (λ (f : Ran). T (lt f.sim.clock later)) is before in
          let not-below = reached-late services early a room sim (ap (λ (f : Ran). f.end) (sym is) ∙ reached) in
          let from : T (le early r.sim.clock) = both-nots (le early r.sim.clock) (subst (λ (b : Bool). T (not b)) (law.timers-lt r.sim.clock early c e') not-below) in
          let to : T (le r.sim.clock later) = elim (law.timers-total r.sim.clock later c l') [ inl h ↦ h | inr h ↦ absurd (T_not (le later r.sim.clock) (subst T (law.timers-lt r.sim.clock later c l') before') h) ] in
          let order = law.timers-transitive early r.sim.clock later e' c l' from to in
          let paused = subst (λ (f : Ran). Paused services short early later e l order room f) is (record { reached = reached; before = before; fits = room_for }) in
          subst Later (sym is)
          (ap (joined (collected r)) (looks services later (room_left room (collected r)) b r.sim next-valid l)
          ∙ steps-later services short early later e l order a b room sim (valid-of sim v) paused
          ∙ sym (looks services later room (r.steps + b) sim v l))

  -- where there is no such pause, `early` not reached or `later` reached with it: the run until `early` is the run until `later`
  pub until-same : (room a : ℕ) (sim : Simulation) → T (is_time early) → T (is_time later) → T (le early later)
      → ((step_until services early room a sim).end ≡ Reached → T (not (lt (step_until services early room a sim).sim.clock later)))
      → step_until services later room a sim ≡ step_until services early room a sim
  until-same room a sim e l order h = go (is_valid sim) refl
    where
      go : (x : Bool) → is_valid sim ≡ x → step_until services later room a sim ≡ step_until services early room a sim
      go true q =
          let v = subst T (sym q) tt in
          let is = looks services early room a sim v e in
          looks services later room a sim v l
          ∙ steps-same services short early later e l order a room sim (valid-of sim v) (subst (λ (f : Ran). f.end ≡ Reached → T (not (lt f.sim.clock later))) is h)
          ∙ sym is
      go false q = let v = not_T (is_valid sim) (λ t. subst T q t) in bad-state-again services later room a sim v ∙ sym (bad-state-again services early room a sim v)

  -- so a run that has not reached `early` goes on until `later` as it is
  pub until-on-later : (room a b : ℕ) (sim : Simulation) → T (is_time early) → T (is_time later) → T (le early later) → ((step_until services early room a sim).end ≡ Reached → ⊥)
      → run_on_after (step_until services early room a sim) room (λ left next. step_until services later left b next) ≡ step_until services later room (a + b) sim
  until-on-later room a b sim e l order h =
      let same = until-same room a sim e l order (λ q. absurd (h q)) in
      ap (λ (r : Ran). run_on_after r room (λ left next. step_until services later left b next)) (sym same)
      ∙ until-on services later short room a b sim (λ q. h (ap (λ (r : Ran). r.end) (sym same) ∙ q))
