-- A refused call changes nothing, and a run that is refused keeps the steps before: the first theorems over the calls. Assumes nothing.
use Rattle.std.specs.Prelude.{ℕ, zero, suc, ◌-◌, ◌≤◌, ◌≡◌, refl, Bool, true, false, not, List, [], length, T, leb, Float, if◌then◌else◌}
use Rattle.std.proofs.Common.{sym, ap, ◌∙◌, arith, length-append, leb→le}
use Rattle.std.specs.Float.Ieee.{lt}
use Rattle.times.specs.Time.{is_time}
use Rattle.rules.specs.declared.Refusal.{Refusal}
use Rattle.rules.specs.declared.Refusal.TheVariants.{BadTime, NoOutRoom, BadState}
use Rattle.rules.specs.Base.{Outcome, refused, done, ◌>>=◌}
use Rattle.rules.specs.Simulation.{Simulation}
use Rattle.rules.specs.Step.{Happening, one_step}
use Rattle.rules.specs.Valid.{is_valid}
use Rattle.rules.specs.Calls.{End, Done, Reached, Spent, Refused, Ran, ended, then_ran, fitting, onward, steps, step_n, step, look, steps_until, step_until, Call, InjectInput, Step, StepN, StepUntil, Reset, ResetMessages, ResetGlobalTime, changed, called, inject_input, reset, reset_messages, reset_global_time}

-- ---- "`step` is `step_n` for one step."
pub step-is-one : (services : List Float) (room : ℕ) (sim : Simulation) → step services room sim ≡ step_n services room 1 sim
unfolding step
step-is-one services room sim = refl

-- ---- how a run can end
done-not : (r : Refusal) → Done ≡ Refused r → ⊥
done-not r e = let z : ◌≡◌ {A = ℕ} 0 1 = cc in omega arith

reached-not : (r : Refusal) → Reached ≡ Refused r → ⊥
reached-not r e = let z : ◌≡◌ {A = ℕ} 0 1 = cc in omega arith

spent-not : (r : Refusal) → Spent ≡ Refused r → ⊥
spent-not r e = let z : ◌≡◌ {A = ℕ} 0 1 = cc in omega arith

-- the same run, had it ended otherwise
abbrev pub ending_as : End → Ran → Ran
ending_as end r = record { end = end; sim = r.sim; steps = r.steps; rows = r.rows; log = r.log }

-- ---- a run that is refused at once left all as it was
onward-nothing : (sim : Simulation) (o : Outcome (Simulation × List Happening)) (rest : Simulation → Ran) (r : Refusal) → (onward sim o rest).end ≡ Refused r → (onward sim o rest).steps ≡ 0 → onward sim o rest ≡ ended (Refused r) sim
onward-nothing sim (refused x) rest r e q = ap (λ (end : End). ended end sim) e
onward-nothing sim (done a) rest r e q = absurd (omega arith)

look-nothing : (until : Float) (room : ℕ) (sim : Simulation) (o : Outcome (Simulation × List Happening)) (rest : Simulation → Ran) (r : Refusal)
    → (look until room sim o rest).end ≡ Refused r → (look until room sim o rest).steps ≡ 0 → look until room sim o rest ≡ ended (Refused r) sim
look-nothing until room sim (refused x) rest r e q = ap (λ (end : End). ended end sim) e
look-nothing until room sim (done a) rest r e q = go (lt a.0.clock until) e q
  where
    run : Bool → Ran
    run below = if below then onward sim (fitting room a) rest else then_ran [] a.1 (ended Reached a.0)

    go : (below : Bool) → (run below).end ≡ Refused r → (run below).steps ≡ 0 → run below ≡ ended (Refused r) sim
    go true e q = onward-nothing sim (fitting room a) rest r e q
    go false e q = absurd (reached-not r e)

-- ---- a run that is refused keeps the steps before: it is the run of just its completed steps, but for its end
-- one step and the rest: `rest` is the run asked for, `fewer` that of so many steps less
cut-onward : (sim : Simulation) (r : Refusal) (finish : End) (o : Outcome (Simulation × List Happening)) (rest : Simulation → Ran) (fewer : ℕ → Simulation → Ran)
    → ((next : Simulation) → (rest next).end ≡ Refused r → fewer (rest next).steps next ≡ ending_as finish (rest next)) → (onward sim o rest).end ≡ Refused r
    → (k : ℕ) → (onward sim o rest).steps ≡ suc k → onward sim o (fewer k) ≡ ending_as finish (onward sim o rest)
cut-onward sim r finish (refused x) rest fewer ih e k q = absurd (omega arith)
cut-onward sim r finish (done (next, log)) rest fewer ih e k q =
    ap (then_ran next.active log) (ap (λ (n : ℕ). fewer n next) (let z : k ≡ (rest next).steps = omega arith in z) ∙ ih next e)

pub steps-before : (services : List Float) (room n : ℕ) (sim : Simulation) (r : Refusal) → (steps services room n sim).end ≡ Refused r
    → steps services room (steps services room n sim).steps sim ≡ ending_as Done (steps services room n sim)
unfolding steps
steps-before services room zero sim r e = absurd (done-not r e)
steps-before services room (suc n) sim r e = go (λ left next h. steps-before services left n next r h) run.steps refl
  where
    o : Outcome (Simulation × List Happening)
    o = one_step services sim >>= fitting room

    rest : ℕ → Simulation → Ran
    rest m next = steps services (room - length next.active) m next

    run : Ran
    run = onward sim o (rest n)

    go : ((left : ℕ) (next : Simulation) → (steps services left n next).end ≡ Refused r → steps services left (steps services left n next).steps next ≡ ending_as Done (steps services left n next))
        → (k : ℕ) → run.steps ≡ k → steps services room k sim ≡ ending_as Done run
    go ih zero q = sym (ap (ending_as Done) (onward-nothing sim o (rest n) r e q))
    go ih (suc k) q = cut-onward sim r Done o (rest n) rest (λ next h. ih (room - length next.active) next h) e k q

-- the same of `step_until`: its end would have been Spent
cut-look : (until : Float) (room : ℕ) (sim : Simulation) (r : Refusal) (o : Outcome (Simulation × List Happening)) (rest : Simulation → Ran) (fewer : ℕ → Simulation → Ran)
    → ((next : Simulation) → (rest next).end ≡ Refused r → fewer (rest next).steps next ≡ ending_as Spent (rest next)) → (look until room sim o rest).end ≡ Refused r
    → (k : ℕ) → (look until room sim o rest).steps ≡ suc k → look until room sim o (fewer k) ≡ ending_as Spent (look until room sim o rest)
cut-look until room sim r (refused x) rest fewer ih e k q = absurd (omega arith)
cut-look until room sim r (done a) rest fewer ih e k q = go (lt a.0.clock until) e q
  where
    run : Bool → (Simulation → Ran) → Ran
    run below more = if below then onward sim (fitting room a) more else then_ran [] a.1 (ended Reached a.0)

    go : (below : Bool) → (run below rest).end ≡ Refused r → (run below rest).steps ≡ suc k → run below (fewer k) ≡ ending_as Spent (run below rest)
    go true e q = cut-onward sim r Spent (fitting room a) rest fewer ih e k q
    go false e q = absurd (reached-not r e)

pub steps_until-before : (services : List Float) (until : Float) (room n : ℕ) (sim : Simulation) (r : Refusal) → (steps_until services until room n sim).end ≡ Refused r
    → steps_until services until room (steps_until services until room n sim).steps sim ≡ ending_as Spent (steps_until services until room n sim)
unfolding steps_until
steps_until-before services until room zero sim r e = absurd (spent-not r e)
steps_until-before services until room (suc n) sim r e = go (λ left next h. steps_until-before services until left n next r h) run.steps refl
  where
    rest : ℕ → Simulation → Ran
    rest m next = steps_until services until (room - length next.active) m next

    run : Ran
    run = look until room sim (one_step services sim) (rest n)

    go : ((left : ℕ) (next : Simulation) → (steps_until services until left n next).end ≡ Refused r → steps_until services until left (steps_until services until left n next).steps next ≡ ending_as Spent (steps_until services until left n next))
        → (k : ℕ) → run.steps ≡ k → steps_until services until room k sim ≡ ending_as Spent run
    go ih zero q = sym (ap (ending_as Spent) (look-nothing until room sim (one_step services sim) (rest n) r e q))
    go ih (suc k) q = cut-look until room sim r (one_step services sim) (rest n) rest (λ next h. ih (room - length next.active) next h) e k q

-- ---- the calls. "`step_n` and `step_until` stop at the refused step: they keep earlier steps and rows, and return number, steps and rows."
pub step_n-before : (services : List Float) (room count : ℕ) (sim : Simulation) (r : Refusal) → T (is_valid sim) → (step_n services room count sim).end ≡ Refused r
    → step_n services room (step_n services room count sim).steps sim ≡ ending_as Done (step_n services room count sim)
unfolding step_n
step_n-before services room count sim r v e = go (is_valid sim) v e
  where
    run : Bool → ℕ → Ran
    run valid n = if valid then steps services room n sim else ended (Refused BadState) sim

    go : (valid : Bool) → T valid → (run valid count).end ≡ Refused r → run valid (run valid count).steps ≡ ending_as Done (run valid count)
    go true v e = steps-before services room count sim r e
    go false v e = absurd v

pub step_until-before : (services : List Float) (until : Float) (room allowance : ℕ) (sim : Simulation) (r : Refusal) → T (is_valid sim) → T (is_time until)
    → (step_until services until room allowance sim).end ≡ Refused r
    → step_until services until room (step_until services until room allowance sim).steps sim ≡ ending_as Spent (step_until services until room allowance sim)
unfolding step_until
step_until-before services until room allowance sim r v u e = go (is_valid sim) (is_time until) v u e
  where
    run : Bool → Bool → ℕ → Ran
    run valid time n = if not valid then ended (Refused BadState) sim else if not time then ended (Refused BadTime) sim else steps_until services until room n sim

    go : (valid time : Bool) → T valid → T time → (run valid time allowance).end ≡ Refused r → run valid time (run valid time allowance).steps ≡ ending_as Spent (run valid time allowance)
    go true true v u e = steps_until-before services until room allowance sim r e
    go true false v u e = absurd u
    go false time v u e = absurd v

-- "A refused call returns its number and changes neither the simulation (the place in the service list included) nor any lent buffer.": what it leaves is what it was handed, with no steps, no rows and nothing in the log
changed-nothing : (sim : Simulation) (o : Outcome Simulation) (r : Refusal) → (changed sim o).end ≡ Refused r → changed sim o ≡ ended (Refused r) sim
changed-nothing sim (refused x) r e = ap (λ (end : End). ended end sim) e
changed-nothing sim (done next) r e = absurd (done-not r e)

step_n-nothing : (services : List Float) (room count : ℕ) (sim : Simulation) (r : Refusal) → (step_n services room count sim).end ≡ Refused r → (step_n services room count sim).steps ≡ 0
    → step_n services room count sim ≡ ended (Refused r) sim
unfolding step_n steps
step_n-nothing services room count sim r e q = go (is_valid sim) count e q
  where
    run : Bool → ℕ → Ran
    run valid n = if valid then steps services room n sim else ended (Refused BadState) sim

    go : (valid : Bool) (n : ℕ) → (run valid n).end ≡ Refused r → (run valid n).steps ≡ 0 → run valid n ≡ ended (Refused r) sim
    go true zero e q = absurd (done-not r e)
    go true (suc n) e q = onward-nothing sim (one_step services sim >>= fitting room) (λ next. steps services (room - length next.active) n next) r e q
    go false n e q = ap (λ (end : End). ended end sim) e

step_until-nothing : (services : List Float) (until : Float) (room allowance : ℕ) (sim : Simulation) (r : Refusal) → (step_until services until room allowance sim).end ≡ Refused r
    → (step_until services until room allowance sim).steps ≡ 0 → step_until services until room allowance sim ≡ ended (Refused r) sim
unfolding step_until steps_until
step_until-nothing services until room allowance sim r e q = go (is_valid sim) (is_time until) allowance e q
  where
    run : Bool → Bool → ℕ → Ran
    run valid time n = if not valid then ended (Refused BadState) sim else if not time then ended (Refused BadTime) sim else steps_until services until room n sim

    go : (valid time : Bool) (n : ℕ) → (run valid time n).end ≡ Refused r → (run valid time n).steps ≡ 0 → run valid time n ≡ ended (Refused r) sim
    go true true zero e q = absurd (spent-not r e)
    go true true (suc n) e q = look-nothing until room sim (one_step services sim) (λ next. steps_until services until (room - length next.active) n next) r e q
    go true false n e q = ap (λ (end : End). ended end sim) e
    go false time n e q = ap (λ (end : End). ended end sim) e

pub refused-changes-nothing : (c : Call) (sim : Simulation) (r : Refusal) → (called c sim).end ≡ Refused r → (called c sim).steps ≡ 0 → called c sim ≡ ended (Refused r) sim
unfolding called step
refused-changes-nothing (InjectInput m) sim r e q = changed-nothing sim (inject_input m sim) r e
refused-changes-nothing (Step services room) sim r e q = step_n-nothing services room 1 sim r e q
refused-changes-nothing (StepN services room count) sim r e q = step_n-nothing services room count sim r e q
refused-changes-nothing (StepUntil services until room allowance) sim r e q = step_until-nothing services until room allowance sim r e q
refused-changes-nothing Reset sim r e q = changed-nothing sim (reset sim) r e
refused-changes-nothing ResetMessages sim r e q = changed-nothing sim (reset_messages sim) r e
refused-changes-nothing ResetGlobalTime sim r e q = changed-nothing sim (reset_global_time sim) r e

-- ---- what a run counts: its rows fit the room, its steps are at most those asked for, and it ends with `finish` only after all of them
pub record Counted (room most : ℕ) (finish : End) (r : Ran) : Type 0 where
  pub rows : length r.rows ≤ room
  pub steps : r.steps ≤ most
  pub all : r.end ≡ finish → r.steps ≡ most

-- an end that only a run of all its steps has
abbrev Last : End → Type 0
Last finish = ((r : Refusal) → Refused r ≡ finish → ⊥) × (Reached ≡ finish → ⊥)

last_done : Last Done
last_done = (λ r e. let z : ◌≡◌ {A = ℕ} 0 1 = cc in omega arith, λ e. let z : ◌≡◌ {A = ℕ} 0 1 = cc in omega arith)

last-spent : Last Spent
last-spent = (λ r e. let z : ◌≡◌ {A = ℕ} 0 1 = cc in omega arith, λ e. let z : ◌≡◌ {A = ℕ} 0 1 = cc in omega arith)

counted-fitting : (room most : ℕ) (finish : End) (sim : Simulation) (a : Simulation × List Happening) (rest : Simulation → Ran) → Last finish
    → ((next : Simulation) → Counted (room - length next.active) most finish (rest next)) → Counted room (suc most) finish (onward sim (fitting room a) rest)
counted-fitting room most finish sim a rest last k = go (leb (length a.0.active) room) (leb→le (length a.0.active) room)
  where
    go : (b : Bool) → (T b → length a.0.active ≤ room) → Counted room (suc most) finish (onward sim (if b then done a else refused NoOutRoom) rest)
    go true l =
        let c = k a.0 in
        record {
          rows = let x = c.rows in let y = l tt in omega (arith, length-append a.0.active (rest a.0).rows);
          steps = let x = c.steps in omega arith;
          all = λ e. ap suc (c.all e);
        }
    go false l = record { rows = omega arith; steps = omega arith; all = λ e. absurd (last.0 NoOutRoom e) }

counted-refused : (room most : ℕ) (finish : End) (sim : Simulation) (r : Refusal) → Last finish → Counted room most finish (ended (Refused r) sim)
counted-refused room most finish sim r last = record { rows = omega arith; steps = omega arith; all = λ e. absurd (last.0 r e) }

pub steps-counted : (services : List Float) (n room : ℕ) (sim : Simulation) → Counted room n Done (steps services room n sim)
unfolding steps
steps-counted services zero room sim = record { rows = omega arith; steps = omega arith; all = λ e. refl }
steps-counted services (suc n) room sim = go (one_step services sim) (λ next. steps-counted services n (room - length next.active) next)
  where
    rest : Simulation → Ran
    rest next = steps services (room - length next.active) n next

    go : (o : Outcome (Simulation × List Happening)) → ((next : Simulation) → Counted (room - length next.active) n Done (rest next)) → Counted room (suc n) Done (onward sim (o >>= fitting room) rest)
    go (refused r) k = counted-refused room (suc n) Done sim r last_done
    go (done a) k = counted-fitting room n Done sim a rest last_done k

pub steps_until-counted : (services : List Float) (until : Float) (n room : ℕ) (sim : Simulation) → Counted room n Spent (steps_until services until room n sim)
unfolding steps_until
steps_until-counted services until zero room sim = record { rows = omega arith; steps = omega arith; all = λ e. refl }
steps_until-counted services until (suc n) room sim = go (one_step services sim) (λ next. steps_until-counted services until n (room - length next.active) next)
  where
    rest : Simulation → Ran
    rest next = steps_until services until (room - length next.active) n next

    go : (o : Outcome (Simulation × List Happening)) → ((next : Simulation) → Counted (room - length next.active) n Spent (rest next)) → Counted room (suc n) Spent (look until room sim o rest)
    go (refused r) k = counted-refused room (suc n) Spent sim r last-spent
    go (done a) k = below (lt a.0.clock until)
      where
        below : (b : Bool) → Counted room (suc n) Spent (if b then onward sim (fitting room a) rest else then_ran [] a.1 (ended Reached a.0))
        below true = counted-fitting room n Spent sim a rest last-spent k
        below false = record { rows = omega arith; steps = omega arith; all = λ e. absurd (last-spent.1 e) }
