-- A11: running on is the same as running through, of `step_n`, and of `step_until` as far as it is true. Assumes nothing.
-- "A11" is a request of document 02; words in quotes are its own. What a run is, `rules/Calls` says.
use Prim.Native.Nat.{ℕ, ◌+◌, ◌-◌}
use Rattle.std.specs.Prelude.{Float}
use mathlib.Core.List.{List, [], ◌∷◌, ◌++◌}
use Rattle.std.proofs.Math.ListN.{length}
use Rattle.rules.specs.Simulation.{Simulation}
use Rattle.rules.specs.Calls.{End, Done, Reached, Spent, Refused, Ran, step_n, step_until}

-- ---- two parts of a run as one: "the end state, rows, total steps and answer"
-- "the answer for the whole is the first part's refusal"; of a first part that was not refused it is the second's
abbrev pub whole_end : End → End → End
whole_end Done second = second
whole_end Reached second = second
whole_end Spent second = second
whole_end (Refused r) second = Refused r

abbrev pub joined : Ran → Ran → Ran
joined first second = record {
  end = whole_end first.end second.end;
  sim = second.sim;
  steps = first.steps + second.steps;
  rows = first.rows ++ second.rows;
  log = first.log ++ second.log;
}

-- "the second part's rows going after the first's in the same buffer": how many more it has room for
abbrev pub room_left : ℕ → Ran → ℕ
room_left room first = room - length first.rows

-- a part, and another on the simulation and the room that it left
abbrev pub run_on_after : (first : Ran) (room : ℕ) (second : ℕ → Simulation → Ran) → Ran
run_on_after first room second = joined first (second (room_left room first) first.sim)

-- "a steps and then b steps, with the same service list"
abbrev pub step_n_on : List Float → (room a b : ℕ) → Simulation → Ran
step_n_on services room a b sim = run_on_after (step_n services room a sim) room (λ left next. step_n services left b next)

-- and with as many pauses as one likes: a part for each number of the list, and one of no steps at last
abbrev pub total : List ℕ → ℕ
total [] = 0
total (n ∷ ns) = n + total ns

abbrev pub in_parts : List Float → ℕ → List ℕ → Simulation → Ran
in_parts services room [] sim = step_n services room 0 sim
in_parts services room (n ∷ ns) sim =
    let first = step_n services room n sim in
    joined first (in_parts services (room_left room first) ns first.sim)

-- an allowance of `step_until` cut in two, with the same `until`
abbrev pub step_until_on : List Float → Float → (room a b : ℕ) → Simulation → Ran
step_until_on services until room a b sim = run_on_after (step_until services until room a sim) room (λ left next. step_until services until left b next)

-- a run that has reached its `until`, with the messages of its last step, which it did not collect, put after its rows (as `get_messages` lists them)
abbrev pub collected : Ran → Ran
collected r = record { end = r.end; sim = r.sim; steps = r.steps; rows = r.rows ++ r.sim.active; log = r.log }
