-- One message out of a component, along the couplings of its Coupled: what is parked, and what is put out. Definitions only. Assumes nothing.
use Rattle.std.specs.Prelude.{ℕ, ◌+◌, ◌≤◌, ◌≡◌, List, ◌++◌, map, Err, Ok, Result}
use Rattle.rules.specs.declared.Refusal.{Refusal}
use Rattle.rules.specs.declared.Refusal.TheVariants.{NoMessageRoom}
use Rattle.rules.specs.Base.{Outcome, refused, done, ◌>>=◌, at_most}
use Rattle.rules.specs.Sizes.{most_parked, most_out}
use Rattle.rules.specs.Table.{Table, Target, id_at, outputs, internals}
use Rattle.rules.specs.Simulation.{Parked, of_coupled, state_at, as_coupled}
use Rattle.rules.specs.Step.{Out, out_at, World, becomes}
use Rattle.memory.specs.Words.{Only}
use Rattle.memory.specs.View.{outs_in}
use Rattle.parked_rows.specs.Parking.{with_one}

-- ---- parked: along one coupling, and the rules' `park` with the component by its id
abbrev pub parked_as : ℕ → Target → Parked
parked_as content to = record { component = to.target; port = to.port; content = content }

abbrev pub park_one : ℕ → Parked → World → Outcome World
park_one i m w = with_one (as_coupled (state_at w.states i)) m >>= λ parked. done (becomes i (of_coupled parked) w)

abbrev pub park_from : Table → (i source port content : ℕ) → World → Outcome World
park_from t i source port content w =
    at_most most_parked NoMessageRoom (as_coupled (state_at w.states i) ++ map (parked_as content) (internals t (id_at t i) source port))
    >>= λ parked. done (becomes i (of_coupled parked) w)

-- ---- put out: what the couplings of this owner add
abbrev pub outs_from : Table → (owner source port content : ℕ) → List Out
outs_from t owner source port content = map (λ to. out_at to content) (outputs t owner source port)

-- `more` after the `count` that stand from `at` on: so many after it, or it is refused
pub record Adds-to (n at count : ℕ) (more : List Out) (mem after : List ℕ) : Type 0 where
  pub few : n ≤ most_out
  pub is : at_most most_out NoMessageRoom (outs_in at count mem ++ more) ≡ done (outs_in at n after)

abbrev pub Fills : Result ℕ Refusal → ℕ → ℕ → List Out → List ℕ → List ℕ → Type 0
Fills (Ok n) at count more mem after = Adds-to n at count more mem after
Fills (Err r) at count more mem after = at_most most_out NoMessageRoom (outs_in at count mem ++ more) ≡ refused r

-- only words of the 256 from `at` on were written
abbrev pub Beside : ℕ → List ℕ → List ℕ → Type 0
Beside at = Only at (at + 256)
