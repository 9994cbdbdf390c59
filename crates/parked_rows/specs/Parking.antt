-- A message parked in a Coupled's list, in place. Definitions only. Assumes nothing.
use Rattle.std.specs.Prelude.{ℕ, ◌≡◌, List, [], ◌∷◌, ◌++◌, Err, Ok, Result, ⊤}
use Rattle.rules.specs.declared.Refusal.{Refusal}
use Rattle.rules.specs.declared.Refusal.TheVariants.{NoMessageRoom}
use Rattle.rules.specs.Base.{Outcome, refused, done, at_most}
use Rattle.rules.specs.Sizes.{most_parked}
use Rattle.rules.specs.Table.{coupled}
use Rattle.rules.specs.Simulation.{Parked}
use Rattle.memory.specs.View.{parked_in, WordsFit}

-- the list, with one more
abbrev pub with_one : List Parked → Parked → Outcome (List Parked)
with_one parked m = at_most most_parked NoMessageRoom (parked ++ m ∷ [])

pub record Parks-one (b i : ℕ) (mem after : List ℕ) (m : Parked) : Type 0 where
  pub is : with_one (parked_in b mem i) m ≡ done (parked_in b after i)
  pub words : WordsFit coupled b after i

abbrev pub Parks : Result ⊤ Refusal → ℕ → ℕ → List ℕ → List ℕ → Parked → Type 0
Parks (Ok tt) b i mem after m = Parks-one b i mem after m
Parks (Err r) b i mem after m = with_one (parked_in b mem i) m ≡ refused r

-- the list is emptied
pub record Emptied (b i : ℕ) (after : List ℕ) : Type 0 where
  pub is : parked_in b after i ≡ []
  pub words : WordsFit coupled b after i
