-- A3 of document 02, of a log: what comes to a Coupled's components, what is newly parked in it, and an internal event in which it hands over what was parked. Definitions only. Assumes nothing.
use Rattle.std.specs.Prelude.{ℕ, ◌≡◌, Bool, List, [], ◌∷◌, ◌++◌, map, eqb, Float, if◌then◌else◌}
use Rattle.rules.specs.Base.{done, those}
use Rattle.rules.specs.Table.{Table, Target, row_at, id_at, is_parent, components, internals}
use Rattle.rules.specs.Simulation.{Parked, Simulation, state_at, as_coupled}
use Rattle.rules.specs.Step.{Out, Happening, came, went, waited, World, internal}
use Rattle.rules.specs.Ends.{All, Among}
use Rattle.rules.specs.Depth.{Deep}

-- what is parked in the row i
abbrev pub list_of : Simulation → ℕ → List Parked
list_of sim i = as_coupled (state_at sim.states i)

abbrev pub is_component : Table → ℕ → ℕ → Bool
is_component t i k = is_parent (id_at t i) (row_at t k).parent

-- what comes to the components of the row i, in order: to which row, at which port, what
abbrev pub comings : Table → ℕ → List Happening → List (ℕ × ℕ × ℕ)
comings t i [] = []
comings t i (came clock k port content fate ∷ log) = if is_component t i k then (k, port, content) ∷ comings t i log else comings t i log
comings t i (went clock k out ∷ log) = comings t i log
comings t i (waited advance ∷ log) = comings t i log

-- "parked messages go to their components in component order, then parked order"
abbrev pub handed_to : Table → List Parked → List ℕ → List (ℕ × ℕ × ℕ)
handed_to t parked [] = []
handed_to t parked (c ∷ cs) = map (λ (m : Parked). (c, m.port, m.content)) (those (λ (m : Parked). eqb m.component (id_at t c)) parked) ++ handed_to t parked cs

-- what the row i parks of what its component k puts out
abbrev pub parked_by : Table → ℕ → ℕ → List Out → List Parked
parked_by t i k [] = []
parked_by t i k (m ∷ out) = map (λ (to : Target). record { component = to.target; port = to.port; content = m.content }) (internals t (id_at t i) (id_at t k) m.port) ++ parked_by t i k out

-- what is newly parked in the row i, by what its components put out
abbrev pub newly : Table → ℕ → List Happening → List Parked
newly t i [] = []
newly t i (came clock k port content fate ∷ log) = newly t i log
newly t i (went clock k out ∷ log) = if is_component t i k then parked_by t i k out ++ newly t i log else newly t i log
newly t i (waited advance ∷ log) = newly t i log

-- no internal event of the row i
abbrev pub NotItsEvent : ℕ → Happening → Type 0
NotItsEvent i (came clock j port content fate) = Unit {0}
NotItsEvent i (went clock j out) = j ≡ i → ⊥
NotItsEvent i (waited advance) = Unit {0}

-- a log tells of one internal event of the row i, at that clock, from the world `before` to the world `left`. The list is `parked` before it. What comes to the components in the event is what was parked for them and nothing else, each message once, in 01's order; and what is in the list after it was put out by the components in it.
pub record HandsOver (t : Table) (services : List Float) (clock : Float) (i : ℕ) (parked : List Parked) (log : List Happening) : Type 0 where
  pub depth : ℕ
  pub before : World
  pub left : World
  pub out : List Out
  pub deep-enough : Deep t depth i
  pub event : internal t services depth clock i before ≡ done (left, out)
  pub held : as_coupled (state_at before.states i) ≡ parked
  pub its-first : All (NotItsEvent i) before.log
  pub since : List Happening
  pub behind-it : left.log ≡ before.log ++ since
  pub handed : comings t i since ≡ handed_to t parked (components t (id_at t i))
  pub list-after : as_coupled (state_at left.states i) ≡ newly t i since
  pub rest : List Happening
  pub its-last : All (NotItsEvent i) rest
  pub told : log ≡ left.log ++ rest

-- the simulation has the components of the row i as they are in that world
abbrev pub AsLeft : Table → ℕ → World → Simulation → Type 0
AsLeft t i left next = (j : ℕ) → Among j (components t (id_at t i)) → state_at next.states j ≡ state_at left.states j
