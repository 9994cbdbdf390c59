-- A simulation by value. Definitions only. Assumes nothing.
use Rattle.std.specs.Prelude.{ℕ, List, [], replicate}
use Rattle.rules.specs.Base.{Outcome, refused, done}
use Rattle.rules.specs.Layout.{lent}
use Rattle.rules.specs.Simulation.{Simulation, begun, empty_table}
use Rattle.rules.specs.Calls.{post}
use Rattle.storing.specs.State.{laid_state, over}

-- as many words as the largest table needs
abbrev pub blank : List ℕ
blank = replicate 17286 0

-- "A refused `post` hands back the simulation of the empty table"
abbrev pub posted : (models connectors couplings : List ℕ) → Outcome Simulation → List ℕ
posted models connectors couplings (refused r) = over (laid_state [] [] [] (begun empty_table)) blank
posted models connectors couplings (done sim) = over (laid_state models connectors couplings sim) blank

unfoldable pub posted_words : (models connectors couplings : List ℕ) → List ℕ
posted_words models connectors couplings = posted models connectors couplings (post (lent models connectors couplings))
