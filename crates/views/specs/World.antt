-- The words of all rows of a table, as the rules' world; and what an answer of an event in place says of the rules' event. Definitions only. Assumes nothing.
use Rattle.std.specs.Prelude.{ℕ, zero, suc, ◌+◌, ◌≤◌, ◌<◌, ◌≡◌, ◌⊎◌, List, [], ◌∷◌, map, length, Err, Ok, Result, ⊤}
use Rattle.rules.specs.declared.Refusal.{Refusal}
use Rattle.rules.specs.Base.{Outcome, refused, done, from}
use Rattle.rules.specs.Sizes.{most_out}
use Rattle.rules.specs.Table.{Row, Table, kind_at}
use Rattle.rules.specs.Simulation.{State}
use Rattle.rules.specs.Step.{Out, Happening, World}
use Rattle.rules.proofs.Worlds.{Good}
use Rattle.memory.specs.Words.{word_at, place_in, head_at, begin_in, width_of}
use Rattle.memory.specs.View.{outs_in, state_in, WordsFit}

-- ---- where the rows' own words begin: after all heads, in row order
abbrev pub widths_of : List Row → ℕ → ℕ
widths_of rows zero = 0
widths_of [] (suc i) = 0
widths_of (r ∷ rs) (suc i) = width_of r.kind + widths_of rs i

abbrev pub begin_of : Table → ℕ → ℕ
begin_of t i = head_at (length t.rows) + widths_of t.rows i

-- where the last row's end
abbrev pub end_of : Table → ℕ
end_of t = begin_of t (length t.rows)

-- ---- the world
abbrev pub state_of : Table → List ℕ → ℕ → State
state_of t mem i = state_in (kind_at t i) (begin_of t i) mem i

abbrev pub states_in : Table → List ℕ → List State
states_in t mem = map (state_of t mem) (from 0 (length t.rows))

abbrev pub world_in : Table → List ℕ → List Happening → World
world_in t mem log = record { states = states_in t mem; place = place_in mem; log = log }

-- ---- the words are laid out as the table says
pub record Laid (t : Table) (mem : List ℕ) : Type 0 where
  pub room : end_of t ≤ length mem
  pub begins : (i : ℕ) → i < length t.rows → begin_in mem i ≡ begin_of t i
  pub words : (i : ℕ) → i < length t.rows → WordsFit (kind_at t i) (begin_of t i) mem i

-- and what 20 asks of the states holds
pub record Ready (t : Table) (mem : List ℕ) : Type 0 where
  pub laid : Laid t mem
  pub good : Good t (world_in t mem [])

-- ---- the words 0 and 1, and those past the rows', but from lo to before hi, are as they were
pub record Frame (t : Table) (lo hi : ℕ) (mem after : List ℕ) : Type 0 where
  pub long : length after ≡ length mem
  pub low : (p : ℕ) → p < 2 → word_at after p ≡ word_at mem p
  pub high : (p : ℕ) → end_of t ≤ p → (p < lo) ⊎ (hi ≤ p) → word_at after p ≡ word_at mem p

-- ---- an answer in place: the rules' event leads to the world that now stands in the words, or is refused. It is so after any log; no code has one
pub record Moves (event : World → Outcome World) (t : Table) (mem after : List ℕ) : Type 0 where
  pub ready : Ready t after
  pub more : List Happening → List Happening
  pub is : (log : List Happening) → event (world_in t mem log) ≡ done (world_in t after (more log))

abbrev pub Does : Result ⊤ Refusal → (World → Outcome World) → Table → List ℕ → List ℕ → Type 0
Does (Ok tt) event t mem after = Moves event t mem after
Does (Err r) event t mem after = (log : List Happening) → event (world_in t mem log) ≡ refused r

-- the n messages put out stand from `at` on
pub record Puts (n at : ℕ) (event : World → Outcome (World × List Out)) (t : Table) (mem after : List ℕ) : Type 0 where
  pub ready : Ready t after
  pub few : n ≤ most_out
  pub more : List Happening → List Happening
  pub is : (log : List Happening) → event (world_in t mem log) ≡ done (world_in t after (more log), outs_in at n after)

abbrev pub Gives : Result ℕ Refusal → ℕ → (World → Outcome (World × List Out)) → Table → List ℕ → List ℕ → Type 0
Gives (Ok n) at event t mem after = Puts n at event t mem after
Gives (Err r) at event t mem after = (log : List Happening) → event (world_in t mem log) ≡ refused r
