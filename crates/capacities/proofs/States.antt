-- A state that was stored before A7, its table migrated: it holds by the new reading what it held by the old one. Assumes nothing.
use Rattle.std.specs.Prelude.{ℕ, ◌+◌, ◌*◌, ◌≤◌, ◌<◌, ◌≡◌, Bool, List, [], ◌∷◌, leb, length, take, drop}
use Rattle.std.proofs.Common.{ap, ◌∙◌, inl, arith}
use Rattle.rules.specs.Base.{hold}
use Rattle.rules.specs.Intake.{Posted, intake, is_passed}
use Rattle.rules.specs.Decides.{whole_table}
use Rattle.rules.specs.Simulation.{Simulation}
use Rattle.rules.specs.Valid.{is_valid}
use Rattle.rules.specs.Layout.{model_width, lent}
use Rattle.words.specs.Lists.{part_length}
use Rattle.memory.specs.Words.{replaced}
use Rattle.memory.specs.Places.{replaced-length, replaced-own, replaced-other}
use Rattle.lookup.specs.Inside.{count_in, connectors_at, couplings_at, tail_at, models_in, connectors_in, couplings_in, posted_in}
use Rattle.stepping.specs.Simulating.{sim_in}
use Rattle.rerunning.specs.Running.{tail_in, sim_of}
use Rattle.storing.specs.State.{state_words, rows_fit, is_stored}
use Rattle.capacities.specs.Migration.{old_lent, written_out}
use Rattle.capacities.specs.Parts.{replaced-behind}
use Rattle.capacities.proofs.Migrated.{reads-as-before, same_length}

-- ---- what a state held by the old reading, and what 20 asked of it
abbrev pub old_posted_in : List ℕ → Posted
old_posted_in state = old_lent (models_in state) (connectors_in state) (couplings_in state)

abbrev pub old_sim_of : List ℕ → Simulation
old_sim_of state = sim_in (whole_table (old_posted_in state)) (tail_in state)

unfoldable pub old_is_stored : List ℕ → Bool
old_is_stored state =
    hold
    (leb (state_words (count_in 0 state) (count_in 1 state) (count_in 2 state)) (length state)
    ∷ is_passed (intake (old_posted_in state)) ∷ rows_fit (whole_table (old_posted_in state)) (tail_in state) ∷ is_valid (old_sim_of state) ∷ [])

-- ---- the state with the words of its models migrated: those from 3 on, ten for each of its rows
abbrev pub migrated : List ℕ → List ℕ
migrated state = replaced 3 (count_in 0 state * model_width) (written_out (models_in state)) state

module _ (state : List ℕ) (room : connectors_at state ≤ length state) where
  within : 3 + count_in 0 state * 10 ≤ length state
  within = omega arith

  models-long : length (written_out (models_in state)) ≡ count_in 0 state * 10
  models-long = same_length (models_in state) ∙ part_length 3 (count_in 0 state * 10) state within

  -- its counts stay, and so do all words behind the models
  counts-stay : (part : ℕ) → part < 3 → count_in part (migrated state) ≡ count_in part state
  counts-stay part l = replaced-other 3 (count_in 0 state * 10) (written_out (models_in state)) state within models-long part (inl l)

  behind : (place : ℕ) → connectors_at state ≤ place → drop place (migrated state) ≡ drop place state
  behind place l = replaced-behind 3 (count_in 0 state * 10) (written_out (models_in state)) state within models-long place (omega arith)

  -- where its parts stand
  counts : (count_in 0 (migrated state) ≡ count_in 0 state) × (count_in 1 (migrated state) ≡ count_in 1 state) × (count_in 2 (migrated state) ≡ count_in 2 state)
  counts = (counts-stay 0 (omega arith), counts-stay 1 (omega arith), counts-stay 2 (omega arith))

  connectors-at : connectors_at (migrated state) ≡ connectors_at state
  connectors-at = omega (arith, counts.0)

  couplings-at : couplings_at (migrated state) ≡ couplings_at state
  couplings-at = omega (arith, counts.0, counts.1)

  tail-at : tail_at (migrated state) ≡ tail_at state
  tail-at = omega (arith, counts.0, counts.1, counts.2)

  -- what they are
  models-are : models_in (migrated state) ≡ written_out (models_in state)
  models-are = ap (λ (n : ℕ). take (n * 10) (drop 3 (migrated state))) counts.0 ∙ replaced-own 3 (count_in 0 state * 10) (written_out (models_in state)) state within models-long

  connectors-are : connectors_in (migrated state) ≡ connectors_in state
  connectors-are = λ i. take (counts.1 i * 4) ((ap (λ (n : ℕ). drop n (migrated state)) connectors-at ∙ behind (connectors_at state) (omega arith)) i)

  couplings-are : couplings_in (migrated state) ≡ couplings_in state
  couplings-are = λ i. take (counts.2 i * 6) ((ap (λ (n : ℕ). drop n (migrated state)) couplings-at ∙ behind (couplings_at state) (omega arith)) i)

  tail-is : tail_in (migrated state) ≡ tail_in state
  tail-is = ap (λ (n : ℕ). drop n (migrated state)) tail-at ∙ behind (tail_at state) (omega arith)

  as_long : length (migrated state) ≡ length state
  as_long = replaced-length 3 (count_in 0 state * 10) (written_out (models_in state)) state within models-long

  posted-as-before : posted_in (migrated state) ≡ old_posted_in state
  posted-as-before = (λ i. lent (models-are i) (connectors-are i) (couplings-are i)) ∙ reads-as-before (models_in state) (connectors_in state) (couplings_in state)

  -- ---- it is stored exactly if it was by the old reading, and holds the same simulation, the old capacities in its table
  pub stored-as-before : is_stored (migrated state) ≡ old_is_stored state
  unfolding is_stored old_is_stored
  stored-as-before =
      λ i. hold
      (leb (state_words (counts.0 i) (counts.1 i) (counts.2 i)) (as_long i)
      ∷ is_passed (intake (posted-as-before i)) ∷ rows_fit (whole_table (posted-as-before i)) (tail-is i) ∷ is_valid (sim_in (whole_table (posted-as-before i)) (tail-is i)) ∷ [])

  pub holds-as-before : sim_of (migrated state) ≡ old_sim_of state
  holds-as-before = λ i. sim_in (whole_table (posted-as-before i)) (tail-is i)
