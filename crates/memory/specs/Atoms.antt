-- An atom's event on its state and the place in the service list, for each kind alike; and what an answer in place says of it. Definitions only. Assumes nothing.
use Rattle.std.specs.Prelude.{ℕ, ◌≤◌, ◌≡◌, List, [], map, Float, Err, Ok, Result, ⊤}
use Rattle.rules.specs.declared.Refusal.{Refusal}
use Rattle.rules.specs.Base.{Outcome, refused, done, ◌>>=◌}
use Rattle.rules.specs.Sizes.{most_jobs}
use Rattle.rules.specs.Table.{Kind, processor, batcher, stopwatch, coupled}
use Rattle.rules.specs.Simulation.{State, of_processor, of_batcher, of_stopwatch, as_processor, as_batcher, as_stopwatch}
use Rattle.rules.specs.Models.{Fate, Kept, Passed, processor_external, processor_internal, batcher_external, batcher_internal, stopwatch_external, stopwatch_internal}
use Rattle.rules.specs.Step.{Out, out_at}
use Rattle.memory.specs.Words.{place_in}
use Rattle.memory.specs.View.{outs_in, state_in, WordsFit}

-- ---- the rules' events. A Coupled is no atom: it is not met
abbrev pub atom_external : Kind → List Float → Float → ℕ → ℕ → State → ℕ → Outcome (State × ℕ × Fate)
atom_external (processor p) services clock port content s place = do
  (next, after, fate) ← processor_external p services port content (as_processor s) place
  done (of_processor next, after, fate)
atom_external (batcher b) services clock port content s place = do
  next ← batcher_external b content (as_batcher s)
  done (of_batcher next, place, Kept)
atom_external (stopwatch w) services clock port content s place = do
  (next, fate) ← stopwatch_external w clock port content (as_stopwatch s)
  done (of_stopwatch next, place, fate)
atom_external coupled services clock port content s place = done (s, place, Passed)

abbrev pub atom_internal : Kind → List Float → State → ℕ → Outcome (State × ℕ × List Out)
atom_internal (processor p) services s place = do
  (next, after, jobs) ← processor_internal services (as_processor s) place
  done (of_processor next, after, map (out_at p.output) jobs)
atom_internal (batcher b) services s place =
    let (next, jobs) = batcher_internal b (as_batcher s) in
    done (of_batcher next, place, map (out_at b.output) jobs)
atom_internal (stopwatch w) services s place =
    let (next, jobs) = stopwatch_internal w (as_stopwatch s) in
    done (of_stopwatch next, place, map (out_at w.output) jobs)
atom_internal coupled services s place = done (s, place, [])

-- ---- what an answer says of an outcome: the row's new state and the new place stand in the words, or it is refused
pub record Kept-by (k : Kind) (b i : ℕ) (after : List ℕ) (outcome : Outcome (State × ℕ × Fate)) : Type 0 where
  pub fate : Fate
  pub is : outcome ≡ done (state_in k b after i, place_in after, fate)
  pub words : WordsFit k b after i

abbrev pub Took : Result ⊤ Refusal → Kind → ℕ → ℕ → List ℕ → Outcome (State × ℕ × Fate) → Type 0
Took (Ok tt) k b i after outcome = Kept-by k b i after outcome
Took (Err r) k b i after outcome = outcome ≡ refused r

-- the n messages put out stand from `at` on
pub record Put-by (n at : ℕ) (k : Kind) (b i : ℕ) (after : List ℕ) (outcome : Outcome (State × ℕ × List Out)) : Type 0 where
  pub few : n ≤ most_jobs
  pub is : outcome ≡ done (state_in k b after i, place_in after, outs_in at n after)
  pub words : WordsFit k b after i

abbrev pub Gave : Result ℕ Refusal → ℕ → Kind → ℕ → ℕ → List ℕ → Outcome (State × ℕ × List Out) → Type 0
Gave (Ok n) at k b i after outcome = Put-by n at k b i after outcome
Gave (Err r) at k b i after outcome = outcome ≡ refused r
