-- What the answers of events mean: 01's number, or what was done, for each case. Definitions only. Assumes nothing.
use Rattle.std.specs.Prelude.{ℕ, List, [], ◌∷◌, ◌++◌, take, Float, Err, Ok, Result}
use Rattle.rules.specs.declared.Refusal.{Refusal}
use Rattle.rules.specs.Base.{Outcome, refused, done}
use Rattle.rules.specs.Models as Models
use Rattle.rules.specs.Models.{Fate}
use Rattle.events.specs.declared.Taken.{Taken}
use Rattle.events.specs.declared.Taken.TheVariants as taken

-- what an event hands back: the next state, or after a refusal the state as it was; and 01's number, or what came of it
abbrev pub handed_back : {S R : Type 0} → S → Outcome (S × R) → S × Outcome R
handed_back s (refused r) = (s, refused r)
handed_back s (done (next, what)) = (next, done what)

-- the place in the service list is handed back with the state
abbrev pub placed : {S R : Type 0} → Outcome (S × ℕ × R) → Outcome ((S × ℕ) × R)
placed (refused r) = refused r
placed (done (next, place, what)) = done ((next, place), what)

-- a service time, and the place after it
abbrev pub service_of : Result (Float × ℕ) Refusal → Outcome (Float × ℕ)
service_of (Ok found) = done found
service_of (Err r) = refused r

-- what became of what came
abbrev pub fate_of : Result Taken Refusal → Outcome Fate
fate_of (Ok taken.Started) = done Models.Started
fate_of (Ok taken.Kept) = done Models.Kept
fate_of (Ok taken.Dropped) = done Models.Dropped
fate_of (Ok taken.Marked) = done Models.Marked
fate_of (Ok taken.Asked) = done Models.Asked
fate_of (Err r) = refused r

-- the queue after it: a job that is started or kept stands behind the others
abbrev pub queue_after : Result Taken Refusal → List ℕ → ℕ → List ℕ
queue_after (Ok taken.Started) queue job = queue ++ job ∷ []
queue_after (Ok taken.Kept) queue job = queue ++ job ∷ []
queue_after (Ok taken.Dropped) queue job = queue
queue_after (Ok taken.Marked) queue job = queue
queue_after (Ok taken.Asked) queue job = queue
queue_after (Err r) queue job = queue

-- how many jobs go out, from the front of the queue
abbrev pub count_of : Result ℕ Refusal → ℕ
count_of (Ok n) = n
count_of (Err r) = 0

abbrev pub out_of : Result ℕ Refusal → List ℕ → Outcome (List ℕ)
out_of (Ok n) queue = done (take n queue)
out_of (Err r) queue = refused r
