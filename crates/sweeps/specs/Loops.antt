-- A loop of events in place: where it stands, what each turn of it does, and what it has done at its end. Assumes nothing.
use Rattle.std.specs.Prelude.{ℕ, ◌+◌, ◌-◌, ◌≤◌, ◌<◌, ◌≡◌, refl, Bool, false, List, Err, None, Ok, Result, Some, ⊤}
use Rattle.std.proofs.Common.{◌∙◌}
use Rattle.rules.specs.declared.Refusal.{Refusal}
use Rattle.rules.specs.Base.{Outcome, refused, done, each, those, from}
use Rattle.rules.specs.Table.{Table}
use Rattle.rules.specs.Step.{Happening, World}
use Rattle.words.specs.Search.{first_from}
use Rattle.views.specs.World.{world_in, Ready, Frame, Moves, Does}
use Rattle.views.proofs.Frames.{frame_same, frame_then}
use Rattle.sweeps.specs.Sweeps.{Leads, Onward, onward-start, onward-on, onward_stops, onward-none, onward-end, onward-skip}

-- an event in place, as the sweeps have it
pub leads : {event : World → Outcome World} {t : Table} {mem after : List ℕ} → Moves event t mem after → Leads event (world_in t mem) (world_in t after)
leads m = record { more = m.more; is = m.is }

-- what is done where nothing is
pub stays : (t : Table) (mem : List ℕ) → Ready t mem → Moves done t mem mem
stays t mem ready = record { ready = ready; more = λ log. log; is = λ log. refl }

-- an answer for an event is one for another that is the same
pub does-as : (t : Table) (mem after : List ℕ) (event other : World → Outcome World) (r : Result ⊤ Refusal) → ((w : World) → other w ≡ event w) → Does r event t mem after → Does r other t mem after
does-as t mem after event other (Ok tt) same d = record { ready = d.ready; more = d.more; is = λ log. same _ ∙ d.is log }
does-as t mem after event other (Err r) same d = λ log. same _ ∙ d log

module _ (t : Table) (visit : ℕ → World → Outcome World) (test : ℕ → Bool) (mem₀ : List ℕ) (end : ℕ) where
  -- all that pass the test are to be visited
  abbrev pub all_of : World → Outcome World
  all_of w = each visit (those test (from 0 end)) w

  -- those before `row` were, and so `mem` was reached
  pub record Going (row : ℕ) (mem : List ℕ) : Type 0 where
    pub ready : Ready t mem
    pub frame : Frame t 0 0 mem₀ mem
    pub onward : Onward visit (those test (from row (end - row))) (λ log. all_of (world_in t mem₀ log)) (world_in t mem)

  pub going_start : Ready t mem₀ → Going 0 mem₀
  going_start ready = record {
    ready = ready;
    frame = frame_same t 0 0 mem₀;
    onward = onward-start visit test end (world_in t mem₀);
  }

  module _ (row : ℕ) (mem : List ℕ) (g : Going row mem) where
    pub going_on : (j : ℕ) (after : List ℕ) → first_from test row (end - row) ≡ Some j → Moves (visit j) t mem after → Frame t 0 0 mem after → Going (j + 1) after
    going_on j after found m f = record {
      ready = m.ready;
      frame = frame_then t 0 0 mem₀ mem after g.frame f;
      onward = onward-on visit test row end (λ log. all_of (world_in t mem₀ log)) (world_in t mem) g.onward j (world_in t after) found (leads m);
    }

    pub going-skip : row < end → test row ≡ false → Going (row + 1) mem
    going-skip below fails = record { ready = g.ready; frame = g.frame; onward = onward-skip visit test row end (λ log. all_of (world_in t mem₀ log)) (world_in t mem) g.onward below fails }

    pub going-stops : (j : ℕ) (r : Refusal) (after : List ℕ) → first_from test row (end - row) ≡ Some j → Does (Err r) (visit j) t mem after → (log : List Happening) → all_of (world_in t mem₀ log) ≡ refused r
    going-stops j r after found s = onward_stops visit test row end (λ log. all_of (world_in t mem₀ log)) (world_in t mem) g.onward j r found s

    ended : Leads (λ log. all_of (world_in t mem₀ log)) (λ log. log) (world_in t mem) → Moves all_of t mem₀ mem
    ended l = record { ready = g.ready; more = l.more; is = l.is }

    pub going-none : first_from test row (end - row) ≡ None → Moves all_of t mem₀ mem
    going-none found = ended (onward-none visit test row end (λ log. all_of (world_in t mem₀ log)) (world_in t mem) g.onward found)

    pub going_end : end ≤ row → Moves all_of t mem₀ mem
    going_end past = ended (onward-end visit test row end (λ log. all_of (world_in t mem₀ log)) (world_in t mem) g.onward past)
