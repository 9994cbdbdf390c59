-- A loop of events in place that append to a list beside the world (messages put out, messages sent): where it stands, what each turn does, and what it has done at its end. Assumes nothing.
use Rattle.std.specs.Prelude.{ℕ, ◌+◌, ◌-◌, ◌≤◌, ◌≡◌, Bool, List, Err, None, Some}
use Rattle.rules.specs.declared.Refusal.{Refusal}
use Rattle.rules.specs.Base.{Outcome, refused, each, those, from}
use Rattle.rules.specs.Table.{Table}
use Rattle.rules.specs.Step.{Happening, World}
use Rattle.words.specs.Search.{first_from}
use Rattle.views.specs.World.{world_in, Ready, Frame}
use Rattle.views.proofs.Frames.{frame_same, frame_then}
use Rattle.views.specs.Messages.{Joins, Joined}
use Rattle.sweeps.specs.Sweeps.{At-log, Leads, Onward, onward-start, onward-on, onward_stops, onward-none, onward-end}

module _ {X : Type 0} (t : Table) (read : ℕ → List ℕ → List X) (most : ℕ) (visit : ℕ → World × List X → Outcome (World × List X)) (test : ℕ → Bool) (lo hi : ℕ) (mem₀ : List ℕ) (count₀ end : ℕ) where
  -- the world, and the list so far
  abbrev beside : List ℕ → ℕ → At-log (World × List X)
  beside mem count log = (world_in t mem log, read count mem)

  abbrev pub all-adding : World × List X → Outcome (World × List X)
  all-adding x = each visit (those test (from 0 end)) x

  -- those before `row` were visited, and so `mem` and `count` were reached
  pub record Adding (row : ℕ) (mem : List ℕ) (count : ℕ) : Type 0 where
    pub ready : Ready t mem
    pub few : count ≤ most
    pub frame : Frame t lo hi mem₀ mem
    pub onward : Onward visit (those test (from row (end - row))) (λ log. all-adding (beside mem₀ count₀ log)) (beside mem count)

  pub adding-start : Ready t mem₀ → count₀ ≤ most → Adding 0 mem₀ count₀
  adding-start ready few = record {
    ready = ready;
    few = few;
    frame = frame_same t lo hi mem₀;
    onward = onward-start visit test end (beside mem₀ count₀);
  }

  module _ (row : ℕ) (mem : List ℕ) (count : ℕ) (g : Adding row mem count) where
    pub adding-on : (j n : ℕ) (after : List ℕ) → first_from test row (end - row) ≡ Some j → Joins read most n count (visit j) t mem after → Frame t lo hi mem after → Adding (j + 1) after n
    adding-on j n after found m f = record {
      ready = m.ready;
      few = m.few;
      frame = frame_then t lo hi mem₀ mem after g.frame f;
      onward = onward-on visit test row end (λ log. all-adding (beside mem₀ count₀ log)) (beside mem count) g.onward j (beside after n) found (record { more = m.more; is = m.is });
    }

    pub adding-stops : (j : ℕ) (r : Refusal) (after : List ℕ) → first_from test row (end - row) ≡ Some j → Joined (Err r) read most count (visit j) t mem after → (log : List Happening) → all-adding (beside mem₀ count₀ log) ≡ refused r
    adding-stops j r after found s = onward_stops visit test row end (λ log. all-adding (beside mem₀ count₀ log)) (beside mem count) g.onward j r found s

    added : Leads (λ log. all-adding (beside mem₀ count₀ log)) (λ log. log) (beside mem count) → Joins read most count count₀ all-adding t mem₀ mem
    added l = record { ready = g.ready; few = g.few; more = l.more; is = l.is }

    pub adding-none : first_from test row (end - row) ≡ None → Joins read most count count₀ all-adding t mem₀ mem
    adding-none found = added (onward-none visit test row end (λ log. all-adding (beside mem₀ count₀ log)) (beside mem count) g.onward found)

    pub adding-end : end ≤ row → Joins read most count count₀ all-adding t mem₀ mem
    adding-end past = added (onward-end visit test row end (λ log. all-adding (beside mem₀ count₀ log)) (beside mem count) g.onward past)
