-- A lent state that 20 lets pass: what it holds, the room that it has, and the buffer with another simulation written over it. Assumes nothing.
use Rattle.std.specs.Prelude.{ℕ, zero, suc, ◌+◌, ◌*◌, ◌/◌, ◌≤◌, ◌<◌, ◌≡◌, refl, List, [], ◌∷◌, ◌++◌, length, take, drop}
use Rattle.std.proofs.Common.{sym, ap, subst, ◌∙◌, append_assoc, arith, length-append, length-drop, take-append-drop, length-take-le, drop-drop, le→leb, eqb→eq}
use Rattle.std.proofs.Math.Dec.{T, leb→le}
use Rattle.std.specs.Float.Ieee.Fits.{eq→eqb}
use Rattle.times.specs.Time.{is_time}
use Rattle.rules.specs.Base.{hold}
use Rattle.rules.specs.Sizes.{most_active}
use Rattle.rules.specs.Table as table
use Rattle.rules.specs.Table.{Kind, processor, batcher, stopwatch, coupled, Table, kind_at}
use Rattle.rules.specs.Intake.{Posted, Verdict, too_large, bad_row, bad_connector, bad_coupling, passed, intake, is_passed, passes_intake}
use Rattle.rules.specs.Simulation.{Simulation}
use Rattle.rules.specs.Ends.{All, nil, ◌&◌, parts, whole_of}
use Rattle.rules.specs.Decides.{whole_table, intake-exactly}
use Rattle.rules.specs.Depth.{passed-again}
use Rattle.rules.proofs.Worlds.{MessageFits}
use Rattle.rules.proofs.Runs.{Valid, valid-of, is-valid}
use Rattle.words.specs.Lists.{part_length}
use Rattle.marks.specs.MarkingLaws.{every-from}
use Rattle.memory.specs.Words.{word_at, phase_in, timer_in, held_in, begin_in, width_of, own_in}
use Rattle.memory.specs.View.{word_rules, WordsFit}
use Rattle.lookup.specs.Inside.{count_in, connectors_at, couplings_at, tail_at, models_in, connectors_in, couplings_in, posted_in, table_in, Inside}
use Rattle.lookup.specs.InsideLaws.{counts}
use Rattle.views.specs.World.{widths_of, begin_of, end_of, Laid, Ready}
use Rattle.views.specs.MessageLaws.{messages-long}
use Rattle.stepping.specs.Simulating.{clock_in, active_in, sim_in, Sound}
use Rattle.rerunning.specs.Running.{tail_in, sim_of, Stored}
use Rattle.storing.specs.State.{changing, laid_state, kept, state_words, row_rules, rows_fit, stored_rules, is_stored}
use Rattle.storing.specs.Canonical.{at_each, cut, three-words, words_are}

-- ---- a simulation in words, with room for its own messages
pub record Holds (t : Table) (mem : List ℕ) : Type 0 where
  pub ready : Ready t mem
  pub few : word_at mem 0 ≤ most_active
  pub active : All MessageFits (active_in t mem)
  pub clock : T (is_time (clock_in mem))
  pub room : end_of t + word_at mem 0 * 6 ≤ length mem

pub sound-holds : (t : Table) (mem : List ℕ) → Sound t mem → Holds t mem
sound-holds t mem s = record { ready = s.ready; few = s.few; active = s.active; clock = s.clock; room = let f = s.few in let r = s.room in omega arith }

pub stored-holds : (state : List ℕ) → Stored state → Holds (table_in state) (tail_in state)
stored-holds state s = record { ready = s.ready; few = s.few; active = s.active; clock = s.clock; room = s.room }

pub holds-stored : (state : List ℕ) → Inside state → Holds (table_in state) (tail_in state) → Stored state
holds-stored state inside h = record { inside = inside; ready = h.ready; few = h.few; active = h.active; clock = h.clock; room = h.room }

-- what 20 asks of a simulation holds of it
pub holds-valid : (t : Table) (mem : List ℕ) → T (passes_intake t) → Holds t mem → Valid (sim_in t mem)
holds-valid t mem passes h = record {
  table = passes;
  fitted = h.ready.good.0;
  few = rw (messages-long (end_of t) (word_at mem 0) mem) h.few;
  active = h.active;
  clock = h.clock;
  place = h.ready.good.1;
}

-- ---- the rows' own words are at most 192 each
width-most : (k : Kind) → width_of k ≤ 192
width-most (processor p) = omega arith
width-most (batcher b) = omega arith
width-most (stopwatch w) = omega arith
width-most coupled = omega arith

pub widths-most : (rows : List table.Row) (i : ℕ) → widths_of rows i ≤ i * 192
widths-most rows zero = omega arith
widths-most [] (suc i) = omega arith
widths-most (r ∷ rs) (suc i) = let h = widths-most rs i in let w = width-most r.kind in omega arith

-- ---- the tests, one by one
passed_is : (p : Posted) → T (is_passed (intake p)) → intake p ≡ passed (whole_table p)
passed_is p t = go (intake p) refl t
  where
    go : (v : Verdict) → intake p ≡ v → T (is_passed v) → intake p ≡ passed (whole_table p)
    go too_large e u = absurd u
    go (bad_row k) e u = absurd u
    go (bad_connector k) e u = absurd u
    go (bad_coupling k) e u = absurd u
    go (passed t) e u = e ∙ ap passed ((intake-exactly p (passed t)).0 e).4

-- every place passes the test
-- the words are laid out exactly when each row's words fit
fit-laid : (t : Table) (mem : List ℕ) → T (rows_fit t mem) → end_of t ≤ length mem → Laid t mem
fit-laid t mem fit room = record { room = room; begins = λ i l. (both i l).0; words = λ i l. (both i l).1 }
  where
    both : (i : ℕ) → i < length t.rows → (begin_in mem i ≡ begin_of t i) × WordsFit (kind_at t i) (begin_of t i) mem i
    both i l = go (parts (row_rules t mem i) (at_each (λ i. hold (row_rules t mem i)) (length t.rows) fit i l))
      where
        go : All T (row_rules t mem i) → (begin_in mem i ≡ begin_of t i) × WordsFit (kind_at t i) (begin_of t i) mem i
        go (begin & words & nil) =
            (eqb→eq (begin_in mem i) (begin_of t i) begin, parts (word_rules (kind_at t i) (phase_in mem i) (timer_in mem i) (held_in mem i) (own_in (begin_of t i) (width_of (kind_at t i)) mem)) words)

pub laid-fit : (t : Table) (mem : List ℕ) → Laid t mem → T (rows_fit t mem)
laid-fit t mem laid =
    every-from (λ i. hold (row_rules t mem i)) 0 (length t.rows)
    (λ i a b. let l : i < length t.rows = omega arith in whole_of {bs = row_rules t mem i} (eq→eqb (laid.begins i l) & whole_of (laid.words i l) & nil))

-- ---- a state that passes
pub tail-fits : (state : List ℕ) → Inside state → state_words (count_in 0 state) (count_in 1 state) (count_in 2 state) ≤ length state → tail_at state + (end_of (table_in state) + 1536) ≤ length state
tail-fits state inside long =
    let rows = (counts state inside).0 in
    let own = widths-most (table_in state).rows (length (table_in state).rows) in
    omega arith

module _ (state : List ℕ) (stored : T (is_stored state)) where
  record Told : Type 0 where
    long : state_words (count_in 0 state) (count_in 1 state) (count_in 2 state) ≤ length state
    passes : intake (posted_in state) ≡ passed (table_in state)
    rows : T (rows_fit (table_in state) (tail_in state))
    valid : Valid (sim_of state)

  told : Told
  unfolding is_stored
  told = go (parts (stored_rules state) stored)
    where
      go : All T (stored_rules state) → Told
      go (long & passes & rows & valid & nil) = record {
        long = leb→le (state_words (count_in 0 state) (count_in 1 state) (count_in 2 state)) (length state) long;
        passes = passed_is (posted_in state) passes;
        rows = rows;
        valid = valid-of (sim_of state) valid;
      }

  pub stored-long : state_words (count_in 0 state) (count_in 1 state) (count_in 2 state) ≤ length state
  stored-long = told.long

  pub stored-inside : Inside state
  stored-inside = record { room = (let l = told.long in omega arith); passes = told.passes }

  -- the room that is always there: for any simulation of the table
  pub tail-room : tail_at state + (end_of (table_in state) + 1536) ≤ length state
  tail-room = tail-fits state stored-inside stored-long

  pub stored_of : Stored state
  stored_of =
      let v = told.valid in
      let tail = length-drop (tail_at state) state in
      let room = tail-room in
      let few : word_at (tail_in state) 0 ≤ most_active = (let f = v.few in omega (arith, messages-long (end_of (table_in state)) (word_at (tail_in state) 0) (tail_in state))) in
      record {
        inside = stored-inside;
        ready = record { laid = fit-laid (table_in state) (tail_in state) told.rows (omega arith); good = (v.fitted, v.place) };
        few = few;
        active = v.active;
        clock = v.clock;
        room = omega arith;
      }

pub is-stored : (state : List ℕ) → Stored state → state_words (count_in 0 state) (count_in 1 state) (count_in 2 state) ≤ length state → T (is_stored state)
unfolding is_stored
is-stored state s long =
    whole_of {bs = stored_rules state}
    (le→leb (state_words (count_in 0 state) (count_in 1 state) (count_in 2 state)) (length state) long
    & subst (λ (v : Verdict). T (is_passed v)) (sym s.inside.passes) tt
    & laid-fit (table_in state) (tail_in state) s.ready.laid
    & is-valid (sim_of state) (holds-valid (table_in state) (tail_in state) (passed-again (posted_in state) (table_in state) s.inside.passes) (stored-holds state s))
    & nil)

-- ---- another simulation written over it
module _ (state : List ℕ) (inside : Inside state) where
  -- the rows of each part, by its length
  pub counted : (length (models_in state) / 10 ≡ count_in 0 state) × (length (connectors_in state) / 4 ≡ count_in 1 state) × (length (couplings_in state) / 6 ≡ count_in 2 state)
  counted =
      let room = inside.room in
      let rows = part_length 3 (count_in 0 state * 10) state (omega arith) in
      let links = part_length (connectors_at state) (count_in 1 state * 4) state (omega arith) in
      let inner = part_length (couplings_at state) (count_in 2 state * 6) state (omega arith) in
      (omega arith, omega arith, omega arith)

  -- the words before the changing part, and a simulation behind them
  front : take (tail_at state) state ≡ count_in 0 state ∷ count_in 1 state ∷ count_in 2 state ∷ (models_in state ++ (connectors_in state ++ couplings_in state))
  front =
      let rows = count_in 0 state * 10 in
      let links = count_in 1 state * 4 in
      let inner = count_in 2 state * 6 in
      let room = inside.room in
      let all : tail_at state ≡ 3 + (rows + (links + inner)) = omega arith in
      ap (λ (n : ℕ). take n state) all
      ∙ cut 0 3 (rows + (links + inner)) 3 state refl
      ∙ (λ i. three-words state 0 (omega arith) i ++ cut 3 rows (links + inner) (connectors_at state) state (omega arith) i)
      ∙ ap (λ (ws : List ℕ). count_in 0 state ∷ count_in 1 state ∷ count_in 2 state ∷ (models_in state ++ ws)) (cut (connectors_at state) links inner (couplings_at state) state refl)

  pub laid-is : (sim : Simulation) → laid_state (models_in state) (connectors_in state) (couplings_in state) sim ≡ take (tail_at state) state ++ changing sim
  laid-is sim =
      (λ i. counted.0 i ∷ counted.1 i ∷ counted.2 i ∷ (models_in state ++ sym (append_assoc (connectors_in state) (couplings_in state) (changing sim)) i))
      ∙ ap (λ (ws : List ℕ). count_in 0 state ∷ count_in 1 state ∷ count_in 2 state ∷ ws) (sym (append_assoc (models_in state) (connectors_in state ++ couplings_in state) (changing sim)))
      ∙ ap (λ (ws : List ℕ). ws ++ changing sim) (sym front)

  -- words of the table's simulation, written back
  pub kept-words : (mem : List ℕ) → Holds (table_in state) mem
      → take (tail_at state) state ++ (take (end_of (table_in state) + word_at mem 0 * 6) mem ++ drop (tail_at state + (end_of (table_in state) + word_at mem 0 * 6)) state) ≡ kept state (sim_in (table_in state) mem)
  kept-words mem h =
      let sim = sim_in (table_in state) mem in
      let used = end_of (table_in state) + word_at mem 0 * 6 in
      let words = words_are (table_in state) mem h.ready h.active h.clock h.room in
      let rest = drop (tail_at state + used) state in
      let long : length (laid_state (models_in state) (connectors_in state) (couplings_in state) sim) ≡ tail_at state + used =
      ap length (laid-is sim ∙ ap (λ (ws : List ℕ). take (tail_at state) state ++ ws) (sym words))
      ∙ length-append (take (tail_at state) state) (take used mem)
      ∙ (λ i. length-take-le (tail_at state) state inside.room i + length-take-le used mem h.room i) in
      ap (λ (ws : List ℕ). take (tail_at state) state ++ (ws ++ rest)) words
      ∙ sym (append_assoc (take (tail_at state) state) (changing sim) rest)
      ∙ (λ i. sym (laid-is sim) i ++ drop (sym long i) state)

  -- a buffer whose changing part was changed in place
  pub kept-in-place : (after : List ℕ) → take (tail_at state) after ≡ take (tail_at state) state → Holds (table_in state) (drop (tail_at state) after)
      → drop (tail_at state + (end_of (table_in state) + word_at (drop (tail_at state) after) 0 * 6)) after ≡ drop (tail_at state + (end_of (table_in state) + word_at (drop (tail_at state) after) 0 * 6)) state
      → after ≡ kept state (sim_in (table_in state) (drop (tail_at state) after))
  kept-in-place after before h beyond =
      let tail = drop (tail_at state) after in
      let used = end_of (table_in state) + word_at tail 0 * 6 in
      sym (take-append-drop (tail_at state) after)
      ∙ (λ i. before i ++ sym (take-append-drop used tail) i)
      ∙ ap (λ (ws : List ℕ). take (tail_at state) state ++ (take used tail ++ ws)) (drop-drop used (tail_at state) after ∙ beyond)
      ∙ kept-words tail h

-- a run's words written back are the buffer that the rules' simulation leaves
pub kept_by : (state : List ℕ) → T (is_stored state) → (mem : List ℕ) → Sound (table_in state) mem
    → take (tail_at state) state ++ (take (end_of (table_in state) + word_at mem 0 * 6) mem ++ drop (tail_at state + (end_of (table_in state) + word_at mem 0 * 6)) state) ≡ kept state (sim_in (table_in state) mem)
kept_by state stored mem sound = kept-words state (stored-inside state stored) mem (sound-holds (table_in state) mem sound)

-- "a refused call changes nothing": the state's own simulation written over it is the state
pub kept_same : (state : List ℕ) → T (is_stored state) → kept state (sim_of state) ≡ state
kept_same state stored = sym (kept-in-place state (stored-inside state stored) state refl (stored-holds state (stored_of state stored)) refl)
