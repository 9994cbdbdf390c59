-- The stopwatch on lent words is the rules' stopwatch. Assumes nothing.
use Rattle.std.specs.Prelude.{ℕ, ◌≤◌, ◌<◌, ◌≡◌, Bool, not, ◌&&◌, List, [], ◌∷◌, T, leb, Float, Ok, Err, Result, Option, None}
use Rattle.std.proofs.Common.{arith, sym, subst}
use Rattle.std.proofs.Math.Path.{refl}
use Rattle.std.proofs.Math.Bool.{true, false}
use Rattle.std.proofs.Math.Dec.{eqb}
use Rattle.std.specs.Float.Ieee.Bits.{is_true}
use Rattle.std.proofs.Math.ListN.{length}
use borrow.Author.Tests.{lt-ltb, le-leb}
use Rattle.times.specs.Time.{is_time, is_timer}
use Rattle.rules.specs.declared.Refusal.TheVariants.{BadState}
use Rattle.rules.specs.declared.Metric.{Metric}
use Rattle.rules.specs.declared.Stopwatch.{Stopwatch}
use Rattle.rules.specs.declared.StopwatchPhase.{StopwatchPhase}
use Rattle.rules.specs.declared.StopwatchPhase.TheVariants as watching
use Rattle.rules.specs.Base.{Outcome, refused, done, every, hold}
use Rattle.rules.specs.Table as Table
use Rattle.rules.specs.Simulation as Simulation
use Rattle.rules.specs.Models.{marked, marked_state, Duration, fetched, durations, asked, stopwatch_external, stopwatch_internal}
use Rattle.rules.specs.Valid.{marks_rules, differ, names, model_fits, guarded_by, stopwatch_external_call, stopwatch_internal_call}
use Rattle.marks.specs.declared.Mark.{Mark}
use Rattle.marks.specs.declared.Mark.TheVariants.{Start, Stop}
use Rattle.marks.specs.declared.Unmarked.{Unmarked}
use Rattle.marks.specs.declared.Unmarked.TheVariants as marks
use Rattle.marks.specs.Jobs.{jobs_in, whole_in, fit_in, first_job, fetched_in}
use Rattle.marks.specs.Marking.{marked_in}
use Rattle.marks.specs.MarkingLaws.{mark_of, is_held, outcome_of, jobs-length, whole_says, refused-keeps, jobs-marked, Fit, fit-rules}
use Rattle.stopwatch.specs.declared.StopwatchState.{StopwatchState}
use Rattle.events.specs.declared.Handed.{Handed}
use Rattle.events.specs.declared.Taken.{Taken}
use Rattle.events.specs.Meaning.{handed_back, fate_of}
use Rattle.stopwatch.specs.Watching.{stopwatch_of, fresh, fits_in, marked_as, marking, external_in, quiet, fetched_as, fetching, internal_from, internal_in, external_call_in, internal_call_in, names_of, Took, Went}

-- ---- what 20 asks
module _ (row : Stopwatch) (s : StopwatchState) (words : List ℕ) where
  abbrev ports_differ : Bool
  ports_differ = hold (not (eqb row.start row.stop) ∷ not (eqb row.start row.ask) ∷ not (eqb row.stop row.ask) ∷ [])

  -- the ports are below 2^16 by their type
  pub record Narrow : Type 0 where
    pub start : row.start < 65536
    pub stop : row.stop < 65536
    pub ask : row.ask < 65536
    pub output : row.output < 65536

  pub fits-is : Narrow → model_fits (Table.stopwatch row) (Simulation.of_stopwatch (stopwatch_of s words)) ≡ hold (ports_differ ∷ hold (is_timer s.timer ∷ leb (length (jobs_in s.held words)) 64 ∷ every (λ j. hold (marks_rules j)) (jobs_in s.held words) ∷ differ (names (jobs_in s.held words)) ∷ []) ∷ [])
  unfolding model_fits
  fits-is n = rw (lt-ltb _ _ n.start, lt-ltb _ _ n.stop, lt-ltb _ _ n.ask, lt-ltb _ _ n.output)

  -- the ports or the timer do not fit
  pub no-fit : model_fits (Table.stopwatch row) (Simulation.of_stopwatch (stopwatch_of s words)) ≡ false → fits_in row s words ≡ false
  unfolding fits_in
  no-fit h = rw h

  -- they do: the words decide
  pub words-decide : Narrow → ports_differ ≡ true → is_timer s.timer ≡ true → (b : Bool) → fit_in s.held words ≡ b → fits_in row s words ≡ b
  unfolding fits_in
  words-decide n p t false f = rw f (last-false (model_fits (Table.stopwatch row) (Simulation.of_stopwatch (stopwatch_of s words))))
    where
      last-false : (b : Bool) → hold (b ∷ false ∷ []) ≡ false
      last-false true = refl
      last-false false = refl
  words-decide n p t true f =
      let w = fit-rules s.held words f in
      let low : length (jobs_in s.held words) ≤ 64 = rw (jobs-length s.held words) (whole_says s.held words w.whole).0 in
      rw (fits-is n, p, t, le-leb (length (jobs_in s.held words)) 64 low, is_true (every (λ j. hold (marks_rules j)) (jobs_in s.held words)) w.rules, is_true (differ (names (jobs_in s.held words))) w.apart, f)

-- the parts of a state that fits
fits-words : (row : Stopwatch) (s : StopwatchState) (words : List ℕ) → fits_in row s words ≡ true → (model_fits (Table.stopwatch row) (Simulation.of_stopwatch (stopwatch_of s words)) ≡ true) × (fit_in s.held words ≡ true)
unfolding fits_in
fits-words row s words h = go _ _ h
  where
    go : (a b : Bool) → hold (a ∷ b ∷ []) ≡ true → (a ≡ true) × (b ≡ true)
    go true true h = (refl, refl)
    go true false h = let z : ◌≡◌ {A = ℕ} 0 1 = cc in absurd (omega arith)
    go false b h = let z : ◌≡◌ {A = ℕ} 0 1 = cc in absurd (omega arith)

-- ---- a mark
marked-means : (s : StopwatchState) (words : List ℕ) (m : Result ℕ Unmarked) (after : List ℕ) → (is_held m ≡ false → after ≡ words) → (stopwatch_of (marked_as s m).next after, fate_of (marked_as s m).answer) ≡ handed_back (stopwatch_of s words) (marked_state (stopwatch_of s words) (outcome_of (m, after)))
marked-means s words (Ok h) after same = refl
marked-means s words (Err marks.NoRoom) after same = rw (same refl)
marked-means s words (Err marks.CutShort) after same = rw (same refl)

module _ (row : Stopwatch) (clock : Float) (port job : ℕ) (s : StopwatchState) (words : List ℕ) (time : T (is_time clock)) (fit : Fit s.held words) where
  marking-means : (mark : Mark) → (stopwatch_of (marking mark job clock s words).0.next (marking mark job clock s words).1, fate_of (marking mark job clock s words).0.answer) ≡ handed_back (stopwatch_of s words) (marked_state (stopwatch_of s words) (marked (mark_of mark clock) job (jobs_in s.held words)))
  marking-means mark =
      rw (← jobs-marked mark s.held job clock words time fit.whole fit.apart)
      (marked-means s words (marked_in mark s.held job clock words).0 (marked_in mark s.held job clock words).1 (refused-keeps mark s.held job clock words))

  -- an external event on words that fit is the rules'
  pub external-means : (stopwatch_of (external_in row clock port job s words).0.next (external_in row clock port job s words).1, fate_of (external_in row clock port job s words).0.answer) ≡ handed_back (stopwatch_of s words) (stopwatch_external row clock port job (stopwatch_of s words))
  unfolding external_in stopwatch_external
  external-means = go (eqb port row.start) (eqb port row.stop) (eqb port row.ask) refl refl refl
    where
      go : (a b c : Bool) → eqb port row.start ≡ a → eqb port row.stop ≡ b → eqb port row.ask ≡ c → (stopwatch_of (external_in row clock port job s words).0.next (external_in row clock port job s words).1, fate_of (external_in row clock port job s words).0.answer) ≡ handed_back (stopwatch_of s words) (stopwatch_external row clock port job (stopwatch_of s words))
      go true b c p q r = rw p (marking-means Start)
      go false true c p q r = rw (p, q) (marking-means Stop)
      go false false true p q r = rw (p, q, r)
      go false false false p q r = rw (p, q, r)

-- ---- the metric
-- an answer with the words, and what it is to be: Passive, infinite, and so many names
abbrev shown : Handed StopwatchState (Option ℕ) → List ℕ → Simulation.StopwatchState × Outcome (List ℕ)
shown r words = (stopwatch_of r.next words, names_of r.answer)

abbrev rested : StopwatchState → List ℕ → List ℕ → Simulation.StopwatchState × Outcome (List ℕ)
rested s words jobs = (stopwatch_of (quiet s None).next words, done jobs)

-- at most one job is named
fetched-means : (metric : Metric) (s : StopwatchState) (words : List ℕ) (ds : List Duration) → shown (fetched_as s (Ok (first_job (fetched metric ds)))) words ≡ rested s words (fetched metric ds)
fetched-means metric s words [] = refl
fetched-means metric s words (d ∷ ds) = refl

module _ (row : Stopwatch) (s : StopwatchState) (words : List ℕ) (whole : whole_in s.held words ≡ true) where
  fetching-means : shown (fetching row s words) words ≡ rested s words (fetched row.metric (durations (jobs_in s.held words)))
  unfolding fetched_in
  fetching-means = rw whole (fetched-means row.metric s words (durations (jobs_in s.held words)))

  -- an internal event on whole words is the rules'
  pub internal-means : ◌≡◌ {A = Simulation.StopwatchState × Outcome (List ℕ)} (stopwatch_of (internal_in row s words).next words, names_of (internal_in row s words).answer) (handed_back (stopwatch_of s words) (done (stopwatch_internal row (stopwatch_of s words))))
  unfolding internal_in stopwatch_internal
  internal-means = go s.phase
    where
      go : (phase : StopwatchPhase) → shown (internal_from phase row s words) words ≡ rested s words (asked phase row (jobs_in s.held words))
      go watching.Passive = refl
      go watching.JobFetch = fetching-means

-- ---- 20 first, then the rules' event
both : (a b : Bool) → (a && b) ≡ true → (a ≡ true) × (b ≡ true)
both true true h = (refl, refl)
both true false h = let z : ◌≡◌ {A = ℕ} 0 1 = cc in absurd (omega arith)
both false b h = let z : ◌≡◌ {A = ℕ} 0 1 = cc in absurd (omega arith)

-- a state that does not pass the questions is refused with 20
not-fit : {A : Type 0} (words fits : Bool) (answer : Outcome A) → hold (fits ∷ words ∷ []) ≡ false → guarded_by words (guarded_by fits answer) ≡ refused BadState
not-fit false fits answer h = refl
not-fit true false answer h = refl
not-fit true true answer h = let z : ◌≡◌ {A = ℕ} 0 1 = cc in absurd (omega arith)

not-both : {A : Type 0} (words fits time : Bool) (answer : Outcome A) → (time && hold (fits ∷ words ∷ [])) ≡ false → guarded_by words (guarded_by (fits && time) answer) ≡ refused BadState
not-both false fits time answer h = refl
not-both true false time answer h = refl
not-both true true false answer h = refl
not-both true true true answer h = let z : ◌≡◌ {A = ℕ} 0 1 = cc in absurd (omega arith)

pub took : (row : Stopwatch) (clock : Float) (port job : ℕ) (s : StopwatchState) (words : List ℕ) → Took row clock port job s words (external_call_in row clock port job s words).0 (external_call_in row clock port job s words).1
unfolding external_call_in fits_in stopwatch_external_call
took row clock port job s words = go (is_time clock && fits_in row s words) refl
  where
    go : (b : Bool) → (is_time clock && fits_in row s words) ≡ b → Took row clock port job s words (external_call_in row clock port job s words).0 (external_call_in row clock port job s words).1
    go true h =
        let (t, f) = both (is_time clock) (fits_in row s words) h in
        let (m, w) = fits-words row s words f in
        record { tells = rw (h, w, m, t) (external-means row clock port job s words (subst T (sym t) tt) (fit-rules s.held words w)) }
    go false h =
        let o = not-both (fit_in s.held words) (model_fits (Table.stopwatch row) (Simulation.of_stopwatch (stopwatch_of s words))) (is_time clock) (stopwatch_external row clock port job (stopwatch_of s words)) h in
        record { tells = rw (h, o) }

pub took-as : (row : Stopwatch) (clock : Float) (port job : ℕ) (s : StopwatchState) (words : List ℕ) (r : Handed StopwatchState Taken) (after : List ℕ) → (r, after) ≡ external_call_in row clock port job s words → Took row clock port job s words r after
took-as row clock port job s words r after h =
    subst (λ (x : Handed StopwatchState Taken × List ℕ). Took row clock port job s words x.0 x.1) (sym h) (took row clock port job s words)

pub went : (row : Stopwatch) (s : StopwatchState) (words : List ℕ) → Went row s words (internal_call_in row s words)
unfolding internal_call_in fits_in stopwatch_internal_call
went row s words = go (fits_in row s words) refl
  where
    go : (b : Bool) → fits_in row s words ≡ b → Went row s words (internal_call_in row s words)
    go true h =
        let (m, w) = fits-words row s words h in
        record { tells = rw (h, w, m) (internal-means row s words (fit-rules s.held words w).whole) }
    go false h =
        let o = not-fit (fit_in s.held words) (model_fits (Table.stopwatch row) (Simulation.of_stopwatch (stopwatch_of s words))) (done (stopwatch_internal row (stopwatch_of s words))) h in
        record { tells = rw (h, o) }

pub went-as : (row : Stopwatch) (s : StopwatchState) (words : List ℕ) (r : Handed StopwatchState (Option ℕ)) → r ≡ internal_call_in row s words → Went row s words r
went-as row s words r h = subst (λ (x : Handed StopwatchState (Option ℕ)). Went row s words x) (sym h) (went row s words)

-- ---- a new state is the rules' fresh one, whatever stands in the words
pub fresh-is : (words : List ℕ) → stopwatch_of fresh words ≡ Simulation.fresh_stopwatch
fresh-is words = refl
