-- A stopwatch's events in place are the rules' events on the row's state. Assumes nothing.
use Rattle.std.specs.Prelude.{ℕ, ◌+◌, ◌^◌, ◌≤◌, ◌<◌, ◌≡◌, refl, Bool, List, [], ◌∷◌, map, length, set, take, T, eqb, ltb, Float, if◌then◌else◌, Err, Ok, Result, Option, Some, None}
use Rattle.std.proofs.Common.{arith, sym, ap, ◌∙◌, subst, inl, inr, length-set, drop-cons, get_or-set_same, get_or-set_other, ltb→lt}
use Rattle.std.proofs.Math.Bool.{true, false}
use Rattle.std.specs.Float.{binary64}
use Rattle.std.specs.Float.Ieee.{of_bits, to_bits}
use Rattle.std.specs.Float.Ieee.Bits.{is_true, of_bits-to_bits}
use Rattle.times.specs.Time.{instant, never, is_time, is_timer}
use Rattle.times.proofs.Laws.{timer-fits, time-timer, instant-time, never-timer}
use Rattle.rules.specs.declared.Refusal.{Refusal}
use Rattle.rules.specs.declared.Refusal.TheVariants.{InvalidMessage}
use Rattle.rules.specs.declared.Stopwatch.{Stopwatch}
use Rattle.rules.specs.declared.StopwatchPhase.{StopwatchPhase}
use Rattle.rules.specs.declared.StopwatchPhase.TheVariants as watching
use Rattle.rules.specs.Base.{Outcome, refused, done}
use Rattle.rules.specs.Table as Table
use Rattle.rules.specs.Simulation as Simulation
use Rattle.rules.specs.Models.{Fate, stopwatch_external, stopwatch_internal}
use Rattle.rules.specs.Sizes.{most_jobs}
use Rattle.rules.specs.Step.{Out, out_at}
use Rattle.rules.specs.Valid.{stopwatch_rules}
use Rattle.rules.specs.Ends.{All, nil, ◌&◌, parts}
use Rattle.rules.proofs.Least.{fits-timer}
use Rattle.rules.specs.Kept as Kept
use Rattle.marks.specs.declared.Mark.{Mark}
use Rattle.marks.specs.declared.Mark.TheVariants.{Start, Stop}
use Rattle.marks.specs.declared.Unmarked.{Unmarked}
use Rattle.marks.specs.declared.Unmarked.TheVariants as held
use Rattle.marks.specs.declared.CutShort.{CutShort}
use Rattle.marks.specs.Jobs.{jobs_in, fit_in, fetched_in}
use Rattle.marks.specs.Marking.{marked_in}
use Rattle.marks.specs.MarkingLaws.{is_held, fit-rules, unused_in, refused-keeps, marked-length, unused-kept, kept-fit}
use Rattle.events.specs.declared.Taken.{Taken}
use Rattle.events.specs.declared.Taken.TheVariants as taken
use Rattle.events.specs.Meaning.{handed_back, fate_of}
use Rattle.stopwatch.specs.declared.StopwatchState.{StopwatchState}
use Rattle.events.specs.declared.Handed.{Handed}
use Rattle.stopwatch.specs.Watching.{names_of, stopwatch_of, unchanged, marked_as, marking, external_in, fetched_as, internal_from, internal_in}
use Rattle.stopwatch.specs.WatchingLaws.{external-means, internal-means}
use Rattle.memory.specs.Words.{word_at, place_at, place_in, head_at, phase_in, timer_in, held_in, own_in, Own, replaced}
use Rattle.memory.specs.View.{watching_of, watching_number, out_of, outs_in, stopwatch_in, state_in, WordsFit, Row}
use Rattle.memory.specs.Atoms.{atom_external, atom_internal, Kept-by, Put-by}
use Rattle.memory.specs.Answers.{answer_of, out_word}
use Rattle.memory.specs.AnswerLaws.{goes_on, stops_at, answers, back_done, back-refused, out-read}
use Rattle.watch_rows.specs.Places.{loaded, stored}
use Rattle.memory.specs.Places.{part_length, replaced-own, replaced-length, replaced-other, own-replaced, own-headed, own-set, own_same, set_own, headed-other, headed-own, headed-phase, headed-timer, headed-held}

-- ---- what 20 asks of a state and its words
record Sound (s : StopwatchState) (words : List ℕ) : Type 0 where
  pub timer : T (is_timer s.timer)
  pub fits : T (fit_in s.held words)
  pub unused : T (unused_in s.held words)

-- a row that fits is sound
module _ (model : Stopwatch) (b : ℕ) (mem : List ℕ) (i : ℕ) (row : Row (Table.stopwatch model) b mem i) where
  pub row-timer : T (is_timer (of_bits binary64 (timer_in mem i)))
  row-timer = fits-timer (Table.stopwatch model) (state_in (Table.stopwatch model) b mem i) row.fits

  row-sound : Sound (loaded mem i) (own_in b 192 mem)
  row-sound = go row.words
    where
      go : WordsFit (Table.stopwatch model) b mem i → Sound (loaded mem i) (own_in b 192 mem)
      go (p & f & u & nil) = record { timer = row-timer; fits = f; unused = u }

  row-rules : All T (stopwatch_rules (stopwatch_in b mem i))
  row-rules = parts (stopwatch_rules (stopwatch_in b mem i)) row.fits

-- ---- a state that is sound, written
watching-back : (p : StopwatchPhase) → watching_of (watching_number p) ≡ p
watching-back watching.Passive = refl
watching-back watching.JobFetch = refl

watching-low : (p : StopwatchPhase) → T (ltb (watching_number p) 2)
watching-low watching.Passive = tt
watching-low watching.JobFetch = tt

module _ (i b : ℕ) (s : StopwatchState) (mem words : List ℕ) (head : head_at i + 4 ≤ b) (room : b + 192 ≤ length mem) (own : own_in b 192 mem ≡ words) (sound : Sound s words) where
  abbrev number : ℕ
  number = watching_number s.phase

  abbrev bits : ℕ
  bits = to_bits binary64 s.timer

  stored-held : held_in (stored i s mem) i ≡ s.held
  stored-held = headed-held i number bits s.held mem (omega arith)

  stored-own : own_in b 192 (stored i s mem) ≡ words
  stored-own = headed-own i number bits s.held mem b 192 (omega arith) ∙ own

  stored-state : stopwatch_in b (stored i s mem) i ≡ stopwatch_of s words
  stored-state =
      let p : watching_of (phase_in (stored i s mem) i) ≡ s.phase = ap watching_of (headed-phase i number bits s.held mem (omega arith)) ∙ watching-back s.phase in
      let t : of_bits binary64 (timer_in (stored i s mem) i) ≡ s.timer = ap (of_bits binary64) (headed-timer i number bits s.held mem (omega arith)) ∙ of_bits-to_bits binary64 s.timer (timer-fits s.timer sound.timer) in
      let j : jobs_in (held_in (stored i s mem) i) (own_in b 192 (stored i s mem)) ≡ jobs_in s.held words = ap (λ h. jobs_in h (own_in b 192 (stored i s mem))) stored-held ∙ ap (jobs_in s.held) stored-own in
      λ k. record { phase = p k; timer = t k; jobs = j k }

  stored-words : (model : Stopwatch) → WordsFit (Table.stopwatch model) b (stored i s mem) i
  stored-words model =
      subst (λ n. T (ltb n 2)) (sym (headed-phase i number bits s.held mem (omega arith))) (watching-low s.phase)
      & put (λ h o. T (fit_in h o)) sound.fits
      & put (λ h o. T (unused_in h o)) sound.unused
      & nil
    where
      put : (P : ℕ → List ℕ → Type 0) → P s.held words → P (held_in (stored i s mem) i) (own_in b 192 (stored i s mem))
      put P h = subst (λ n. P n (own_in b 192 (stored i s mem))) (sym stored-held) (subst (P s.held) (sym stored-own) h)

  stored-place : place_in (stored i s mem) ≡ place_in mem
  stored-place = headed-other i number bits s.held mem place_at (inl (omega arith))

  -- so an outcome that says the state says the words
  stored-outcome : {A : Type 0} (place : ℕ) (what : A) → place_in mem ≡ place
      → ◌≡◌ {A = Outcome (Simulation.State × ℕ × A)} (done (Simulation.of_stopwatch (stopwatch_of s words), place, what)) (done (Simulation.of_stopwatch (stopwatch_in b (stored i s mem) i), place_in (stored i s mem), what))
  stored-outcome place what e =
      ap (λ z. done (Simulation.of_stopwatch z, place, what)) (sym stored-state)
      ∙ ap (λ n. done (Simulation.of_stopwatch (stopwatch_in b (stored i s mem) i), n, what)) (sym (stored-place ∙ e))

-- and only the row's words were written
stored-owns : (i b width lo hi : ℕ) (s : StopwatchState) (mem mid : List ℕ) → Own i b width lo hi mem mid → Own i b width lo hi mem (stored i s mid)
stored-owns i b width lo hi s mem mid own = own-headed i b width lo hi mem (watching_number s.phase) (to_bits binary64 s.timer) s.held mid own

-- ---- an external event
-- what holds of each answer holds of the event
module _ (row : Stopwatch) (clock : Float) (port job : ℕ) (s : StopwatchState) (words : List ℕ) where
  external-cases : (P : Handed StopwatchState Taken × List ℕ → Type 0)
      → ((mark : Mark) → P (marking mark job clock s words))
      → P (record { next = record { phase = watching.JobFetch; timer = instant; held = s.held }; answer = Ok taken.Asked }, words)
      → P (unchanged s InvalidMessage, words)
      → P (external_in row clock port job s words)
  unfolding external_in
  external-cases P marks asks other = go (eqb port row.start) (eqb port row.stop) (eqb port row.ask)
    where
      go : (a b c : Bool) → P (if a then marking Start job clock s words else if b then marking Stop job clock s words else if c then (record { next = record { phase = watching.JobFetch; timer = instant; held = s.held }; answer = Ok taken.Asked }, words) else (unchanged s InvalidMessage, words))
      go true b c = marks Start
      go false true c = marks Stop
      go false false true = asks
      go false false false = other

  external-long : length (external_in row clock port job s words).1 ≡ length words
  external-long = external-cases (λ r. length r.1 ≡ length words) (λ mark. marked-length mark s.held job clock words) refl refl

  module _ (time : T (is_time clock)) (low : job < 2 ^ 32) (sound : Sound s words) where
    marked-sound : (mark : Mark) (m : Result ℕ Unmarked) (after : List ℕ) → marked_in mark s.held job clock words ≡ (m, after) → Sound (marked_as s m).next after
    marked-sound mark m after e = go m e (λ f. sym (ap (λ (r : Result ℕ Unmarked × List ℕ). r.1) e) ∙ refused-keeps mark s.held job clock words (ap (λ (r : Result ℕ Unmarked × List ℕ). is_held r.0) e ∙ f))
      where
        go : (m : Result ℕ Unmarked) → marked_in mark s.held job clock words ≡ (m, after) → (is_held m ≡ false → after ≡ words) → Sound (marked_as s m).next after
        go (Ok h) e same = record {
          timer = sound.timer;
          fits = kept-fit mark s.held job clock words time sound.fits low h after e;
          unused = unused-kept mark s.held job clock words sound.unused h after e;
        }
        go (Err held.NoRoom) e same = subst (Sound s) (sym (same refl)) sound
        go (Err held.CutShort) e same = subst (Sound s) (sym (same refl)) sound

    external-sound : Sound (external_in row clock port job s words).0.next (external_in row clock port job s words).1
    external-sound =
        external-cases (λ r. Sound r.0.next r.1)
        (λ mark. marked-sound mark (marked_in mark s.held job clock words).0 (marked_in mark s.held job clock words).1 refl)
        (record { timer = time-timer instant instant-time; fits = sound.fits; unused = sound.unused })
        sound

-- what an answer says of the outcome
refused-fate : (t : Result Taken Refusal) (x : Refusal) → answer_of t ≡ Err x → fate_of t ≡ refused x
refused-fate t x e = elim (answers t) [
  | goes_on f d is ↦ let z : ◌≡◌ {A = ℕ} 0 1 = cc in absurd (omega arith)
  | stops_at r d is ↦ let same : r ≡ x = cc in is ∙ ap refused same
]

taken-fate : (t : Result Taken Refusal) → answer_of t ≡ Ok tt → (f : Fate) × (fate_of t ≡ done f)
taken-fate t e = elim (answers t) [
  | goes_on f d is ↦ (f, is)
  | stops_at r d is ↦ let z : ◌≡◌ {A = ℕ} 0 1 = cc in absurd (omega arith)
]

module _ (model : Stopwatch) (clock : Float) (port content b : ℕ) (mem : List ℕ) (i : ℕ) (row : Row (Table.stopwatch model) b mem i) (time : T (is_time clock)) (low : content < 2 ^ 32) where
  abbrev came : Handed StopwatchState Taken × List ℕ
  came = external_in model clock port content (loaded mem i) (own_in b 192 mem)

  abbrev outcome : List Float → Outcome (Simulation.State × ℕ × Fate)
  outcome services = atom_external (Table.stopwatch model) services clock port content (state_in (Table.stopwatch model) b mem i) (place_in mem)

  means : (stopwatch_of came.0.next came.1, fate_of came.0.answer) ≡ handed_back (stopwatch_in b mem i) (stopwatch_external model clock port content (stopwatch_in b mem i))
  means = external-means model clock port content (loaded mem i) (own_in b 192 mem) time (fit-rules (held_in mem i) (own_in b 192 mem) (is_true (fit_in (held_in mem i) (own_in b 192 mem)) (row-sound model b mem i row).fits))

  long : length came.1 ≡ 192
  long = external-long model clock port content (loaded mem i) (own_in b 192 mem) ∙ part_length b 192 mem row.placed.room

  took-refused : (x : Refusal) → answer_of came.0.answer ≡ Err x → (services : List Float) → outcome services ≡ refused x
  took-refused x e services =
      let f : (stopwatch_of came.0.next came.1, refused x) ≡ handed_back (stopwatch_in b mem i) (stopwatch_external model clock port content (stopwatch_in b mem i)) = ap (λ z. (stopwatch_of came.0.next came.1, z)) (sym (refused-fate came.0.answer x e)) ∙ means in
      rw (back-refused (stopwatch_external model clock port content (stopwatch_in b mem i)) (stopwatch_in b mem i) (stopwatch_of came.0.next came.1) x f)

  took-done : answer_of came.0.answer ≡ Ok tt → (services : List Float) → Kept-by (Table.stopwatch model) b i (stored i came.0.next (replaced b 192 came.1 mem)) (outcome services)
  took-done e services =
      let (f, g) = taken-fate came.0.answer e in
      let o : stopwatch_external model clock port content (stopwatch_in b mem i) ≡ done (stopwatch_of came.0.next came.1, f) = back_done (stopwatch_external model clock port content (stopwatch_in b mem i)) (stopwatch_in b mem i) (stopwatch_of came.0.next came.1) f (ap (λ z. (stopwatch_of came.0.next came.1, z)) (sym g) ∙ means) in
      record {
        fate = f;
        is = rw o (stored-outcome i b came.0.next mid came.1 row.placed.head room own sound (place_in mem) f same);
        words = stored-words i b came.0.next mid came.1 row.placed.head room own sound model;
      }
    where
      mid : List ℕ
      mid = replaced b 192 came.1 mem

      room : b + 192 ≤ length mid
      room = subst (λ n. b + 192 ≤ n) (sym (replaced-length b 192 came.1 mem row.placed.room long)) row.placed.room

      own : own_in b 192 mid ≡ came.1
      own = replaced-own b 192 came.1 mem row.placed.room long

      same : place_in mid ≡ place_in mem
      same = replaced-other b 192 came.1 mem row.placed.room long place_at (inl (omega (arith, row.placed.head)))

      sound : Sound came.0.next came.1
      sound = external-sound model clock port content (loaded mem i) (own_in b 192 mem) time low (row-sound model b mem i row)

  took-owns : Own i b 192 0 0 mem (replaced b 192 came.1 mem)
  took-owns = own-replaced i b 192 0 0 mem came.1 row.placed.room long

  -- the event as the code makes it: t is handed back and `mid` laid down; then it is refused, or the state is written
  module _ (t : Handed StopwatchState Taken) (mid : List ℕ) (is : t ≡ came.0) (lays : mid ≡ replaced b 192 came.1 mem) where
    answered : answer_of came.0.answer ≡ answer_of t.answer
    answered = ap (λ (z : Handed StopwatchState Taken). answer_of z.answer) (sym is)

    pub refused-in-place : (x : Refusal) → answer_of t.answer ≡ Err x → ((services : List Float) → outcome services ≡ refused x) × Own i b 192 0 0 mem mid
    refused-in-place x e = (took-refused x (answered ∙ e), subst (Own i b 192 0 0 mem) (sym lays) took-owns)

    pub taken-in-place : (after : List ℕ) → answer_of t.answer ≡ Ok tt → after ≡ stored i t.next mid
        → ((services : List Float) → Kept-by (Table.stopwatch model) b i after (outcome services)) × Own i b 192 0 0 mem after
    taken-in-place after e writes =
        subst (λ l. ((services : List Float) → Kept-by (Table.stopwatch model) b i l (outcome services)) × Own i b 192 0 0 mem l)
        (sym (writes ∙ (λ k. stored i (is k).next (lays k))))
        (took-done (answered ∙ e), stored-owns i b 192 0 0 came.0.next mem (replaced b 192 came.1 mem) took-owns)

-- ---- an internal event
module _ (row : Stopwatch) (s : StopwatchState) (words : List ℕ) (sound : Sound s words) where
  internal-sound : Sound (internal_in row s words).next words
  unfolding internal_in
  internal-sound = from-phase s.phase
    where
      rests : Sound (record { phase = watching.Passive; timer = never; held = s.held }) words
      rests = record { timer = never-timer; fits = sound.fits; unused = sound.unused }

      fetches : (f : Result (Option ℕ) CutShort) → Sound (fetched_as s f).next words
      fetches (Ok name) = rests
      fetches (Err cut) = sound

      from-phase : (p : StopwatchPhase) → Sound (internal_from p row s words).next words
      from-phase watching.Passive = rests
      from-phase watching.JobFetch = fetches (fetched_in row.metric s.held words)

-- one message stands at `at`
one_out : (at : ℕ) (mem : List ℕ) (port content : ℕ) → at < length mem → word_at mem at ≡ out_word port content → content < 4294967296 → outs_in at 1 mem ≡ out_at port content ∷ []
one_out at mem port content l e low =
    ap (λ ws. map out_of (take 1 ws)) (drop-cons mem at 0 l) ∙ ap (λ w. out_of w ∷ []) e ∙ ap (λ o. o ∷ []) (out-read port content low)

module _ (model : Stopwatch) (b : ℕ) (mem : List ℕ) (i : ℕ) (row : Row (Table.stopwatch model) b mem i) where
  abbrev went : Handed StopwatchState (Option ℕ)
  went = internal_in model (loaded mem i) (own_in b 192 mem)

  abbrev leaving : List Float → Outcome (Simulation.State × ℕ × List Out)
  leaving services = atom_internal (Table.stopwatch model) services (state_in (Table.stopwatch model) b mem i) (place_in mem)

  went-means : ◌≡◌ {A = Simulation.StopwatchState × Outcome (List ℕ)} (stopwatch_of went.next (own_in b 192 mem), names_of went.answer) ((stopwatch_internal model (stopwatch_in b mem i)).0, done (stopwatch_internal model (stopwatch_in b mem i)).1)
  went-means = internal-means model (loaded mem i) (own_in b 192 mem) (fit-rules (held_in mem i) (own_in b 192 mem) (is_true (fit_in (held_in mem i) (own_in b 192 mem)) (row-sound model b mem i row).fits)).whole

  went-state : (stopwatch_internal model (stopwatch_in b mem i)).0 ≡ stopwatch_of went.next (own_in b 192 mem)
  went-state = sym (ap (λ (z : Simulation.StopwatchState × Outcome (List ℕ)). z.0) went-means)

  went-names : names_of went.answer ≡ done (stopwatch_internal model (stopwatch_in b mem i)).1
  went-names = ap (λ (z : Simulation.StopwatchState × Outcome (List ℕ)). z.1) went-means

  -- a name is a content
  went-low : (name : ℕ) → went.answer ≡ Ok (Some name) → name < 4294967296
  went-low name e = go (subst Kept.Contents names (Kept.stopwatch-internal model (stopwatch_in b mem i) (row-rules model b mem i row)).1)
    where
      names : (stopwatch_internal model (stopwatch_in b mem i)).1 ≡ name ∷ []
      names = let z : done (stopwatch_internal model (stopwatch_in b mem i)).1 ≡ done (name ∷ []) = sym went-names ∙ ap names_of e in cc

      go : Kept.Contents (name ∷ []) → name < 4294967296
      go (t & nil) = ltb→lt name (2 ^ 32) t

  -- what is written before the state leaves the row's words
  put-by : (mid : List ℕ) (names : List ℕ) (n at : ℕ) → length mid ≡ length mem → own_in b 192 mid ≡ own_in b 192 mem → place_in mid ≡ place_in mem → names_of went.answer ≡ done names
      → n ≤ most_jobs → outs_in at n (stored i went.next mid) ≡ map (out_at model.output) names → (services : List Float)
      → Put-by n at (Table.stopwatch model) b i (stored i went.next mid) (leaving services)
  put-by mid names n at long own same told few outs services =
      record {
        few = few;
        is = whole ∙ stored-outcome i b went.next mid (own_in b 192 mem) row.placed.head room own sound (place_in mem) (outs_in at n (stored i went.next mid)) same;
        words = stored-words i b went.next mid (own_in b 192 mem) row.placed.head room own sound model;
      }
    where
      room : b + 192 ≤ length mid
      room = subst (λ n. b + 192 ≤ n) (sym long) row.placed.room

      sound : Sound went.next (own_in b 192 mem)
      sound = internal-sound model (loaded mem i) (own_in b 192 mem) (row-sound model b mem i row)

      is-names : (stopwatch_internal model (stopwatch_in b mem i)).1 ≡ names
      is-names = let z : done (stopwatch_internal model (stopwatch_in b mem i)).1 ≡ done names = sym went-names ∙ told in cc

      whole : leaving services ≡ done (Simulation.of_stopwatch (stopwatch_of went.next (own_in b 192 mem)), place_in mem, outs_in at n (stored i went.next mid))
      whole =
          ap (λ z. done (Simulation.of_stopwatch z, place_in mem, map (out_at model.output) (stopwatch_internal model (stopwatch_in b mem i)).1)) went-state
          ∙ ap (λ z. done (Simulation.of_stopwatch (stopwatch_of went.next (own_in b 192 mem)), place_in mem, z)) (ap (map (out_at model.output)) is-names ∙ sym outs)

  -- a job's name goes out at `at`, past the row's own words
  module _ (at : ℕ) (past : b + 192 ≤ at) (room : at < length mem) (name : ℕ) (e : went.answer ≡ Ok (Some name)) where
    abbrev word : ℕ
    word = out_word model.output name

    abbrev mid : List ℕ
    mid = set mem at word

    mid-word : word_at (stored i went.next mid) at ≡ word
    mid-word =
        headed-other i (watching_number went.next.phase) (to_bits binary64 went.next.timer) went.next.held mid at (inr (omega (arith, row.placed.head)))
        ∙ get_or-set_same mem at word 0 room

    job-put : (services : List Float) → Put-by 1 at (Table.stopwatch model) b i (stored i went.next mid) (leaving services)
    job-put =
        put-by mid (name ∷ []) 1 at (length-set mem at word) (set_own b 192 at word mem past) (get_or-set_other mem at place_at word 0 (λ z. omega (arith, row.placed.head))) (ap names_of e) (omega arith)
        (one_out at (stored i went.next mid) model.output name (simp length-set room) mid-word (went-low name e))

  -- the event as the code makes it: g is handed back; then the name is put out and the state written, or the state alone
  module _ (g : Handed StopwatchState (Option ℕ)) (is : g ≡ went) where
    same_answer : went.answer ≡ g.answer
    same_answer = ap (λ (z : Handed StopwatchState (Option ℕ)). z.answer) (sym is)

    -- whole words are not refused
    pub never-refused : (x : Refusal) → g.answer ≡ Err x → ⊥
    never-refused x e = let z : ◌≡◌ {A = ℕ} 0 1 = cc (went-names, ap names_of (same_answer ∙ e)) in omega arith

    pub name-low : (name : ℕ) → g.answer ≡ Ok (Some name) → name < 4294967296
    name-low name e = went-low name (same_answer ∙ e)

    pub nothing-in-place : (at hi : ℕ) (after : List ℕ) → g.answer ≡ Ok None → after ≡ stored i g.next mem
        → ((services : List Float) → Put-by 0 at (Table.stopwatch model) b i after (leaving services)) × Own i b 192 at hi mem after
    nothing-in-place at hi after e writes =
        subst (λ l. ((services : List Float) → Put-by 0 at (Table.stopwatch model) b i l (leaving services)) × Own i b 192 at hi mem l)
        (sym (writes ∙ ap (λ (z : Handed StopwatchState (Option ℕ)). stored i z.next mem) is))
        (put-by mem [] 0 at refl refl refl (ap names_of (same_answer ∙ e)) (omega arith) refl, stored-owns i b 192 at hi went.next mem mem (own_same i b 192 at hi mem))

    pub job-in-place : (at hi name : ℕ) (middle after : List ℕ) → b + 192 ≤ at → at < length mem → at < hi → g.answer ≡ Ok (Some name) → middle ≡ set mem at (out_word model.output name) → after ≡ stored i g.next middle
        → ((services : List Float) → Put-by 1 at (Table.stopwatch model) b i after (leaving services)) × Own i b 192 at hi mem after
    job-in-place at hi name middle after past room low e puts writes =
        subst (λ l. ((services : List Float) → Put-by 1 at (Table.stopwatch model) b i l (leaving services)) × Own i b 192 at hi mem l)
        (sym (writes ∙ (λ k. stored i (is k).next (puts k))))
        (job-put at past room name (same_answer ∙ e), stored-owns i b 192 at hi went.next mem (set mem at word) (own-set i b 192 at hi mem at word (omega arith) low))
      where
        word : ℕ
        word = out_word model.output name
