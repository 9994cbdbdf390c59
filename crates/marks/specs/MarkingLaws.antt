-- The laws of a stopwatch's jobs in lent words, for other crates: what the rules say of them, and what a mark keeps. Assumes nothing.
use Rattle.std.specs.Prelude.{◌≡◌, ℕ, zero, suc, ◌+◌, ◌-◌, ◌^◌, ◌<◌, ◌≤◌, Bool, true, false, T, ◌⊎◌, List, [], ◌∷◌, ◌++◌, map, length, take, drop, set, ◌==◌, ◌≢◌, nat_le, nat_lt, slice_index, slice_index_or, slice_set, refl, Float, if◌then◌else◌, None, Option, Some, Result, Ok, Err}
use Rattle.std.proofs.Common.{sym, ap, ◌∙◌, subst, arith, eq-or-lt_of_le, inl, inr, ⊎_elim, length-set, drop-cons, drop-set-lt, get_or-take, get_or-set_same, get_or-set_other, leb→le, le→leb, eqb→eq, lt→ltb}
use borrow.Author.Tests.{lt-ltb, le-ltb, ltb-true, ltb-false, eqb-true, eqb-false}
use Rattle.std.proofs.lemmas.Simd.{map-map}
use Rattle.std.proofs.lemmas.List.{length-map}
use Rattle.std.specs.Float.{binary64}
use Rattle.std.specs.Float.Ieee.{to_bits, fits, le, of_bits}
use Rattle.std.specs.Float.Ieee.Fits.{and_l, and_r, and_i}
use Rattle.std.specs.Float.Ieee.Bits.{is_true, of_bits-to_bits}
use Rattle.times.specs.Time.{never, is_time, is_timer}
use Rattle.times.proofs.Laws.{time-timer, timer-fits, never-timer}
use Rattle.times.specs.Answers.{time_of_bits}
use Rattle.times.proofs.AnswerLaws.{bits_back}
use Rattle.rules.specs.declared.Refusal.TheVariants.{NoQueueRoom, BadState}
use Rattle.rules.specs.Sizes.{is_content, most_jobs}
use Rattle.rules.specs.Base.{Outcome, refused, done, every, some_of, hold, from}
use Rattle.rules.specs.Ends.{if-both, if-both-i, parts, whole_of, All, nil, ◌&◌}
use Rattle.rules.specs.Simulation.{Marks}
use Rattle.rules.specs.Models.{is_named, marked, started, stopped}
use Rattle.rules.specs.Valid.{marks_rules, differ, names}
use Rattle.rules.specs.Decides.{Differ, differ-decides, tells, passes}
use Rattle.words.specs.Lists.{length-lines, map-from, map_last}
use Rattle.words.specs.Search.{first_from}
use Rattle.words.specs.SearchLaws.{is_found, first-at, first_some}
use Rattle.marks.specs.declared.Unmarked.{Unmarked}
use Rattle.marks.specs.declared.Unmarked.TheVariants.{NoRoom, CutShort}
use Rattle.marks.specs.declared.Mark.{Mark}
use Rattle.marks.specs.declared.Mark.TheVariants.{Start, Stop}
use Rattle.marks.specs.Jobs.{starts_at, stops_at, width, time_in, mark_in, job_at, jobs_in, whole_in, mark_fits, words_fit, fit_in}
use Rattle.marks.specs.Marking.{column_of, with_name, mark_at, marked_in}
use Rattle.marks.specs.Sweeps.{is_named_at}
use Rattle.marks.specs.SweepLaws.{some-map, mark-fits, column-low}

-- ---- lists of places
none_between : {A : Type 0} (k j : ℕ) → k ≤ j → j < k + 0 → A
none_between k j a b = let z : ⊥ = omega arith in absurd z

module _ (test : ℕ → Bool) where
  every-at : (k n j : ℕ) → T (every test (from k n)) → k ≤ j → j < k + n → T (test j)
  every-at k zero j t a b = none_between k j a b
  every-at k (suc n) j t a b =
      let z = if-both (test k) (every test (from (suc k) n)) t in
      ⊎_elim (λ e. subst (λ i. T (test i)) e z.0) (λ l. every-at (suc k) n j z.1 l (omega arith)) (eq-or-lt_of_le a)

  pub every-from : (k n : ℕ) → ((j : ℕ) → k ≤ j → j < k + n → T (test j)) → T (every test (from k n))
  every-from k zero f = tt
  every-from k (suc n) f =
      if-both-i (test k) (every test (from (suc k) n)) (f k (omega arith) (omega arith)) (every-from (suc k) n (λ j a b. f j (omega arith) (omega arith)))

  first-none : (k n j : ℕ) → first_from test k n ≡ None → k ≤ j → j < k + n → test j ≡ false
  first-none k zero j e a b = none_between k j a b
  first-none k (suc n) j e a b = go (test k) refl e (λ f l. first-none (suc k) n j f l (omega arith))
    where
      go : (b : Bool) → test k ≡ b → (if b then Some k else first_from test (suc k) n) ≡ None → (first_from test (suc k) n ≡ None → k < j → test j ≡ false) → test j ≡ false
      go true t e f = cc
      go false t e f = ⊎_elim (λ q. ap test (sym q) ∙ t) (f e) (eq-or-lt_of_le a)

every_map : {A B : Type 0} (test : B → Bool) (f : A → B) (xs : List A) → every test (map f xs) ≡ every (λ x. test (f x)) xs
every_map test f [] = refl
every_map test f (x ∷ xs) = ap (λ b. if test (f x) then b else false) (every_map test f xs)

-- ---- the jobs
pub jobs-length : (held : ℕ) (words : List ℕ) → length (jobs_in held words) ≡ held
jobs-length held words = length-lines (job_at words) held

-- the names are the first words, as a queue's jobs are (`words`: queue_in)
pub names_in : (held : ℕ) (words : List ℕ) → held ≤ length words → names (jobs_in held words) ≡ take held words
names_in held words h = go 0 held (omega arith)
  where
    go : (k n : ℕ) → k + n ≤ length words → names (map (job_at words) (from k n)) ≡ take n (drop k words)
    go k zero h = refl
    go k (suc n) h =
        let l : k < length words = omega arith in
        rw (drop-cons words k 0 l) (ap (λ ns. slice_index words k ∷ ns) (go (suc k) n (omega arith)))

name-at : (held : ℕ) (words : List ℕ) (k : ℕ) → held ≤ length words → k < held → slice_index (names (jobs_in held words)) k ≡ slice_index words k
name-at held words k h l = rw (names_in held words h) (get_or-take held words k 0 l)

-- names that differ: at two places stand two names
abbrev Apart : ℕ → List ℕ → Type 0
Apart held words = (i j : ℕ) → i < j → j < held → slice_index words i ≢ slice_index words j

names-length : (held : ℕ) (words : List ℕ) → length (names (jobs_in held words)) ≡ held
names-length held words = length-map (jobs_in held words) (λ (j : Marks). j.name) ∙ jobs-length held words

module _ (held : ℕ) (words : List ℕ) (h : held ≤ length words) where
  differ-apart : T (differ (names (jobs_in held words))) → Apart held words
  differ-apart d i j l m e =
      tells (differ-decides (names (jobs_in held words))) d i j l (omega (arith, names-length held words))
      (name-at held words i h (omega arith) ∙ e ∙ sym (name-at held words j h m))

  apart-differ : Apart held words → T (differ (names (jobs_in held words)))
  apart-differ f = passes (differ-decides (names (jobs_in held words))) go
    where
      go : Differ (names (jobs_in held words))
      go i j l m e =
          let n : j < held = omega (arith, names-length held words) in
          let o : i < held = omega arith in
          f i j l n (sym (name-at held words i h o) ∙ e ∙ name-at held words j h n)

  one_place : Apart held words → (i j : ℕ) → i < held → j < held → slice_index words i ≡ slice_index words j → i ≡ j
  one_place f i j a b e = go (nat_lt i j) refl
    where
      go : (t : Bool) → nat_lt i j ≡ t → i ≡ j
      go true t = absurd (f i j (ltb-true i j t) b e)
      go false t = ⊎_elim sym (λ l. absurd (f j i l a (sym e))) (eq-or-lt_of_le (ltb-false i j t))

-- ---- the words' bounds
pub whole_says : (held : ℕ) (words : List ℕ) → whole_in held words ≡ true → (held ≤ most_jobs) × (width ≤ length words)
whole_says held words e =
    let t = subst T (sym e) tt in
    (leb→le held most_jobs (and_l (nat_le held most_jobs) (nat_le width (length words)) t), leb→le width (length words) (and_r (nat_le held most_jobs) (nat_le width (length words)) t))

whole_is : (held : ℕ) (words : List ℕ) → held ≤ most_jobs → width ≤ length words → whole_in held words ≡ true
whole_is held words a b = is_true (whole_in held words) (and_i (nat_le held most_jobs) (nat_le width (length words)) (le→leb held most_jobs a) (le→leb width (length words) b))

-- ---- a mark's four answers
module _ (mark : Mark) (held name : ℕ) (clock : Float) (words : List ℕ) where
  pub marked-short : whole_in held words ≡ false → marked_in mark held name clock words ≡ (Err CutShort, words)
  unfolding marked_in
  marked-short e = rw e

  module _ (whole : whole_in held words ≡ true) where
    pub marked-at : (k : ℕ) → first_from (is_named_at words name) 0 held ≡ Some k → marked_in mark held name clock words ≡ (Ok held, mark_at mark clock k words)
    unfolding marked_in
    marked-at k e = rw (whole, e)

    module _ (None : first_from (is_named_at words name) 0 held ≡ None) where
      pub marked-full : held ≡ most_jobs → marked_in mark held name clock words ≡ (Err NoRoom, words)
      unfolding marked_in
      marked-full e = rw (whole, None, le-ltb held most_jobs (omega arith))

      pub marked-new : (held ≢ most_jobs) → marked_in mark held name clock words ≡ (Ok (suc held), mark_at mark clock held (with_name held name words))
      unfolding marked_in
      marked-new n = rw (whole, None, lt-ltb held most_jobs (omega (arith, (whole_says held words whole).0)))

  -- what holds of each answer holds of the mark
  marked-cases : (P : Result ℕ Unmarked × List ℕ → Type 0)
      → (whole_in held words ≡ false → P (Err CutShort, words))
      → (whole_in held words ≡ true → (k : ℕ) → first_from (is_named_at words name) 0 held ≡ Some k → P (Ok held, mark_at mark clock k words))
      → (whole_in held words ≡ true → first_from (is_named_at words name) 0 held ≡ None → held ≡ most_jobs → P (Err NoRoom, words))
      → (whole_in held words ≡ true → first_from (is_named_at words name) 0 held ≡ None → held < most_jobs → P (Ok (suc held), mark_at mark clock held (with_name held name words)))
      → P (marked_in mark held name clock words)
  marked-cases P short at full new = by_whole (whole_in held words) refl
    where
      by-room : whole_in held words ≡ true → first_from (is_named_at words name) 0 held ≡ None → (held ≡ most_jobs) ⊎ (held < most_jobs) → P (marked_in mark held name clock words)
      by-room w n (inl e) = subst P (sym (marked-full w n e)) (full w n e)
      by-room w n (inr l) = subst P (sym (marked-new w n (λ e. omega arith))) (new w n l)

      by-found : whole_in held words ≡ true → (f : Option ℕ) → first_from (is_named_at words name) 0 held ≡ f → P (marked_in mark held name clock words)
      by-found w (Some k) e = subst P (sym (marked-at w k e)) (at w k e)
      by-found w None e = by-room w e (eq-or-lt_of_le (whole_says held words w).0)

      by_whole : (b : Bool) → whole_in held words ≡ b → P (marked_in mark held name clock words)
      by_whole true w = by-found w (first_from (is_named_at words name) 0 held) refl
      by_whole false w = subst P (sym (marked-short w)) (short w)

-- ---- the words of one job: its name, start and stop
abbrev pub Cells : List ℕ → ℕ → ℕ → ℕ → ℕ → Type 0
Cells words k name start stop = (slice_index words k ≡ name) × (slice_index words (starts_at + k) ≡ start) × (slice_index words (stops_at + k) ≡ stop)

abbrev SameCells : List ℕ → List ℕ → ℕ → Type 0
SameCells after words k = Cells after k (slice_index words k) (slice_index words (starts_at + k)) (slice_index words (stops_at + k))

-- the words of a job that a mark leaves or sets
abbrev start_word : Mark → Float → ℕ → ℕ
start_word Start clock word = to_bits binary64 clock
start_word Stop clock word = word

abbrev stop_word : Mark → Float → ℕ → ℕ
stop_word Start clock word = word
stop_word Stop clock word = to_bits binary64 clock

-- the same in the rules
abbrev pub mark_of : Mark → Float → Marks → Marks
mark_of Start clock = started clock
mark_of Stop clock = stopped clock

abbrev unmarked : ℕ → Marks
unmarked name = record { name = name; start = None; stop = None }

pub not_made : mark_in (to_bits binary64 never) ≡ None
unfolding time_of_bits is_time fits le to_bits of_bits
not_made = refl

same-job : (after words : List ℕ) (k : ℕ) → SameCells after words k → job_at after k ≡ job_at words k
same-job after words k (a, b, c) = rw (a, b, c)

-- a word set elsewhere
module _ (words : List ℕ) (place value : ℕ) where
  elsewhere : (k : ℕ) → (k ≢ place) → (starts_at + k ≢ place) → (stops_at + k ≢ place) → SameCells (slice_set words place value) words k
  elsewhere k a b c =
      (get_or-set_other words place k value 0 a, get_or-set_other words place (starts_at + k) value 0 b, get_or-set_other words place (stops_at + k) value 0 c)

module _ (clock : Float) (words : List ℕ) (k : ℕ) (low : k < most_jobs) where
  -- a mark leaves the names
  mark-names : (mark : Mark) (j : ℕ) → j < most_jobs → slice_index (mark_at mark clock k words) j ≡ slice_index words j
  mark-names Start j l = get_or-set_other words (starts_at + k) j (to_bits binary64 clock) 0 (λ e. omega arith)
  mark-names Stop j l = get_or-set_other words (stops_at + k) j (to_bits binary64 clock) 0 (λ e. omega arith)

  -- and the other jobs
  mark-others : (mark : Mark) (j : ℕ) → j < most_jobs → (j ≢ k) → SameCells (mark_at mark clock k words) words j
  mark-others Start j l n = elsewhere words (starts_at + k) (to_bits binary64 clock) j (λ e. omega arith) (λ e. omega arith) (λ e. omega arith)
  mark-others Stop j l n = elsewhere words (stops_at + k) (to_bits binary64 clock) j (λ e. omega arith) (λ e. omega arith) (λ e. omega arith)

  module _ (long : width ≤ length words) where
    -- and sets its word of the job
    mark-here : (mark : Mark) → Cells (mark_at mark clock k words) k (slice_index words k) (start_word mark clock (slice_index words (starts_at + k))) (stop_word mark clock (slice_index words (stops_at + k)))
    mark-here Start = (
      get_or-set_other words (starts_at + k) k (to_bits binary64 clock) 0 (λ e. omega arith),
      get_or-set_same words (starts_at + k) (to_bits binary64 clock) 0 (omega arith),
      get_or-set_other words (starts_at + k) (stops_at + k) (to_bits binary64 clock) 0 (λ e. omega arith),
    )
    mark-here Stop = (
      get_or-set_other words (stops_at + k) k (to_bits binary64 clock) 0 (λ e. omega arith),
      get_or-set_other words (stops_at + k) (starts_at + k) (to_bits binary64 clock) 0 (λ e. omega arith),
      get_or-set_same words (stops_at + k) (to_bits binary64 clock) 0 (omega arith),
    )

    job-marked : (mark : Mark) → T (is_time clock) → job_at (mark_at mark clock k words) k ≡ mark_of mark clock (job_at words k)
    job-marked mark t = go mark (mark-here mark)
      where
        made : mark_in (to_bits binary64 clock) ≡ Some clock
        made = ap time_in (bits_back clock t)

        go : (mark : Mark) → Cells (mark_at mark clock k words) k (slice_index words k) (start_word mark clock (slice_index words (starts_at + k))) (stop_word mark clock (slice_index words (stops_at + k)))
            → job_at (mark_at mark clock k words) k ≡ mark_of mark clock (job_at words k)
        go Start (a, b, c) = rw (a, b, c, made)
        go Stop (a, b, c) = rw (a, b, c, made)

-- a new name, with neither mark
module _ (words : List ℕ) (k name : ℕ) (low : k < most_jobs) where
  name-others : (j : ℕ) → j < most_jobs → (j ≢ k) → SameCells (with_name k name words) words j
  name-others j l n =
      let None = to_bits binary64 never in
      let one = set words k name in
      let two = set one (starts_at + k) None in
      let a = elsewhere words k name j n (λ e. omega arith) (λ e. omega arith) in
      let b = elsewhere one (starts_at + k) None j (λ e. omega arith) (λ e. omega arith) (λ e. omega arith) in
      let c = elsewhere two (stops_at + k) None j (λ e. omega arith) (λ e. omega arith) (λ e. omega arith) in
      (c.0 ∙ b.0 ∙ a.0, c.1 ∙ b.1 ∙ a.1, c.2 ∙ b.2 ∙ a.2)

  module _ (long : width ≤ length words) where
    name-here : Cells (with_name k name words) k name (to_bits binary64 never) (to_bits binary64 never)
    name-here =
        let None = to_bits binary64 never in
        let one = set words k name in
        let two = set one (starts_at + k) None in
        let first : length one ≡ length words = length-set words k name in
        let second : length two ≡ length words = length-set one (starts_at + k) None ∙ first in (
          get_or-set_other two (stops_at + k) k None 0 (λ e. omega arith) ∙ get_or-set_other one (starts_at + k) k None 0 (λ e. omega arith) ∙ get_or-set_same words k name 0 (omega arith),
          get_or-set_other two (stops_at + k) (starts_at + k) None 0 (λ e. omega arith) ∙ get_or-set_same one (starts_at + k) None 0 (omega arith),
          get_or-set_same two (stops_at + k) None 0 (omega arith),
        )

    job-named : job_at (with_name k name words) k ≡ unmarked name
    job-named = go name-here
      where
        go : Cells (with_name k name words) k name (to_bits binary64 never) (to_bits binary64 never) → job_at (with_name k name words) k ≡ unmarked name
        go (a, b, c) = rw (a, b, c, not_made)

-- both
module _ (mark : Mark) (clock : Float) (words : List ℕ) (k name : ℕ) (low : k < most_jobs) where
  new_others : (j : ℕ) → j < most_jobs → (j ≢ k) → SameCells (mark_at mark clock k (with_name k name words)) words j
  new_others j l n =
      let a = mark-others clock (with_name k name words) k low mark j l n in
      let b = name-others words k name low j l n in
      (a.0 ∙ b.0, a.1 ∙ b.1, a.2 ∙ b.2)

  module _ (long : width ≤ length words) where
    named-long : width ≤ length (with_name k name words)
    named-long = simp length-set long

    new-here : Cells (mark_at mark clock k (with_name k name words)) k name (start_word mark clock (to_bits binary64 never)) (stop_word mark clock (to_bits binary64 never))
    new-here =
        let a = mark-here clock (with_name k name words) k low named-long mark in
        let b = name-here words k name low long in
        (a.0 ∙ b.0, a.1 ∙ ap (start_word mark clock) b.1, a.2 ∙ ap (stop_word mark clock) b.2)

    job-new : T (is_time clock) → job_at (mark_at mark clock k (with_name k name words)) k ≡ mark_of mark clock (unmarked name)
    job-new time = job-marked clock (with_name k name words) k low named-long mark time ∙ ap (mark_of mark clock) (job-named words k name low long)

-- ---- the words as a list
pub marked-length : (mark : Mark) (held name : ℕ) (clock : Float) (words : List ℕ) → length (marked_in mark held name clock words).1 ≡ length words
marked-length mark held name clock words =
    marked-cases mark held name clock words (λ r. length r.1 ≡ length words)
    (λ w. refl)
    (λ w k e. length-set words (column_of mark + k) (to_bits binary64 clock))
    (λ w n e. refl)
    (λ w n l. simp length-set)

pub marked-beyond : (mark : Mark) (held name : ℕ) (clock : Float) (words : List ℕ) → drop width (marked_in mark held name clock words).1 ≡ drop width words
marked-beyond mark held name clock words =
    marked-cases mark held name clock words (λ r. drop width r.1 ≡ drop width words)
    (λ w. refl)
    (λ w k e. let l = (whole_says held words w).0 in let b = (first-at (is_named_at words name) 0 held k e).1 in beyond words k (omega arith))
    (λ w n e. refl)
    (λ w n l. beyond (with_name held name words) held l ∙ named l)
  where
    beyond : (ws : List ℕ) (k : ℕ) → k < most_jobs → drop width (mark_at mark clock k ws) ≡ drop width ws
    beyond ws k l = drop-set-lt width ws (column_of mark + k) (to_bits binary64 clock) (omega (arith, column-low mark))

    named : held < most_jobs → drop width (with_name held name words) ≡ drop width words
    named l =
        let None = to_bits binary64 never in
        drop-set-lt width (slice_set (slice_set words held name) (starts_at + held) None) (stops_at + held) None (omega arith)
        ∙ drop-set-lt width (slice_set words held name) (starts_at + held) None (omega arith)
        ∙ drop-set-lt width words held name (omega arith)

-- an answer that refuses leaves the words as they are
abbrev pub is_held : Result ℕ Unmarked → Bool
is_held (Ok h) = true
is_held (Err e) = false

pub refused-keeps : (mark : Mark) (held name : ℕ) (clock : Float) (words : List ℕ) → is_held (marked_in mark held name clock words).0 ≡ false → (marked_in mark held name clock words).1 ≡ words
refused-keeps mark held name clock words =
    marked-cases mark held name clock words (λ r. is_held r.0 ≡ false → r.1 ≡ words) (λ w f. refl) (λ w k e f. cc) (λ w n e f. refl) (λ w n l f. cc)

-- ---- a mark is what the rules say of it
abbrev pub outcome_of : Result ℕ Unmarked × List ℕ → Outcome (List Marks)
outcome_of (Ok h, after) = done (jobs_in h after)
outcome_of (Err NoRoom, after) = refused NoQueueRoom
outcome_of (Err CutShort, after) = refused BadState

some-named : (held name : ℕ) (words : List ℕ) → some_of (is_named name) (jobs_in held words) ≡ is_found (first_from (is_named_at words name) 0 held)
some-named held name words = some-map (is_named name) (job_at words) (from 0 held) ∙ sym (first_some (is_named_at words name) 0 held)

module _ (mark : Mark) (held name : ℕ) (clock : Float) (words : List ℕ) (time : T (is_time clock)) where
  jobs-at : whole_in held words ≡ true → T (differ (names (jobs_in held words))) → (k : ℕ) → first_from (is_named_at words name) 0 held ≡ Some k
      → jobs_in held (mark_at mark clock k words) ≡ map (λ j. if is_named name j then mark_of mark clock j else j) (jobs_in held words)
  jobs-at whole apart k e =
      sym (map-map (λ j. if is_named name j then mark_of mark clock j else j) (job_at words) (from 0 held)
      ∙ map-from (λ j. if is_named_at words name j then mark_of mark clock (job_at words j) else job_at words j) (job_at (mark_at mark clock k words)) 0 held (λ j a b. at j b (is_named_at words name j) refl))
    where
      bounds : (held ≤ most_jobs) × (width ≤ length words)
      bounds = whole_says held words whole

      inside : k < held
      inside = omega (arith, (first-at (is_named_at words name) 0 held k e).1)

      named : slice_index_or words k 0 ≡ name
      named = eqb-true (slice_index words k) name (first-at (is_named_at words name) 0 held k e).2

      only : (j : ℕ) → j < held → slice_index words j ≡ name → j ≡ k
      only j b q = one_place held words (omega (arith, bounds.0, bounds.1)) (differ-apart held words (omega (arith, bounds.0, bounds.1)) apart) j k b inside (q ∙ sym named)

      at : (j : ℕ) → j < 0 + held → (b : Bool) → is_named_at words name j ≡ b → (if b then mark_of mark clock (job_at words j) else job_at words j) ≡ job_at (mark_at mark clock k words) j
      at j b true q =
          rw (only j (omega arith) (eqb-true (slice_index words j) name q)) (sym (job-marked clock words k (omega (arith, bounds.0, inside)) bounds.1 mark time))
      at j b false q =
          sym (same-job (mark_at mark clock k words) words j
          (mark-others clock words k (omega (arith, bounds.0, inside)) mark j (omega (arith, bounds.0)) (λ z. eqb-false (slice_index words j) name q (ap (λ i. slice_index words i) z ∙ named))))

  jobs-new : held < most_jobs → width ≤ length words → jobs_in (suc held) (mark_at mark clock held (with_name held name words)) ≡ jobs_in held words ++ mark_of mark clock (unmarked name) ∷ []
  jobs-new room long =
      map_last (job_at after) 0 held
      ∙ ap (λ k. jobs_in held after ++ job_at after k ∷ []) zero_held
      ∙ ap (λ j. jobs_in held after ++ j ∷ []) (job-new mark clock words held name room long time)
      ∙ ap (λ js. js ++ mark_of mark clock (unmarked name) ∷ [])
      (map-from (job_at after) (job_at words) 0 held (λ j a b. same-job after words j (new_others mark clock words held name room j (omega arith) (λ z. omega arith))))
    where
      after : List ℕ
      after = mark_at mark clock held (with_name held name words)

      zero_held : 0 + held ≡ held
      zero_held = omega arith

  pub jobs-marked : whole_in held words ≡ true → T (differ (names (jobs_in held words))) → outcome_of (marked_in mark held name clock words) ≡ marked (mark_of mark clock) name (jobs_in held words)
  jobs-marked whole apart =
      marked-cases mark held name clock words (λ r. outcome_of r ≡ marked (mark_of mark clock) name (jobs_in held words))
      (λ w. cc)
      (λ w k e. rw (some-named held name words, e) (ap done (jobs-at whole apart k e)))
      (λ w n e. rw (some-named held name words, n, jobs-length held words, le-ltb held most_jobs (omega arith)))
      (λ w n l. rw (some-named held name words, n, jobs-length held words, lt-ltb held most_jobs l) (ap done (jobs-new l (whole_says held words w).1)))

-- ---- what 20's question tells
pub record Fit (held : ℕ) (words : List ℕ) : Type 0 where
  pub whole : whole_in held words ≡ true
  pub timers : T (every (words_fit words) (from 0 held))
  pub rules : T (every (λ j. hold (marks_rules j)) (jobs_in held words))
  pub apart : T (differ (names (jobs_in held words)))

pub fit-rules : (held : ℕ) (words : List ℕ) → fit_in held words ≡ true → Fit held words
unfolding fit_in
fit-rules held words e = go (parts _ (subst T (sym e) tt))
  where
    go : All T (whole_in held words ∷ every (words_fit words) (from 0 held) ∷ every (λ j. hold (marks_rules j)) (jobs_in held words) ∷ differ (names (jobs_in held words)) ∷ []) → Fit held words
    go (w & t & r & d & nil) = record { whole = is_true (whole_in held words) w; timers = t; rules = r; apart = d }

-- the same, place by place
abbrev FitCells : List ℕ → ℕ → Type 0
FitCells words k = T (is_content (slice_index words k)) × T (mark_fits (slice_index words (starts_at + k))) × T (mark_fits (slice_index words (stops_at + k)))

fit-cells : (held : ℕ) (words : List ℕ) → Fit held words → (k : ℕ) → k < held → FitCells words k
fit-cells held words f k l =
    let t = every-at (words_fit words) 0 held k f.timers (omega arith) (omega arith) in
    let r = every-at (λ j. hold (marks_rules (job_at words j))) 0 held k (subst T (every_map (λ j. hold (marks_rules j)) (job_at words) (from 0 held)) f.rules) (omega arith) (omega arith) in
    ((if-both (is_content (slice_index words k)) _ r).0, and_l (mark_fits (slice_index words (starts_at + k))) (mark_fits (slice_index words (stops_at + k))) t, and_r (mark_fits (slice_index words (starts_at + k))) (mark_fits (slice_index words (stops_at + k))) t)

fit-holds : (held : ℕ) (words : List ℕ) → held ≤ most_jobs → width ≤ length words → ((k : ℕ) → k < held → FitCells words k) → Apart held words → T (fit_in held words)
unfolding fit_in
fit-holds held words a b f apart =
    whole_of {bs = whole_in held words ∷ every (words_fit words) (from 0 held) ∷ every (λ j. hold (marks_rules j)) (jobs_in held words) ∷ differ (names (jobs_in held words)) ∷ []}
    (subst T (sym (whole_is held words a b)) tt
    & every-from (words_fit words) 0 held (λ k _ l. let c = f k (omega arith) in and_i (mark_fits (slice_index words (starts_at + k))) (mark_fits (slice_index words (stops_at + k))) c.1 c.2)
    & subst T (sym (every_map (λ j. hold (marks_rules j)) (job_at words) (from 0 held))) (every-from (λ j. hold (marks_rules (job_at words j))) 0 held (λ k _ l. rule k (f k (omega arith)).0))
    & apart-differ held words (omega arith) apart
    & nil)
  where
    rule : (k : ℕ) → T (is_content (slice_index words k)) → T (hold (marks_rules (job_at words k)))
    rule k t = rw (mark-fits (slice_index words (starts_at + k)), mark-fits (slice_index words (stops_at + k))) (if-both-i (is_content (slice_index words k)) true t tt)

-- ---- the unused places
abbrev is_clear : List ℕ → ℕ → Bool
is_clear words k = hold ((slice_index words k == 0) ∷ (slice_index words (starts_at + k) == 0) ∷ (slice_index words (stops_at + k) == 0) ∷ [])

-- the places of each column after the jobs hold 0
unfoldable pub unused_in : ℕ → List ℕ → Bool
unused_in held words = every (is_clear words) (from held (most_jobs - held))

pub unused-says : (held : ℕ) (words : List ℕ) → T (unused_in held words) → (k : ℕ) → held ≤ k → k < most_jobs → Cells words k 0 0 0
unfolding unused_in
unused-says held words t k a b = go (parts _ (every-at (is_clear words) held (most_jobs - held) k t a (omega arith)))
  where
    go : All T ((slice_index words k == 0) ∷ (slice_index words (starts_at + k) == 0) ∷ (slice_index words (stops_at + k) == 0) ∷ []) → Cells words k 0 0 0
    go (x & y & z & nil) = (eqb→eq (slice_index words k) 0 x, eqb→eq (slice_index words (starts_at + k)) 0 y, eqb→eq (slice_index words (stops_at + k)) 0 z)

pub unused-is : (held : ℕ) (words : List ℕ) → held ≤ most_jobs → ((k : ℕ) → held ≤ k → k < most_jobs → Cells words k 0 0 0) → T (unused_in held words)
unfolding unused_in
unused-is held words low f = every-from (is_clear words) held (most_jobs - held) (λ k a b. go k (f k a (omega arith)))
  where
    go : (k : ℕ) → Cells words k 0 0 0 → T (is_clear words k)
    go k (x, y, z) = rw (x, y, z) tt

-- ---- what a mark keeps
-- what a fact says of the words after, where the mark was set
abbrev WhenHeld : (ℕ → List ℕ → Type 0) → Result ℕ Unmarked × List ℕ → Type 0
WhenHeld P (Ok h, after) = P h after
WhenHeld P (Err e, after) = Unit

module _ (mark : Mark) (held name : ℕ) (clock : Float) (words : List ℕ) where
  -- the words are as whole as they were
  pub kept_whole : (h : ℕ) (after : List ℕ) → marked_in mark held name clock words ≡ (Ok h, after) → whole_in h after ≡ true
  kept_whole h after e =
      subst (WhenHeld (λ h after. whole_in h after ≡ true)) e
      (marked-cases mark held name clock words (WhenHeld (λ h after. whole_in h after ≡ true))
      (λ w. tt)
      (λ w k f. let l = whole_says held words w in whole_is held (mark_at mark clock k words) l.0 (simp length-set l.1))
      (λ w n f. tt)
      (λ w n l. whole_is (suc held) (mark_at mark clock held (with_name held name words)) l (simp length-set (whole_says held words w).1)))

  -- the unused places stay clear
  pub unused-kept : T (unused_in held words) → (h : ℕ) (after : List ℕ) → marked_in mark held name clock words ≡ (Ok h, after) → T (unused_in h after)
  unused-kept t h after e =
      subst (WhenHeld (λ h after. T (unused_in h after))) e
      (marked-cases mark held name clock words (WhenHeld (λ h after. T (unused_in h after)))
      (λ w. tt)
      (λ w k f. let l = (whole_says held words w).0 in let b = (first-at (is_named_at words name) 0 held k f).1 in
      unused-is held (mark_at mark clock k words) l
      (λ j a m. as_before (mark_at mark clock k words) j (mark-others clock words k (omega arith) mark j m (λ z. omega arith)) (unused-says held words t j a m)))
      (λ w n f. tt)
      (λ w n l. unused-is (suc held) (mark_at mark clock held (with_name held name words)) l
      (λ j a m. as_before (mark_at mark clock held (with_name held name words)) j (new_others mark clock words held name l j m (λ z. omega arith)) (unused-says held words t j (omega arith) m))))
    where
      as_before : (after : List ℕ) (j : ℕ) → SameCells after words j → Cells words j 0 0 0 → Cells after j 0 0 0
      as_before after j s z = (s.0 ∙ z.0, s.1 ∙ z.1, s.2 ∙ z.2)

  -- and what 20 asks still holds
  module _ (time : T (is_time clock)) where
    bits_fit : (x : Float) → T (is_timer x) → T (mark_fits (to_bits binary64 x))
    bits_fit x t = subst (λ y. T (is_timer y)) (sym (of_bits-to_bits binary64 x (timer-fits x t))) t

    start_fits : (mark : Mark) (word : ℕ) → T (mark_fits word) → T (mark_fits (start_word mark clock word))
    start_fits Start word t = bits_fit clock (time-timer clock time)
    start_fits Stop word t = t

    stop-fits : (mark : Mark) (word : ℕ) → T (mark_fits word) → T (mark_fits (stop_word mark clock word))
    stop-fits Start word t = t
    stop-fits Stop word t = bits_fit clock (time-timer clock time)

    set-fits : (after : List ℕ) (k n start stop : ℕ) → Cells after k n (start_word mark clock start) (stop_word mark clock stop) → T (is_content n) → T (mark_fits start) → T (mark_fits stop) → FitCells after k
    set-fits after k n start stop (x, y, z) a b c = rw (x, y, z) (a, start_fits mark start b, stop-fits mark stop c)

    same-fits : (after : List ℕ) (k : ℕ) → SameCells after words k → FitCells words k → FitCells after k
    same-fits after k (x, y, z) f = rw (x, y, z) f

    module _ (fit : Fit held words) where
      bounds : (held ≤ most_jobs) × (width ≤ length words)
      bounds = whole_says held words fit.whole

      old_apart : Apart held words
      old_apart = differ-apart held words (omega (arith, bounds.0, bounds.1)) fit.apart

      kept_at : (k : ℕ) → k < held → T (fit_in held (mark_at mark clock k words))
      kept_at k l =
          fit-holds held after bounds.0 (simp length-set bounds.1) (λ j m. at j m (j == k) refl)
          (λ i j a b e. old_apart i j a b (sym (same i (omega arith)) ∙ e ∙ same j b))
        where
          after : List ℕ
          after = mark_at mark clock k words

          low : k < most_jobs
          low = omega (arith, bounds.0)

          same : (j : ℕ) → j < held → slice_index after j ≡ slice_index words j
          same j m = mark-names clock words k low mark j (omega (arith, bounds.0))

          at : (j : ℕ) → j < held → (b : Bool) → (j == k) ≡ b → FitCells after j
          at j m true q =
              let f = fit-cells held words fit k l in
              subst (FitCells after) (sym (eqb-true j k q))
              (set-fits after k (slice_index words k) (slice_index words (starts_at + k)) (slice_index words (stops_at + k)) (mark-here clock words k low bounds.1 mark) f.0 f.1 f.2)
          at j m false q = same-fits after j (mark-others clock words k low mark j (omega (arith, bounds.0)) (eqb-false j k q)) (fit-cells held words fit j m)

      kept_new : held < most_jobs → T (is_content name) → ((j : ℕ) → j < held → slice_index words j ≢ name) → T (fit_in (suc held) (mark_at mark clock held (with_name held name words)))
      kept_new low c new =
          fit-holds (suc held) after low (simp length-set bounds.1) (λ j m. at j m (j == held) refl)
          (λ i j a b e. ⊎_elim (λ q. new i (omega arith) (sym (same i (omega arith)) ∙ e ∙ ap (λ k. slice_index after k) q ∙ here.0)) (λ m. old_apart i j a m (sym (same i (omega arith)) ∙ e ∙ same j m)) (eq-or-lt_of_le (let z : j ≤ held = omega arith in z)))
        where
          after : List ℕ
          after = mark_at mark clock held (with_name held name words)

          here : Cells after held name (start_word mark clock (to_bits binary64 never)) (stop_word mark clock (to_bits binary64 never))
          here = new-here mark clock words held name low bounds.1

          same : (j : ℕ) → j < held → slice_index after j ≡ slice_index words j
          same j m = (new_others mark clock words held name low j (omega arith) (λ z. omega arith)).0

          at : (j : ℕ) → j < suc held → (b : Bool) → (j == held) ≡ b → FitCells after j
          at j m true q =
              let n = bits_fit never never-timer in
              subst (FitCells after) (sym (eqb-true j held q)) (set-fits after held name (to_bits binary64 never) (to_bits binary64 never) here c n n)
          at j m false q =
              let z = eqb-false j held q in
              let l : j < held = omega arith in
              same-fits after j (new_others mark clock words held name low j (omega arith) z) (fit-cells held words fit j l)

    pub kept-fit : T (fit_in held words) → name < 2 ^ 32 → (h : ℕ) (after : List ℕ) → marked_in mark held name clock words ≡ (Ok h, after) → T (fit_in h after)
    kept-fit t c h after e =
        let fit = fit-rules held words (is_true (fit_in held words) t) in
        subst (WhenHeld (λ h after. T (fit_in h after))) e
        (marked-cases mark held name clock words (WhenHeld (λ h after. T (fit_in h after)))
        (λ w. tt)
        (λ w k f. let b = (first-at (is_named_at words name) 0 held k f).1 in kept_at fit k (omega arith))
        (λ w n f. tt)
        (λ w n l. kept_new fit l (lt→ltb name (2 ^ 32) c) (λ j m. eqb-false (slice_index words j) name (first-none (is_named_at words name) 0 held j n (omega arith) (omega arith)))))
