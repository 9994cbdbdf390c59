-- The laws of the loops: one job more, the end, and what a test showed. Assumes nothing.
use Rattle.std.specs.Prelude.{◌≡◌, ℕ, zero, suc, ◌+◌, ◌-◌, ◌*◌, ◌^◌, ◌<◌, ◌≤◌, Bool, true, false, not, ◌&&◌, T, List, [], ◌∷◌, map, length, pos, ◌==◌, ◌≢◌, nat_eq, slice_index, refl, Float, if◌then◌else◌, None, Some, Option, is_some}
use Rattle.std.proofs.Common.{sym, ap, ◌∙◌, subst, arith, div-one, lt-ltb, le-ltb}
use Rattle.std.specs.Float.{binary64}
use Rattle.std.specs.Float.Ieee.{add, div, of_int}
use Rattle.std.specs.Float.Ieee.Bits.{is_true}
use Rattle.times.specs.Time.{instant, is_time, is_timer}
use Rattle.times.specs.Answers.{time_of_bits, timer_of_bits}
use Rattle.times.proofs.AnswerLaws.{time-says, timer-says, no-timer-says}
use Rattle.rules.specs.declared.Metric.{Metric}
use Rattle.rules.specs.Sizes.{is_content}
use Rattle.rules.specs.Base.{hold, every, some_of, from}
use Rattle.rules.specs.Simulation.{Marks}
use Rattle.rules.specs.Models.{Duration, between, durations, better, best_of, fetched, summed, mean}
use Rattle.rules.specs.Valid.{mark_fits as fitting, marks_rules, names, member, differ}
use Rattle.words.specs.Search.{cell_of, first_from, matches, next_row}
use Rattle.words.specs.SearchLaws.{is_found, first_some, first-ext, next-row-first}
use Rattle.words.specs.declared.Cell.{Cell}
use Rattle.marks.specs.declared.Best.{Best}
use Rattle.marks.specs.declared.Total.{Total}
use Rattle.marks.specs.declared.Mark.{Mark}
use Rattle.marks.specs.declared.Mark.TheVariants.{Start, Stop}
use Rattle.marks.specs.Jobs.{starts_at, stops_at, time_in, mark_in, job_at, jobs_in, whole_in, mark_fits, words_fit, fit_in, first_job}
use Rattle.marks.specs.Marking.{column_of}
use Rattle.marks.specs.Sweeps.{lasting_of, lasting_at, durations_from, duration_of, better_with, better_at, best_from, fetched_from, added_with, added_at, no_total, total_from, is_named_at, fit_at, fit_from}

-- what a job adds to the durations after it
abbrev joined : ℕ → Option Float → List Duration → List Duration
joined name None ds = ds
joined name (Some d) ds = record { name = name; length = d } ∷ ds

durations-next : (words : List ℕ) (k n : ℕ) → durations_from words k (suc n) ≡ joined (slice_index words k) (lasting_at words k) (durations_from words (suc k) n)
unfolding lasting_at durations_from
durations-next words k n = go (mark_in (slice_index words (starts_at + k))) (mark_in (slice_index words (stops_at + k)))
  where
    go : (start stop : Option Float)
        → elim (between (slice_index words k) start stop) [ None ↦ durations_from words (suc k) n | Some d ↦ d ∷ durations_from words (suc k) n ]
        ≡ joined (slice_index words k) (lasting_of start stop) (durations_from words (suc k) n)
    go None stop = refl
    go (Some start) None = refl
    go (Some start) (Some stop) = refl

pub best-next : (metric : Metric) (words : List ℕ) (best : Best) (k n : ℕ) → best_from metric words best k (suc n) ≡ best_from metric words (better_at metric words best k) (suc k) n
unfolding best_from better_at
best-next metric words best k n = ap (λ ds. (best_of metric (duration_of best) ds).name) (durations-next words k n) ∙ go (lasting_at words k)
  where
    ds : List Duration
    ds = durations_from words (suc k) n

    pick : (d : Float) (b : Bool)
        → (best_of metric (if b then record { name = slice_index words k; length = d } else duration_of best) ds).name
        ≡ (best_of metric (duration_of (if b then record { name = slice_index words k; length = d } else best)) ds).name
    pick d true = refl
    pick d false = refl

    go : (l : Option Float) → (best_of metric (duration_of best) (joined (slice_index words k) l ds)).name ≡ (best_of metric (duration_of (better_with metric best (slice_index words k) l)) ds).name
    go None = refl
    go (Some d) = pick d (better metric d best.length)

pub fetched-open : (metric : Metric) (words : List ℕ) (k n : ℕ) → lasting_at words k ≡ None → fetched_from metric words k (suc n) ≡ fetched_from metric words (suc k) n
unfolding fetched_from
fetched-open metric words k n e =
    ap (λ ds. first_job (fetched metric ds)) (durations-next words k n ∙ ap (λ l. joined (slice_index words k) l (durations_from words (suc k) n)) e)

pub fetched-lasted : (metric : Metric) (words : List ℕ) (k n : ℕ) (d : Float) → lasting_at words k ≡ Some d
    → fetched_from metric words k (suc n) ≡ Some (best_from metric words (record { name = slice_index words k; length = d }) (suc k) n)
unfolding fetched_from best_from
fetched-lasted metric words k n d e =
    ap (λ ds. first_job (fetched metric ds)) (durations-next words k n ∙ ap (λ l. joined (slice_index words k) l (durations_from words (suc k) n)) e)

pub total-next : (words : List ℕ) (total : Total) (k n : ℕ) → total_from words total k (suc n) ≡ total_from words (added_at words total k) (suc k) n
unfolding total_from added_at
total-next words total k n = ap (λ ds. record { sum = summed total.sum ds; count = total.count + length ds }) (durations-next words k n) ∙ go (lasting_at words k)
  where
    ds : List Duration
    ds = durations_from words (suc k) n

    of : Total → List Duration → Total
    of t xs = record { sum = summed t.sum xs; count = t.count + length xs }

    go : (l : Option Float) → of total (joined (slice_index words k) l ds) ≡ of (added_with total l) ds
    go None = refl
    go (Some d) = ap (λ c. record { sum = summed (add binary64 total.sum d) ds; count = c }) (omega arith)

pub added-low : (words : List ℕ) (total : Total) (k : ℕ) → total.count ≤ k → (added_at words total k).count ≤ k + 1
unfolding added_at
added-low words total k h = go (lasting_at words k)
  where
    go : (l : Option Float) → (added_with total l).count ≤ k + 1
    go None = omega arith
    go (Some d) = omega arith

-- ---- a loop that goes to `held`
-- its start
pub begun : {A : Type 0} (f : ℕ → A) (held : ℕ) → f (held - 0) ≡ f held
begun f held = let e : held - 0 ≡ held = omega arith in ap f e

-- a turn of it, at the place k
pub turn : {A : Type 0} (f g : ℕ → ℕ → A) (k held : ℕ) → ((n : ℕ) → f k (suc n) ≡ g (suc k) n) → k < held → f k (held - k) ≡ g (k + 1) (held - (k + 1))
turn f g k held next h =
    let e : held - k ≡ suc (held - (k + 1)) = omega arith in
    let s : suc k ≡ k + 1 = omega arith in
    ap (f k) e ∙ next (held - (k + 1)) ∙ ap (λ j. g j (held - (k + 1))) s

-- its end
pub ended : {A : Type 0} (f : ℕ → A) (k held : ℕ) → held ≤ k → f (held - k) ≡ f 0
ended f k held h = let e : held - k ≡ 0 = omega arith in ap f e

pub best-end : (metric : Metric) (words : List ℕ) (best : Best) (k held : ℕ) → held ≤ k → best_from metric words best k (held - k) ≡ best.name
unfolding best_from durations_from
best-end metric words best k held h = ended (best_from metric words best k) k held h

pub fetched-end : (metric : Metric) (words : List ℕ) (k held : ℕ) → held ≤ k → fetched_from metric words k (held - k) ≡ None
unfolding fetched_from durations_from
fetched-end metric words k held h = ended (fetched_from metric words k) k held h

pub total-end : (words : List ℕ) (total : Total) (k held : ℕ) → held ≤ k → total_from words total k (held - k) ≡ total
unfolding total_from durations_from
total-end words total k held h =
    let e : total.count + 0 ≡ total.count = omega arith in
    ended (total_from words total k) k held h ∙ ap (λ c. record { sum = total.sum; count = c }) e

-- ---- the count is 0 where there is no mean
pub mean-none : (held : ℕ) (words : List ℕ) (total : Total) → total ≡ total_from words no_total 0 held → total.count ≡ 0 → (mean (durations (jobs_in held words))) ≡ None
unfolding total_from durations_from
mean-none held words total e z = go (durations (jobs_in held words)) (sym (ap (λ (t : Total). t.count) e) ∙ z)
  where
    go : (ds : List Duration) → 0 + length ds ≡ 0 → (mean ds) ≡ None
    go [] h = refl
    go (d ∷ ds) h = absurd (more (length ds) h)
      where
        more : (n : ℕ) → 0 + suc n ≢ 0
        more n h = omega arith

pub mean-some : (held : ℕ) (words : List ℕ) (total : Total) → total ≡ total_from words no_total 0 held → (total.count ≢ 0)
    → (mean (durations (jobs_in held words))) ≡ Some (div binary64 total.sum (of_int binary64 (pos total.count)))
unfolding total_from durations_from
mean-some held words total e z = go (durations (jobs_in held words)) (ap (λ (t : Total). t.sum) e) (ap (λ (t : Total). t.count) e)
  where
    go : (ds : List Duration) → total.sum ≡ summed instant ds → total.count ≡ 0 + length ds
        → (mean ds) ≡ Some (div binary64 total.sum (of_int binary64 (pos total.count)))
    go [] s c = absurd (z c)
    go (d ∷ ds) s c = let n : total.count ≡ length (d ∷ ds) = omega arith in rw (s, n)

-- ---- a name is looked for
abbrev pub key_of : ℕ → List Cell
key_of name = record { at = 0; value = name } ∷ []

once : (b : Bool) → (if b then true else false) ≡ b
once true = refl
once false = refl

-- among rows of one word, the search is one for a name
pub find-is : (words : List ℕ) (start held name : ℕ) → held ≤ length words → next_row (key_of name) 1 start held words ≡ first_from (is_named_at words name) start (held - start)
find-is words start held name h =
    next-row-first (key_of name) 1 start held words refl (omega (arith, div-one (length words)))
    ∙ first-ext (matches (key_of name) 1 words) (is_named_at words name) start (held - start) (λ k _ _. same k)
  where
    same : (k : ℕ) → matches (key_of name) 1 words k ≡ is_named_at words name k
    same k = let e : k * 1 + 0 ≡ k = omega arith in once (cell_of 1 words k 0 == name) ∙ ap (λ j. nat_eq (slice_index words j) name) e

pub some-map : {A B : Type 0} (test : B → Bool) (f : A → B) (xs : List A) → some_of test (map f xs) ≡ some_of (λ x. test (f x)) xs
some-map test f [] = refl
some-map test f (x ∷ xs) = ap (λ b. if test (f x) then true else b) (some-map test f xs)

member-found : (words : List ℕ) (name k n : ℕ) → member name (names (map (job_at words) (from k n))) ≡ is_found (first_from (is_named_at words name) k n)
member-found words name k n =
    some-map (λ y. nat_eq y name) (λ (j : Marks). j.name) (map (job_at words) (from k n))
    ∙ some-map (λ (j : Marks). nat_eq j.name name) (job_at words) (from k n)
    ∙ sym (first_some (is_named_at words name) k n)

-- a word that holds a time is a mark that fits
pub mark-fits : (word : ℕ) → fitting (mark_in word) ≡ true
mark-fits word = go (time_of_bits word) refl
  where
    go : (t : Option Float) → time_of_bits word ≡ t → fitting (time_in t) ≡ true
    go (Some x) e = is_true (is_time x) (time-says word x e).0
    go None e = refl

abbrev fit_rest : List ℕ → ℕ → ℕ → Bool
fit_rest words k n = hold (every (words_fit words) (from k n) ∷ every (λ j. hold (marks_rules j)) (map (job_at words) (from k n)) ∷ differ (names (map (job_at words) (from k n))) ∷ [])

fit-sorts : (content start stop found a b c : Bool)
    → hold ((if start && stop then a else false) ∷ (if hold (content ∷ true ∷ true ∷ []) then b else false) ∷ (if found then false else c) ∷ [])
    ≡ hold (content ∷ start ∷ stop ∷ not found ∷ []) && hold (a ∷ b ∷ c ∷ [])
fit-sorts true true true true true true c = refl
fit-sorts true true true true true false c = refl
fit-sorts true true true true false b c = refl
fit-sorts true true true false a b c = refl
fit-sorts true true false found a b c = refl
fit-sorts true false stop found a b c = refl
fit-sorts false true true found true b c = refl
fit-sorts false true true found false b c = refl
fit-sorts false true false found a b c = refl
fit-sorts false false stop found a b c = refl

fit-rest : (words : List ℕ) (k n : ℕ) → fit_rest words k n ≡ fit_from words k n
unfolding fit_from fit_at
fit-rest words k zero = refl
fit-rest words k (suc n) =
    let s : suc k ≡ k + 1 = omega arith in
    rw (mark-fits (slice_index words (starts_at + k)), mark-fits (slice_index words (stops_at + k)), member-found words (slice_index words k) (suc k) n)
    (fit-sorts
    (is_content (slice_index words k))
    (mark_fits (slice_index words (starts_at + k)))
    (mark_fits (slice_index words (stops_at + k)))
    (is_found (first_from (is_named_at words (slice_index words k)) (suc k) n))
    (every (words_fit words) (from (suc k) n))
    (every (λ j. hold (marks_rules j)) (map (job_at words) (from (suc k) n)))
    (differ (names (map (job_at words) (from (suc k) n))))
    ∙ ap (λ j. hold (is_content (slice_index words k) ∷ mark_fits (slice_index words (starts_at + k)) ∷ mark_fits (slice_index words (stops_at + k)) ∷ not (is_found (first_from (is_named_at words (slice_index words k)) j n)) ∷ []) && fit_rest words (suc k) n) s
    ∙ ap (λ b. fit_at words k n && b) (fit-rest words (suc k) n))

pub fit_is : (held : ℕ) (words : List ℕ) → whole_in held words ≡ true → fit_in held words ≡ fit_from words 0 held
unfolding fit_in
fit_is held words e = rw e (fit-rest words 0 held)

pub fit-not : (held : ℕ) (words : List ℕ) → whole_in held words ≡ false → fit_in held words ≡ false
unfolding fit_in
fit-not held words e = rw e

pub fit-end : (words : List ℕ) (k held : ℕ) → held ≤ k → fit_from words k (held - k) ≡ true
unfolding fit_from
fit-end words k held h = ended (fit_from words k) k held h

pub fit-turn : (words : List ℕ) (k held : ℕ) → k < held → fit_from words k (held - k) ≡ fit_at words k (held - (k + 1)) && fit_from words (k + 1) (held - (k + 1))
unfolding fit_from
fit-turn words k held h = turn (fit_from words) (λ j n. fit_at words k n && fit_from words j n) k held (λ n. refl) h

-- ---- what a test showed
pub timer-fits : (word : ℕ) (x : Float) → timer_of_bits word ≡ Some x → mark_fits word ≡ true
timer-fits word x e = let w = timer-says word x e in is_true (mark_fits word) (subst (λ y. T (is_timer y)) w.1 w.0)

pub some-read : (word : ℕ) → is_some (timer_of_bits word) ≡ mark_fits word
some-read word = go (timer_of_bits word) refl
  where
    go : (t : Option Float) → timer_of_bits word ≡ t → is_some t ≡ mark_fits word
    go (Some x) e = sym (timer-fits word x e)
    go None e = sym (no-timer-says word e)

pub none-found : (r : Option ℕ) (b : Bool) → is_some r ≡ not b → b ≡ (if not (is_found r) then true else false)
none-found (Some j) true e = cc
none-found (Some j) false e = refl
none-found None true e = refl
none-found None false e = cc

pub content-low : (name : ℕ) → name ≤ 0xFFFF_FFFF → is_content name ≡ true
content-low name h = lt-ltb name (2 ^ 32) (omega arith)

pub content-high : (name : ℕ) → 2 ^ 32 ≤ name → is_content name ≡ false
content-high name h = le-ltb name (2 ^ 32) h

pub column-low : (mark : Mark) → column_of mark ≤ stops_at
column-low Start = omega arith
column-low Stop = omega arith
