-- The laws of a queue in lent words, for any number of words: what a push and a release leave of the jobs and of the unused places. Assumes nothing.
use Rattle.std.specs.Prelude.{ℕ, zero, suc, ◌+◌, ◌-◌, ◌≤◌, ◌<◌, ◌≡◌, Bool, true, false, T, length, set, take, drop, if◌then◌else◌}
use Rattle.std.proofs.Common.{ap, ◌∙◌, arith, add-one, length-append, length-take, length-set, length-take-le, take_at, take-suc-set, drop-set-lt, drop-drop}
use mathlib.Core.List.{List, [], ◌∷◌, ◌++◌, append_assoc}
use Rattle.std.proofs.Math.Dec.{eqb}
use Rattle.std.proofs.Math.ListN.{length-drop, length-map}
use Rattle.std.proofs.Math.Seq.{length-slice, drop_at}
use Rattle.rules.specs.Base.{every}
use Rattle.words.specs.Queue.{queue_in, unused_clear, cleared, moved_up}

-- ---- every place is clear
rest-holds : (t a : Bool) → T (if t then a else false) → T a
rest-holds true a h = h
rest-holds false a h = elim h [ ]

rest_goes : (t a b : Bool) → (T a → T b) → T (if t then a else false) → T (if t then b else false)
rest_goes true a b go h = go h
rest_goes false a b go h = h

every_drop : (test : ℕ → Bool) (n : ℕ) (l : List ℕ) → T (every test l) → T (every test (drop n l))
every_drop test zero l h = h
every_drop test (suc n) [] h = h
every_drop test (suc n) (x ∷ xs) h = every_drop test n xs (rest-holds (test x) (every test xs) h)

every_append : (test : ℕ → Bool) (l m : List ℕ) → T (every test l) → T (every test m) → T (every test (l ++ m))
every_append test [] m h k = k
every_append test (x ∷ xs) m h k = rest_goes (test x) (every test xs) (every test (xs ++ m)) (λ g. every_append test xs m g k) h

cleared-clear : (l : List ℕ) → T (unused_clear 0 (cleared l))
cleared-clear [] = tt
cleared-clear (x ∷ xs) = cleared-clear xs

-- ---- a push
module _ (held : ℕ) (words : List ℕ) (job : ℕ) where
  -- the job comes last
  pub push-holds : held < length words → take (held + 1) (set words held job) ≡ take held words ++ job ∷ []
  push-holds room = rw add-one (take-suc-set words held job room)

  -- the places after it are as they were
  pub push-beyond : drop (held + 1) (set words held job) ≡ drop (held + 1) words
  push-beyond = drop-set-lt (held + 1) words held job (omega arith)

  pub push-length : length (set words held job) ≡ length words
  push-length = length-set words held job

  pub push-clear : T (unused_clear held words) → T (unused_clear (held + 1) (set words held job))
  push-clear clear =
      rw (push-beyond, ← drop-drop 1 held words) (every_drop (λ w. eqb w 0) 1 (drop held words) clear)

-- ---- a queue, and a release
pub queue-length : (held : ℕ) (words : List ℕ) → held ≤ length words → length (queue_in held words) ≡ held
queue-length held words fits = length-take-le held words fits

module _ (gone held : ℕ) (words : List ℕ) where
  pub moved_length : length (moved_up gone held words) ≡ length words
  unfolding moved_up
  moved_length = simp (length-append, length-map, length-drop, length-take) (omega arith)

  module _ (some : gone ≤ held) (fits : held ≤ length words) where
    -- the jobs that are left, in order
    pub moved_holds : queue_in (held - gone) (moved_up gone held words) ≡ drop gone (queue_in held words)
    unfolding moved_up
    moved_holds = rw append_assoc (take_at _ _ (held - gone) (length-slice gone held words fits))

    pub moved-clear : T (unused_clear held words) → T (unused_clear (held - gone) (moved_up gone held words))
    unfolding moved_up
    moved-clear clear = rw (append_assoc, drop_at _ _ (held - gone) (length-slice gone held words fits))
        (every_append (λ w. eqb w 0) (cleared (take gone (take held words))) (drop held words) (cleared-clear (take gone (take held words))) clear)

-- a push, and then a release of the first job: the others, in order, and the new one last
pub push-moved : (held : ℕ) (words : List ℕ) (job : ℕ) → held < length words → queue_in held (moved_up 1 (held + 1) (set words held job)) ≡ drop 1 (queue_in held words ++ job ∷ [])
push-moved held words job room =
    let fits : held + 1 ≤ length (set words held job) = rw (length-set words held job) (omega arith) in
    let back : held ≡ held + 1 - 1 = omega arith in
    ap (λ (n : ℕ). queue_in n (moved_up 1 (held + 1) (set words held job))) back
    ∙ moved_holds 1 (held + 1) (set words held job) (omega arith) fits
    ∙ ap (drop 1) (push-holds held words job room)
