-- The laws of a row: what 20 asks of its words and of the state that they hold, by the tests of the code; and of loops that end at the first place that fails, or that join all places. Assumes nothing.
use Rattle.std.specs.Prelude.{ℕ, zero, suc, ◌+◌, ◌-◌, ◌≤◌, ◌<◌, ◌^◌, ◌/◌, ◌%◌, ◌≡◌, refl, Bool, true, false, not, ◌&&◌, List, [], ◌∷◌, map, length, get_or, take, drop, leb, eqb, if◌then◌else◌}
use Rattle.std.proofs.Math.Path.{sym, ap, subst}
use Rattle.std.proofs.Common.{◌∙◌, inl, inr, lt_of_not-le, length-drop, take_all, length-take-le, drop-cons, get_or-take, get_or-drop, eqb→eq, lt→ltb}
use Rattle.std.proofs.Math.Nat.{sub-zero}
use native.Mathlib.Omega.{arith}
use Rattle.std.proofs.Math.ListN.{length-map}
use Rattle.std.proofs.Math.Seq.{drop-length}
use Rattle.std.proofs.Math.Dec.{T}
use Rattle.std.specs.Int.Bits.{bit_or, or_add_and}
use Rattle.std.proofs.lemmas.Nat.{and_le_l, and_le_r}
use Rattle.std.specs.Float.Ieee.{binary64, of_bits}
use Rattle.std.specs.Float.Ieee.Fits.{eq→eqb}
use Rattle.times.specs.Time.{is_timer}
use Rattle.times.specs.Order.{same_test}
use Rattle.rules.specs.declared.Processor.{Processor}
use Rattle.rules.specs.declared.Batcher.{Batcher}
use Rattle.rules.specs.declared.Stopwatch.{Stopwatch}
use Rattle.rules.specs.Base.{every, hold, from, is_empty}
use Rattle.rules.specs.Sizes.{is_content}
use Rattle.rules.specs.Table.{processor, batcher, stopwatch, coupled}
use Rattle.rules.specs.Simulation.{Parked}
use Rattle.rules.specs.Valid.{is_active, parked_rules, marks_rules, differ, names}
use Rattle.rules.specs.Ends.{if-both, if-both-i, All, nil, ◌&◌, all_map, all-every, every-all, whole_of, one}
use Rattle.rules.specs.Decides.{Decides, passes, tells, is_true, is_false, either, reads, ◌also◌, ◌and◌, alone, itself, at-most, below, same}
use Rattle.words.specs.Queue.{queue_in, unused_clear}
use Rattle.marks.specs.Jobs.{jobs_in, fit_in}
use Rattle.marks.specs.SweepLaws.{begun, turn, ended}
use Rattle.marks.specs.MarkingLaws.{fit-rules, whole_says, jobs-length, unused_in, unused-says, unused-is}
use Rattle.memory.specs.View.{working_of, parked_of}
use Rattle.holding.specs.Fitting.{queue_fits, row_fits}

-- ---- a loop that goes to `end`, and stops at the first place that fails
module _ (f : ℕ → ℕ → Bool) (test : ℕ → Bool) (none : (k : ℕ) → f k 0 ≡ true) (more : (k n : ℕ) → f k (suc n) ≡ (if test k then f (suc k) n else false)) (k end : ℕ) where
  pub sweep-over : end ≤ k → f k (end - k) ≡ true
  sweep-over h = ended (f k) k end h ∙ none k

  sweep-turn : k < end → f k (end - k) ≡ (if test k then f (k + 1) (end - (k + 1)) else false)
  sweep-turn l = turn f (λ j n. if test k then f j n else false) k end (more k) l

  pub sweep-stops : k < end → test k ≡ false → f k (end - k) ≡ false
  sweep-stops l e = sweep-turn l ∙ ap (λ (b : Bool). if b then f (k + 1) (end - (k + 1)) else false) e

  pub sweep-on : k < end → test k ≡ true → f k (end - k) ≡ f (k + 1) (end - (k + 1))
  sweep-on l e = sweep-turn l ∙ ap (λ (b : Bool). if b then f (k + 1) (end - (k + 1)) else false) e

-- ---- every word of a list, by its place
module _ (test : ℕ → Bool) (words : List ℕ) where
  abbrev pub each_from : ℕ → ℕ → Bool
  each_from k n = every (λ j. test (get_or words j 0)) (from k n)

  each-drop : (k n : ℕ) → k + n ≡ length words → each_from k n ≡ every test (drop k words)
  each-drop k zero e = let end : length words ≡ k = omega arith in sym (ap (λ (i : ℕ). every test (drop i words)) (sym end) ∙ ap (every test) (drop-length words))
  each-drop k (suc n) e =
      ap (λ (b : Bool). if test (get_or words k 0) then b else false) (each-drop (suc k) n (omega arith)) ∙ sym (ap (every test) (drop-cons words k 0 (omega arith)))

  pub each-is : each_from 0 (length words - 0) ≡ every test words
  each-is = begun (each_from 0) (length words) ∙ each-drop 0 (length words) (omega arith)

  module _ (k : ℕ) where
    abbrev by_place : ℕ → Bool
    by_place j = test (get_or words j 0)

    pub each_over : length words ≤ k → each_from k (length words - k) ≡ true
    each_over = sweep-over each_from by_place (λ _. refl) (λ _ _. refl) k (length words)

    pub each-stops : k < length words → test (get_or words k 0) ≡ false → each_from k (length words - k) ≡ false
    each-stops = sweep-stops each_from by_place (λ _. refl) (λ _ _. refl) k (length words)

    pub each_on : k < length words → test (get_or words k 0) ≡ true → each_from k (length words - k) ≡ each_from (k + 1) (length words - (k + 1))
    each_on = sweep-on each_from by_place (λ _. refl) (λ _ _. refl) k (length words)

-- places that hold 0
abbrev clears : List ℕ → Bool
clears words = every (λ w. eqb w 0) words

-- a loop that joins the words as it goes, and looks once, at the end
module _ (words : List ℕ) (joined k : ℕ) where
  abbrev pub joined_from : Bool
  joined_from = if eqb joined 0 then each_from (λ w. eqb w 0) words k (length words - k) else false

  pub joined-over : length words ≤ k → joined_from ≡ eqb joined 0
  joined-over l = rw (each_over (λ w. eqb w 0) words k l) (one (eqb joined 0))

-- a joined word is 0 exactly if both are: with the bits that they share it is their sum
joined-clear : (a b : ℕ) → eqb (bit_or a b) 0 ≡ (if eqb a 0 then eqb b 0 else false)
joined-clear a b =
    let sum = or_add_and a b in let left = and_le_l a b in let right = and_le_r a b in
    same_test (eqb (bit_or a b) 0) (if eqb a 0 then eqb b 0 else false)
    (λ t. let e = eqb→eq (bit_or a b) 0 t in if-both-i (eqb a 0) (eqb b 0) (passes (same a 0) (omega arith)) (passes (same b 0) (omega arith)))
    (λ t. let h = if-both (eqb a 0) (eqb b 0) t in let x = eqb→eq a 0 h.0 in let y = eqb→eq b 0 h.1 in passes (same (bit_or a b) 0) (omega arith))

pub joined-on : (words : List ℕ) (joined k : ℕ) → k < length words → joined_from words joined k ≡ joined_from words (bit_or joined (get_or words k 0)) (k + 1)
joined-on words joined k l =
    let w = get_or words k 0 in
    rw (sweep-turn (each_from (λ w. eqb w 0) words) (λ j. eqb (get_or words j 0) 0) (λ _. refl) (λ _ _. refl) k (length words) l, joined-clear joined w)
    (nested (eqb joined 0) (eqb w 0) (each_from (λ w. eqb w 0) words (k + 1) (length words - (k + 1))))
  where
    nested : (a b c : Bool) → (if a then (if b then c else false) else false) ≡ (if (if a then b else false) then c else false)
    nested true b c = refl
    nested false b c = refl

clear_at : (words : List ℕ) (k : ℕ) → T (clears words) → get_or words k 0 ≡ 0
clear_at words k t = go words k (every-all (λ w. eqb w 0) words t)
  where
    go : (words : List ℕ) (k : ℕ) → All (λ w. T (eqb w 0)) words → get_or words k 0 ≡ 0
    go [] k nil = refl
    go (w ∷ ws) zero (h & p) = eqb→eq w 0 h
    go (w ∷ ws) (suc k) (h & p) = go ws k p

clear_of : (words : List ℕ) → ((k : ℕ) → k < length words → get_or words k 0 ≡ 0) → T (clears words)
clear_of words f = all-every (λ w. eqb w 0) (go words f)
  where
    go : (words : List ℕ) → ((k : ℕ) → k < length words → get_or words k 0 ≡ 0) → All (λ w. T (eqb w 0)) words
    go [] f = nil
    go (w ∷ ws) f = eq→eqb (f 0 (omega arith)) & go ws (λ k l. f (suc k) (omega arith))

-- ---- places lent from one to before another
module _ (own : List ℕ) (start end : ℕ) where
  abbrev pub part : List ℕ
  part = take (end - start) (drop start own)

  part_at : T (clears part) → (p : ℕ) → start ≤ p → p < end → get_or own p 0 ≡ 0
  part_at t p a b =
      let e : start + (p - start) ≡ p = omega arith in
      ap (λ (q : ℕ). get_or own q 0) (sym e) ∙ sym (get_or-drop start own (p - start) 0) ∙ sym (get_or-take (end - start) (drop start own) (p - start) 0 (omega arith)) ∙ clear_at part (p - start) t

  part_of : start ≤ end → end ≤ length own → ((p : ℕ) → start ≤ p → p < end → get_or own p 0 ≡ 0) → T (clears part)
  part_of low room f =
      let d = length-drop start own in
      let n = length-take-le (end - start) (drop start own) (omega arith) in
      clear_of part (λ k l. get_or-take (end - start) (drop start own) k 0 (omega arith) ∙ get_or-drop start own k 0 ∙ f (start + k) (omega arith) (omega arith))

-- the places of a row's own words after those held
module _ (held : ℕ) (own : List ℕ) (long : length own ≡ 64) where
  pub rest-is : held ≤ 64 → clears (part own held 64) ≡ unused_clear held own
  rest-is l = ap clears (take_all (64 - held) (drop held own) (let d = length-drop held own in omega arith))

  module _ (few : held ≤ 8) where
    pub last-left : clears (part own 8 64) ≡ false → unused_clear held own ≡ false
    last-left e =
        sym (rest-is (omega arith))
        ∙ is_false (itself (clears (part own held 64))) (λ t. subst T e (part_of own 8 64 (omega arith) (omega arith) (λ p a b. part_at own held 64 t p (omega arith) b)))

    pub first-left : clears (part own 8 64) ≡ true → clears (part own held 8) ≡ unused_clear held own
    first-left e =
        same_test (clears (part own held 8)) (clears (part own held 64))
        (λ t. part_of own held 64 (omega arith) (omega arith) (λ p a b. elim (either (at-most 8 p)) [
          | inl l ↦ part_at own 8 64 (subst T (sym e) tt) p l b
          | inr n ↦ part_at own held 8 t p a (lt_of_not-le n)
        ]))
        (λ t. part_of own held 8 few (omega arith) (λ p a b. part_at own held 64 t p a (omega arith)))
        ∙ rest-is (omega arith)

-- ---- a queue
module _ (held : ℕ) (own : List ℕ) where
  queue-decides : Decides (queue_fits held own) ((held ≤ 64) also T (every is_content (queue_in held own)) also T (unused_clear held own))
  unfolding queue_fits
  queue-decides = at-most held 64 and itself (every is_content (queue_in held own)) and alone (itself (unused_clear held own))

  pub queue-many : 64 < held → queue_fits held own ≡ false
  queue-many l = is_false queue-decides (λ h. let m = h.0 in omega arith)

  -- the jobs, as they are lent
  jobs-are : take (held - 0) (drop 0 own) ≡ queue_in held own
  jobs-are = ap (λ (n : ℕ). take n own) (sub-zero held)

  pub queue-bad : every is_content (take (held - 0) (drop 0 own)) ≡ false → queue_fits held own ≡ false
  queue-bad e = is_false queue-decides (λ h. subst T (ap (every is_content) (sym jobs-are) ∙ e) h.1.0)

  pub queue-rest : held ≤ 64 → every is_content (take (held - 0) (drop 0 own)) ≡ true → unused_clear held own ≡ queue_fits held own
  unfolding queue_fits
  queue-rest l e = sym (rw (is_true (at-most held 64) l, ap (every is_content) (sym jobs-are) ∙ e) (one (unused_clear held own)))

-- ---- a processor's row
-- "at least one job if Active"
active-test : (phase held : ℕ) (own : List ℕ) → phase < 2 → held ≤ length own → not (is_active (working_of phase) && is_empty (take held own)) ≡ leb phase held
active-test zero held own l m = sym (is_true (at-most 0 held) (omega arith))
active-test (suc zero) zero own l m = refl
active-test (suc zero) (suc held) [] l m = absurd (omega arith)
active-test (suc zero) (suc held) (w ∷ ws) l m = sym (is_true (at-most 1 (suc held)) (omega arith))
active-test (suc (suc phase)) held own l m = absurd (omega arith)

module _ (phase timer held : ℕ) (own : List ℕ) where
  module _ (long : length own ≡ 64) where
    jobs-long : held ≤ 64 → length (take held own) ≡ held
    jobs-long l = length-take-le held own (omega arith)

    module _ (p : Processor) where
      abbrev ProcessorKeeps : Type 0
      ProcessorKeeps = (phase < 2) also T (is_timer (of_bits binary64 timer)) also (held ≤ p.queue_capacity) also (phase ≤ held) also T (queue_fits held own)

      pub processor-decides : Decides (row_fits (processor p) phase timer held own) ProcessorKeeps
      unfolding row_fits
      processor-decides =
          reads
          ((below phase 2 and at-most held 64 and alone (itself (unused_clear held own)))
          and alone (itself (is_timer (of_bits binary64 timer)) and at-most (length (take held own)) 64 and itself (every is_content (take held own)) and at-most (length (take held own)) p.queue_capacity
          and alone (itself (not (is_active (working_of phase) && is_empty (take held own))))))
          (λ h. let l = jobs-long h.0.1.0 in (
            h.0.0,
            (
              h.1.0,
              (
                (let m = h.1.1.1.1.0 in omega arith),
                (
                  tells (at-most phase held) (subst T (active-test phase held own h.0.0 (let m = h.0.1.0 in omega arith)) h.1.1.1.1.1),
                  passes (queue-decides held own) (h.0.1.0, (h.1.1.1.0, h.0.1.1)),
                ),
              ),
            ),
          ))
          (λ h. let q = tells (queue-decides held own) h.1.1.1.1 in let l = jobs-long q.0 in let m = q.0 in let few = h.1.1.0 in
          ((h.0, (q.0, q.1.1)), (h.1.0, ((omega arith), (q.1.0, ((omega arith), subst T (sym (active-test phase held own h.0 (omega arith))) (passes (at-most phase held) h.1.1.1.0)))))))

      pub processor-rest : phase ≤ 1 → is_timer (of_bits binary64 timer) ≡ true → held ≤ p.queue_capacity → phase ≤ held → queue_fits held own ≡ row_fits (processor p) phase timer held own
      processor-rest l t m n =
          same_test (queue_fits held own) (row_fits (processor p) phase timer held own)
          (λ q. passes processor-decides (omega arith, (subst T (sym t) tt, (m, (n, q))))) (λ r. (tells processor-decides r).1.1.1.1)

    -- ---- a batcher's
    module _ (m : Batcher) where
      pub batcher-decides : Decides (row_fits (batcher m) phase timer held own) ((phase < 3) also T (is_timer (of_bits binary64 timer)) also T (queue_fits held own))
      unfolding row_fits
      batcher-decides =
          reads
          ((below phase 3 and at-most held 64 and alone (itself (unused_clear held own)))
          and alone (itself (is_timer (of_bits binary64 timer)) and at-most (length (take held own)) 64 and alone (itself (every is_content (take held own)))))
          (λ h. (h.0.0, (h.1.0, passes (queue-decides held own) (h.0.1.0, (h.1.1.1, h.0.1.1)))))
          (λ h. let q = tells (queue-decides held own) h.1.1 in let l = jobs-long q.0 in let n = q.0 in ((h.0, (q.0, q.1.1)), (h.1.0, (omega arith, q.1.0))))

      pub batcher-rest : phase ≤ 2 → is_timer (of_bits binary64 timer) ≡ true → queue_fits held own ≡ row_fits (batcher m) phase timer held own
      batcher-rest l t =
          same_test (queue_fits held own) (row_fits (batcher m) phase timer held own)
          (λ q. passes batcher-decides (omega arith, (subst T (sym t) tt, q))) (λ r. (tells batcher-decides r).1.1)

    -- ---- a Coupled's: any word is a parked message
    parked-fits : (w : ℕ) → w < 2 ^ 64 → T (hold (parked_rules (parked_of w)))
    parked-fits w l =
        whole_of {bs = parked_rules (parked_of w)} (lt→ltb (w / 2 ^ 48) (2 ^ 16) (omega arith) & lt→ltb (w / 2 ^ 32 % 2 ^ 16) (2 ^ 16) (omega arith) & lt→ltb (w % 2 ^ 32) (2 ^ 32) (omega arith) & nil)

    words-in : (n : ℕ) (words : List ℕ) → ((i : ℕ) → get_or words i 0 < 2 ^ 64) → All (λ w. w < 2 ^ 64) (take n words)
    words-in zero words f = nil
    words-in (suc n) [] f = nil
    words-in (suc n) (w ∷ ws) f = f 0 & words-in n ws (λ i. f (suc i))

    module _ (wide : (i : ℕ) → get_or own i 0 < 2 ^ 64) where
      pub coupled-decides : Decides (row_fits coupled phase timer held own) ((phase ≡ 0) also (timer ≡ 0) also (held ≤ 64) also T (unused_clear held own))
      unfolding row_fits
      coupled-decides =
          reads
          ((same phase 0 and same timer 0 and at-most held 64 and alone (itself (unused_clear held own)))
          and alone (at-most (length (map parked_of (take held own))) 64 and alone (itself (every (λ m. hold (parked_rules m)) (map parked_of (take held own))))))
          (λ h. h.0)
          (λ h. let n = length-map (take held own) parked_of in let l = jobs-long h.1.1.0 in let m = h.1.1.0 in
          (h, (omega arith, all-every (λ (m : Parked). hold (parked_rules m)) (all_map {R = λ (m : Parked). T (hold (parked_rules m))} parked_of (words-in held own wide) parked-fits))))

      pub coupled-rest : phase ≡ 0 → timer ≡ 0 → held ≤ 64 → unused_clear held own ≡ row_fits coupled phase timer held own
      coupled-rest a b l =
          same_test (unused_clear held own) (row_fits coupled phase timer held own) (λ u. passes coupled-decides (a, (b, (l, u)))) (λ r. (tells coupled-decides r).1.1.1)

  -- ---- a stopwatch's
  module _ (w : Stopwatch) where
    pub stopwatch-decides : Decides (row_fits (stopwatch w) phase timer held own) ((phase < 2) also T (is_timer (of_bits binary64 timer)) also T (fit_in held own) also T (unused_in held own))
    unfolding row_fits
    stopwatch-decides =
        reads
        ((below phase 2 and itself (fit_in held own) and alone (itself (unused_in held own)))
        and alone (itself (is_timer (of_bits binary64 timer)) and itself (leb (length (jobs_in held own)) 64) and itself (every (λ j. hold (marks_rules j)) (jobs_in held own)) and alone (itself (differ (names (jobs_in held own))))))
        (λ h. (h.0.0, (h.1.0, h.0.1)))
        (λ h. let f = fit-rules held own (is_true (itself (fit_in held own)) h.1.1.0) in
        ((h.0, h.1.1), (h.1.0, (passes (at-most (length (jobs_in held own)) 64) (rw (jobs-length held own) (whole_says held own f.whole).0), (f.rules, f.apart)))))

    pub stopwatch-rest : phase ≤ 1 → is_timer (of_bits binary64 timer) ≡ true → fit_in held own ≡ true → unused_in held own ≡ row_fits (stopwatch w) phase timer held own
    stopwatch-rest l t f =
        same_test (unused_in held own) (row_fits (stopwatch w) phase timer held own)
        (λ u. passes stopwatch-decides (omega arith, (subst T (sym t) tt, (subst T (sym f) tt, u)))) (λ r. (tells stopwatch-decides r).1.1.1)

-- ---- the places of its three columns after the jobs, as they are lent
module _ (held : ℕ) (own : List ℕ) (few : held ≤ 64) (long : length own ≡ 192) where
  starts-clear : T (unused_in held own) → T (clears (part own (64 + held) 128))
  starts-clear u =
      part_of own (64 + held) 128 (omega arith) (omega arith)
      (λ p a b. let e : 64 + (p - 64) ≡ p = omega arith in ap (λ (q : ℕ). get_or own q 0) (sym e) ∙ (unused-says held own u (p - 64) (omega arith) (omega arith)).1)

  stops-clear : T (unused_in held own) → T (clears (part own (128 + held) 192))
  stops-clear u =
      part_of own (128 + held) 192 (omega arith) (omega arith)
      (λ p a b. let e : 128 + (p - 128) ≡ p = omega arith in ap (λ (q : ℕ). get_or own q 0) (sym e) ∙ (unused-says held own u (p - 128) (omega arith) (omega arith)).2)

  pub names-left : clears (part own held 64) ≡ false → unused_in held own ≡ false
  names-left e = is_false (itself (unused_in held own)) (λ u. subst T e (part_of own held 64 few (omega arith) (λ p a b. (unused-says held own u p a b).0)))

  pub starts-left : clears (part own (64 + held) 128) ≡ false → unused_in held own ≡ false
  starts-left e = is_false (itself (unused_in held own)) (λ u. subst T e (starts-clear u))

  pub columns-left : clears (part own held 64) ≡ true → clears (part own (64 + held) 128) ≡ true → clears (part own (128 + held) 192) ≡ unused_in held own
  columns-left e f =
      same_test (clears (part own (128 + held) 192)) (unused_in held own)
      (λ t. unused-is held own few (λ k a b. (part_at own held 64 (subst T (sym e) tt) k a b, part_at own (64 + held) 128 (subst T (sym f) tt) (64 + k) (omega arith) (omega arith), part_at own (128 + held) 192 t (128 + k) (omega arith) (omega arith))))
      stops-clear
