-- Words copied one by one; messages copied as words are messages laid down, and a buffer stays as long as it was. Assumes nothing.
use Rattle.std.specs.Prelude.{ℕ, zero, suc, ◌+◌, ◌-◌, ◌*◌, ◌≤◌, ◌<◌, ◌≡◌, refl, List, [], ◌∷◌, ◌++◌, map, length, get_or, set, take, drop, T}
use Rattle.std.proofs.Common.{sym, ap, ◌∙◌, zero-add, le_of_eq, add-one, arith, length-append, length-drop, take_all, get_or-drop, drop-cons, drop-drop, take-add}
use Rattle.std.proofs.Math.Seq.{paste-suc}
use Rattle.std.specs.Float.{binary64}
use Rattle.std.specs.Float.Ieee.{of_bits, to_bits}
use Rattle.times.specs.Time.{is_time}
use Rattle.times.proofs.Laws.{timer-clear, time-timer}
use Rattle.times.proofs.Patterns.{clear-bits}
use Rattle.rules.specs.declared.Message.{Message}
use Rattle.rules.specs.Base.{from}
use Rattle.rules.specs.Ends.{All, ◌&◌, parts}
use Rattle.rules.specs.Valid.{message_rules}
use Rattle.rules.proofs.Worlds.{MessageFits}
use Rattle.rules.specs.Layout.{message_width, written, written_all, laid_down}
use Rattle.memory.specs.Words.{word_at}
use Rattle.views.specs.Messages.{message_in, messages_in}
use Rattle.views.specs.MessageLaws.{messages-long}
use Rattle.copying.specs.Copied.{copied}

-- ---- the words from a place to the end, as they are lent
pub to_end : (start : ℕ) (words : List ℕ) → take (length words - start) (drop start words) ≡ drop start words
to_end start words = take_all (length words - start) (drop start words) (le_of_eq (length-drop start words))

-- ---- one word more
pub copied_more : (start k : ℕ) (src dst : List ℕ) → start + k < length src → k < length dst → set (copied start k src dst) k (get_or src (start + k) 0) ≡ copied start (k + 1) src dst
copied_more start k src dst l m =
    let in_dst : 0 + k < length dst = omega arith in
    let in_src : k < length (drop start src) = rw (length-drop start src) (omega arith) in
    rw (← get_or-drop start src k 0, add-one) (simp zero-add at (paste-suc dst 0 (drop start src) k 0 in_dst in_src))

-- ---- the six words of a message that stands at p
module _ (mem : List ℕ) where
  next_word : (n p q : ℕ) → p < length mem → suc p ≡ q → take (suc n) (drop p mem) ≡ word_at mem p ∷ take n (drop q mem)
  next_word n p q l e = rw (drop-cons mem p 0 l, e)

  abbrev after : ℕ → List ℕ → List ℕ
  after p words = word_at mem p ∷ words

  six-words : (p : ℕ) → p + 6 ≤ length mem → take 6 (drop p mem) ≡ word_at mem p ∷ word_at mem (p + 1) ∷ word_at mem (p + 2) ∷ word_at mem (p + 3) ∷ word_at mem (p + 4) ∷ word_at mem (p + 5) ∷ []
  six-words p room =
      next_word 5 p (p + 1) (omega arith) (omega arith)
      ∙ ap (after p) (next_word 4 (p + 1) (p + 2) (omega arith) (omega arith)
      ∙ ap (after (p + 1)) (next_word 3 (p + 2) (p + 3) (omega arith) (omega arith)
      ∙ ap (after (p + 2)) (next_word 2 (p + 3) (p + 4) (omega arith) (omega arith)
      ∙ ap (after (p + 3)) (next_word 1 (p + 4) (p + 5) (omega arith) (omega arith)
      ∙ ap (after (p + 4)) (next_word 0 (p + 5) (p + 6) (omega arith) (omega arith))))))

-- the bits of a time are those that it was read from
time-kept : (b : ℕ) → T (is_time (of_bits binary64 b)) → to_bits binary64 (of_bits binary64 b) ≡ b
time-kept b t = clear-bits b (timer-clear (of_bits binary64 b) (time-timer (of_bits binary64 b) t))

message-time : (m : Message) → MessageFits m → T (is_time m.time)
message-time m h = by (parts (message_rules m) h)
  where
    by : All T (message_rules m) → T (is_time m.time)
    by (a & b & c & d & time & f) = time

-- ---- messages written out are the words that they were read from
module _ (at : ℕ) (mem : List ℕ) where
  one_written : (k : ℕ) → at + k * 6 + 6 ≤ length mem → MessageFits (message_in at mem k) → written (message_in at mem k) ≡ take 6 (drop (at + k * 6) mem)
  unfolding written
  one_written k room fits = rw (time-kept (word_at mem (at + k * 6 + 4)) (message-time (message_in at mem k) fits)) (sym (six-words mem (at + k * 6) room))

  all-written : (k n : ℕ) → at + k * 6 + n * 6 ≤ length mem → All MessageFits (map (message_in at mem) (from k n)) → written_all (map (message_in at mem) (from k n)) ≡ take (n * 6) (drop (at + k * 6) mem)
  all-written k zero room fits = refl
  all-written k (suc n) room (h & fits) =
      let words : 6 + n * 6 ≡ suc n * 6 = omega arith in
      let place : at + k * 6 + 6 ≡ at + suc k * 6 = omega arith in
      (λ i. one_written k (omega arith) h i ++ all-written (suc k) n (omega arith) fits i)
      ∙ ap (λ (p : ℕ). take 6 (drop (at + k * 6) mem) ++ take (n * 6) (drop p mem)) (sym place)
      ∙ ap (λ (rest : List ℕ). take 6 (drop (at + k * 6) mem) ++ take (n * 6) rest) (sym (drop-drop 6 (at + k * 6) mem))
      ∙ sym (take-add 6 (n * 6) (drop (at + k * 6) mem))
      ∙ ap (λ (m : ℕ). take m (drop (at + k * 6) mem)) words

  pub messages-written : (n : ℕ) → at + n * 6 ≤ length mem → All MessageFits (messages_in at n mem) → written_all (messages_in at n mem) ≡ take (n * 6) (drop at mem)
  messages-written n room fits =
      let place : at + 0 * 6 ≡ at = omega arith in
      all-written 0 n (omega arith) fits ∙ ap (λ (p : ℕ). take (n * 6) (drop p mem)) place

  pub laid-copied : (n : ℕ) (buffer : List ℕ) → at + n * 6 ≤ length mem → All MessageFits (messages_in at n mem) → copied at (n * 6) mem buffer ≡ laid_down (messages_in at n mem) buffer
  laid-copied n buffer room fits =
      let words : n * 6 ≡ message_width * length (messages_in at n mem) = omega (arith, messages-long at n mem) in
      λ i. sym (messages-written n room fits) i ++ drop (words i) buffer

-- ---- messages laid down leave a buffer as long as it was
pub written-long : (rows : List Message) → length (written_all rows) ≡ message_width * length rows
unfolding written
written-long [] = refl
written-long (m ∷ ms) = let h = written-long ms in omega (arith, length-append (written m) (written_all ms))

pub laid-long : (rows : List Message) (buffer : List ℕ) → message_width * length rows ≤ length buffer → length (laid_down rows buffer) ≡ length buffer
laid-long rows buffer room =
    let rest = drop (message_width * length rows) buffer in
    omega (arith, length-append (written_all rows) rest, written-long rows, length-drop (message_width * length rows) buffer)
