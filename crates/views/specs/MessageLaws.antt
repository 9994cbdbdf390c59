-- Messages in words: how many, one more at their end, and that they are as they were where their words are. Assumes nothing.
use Rattle.std.specs.Prelude.{ℕ, zero, suc, ◌+◌, ◌*◌, ◌≤◌, ◌<◌, ◌≡◌, refl, List, [], ◌∷◌, ◌++◌, map, length, drop}
use Rattle.std.proofs.Common.{sym, ap, ◌∙◌, inl, add-zero, zero-add, add-one, arith, drop-cons, get_or-take, get_or-drop}
use Rattle.std.specs.Float.{binary64}
use Rattle.std.specs.Float.Ieee.{of_bits}
use Rattle.rules.specs.Base.{from}
use Rattle.rules.specs.Step.{Out}
use Rattle.words.specs.Lists.{length-lines, map-from, map_last}
use Rattle.memory.specs.Words.{word_at, replaced}
use Rattle.memory.specs.View.{out_of, outs_in}
use Rattle.memory.specs.Places.{replaced-own, replaced-other}
use Rattle.views.specs.Messages.{message_in, messages_in}

-- ---- the active messages
pub messages-long : (at n : ℕ) (mem : List ℕ) → length (messages_in at n mem) ≡ n
messages-long at n mem = length-lines (message_in at mem) n

pub messages-last : (at n : ℕ) (mem : List ℕ) → messages_in at (n + 1) mem ≡ messages_in at n mem ++ message_in at mem n ∷ []
messages-last at n mem = rw (add-one n, map_last (message_in at mem) 0 n, zero-add)

pub messages-same : (at n : ℕ) (mem after : List ℕ) → ((p : ℕ) → at ≤ p → p < at + n * 6 → word_at after p ≡ word_at mem p) → messages_in at n after ≡ messages_in at n mem
messages-same at n mem after same = map-from (message_in at after) (message_in at mem) 0 n (λ k low below. λ i. record {
  source_id = same (at + k * 6) (omega arith) (omega arith) i;
  source_port = same (at + k * 6 + 1) (omega arith) (omega arith) i;
  target_id = same (at + k * 6 + 2) (omega arith) (omega arith) i;
  target_port = same (at + k * 6 + 3) (omega arith) (omega arith) i;
  time = of_bits binary64 (same (at + k * 6 + 4) (omega arith) (omega arith) i);
  content = same (at + k * 6 + 5) (omega arith) (omega arith) i;
})

-- ---- the messages put out, each by its word
pub outs-read : (at k : ℕ) (mem : List ℕ) → at + k ≤ length mem → outs_in at k mem ≡ map (λ x. out_of (word_at mem (at + x))) (from 0 k)
outs-read at k mem room = ap (λ (b : ℕ). outs_in b k mem) (sym (add-zero at)) ∙ go 0 k (omega arith)
  where
    go : (x n : ℕ) → at + x + n ≤ length mem → outs_in (at + x) n mem ≡ map (λ x. out_of (word_at mem (at + x))) (from x n)
    go x zero room = refl
    go x (suc n) room =
        let e : suc (at + x) ≡ at + suc x = omega arith in
        let l : at + x < length mem = omega arith in
        rw (drop-cons mem (at + x) 0 l, e) (ap (λ (os : List Out). out_of (word_at mem (at + x)) ∷ os) (go (suc x) n (omega arith)))

-- ---- six words written after n messages are one more
module _ (at n : ℕ) (words mem : List ℕ) (long : length words ≡ 6) (room : at + n * 6 + 6 ≤ length mem) where
  abbrev after : List ℕ
  after = replaced (at + n * 6) 6 words mem

  -- a word of them
  written : (k : ℕ) → k < 6 → word_at after (at + n * 6 + k) ≡ word_at words k
  written k l =
      sym (get_or-take 6 (drop (at + n * 6) after) k 0 l ∙ get_or-drop (at + n * 6) after k 0)
      ∙ ap (λ (own : List ℕ). word_at own k) (replaced-own (at + n * 6) 6 words mem room long)

  last-is : message_in at after n ≡ message_in 0 words 0
  last-is = λ i. record {
    source_id = (ap (word_at after) (sym (add-zero (at + n * 6))) ∙ written 0 (omega arith)) i;
    source_port = written 1 (omega arith) i;
    target_id = written 2 (omega arith) i;
    target_port = written 3 (omega arith) i;
    time = of_bits binary64 (written 4 (omega arith) i);
    content = written 5 (omega arith) i;
  }

  pub message-written : messages_in at (n + 1) (replaced (at + n * 6) 6 words mem) ≡ messages_in at n mem ++ message_in 0 words 0 ∷ []
  message-written =
      messages-last at n after
      ∙ (λ i. messages-same at n mem after (λ p low below. replaced-other (at + n * 6) 6 words mem room long p (inl below)) i ++ last-is i ∷ [])
