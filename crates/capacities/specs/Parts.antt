-- A part of some words replaced (memory, Places.antt): the words up to its end, and those behind it. Assumes nothing.
use Rattle.std.specs.Prelude.{ℕ, ◌+◌, ◌-◌, ◌≤◌, ◌≡◌, List, ◌++◌, length, take, drop}
use Rattle.std.proofs.Common.{sym, ap, ◌∙◌, append_assoc, arith, length-append, length-take-le, take_at, drop-drop}
use Rattle.std.proofs.Math.Seq.{drop-append-add}
use Rattle.memory.specs.Words.{replaced}

module _ (b width : ℕ) (words mem : List ℕ) (room : b + width ≤ length mem) (long : length words ≡ width) where
  joint : length (take b mem ++ words) ≡ b + width
  joint = let a = length-append (take b mem) words in let f = length-take-le b mem (omega arith) in omega arith

  regrouped : replaced b width words mem ≡ (take b mem ++ words) ++ drop (b + width) mem
  regrouped = sym (append_assoc (take b mem) words (drop (b + width) mem))

  pub replaced-front : take (b + width) (replaced b width words mem) ≡ take b mem ++ words
  replaced-front = ap (take (b + width)) regrouped ∙ take_at (take b mem ++ words) (drop (b + width) mem) (b + width) joint

  pub replaced-behind : (place : ℕ) → b + width ≤ place → drop place (replaced b width words mem) ≡ drop place mem
  replaced-behind place l =
      let k = place - (b + width) in
      let e : place ≡ b + width + k = omega arith in
      ap (drop place) regrouped
      ∙ ap (λ (n : ℕ). drop n ((take b mem ++ words) ++ drop (b + width) mem)) (e ∙ ap (λ (n : ℕ). n + k) (sym joint))
      ∙ drop-append-add (take b mem ++ words) (drop (b + width) mem) k
      ∙ drop-drop k (b + width) mem
      ∙ ap (λ (n : ℕ). drop n mem) (sym e)
