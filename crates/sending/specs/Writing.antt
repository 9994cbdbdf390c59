-- Six words, written one after the other, replace as many. Assumes nothing.
use Rattle.std.specs.Prelude.{ℕ, suc, ◌+◌, ◌≤◌, ◌≡◌, List, [], ◌∷◌, length, set, take, drop}
use Rattle.std.proofs.Common.{◌∙◌, append_assoc, arith}
use Rattle.std.proofs.lemmas.List.Edits.{sets-eq}
use Rattle.memory.specs.Words.{replaced}

pub six-written : (at a b c d e f : ℕ) (mem : List ℕ) → at + 6 ≤ length mem
    → set (set (set (set (set (set mem at a) (at + 1) b) (at + 2) c) (at + 3) d) (at + 4) e) (at + 5) f ≡ replaced at 6 (a ∷ b ∷ c ∷ d ∷ e ∷ f ∷ []) mem
six-written at a b c d e f mem room =
    let words = a ∷ b ∷ c ∷ d ∷ e ∷ f ∷ [] in
    let one : at + 1 ≡ suc at = omega arith in
    let two : at + 2 ≡ suc (suc at) = omega arith in
    let three : at + 3 ≡ suc (suc (suc at)) = omega arith in
    let four : at + 4 ≡ suc (suc (suc (suc at))) = omega arith in
    let five : at + 5 ≡ suc (suc (suc (suc (suc at)))) = omega arith in
    rw (one, two, three, four, five) (sets-eq words mem at room ∙ append_assoc (take at mem) words (drop (at + 6) mem))
