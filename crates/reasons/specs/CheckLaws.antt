-- Rules looked at one after the other: the reason that is named is one of a rule that is broken, or all are kept. Assumes nothing.
use Rattle.std.specs.Prelude.{Option, ℕ, zero, suc, ◌+◌, ◌≤◌, ◌<◌, ◌^◌, ◌≡◌, refl, Bool, true, false, List, [], ◌∷◌, if◌then◌else◌, Some}
use Rattle.std.proofs.Common.{arith, ltb-false}
use Rattle.rules.specs.Layout.{cell}
use Rattle.rules.specs.Ends.{All, nil, ◌&◌}
use Rattle.reasons.specs.declared.Reason.{Reason}
use Rattle.reasons.specs.Checks.{Check, first_broken, widths}
use Rattle.reasons.specs.Breaks.{Wide}

-- where the rule is broken, P holds of its reason
abbrev pub Fails : (Option Reason → Type 0) → Check → Type 0
Fails P c = c.kept ≡ false → P (Some c.reason)

abbrev pub Kept : Check → Type 0
Kept c = c.kept ≡ true

module _ (P : Option Reason → Type 0) where
  pub named : (cs : List Check) (rest : Option Reason) → All (Fails P) cs → (All Kept cs → P rest) → P (first_broken cs rest)
  named [] rest nil f = f nil
  named (c ∷ cs) rest (h & p) f = go c.kept refl (named cs rest p)
    where
      go : (b : Bool) → c.kept ≡ b → ((All Kept cs → P rest) → P (first_broken cs rest)) → P (if b then first_broken cs rest else Some c.reason)
      go true e later = later (λ q. f (e & q))
      go false e later = h e

  -- words that are ids or ports
  pub wide-named : (wide : ℕ → Reason) (row : List ℕ) (c n : ℕ) → ((j : ℕ) → c ≤ j → j < c + n → Wide row j → P (Some (wide j))) → All (Fails P) (widths wide row c n)
  wide-named wide row c zero f = nil
  wide-named wide row c (suc n) f =
      (λ e. f c (omega arith) (omega arith) (ltb-false (cell row c) (2 ^ 16) e)) & wide-named wide row (suc c) n (λ j a b. f j (omega arith) (omega arith))
