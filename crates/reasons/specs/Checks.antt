-- Rules looked at one after the other, and the reason of the first that is broken. Assumes nothing.
use Rattle.std.specs.Prelude.{Option, ℕ, Bool, not, List, [], ◌∷◌, map, if◌then◌else◌, Some}
use Rattle.rules.specs.Sizes.{is_port}
use Rattle.rules.specs.Base.{from}
use Rattle.rules.specs.Layout.{cell}
use Rattle.words.specs.Search.{first_from}
use Rattle.reasons.specs.declared.Reason.{Reason}

infix 68 ◌or◌
-- a rule: whether it is kept, and the reason where it is not
pub record Check : Type 0 where
  pub kept : Bool
  pub reason : Reason

abbrev pub ◌or◌ : Bool → Reason → Check
kept or reason = record { kept = kept; reason = reason }

-- the reason of the first that is broken, or what is said of the rest
abbrev pub first_broken : List Check → Option Reason → Option Reason
first_broken [] rest = rest
first_broken (c ∷ cs) rest = if c.kept then first_broken cs rest else Some c.reason

-- n words of a row, from the word c on, are ids or ports
abbrev pub widths : (ℕ → Reason) → List ℕ → ℕ → ℕ → List Check
widths wide row c n = map (λ k. is_port (cell row k) or wide k) (from c n)

-- the first of them that is not
abbrev pub first_wide : List ℕ → ℕ → ℕ → Option ℕ
first_wide row c n = first_from (λ k. not (is_port (cell row k))) c n
