-- What was read of a row: its parent, and a Processor whose ports fit. Assumes nothing.
use Rattle.std.specs.Prelude.{ℕ, ◌<◌, ◌^◌, ◌≡◌, refl, Bool, true, false, List, [], ◌∷◌, if◌then◌else◌, Option, None, Some}
use Rattle.std.proofs.Common.{sym, ap, ◌∙◌, lt-ltb}
use Rattle.std.proofs.lemmas.Bool.{false≢true}
use Rattle.rules.specs.Sizes.{is_port, is_word, omitted_capacity}
use Rattle.rules.specs.Base.{hold}
use Rattle.rules.specs.Layout.{cell, is_given, capacity_in, kind_in}
use Rattle.table.specs.Readers.{kind_of, parent_of}
use Rattle.table.specs.Judging.{option_of, is_kind, cells_fit}
use Rattle.rules.specs.Ends.{one}

pub parent-back : {p : Option ℕ} (o : Option ℕ) → p ≡ parent_of o → o ≡ option_of p
parent-back None e = sym (ap option_of e)
parent-back (Some id) e = sym (ap option_of e)

module _ (row : List ℕ) (ports : cells_fit row 4 8 ≡ true) (setting : cell row 8 < 2 ^ 64) where
  capacity-fits : is_word (capacity_in row) ≡ true
  capacity-fits = by (is_given 2 row)
    where
      by : (given : Bool) → is_word (if given then cell row 8 else omitted_capacity) ≡ true
      by true = lt-ltb (cell row 8) (2 ^ 64) setting
      by false = refl

  both-ports : (p q r s : Bool) → hold (p ∷ q ∷ r ∷ s ∷ []) ≡ true → (p ≡ true) × (s ≡ true)
  both-ports true true true s h = (refl, sym (one s) ∙ h)
  both-ports true true false s h = absurd (false≢true h)
  both-ports true false r s h = absurd (false≢true h)
  both-ports false q r s h = absurd (false≢true h)

  pub processor-fits : cell row 1 ≡ 1 → is_kind (kind_of (kind_in row)) ≡ true
  unfolding cells_fit
  processor-fits e =
      let p = both-ports (is_port (cell row 4)) (is_port (cell row 5)) (is_port (cell row 6)) (is_port (cell row 7)) ports in
      rw (e, p.0, p.1, capacity-fits)
