-- A list that may have so many, appended one at a time: one law for what is parked, put out and sent. Assumes nothing.
use Rattle.std.specs.Prelude.{ℕ, ◌≤◌, ◌<◌, ◌≡◌, List, [], ◌∷◌, ◌++◌, length}
use Rattle.std.proofs.Common.{sym, ap, ◌∙◌, append_assoc, append-nil, arith, length-append, le-leb}
use Rattle.std.proofs.Math.Decide.{dec_le}
use Rattle.std.proofs.lemmas.Bool.{lt-leb}
use Rattle.rules.specs.declared.Refusal.{Refusal}
use Rattle.rules.specs.Base.{Outcome, refused, done, ◌>>=◌, each, at_most}

module _ {A : Type 0} (most : ℕ) (r : Refusal) where
  pub few-enough : (xs : List A) → length xs ≤ most → at_most most r xs ≡ done xs
  few-enough xs h = rw (le-leb (length xs) most h)

  pub too_many : (xs : List A) → most < length xs → at_most most r xs ≡ refused r
  too_many xs h = rw (lt-leb (length xs) most h)

  -- one more
  abbrev pub one_more : A → List A → Outcome (List A)
  one_more y zs = at_most most r (zs ++ y ∷ [])

  pub appended : (ys xs : List A) → length xs ≤ most → each one_more ys xs ≡ at_most most r (xs ++ ys)
  appended [] xs h = sym (ap (at_most most r) (append-nil xs) ∙ few-enough xs h)
  appended (y ∷ ys) xs h = elim (dec_le (length (xs ++ y ∷ [])) most) [
    | yes l ↦
        ap (λ (o : Outcome (List A)). o >>= each one_more ys) (few-enough (xs ++ y ∷ []) l)
        ∙ appended ys (xs ++ y ∷ []) l
        ∙ ap (at_most most r) (append_assoc xs (y ∷ []) ys)
    | no l ↦
        ap (λ (o : Outcome (List A)). o >>= each one_more ys) (too_many (xs ++ y ∷ []) (omega arith))
        ∙ sym (too_many (xs ++ y ∷ ys) (let a = length-append xs (y ∷ ys) in let b = length-append xs (y ∷ []) in omega arith))
  ]
