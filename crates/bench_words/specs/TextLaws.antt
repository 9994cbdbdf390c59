-- The laws of the comparison of a word with a text, byte by byte. Assumes nothing.
use Rattle.std.specs.Prelude.{ℕ, suc, ◌+◌, ◌≤◌, ◌<◌, ◌≡◌, refl, Bool, true, false, ◌&&◌, List, [], ◌∷◌, eqb, length, get_or, drop, if◌then◌else◌}
use Rattle.std.proofs.Common.{ap, add-one}
use borrow.Author.Tests.{eq-eqb, ne_eqb}
use lib.Pointwise.{pointwise}
use Rattle.std.proofs.Math.ListN.{drop_of_length-le}
use Rattle.std.proofs.Math.Seq.{drop-cons}
use Rattle.bench_words.specs.Texts.{same}

-- what `==` says of two slices
pub pointwise-same : (xs ys : List ℕ) → pointwise eqb xs ys ≡ same xs ys
unfolding same
pointwise-same [] [] = refl
pointwise-same [] (y ∷ ys) = refl
pointwise-same (x ∷ xs) [] = refl
pointwise-same (x ∷ xs) (y ∷ ys) = both (eqb x y) (pointwise-same xs ys)
  where
    both : (t : Bool) {u v : Bool} → u ≡ v → t && u ≡ (if t then v else false)
    both true e = e
    both false e = refl

if-false : (t : Bool) → (if t then false else false) ≡ false
if-false true = refl
if-false false = refl

-- words of different lengths differ
pub same_length : (xs ys : List ℕ) → (length xs ≡ length ys → ⊥) → same xs ys ≡ false
unfolding same
same_length [] [] h = absurd (h refl)
same_length [] (y ∷ ys) h = refl
same_length (x ∷ xs) [] h = refl
same_length (x ∷ xs) (y ∷ ys) h = rw (same_length xs ys (λ e. h (ap suc e)), if-false (eqb x y))

-- the steps of a comparison
module _ (xs ys : List ℕ) (at : ℕ) where
  pub same_end : length xs ≤ at → length ys ≤ at → same (drop at xs) (drop at ys) ≡ true
  unfolding same
  same_end h k = rw (drop_of_length-le xs h, drop_of_length-le ys k)

  module _ (h : at < length xs) (k : at < length ys) where
    pub same_not : (get_or xs at 0 ≡ get_or ys at 0 → ⊥) → same (drop at xs) (drop at ys) ≡ false
    unfolding same
    same_not differ = rw (drop-cons xs at 0 h, drop-cons ys at 0 k, ne_eqb _ _ differ)

    pub same_more : get_or xs at 0 ≡ get_or ys at 0 → same (drop at xs) (drop at ys) ≡ same (drop (at + 1) xs) (drop (at + 1) ys)
    unfolding same
    same_more e = rw (drop-cons xs at 0 h, drop-cons ys at 0 k, eq-eqb _ _ e, add-one)
