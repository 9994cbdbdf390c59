-- General laws of lists: how long a part is; and what is made of each of the numbers k, k + 1, ..: how many there are, each by its place, two that are alike, and the last. Assumes nothing.
use Rattle.std.specs.Prelude.{ℕ, zero, suc, ◌+◌, ◌≤◌, ◌<◌, ◌≡◌, refl, List, [], ◌∷◌, ◌++◌, map, length, get_or, take, drop}
use Rattle.std.proofs.Common.{ap, ◌∙◌, add-zero, arith, length-drop, length-take-le}
use Rattle.std.proofs.lemmas.List.{length-map}
use Rattle.rules.specs.Base.{from}

-- ---- a part that is there has its width
pub part_length : (b width : ℕ) (words : List ℕ) → b + width ≤ length words → length (take width (drop b words)) ≡ width
part_length b width words room = length-take-le width (drop b words) (rw (length-drop b words) (omega arith))

-- ---- what is made of each of the numbers k, k + 1, ..
pub length_from : (k n : ℕ) → length (from k n) ≡ n
length_from k zero = refl
length_from k (suc n) = ap suc (length_from (suc k) n)

pub length-lines : {A : Type 0} (f : ℕ → A) (n : ℕ) → length (map f (from 0 n)) ≡ n
length-lines f n = length-map (from 0 n) f ∙ length_from 0 n

pub get_d-from : {A : Type 0} (f : ℕ → A) (d : A) (k n i : ℕ) → i < n → get_or (map f (from k n)) i d ≡ f (k + i)
get_d-from f d k zero i l = absurd (omega arith)
get_d-from f d k (suc n) zero l = rw add-zero
get_d-from f d k (suc n) (suc i) l = let e : suc k + i ≡ k + suc i = omega arith in get_d-from f d (suc k) n i (omega arith) ∙ ap f e

pub map-from : {A : Type 0} (f g : ℕ → A) (k n : ℕ) → ((j : ℕ) → k ≤ j → j < k + n → f j ≡ g j) → map f (from k n) ≡ map g (from k n)
map-from f g k zero e = refl
map-from f g k (suc n) e = rw (e k (omega arith) (omega arith), map-from f g (suc k) n (λ j a b. e j (omega arith) (omega arith)))

pub map_last : {A : Type 0} (f : ℕ → A) (k n : ℕ) → map f (from k (suc n)) ≡ map f (from k n) ++ f (k + n) ∷ []
map_last f k zero = let e : k ≡ k + 0 = omega arith in ap (λ j. f j ∷ []) e
map_last f k (suc n) =
    let e : suc k + n ≡ k + suc n = omega arith in
    ap (λ ys. f k ∷ ys) (map_last f (suc k) n ∙ ap (λ j. map f (from (suc k) n) ++ f j ∷ []) e)
