-- General laws: how many pieces a number takes; lists that are joined, and each cut out again. Assumes nothing.
use Rattle.std.specs.Prelude.{ℕ, zero, suc, ◌+◌, ◌-◌, ◌*◌, ◌/◌, ◌≤◌, ◌<◌, ◌≡◌, refl, List, [], ◌∷◌, ◌++◌, map, length, take, drop}
use Rattle.std.proofs.Common.{sym, ap, ◌∙◌, append_assoc, append-nil, le-div_iff_mul-le, mul_comm, mul-suc, mul-zero, add_assoc, add-zero, zero-add, suc-add, le_antisymm, le_refl, arith, length-append, take_all, take_at, drop_at, take-add, drop-drop}
use Rattle.std.proofs.Math.Nat.{mul-add-div, mul-lt-mul_of_pos_left}
use Rattle.std.proofs.Math.Decide.{dec_le}
use Rattle.std.proofs.Math.Seq.{take-nil}
use Rattle.rules.specs.Base.{from}
use Rattle.rules.specs.Ends.{All, nil, ◌&◌}
use Rattle.trace_blocks.specs.WordLaws.{from_parts}
use Rattle.trace_files.specs.Files.{pieces, joined}
use Rattle.trace_files.specs.PieceLaws.{piece_inside, pieces-all}

-- ---- how many pieces: i is below their number where i of them do not hold n (PieceLaws has the other way)
pub pieces-above : (each n i : ℕ) → 1 ≤ each → each * i < n → i < pieces each n
pieces-above each n i pos l =
    let e : suc i * each ≡ each * i + each = mul_comm (suc i) each ∙ mul-suc each i in
    (le-div_iff_mul-le pos).1 (omega arith)

-- and no other number is like that and holds n
pub pieces-only : (each n m : ℕ) → 1 ≤ each → ((i : ℕ) → i < m → each * i < n) → n ≤ each * m → pieces each n ≡ m
pieces-only each n m pos above holds = le_antisymm
    (elim (dec_le (pieces each n) m) [
      | yes l ↦ l
      | no l ↦ (let h = piece_inside each n m pos (omega arith) in absurd (omega arith))
    ])
    (elim (dec_le m (pieces each n)) [
      | yes l ↦ l
      | no l ↦ (let h = above (pieces each n) (omega arith) in let k = pieces-all each n pos in absurd (omega arith))
    ])

pub pieces-both : (each m n : ℕ) → 1 ≤ each → pieces each (each * m + n) ≡ m + pieces each n
pieces-both each m n pos = ap (λ (k : ℕ). k / each) (add_assoc (each * m) n (each - 1)) ∙ mul-add-div pos m (n + (each - 1))

pub pieces-full : (each m : ℕ) → 1 ≤ each → pieces each (each * m) ≡ m
pieces-full each m pos = pieces-only each (each * m) m pos (λ i l. mul-lt-mul_of_pos_left l pos) (le_refl (each * m))

-- ---- what is made of the numbers m + k, m + k + 1, ..
pub map-shift : {A : Type 0} (f : ℕ → A) (m k n : ℕ) → map f (from (m + k) n) ≡ map (λ i. f (m + i)) (from k n)
map-shift f m k zero = refl
map-shift {A} f m k (suc n) =
    let e : suc (m + k) ≡ m + suc k = omega arith in
    ap (λ (z : List A). f (m + k) ∷ z) (ap (λ (j : ℕ). map f (from j n)) e ∙ map-shift f m (suc k) n)

-- ---- lists that are joined
pub joined-append : (xss yss : List (List ℕ)) → joined (xss ++ yss) ≡ joined xss ++ joined yss
joined-append [] yss = refl
joined-append (xs ∷ xss) yss = ap (λ (z : List ℕ). xs ++ z) (joined-append xss yss) ∙ sym (append_assoc xs (joined xss) (joined yss))

pub joined-both : (f : ℕ → List ℕ) (m n : ℕ) → joined (map f (from 0 (m + n))) ≡ joined (map f (from 0 m)) ++ joined (map (λ i. f (m + i)) (from 0 n))
joined-both f m n =
    ap joined (from_parts f 0 m n)
    ∙ joined-append (map f (from 0 m)) (map f (from (0 + m) n))
    ∙ ap (λ (z : List (List ℕ)). joined (map f (from 0 m)) ++ joined z) (ap (λ (j : ℕ). map f (from j n)) start ∙ map-shift f m 0 n)
  where
    start : 0 + m ≡ m + 0
    start = omega arith

-- what is cut out of a list is joined to it again
pub cut-joined : (w : ℕ) (xs : List ℕ) (k n : ℕ) → joined (map (λ i. take w (drop (w * i) xs)) (from k n)) ≡ take (w * n) (drop (w * k) xs)
cut-joined w xs k zero = rw mul-zero
cut-joined w xs k (suc n) =
    let next : drop (w * suc k) xs ≡ drop w (drop (w * k) xs) = ap (λ (j : ℕ). drop j xs) (mul-suc w k) ∙ sym (drop-drop w (w * k) xs) in
    let more : w * suc n ≡ w + w * n = (let e = mul-suc w n in omega arith) in
    ap (λ (z : List ℕ). take w (drop (w * k) xs) ++ z) (cut-joined w xs (suc k) n ∙ ap (λ (z : List ℕ). take (w * n) z) next)
    ∙ sym (ap (λ (j : ℕ). take j (drop (w * k) xs)) more ∙ take-add w (w * n) (drop (w * k) xs))

-- ---- n lists from place k on, all of them as long but the last, which is not longer; none is empty
pub record Even (w : ℕ) (f : ℕ → List ℕ) (k n : ℕ) : Type 0 where
  pub full : (i : ℕ) → k ≤ i → suc i < k + n → length (f i) ≡ w
  pub some : (i : ℕ) → k ≤ i → i < k + n → 0 < length (f i)
  pub most : (i : ℕ) → k ≤ i → i < k + n → length (f i) ≤ w

abbrev even_rest : (w : ℕ) (f : ℕ → List ℕ) (k n : ℕ) → Even w f k (suc n) → Even w f (suc k) n
even_rest w f k n e =
    record {
      full = λ i a b. e.full i (omega arith) (omega arith);
      some = λ i a b. e.some i (omega arith) (omega arith);
      most = λ i a b. e.most i (omega arith) (omega arith);
    }

-- all as long
pub even-same : (w : ℕ) (f : ℕ → List ℕ) (k n : ℕ) → 1 ≤ w → ((i : ℕ) → k ≤ i → i < k + n → length (f i) ≡ w) → Even w f k n
even-same w f k n pos long =
    record {
      full = λ i a b. long i a (omega arith);
      some = λ i a b. omega (arith, long i a b);
      most = λ i a b. omega (arith, long i a b);
    }

-- each is cut out again
pub joined-part : (w : ℕ) (f : ℕ → List ℕ) (k n i : ℕ) → Even w f k n → i < n → take w (drop (w * i) (joined (map f (from k n)))) ≡ f (k + i)
joined-part w f k zero i e l = absurd (omega arith)
joined-part w f k (suc zero) zero e l =
    rw (mul-zero, append-nil, add-zero) (take_all w (f k) (e.most k (le_refl k) (omega arith)))
joined-part w f k (suc zero) (suc i) e l = absurd (omega arith)
joined-part w f k (suc (suc n)) zero e l =
    rw (mul-zero, add-zero) (take_at (f k) (joined (map f (from (suc k) (suc n)))) w (e.full k (le_refl k) (omega arith)))
joined-part w f k (suc (suc n)) (suc i) e l =
    let rest = joined (map f (from (suc k) (suc n))) in
    let more : w * suc i ≡ w + w * i = (let h = mul-suc w i in omega arith) in
    let next : suc k + i ≡ k + suc i = omega arith in
    ap (λ (j : ℕ). take w (drop j (f k ++ rest))) more
    ∙ ap (λ (z : List ℕ). take w z) (sym (drop-drop (w * i) w (f k ++ rest)))
    ∙ ap (λ (z : List ℕ). take w (drop (w * i) z)) (drop_at (f k) rest w (e.full k (le_refl k) (omega arith)))
    ∙ joined-part w f (suc k) (suc n) i (even_rest w f k (suc n) e) (omega arith)
    ∙ ap f next

-- how long they are together
joined-most : (w : ℕ) (f : ℕ → List ℕ) (k n : ℕ) → Even w f k n → length (joined (map f (from k n))) ≤ w * n
joined-most w f k zero e = omega arith
joined-most w f k (suc n) e =
    let h = joined-most w f (suc k) n (even_rest w f k n e) in
    omega (arith, length-append (f k) (joined (map f (from (suc k) n))), mul-suc w n, e.most k (le_refl k) (omega arith))

joined-above : (w : ℕ) (f : ℕ → List ℕ) (k n i : ℕ) → Even w f k n → i < n → w * i < length (joined (map f (from k n)))
joined-above w f k zero i e l = absurd (omega arith)
joined-above w f k (suc n) zero e l = omega (arith, length-append (f k) (joined (map f (from (suc k) n))), mul-zero w, e.some k (le_refl k) (omega arith))
joined-above w f k (suc n) (suc i) e l =
    let h = joined-above w f (suc k) n i (even_rest w f k n e) (omega arith) in
    omega (arith, length-append (f k) (joined (map f (from (suc k) n))), mul-suc w i, e.full k (le_refl k) (omega arith))

pub joined-pieces : (w : ℕ) (f : ℕ → List ℕ) (k n : ℕ) → 1 ≤ w → Even w f k n → pieces w (length (joined (map f (from k n)))) ≡ n
joined-pieces w f k n pos e = pieces-only w (length (joined (map f (from k n)))) n pos (λ i l. joined-above w f k n i e l) (joined-most w f k n e)

-- ---- what holds of all holds of a part
pub all_take : {A : Type 0} {P : A → Type 0} (n : ℕ) {xs : List A} → All P xs → All P (take n xs)
all_take zero p = nil
all_take (suc n) nil = nil
all_take (suc n) (h & p) = h & all_take n p

pub all_drop : {A : Type 0} {P : A → Type 0} (n : ℕ) {xs : List A} → All P xs → All P (drop n xs)
all_drop zero p = p
all_drop (suc n) nil = nil
all_drop (suc n) (h & p) = all_drop n p

-- ---- a part of a part
pub drop-take : {A : Type 0} (m n : ℕ) (xs : List A) → drop m (take (m + n) xs) ≡ take n (drop m xs)
drop-take zero n xs = ap (λ (k : ℕ). take k xs) (zero-add n)
drop-take (suc m) n [] = ap (drop (suc m)) (take-nil (suc m + n)) ∙ sym (take-nil n)
drop-take (suc m) n (x ∷ xs) = ap (λ (k : ℕ). drop (suc m) (take k (x ∷ xs))) (suc-add m n) ∙ drop-take m n xs
