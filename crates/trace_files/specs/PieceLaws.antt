-- How many pieces it takes to hold n, at so many apiece: by what is left over, never more than n, what stands before and in the last, and that a common width cancels. Assumes nothing.
use Rattle.std.specs.Prelude.{ℕ, zero, suc, ◌+◌, ◌-◌, ◌*◌, ◌/◌, ◌%◌, ◌≤◌, ◌<◌, min, ◌≡◌, refl}
use Rattle.std.proofs.Common.{sym, ap, ◌∙◌, mod-lt, div-add-mod', div-mul-le_self, le-div_iff_mul-le, arith}
use Rattle.std.proofs.Math.Nat.{lt-div-mul-add, div-eq_of_lt, div-eq_of_lt-le, div-div-eq-div-mul, mul-add-div_right}
use Rattle.trace_files.specs.Files.{pieces}

pub pieces-even : (each n : ℕ) → 1 ≤ each → n % each ≡ 0 → pieces each n ≡ n / each
pieces-even each n l e = let h = div-add-mod' n each in div-eq_of_lt-le each (omega arith) (omega arith)

pub pieces-over : (each n : ℕ) → 1 ≤ each → (n % each ≡ 0 → ⊥) → pieces each n ≡ n / each + 1
pieces-over each n l e =
    let h = div-add-mod' n each in
    let m : n % each < each = mod-lt n l in
    div-eq_of_lt-le each (omega arith) (omega arith)

-- by the quotient rounded up
pub pieces-ceil : (each n : ℕ) → 1 ≤ each → n / each + min 1 (n % each) ≡ pieces each n
pieces-ceil each n l = go (n % each) refl
  where
    go : (r : ℕ) → n % each ≡ r → n / each + min 1 (n % each) ≡ pieces each n
    go zero e = omega (arith, pieces-even each n l e)
    go (suc r) e = omega (arith, pieces-over each n l (λ z. omega arith))

pub pieces-most : (each n : ℕ) → 1 ≤ each → pieces each n ≤ n
pieces-most zero n l = absurd (omega arith)
pieces-most (suc e) n l = go (pieces (suc e) n) (div-mul-le_self (n + (suc e - 1)) (suc e))
  where
    go : (p : ℕ) → p * suc e ≤ n + (suc e - 1) → p ≤ n
    go zero h = omega arith
    go (suc p) h = omega arith

-- ---- a piece that is one of them begins inside; all of them hold all
pub piece_inside : (each n i : ℕ) → 1 ≤ each → i < pieces each n → each * i < n
piece_inside each n i l h = let k : suc i * each ≤ n + (each - 1) = (le-div_iff_mul-le l).0 h in omega arith

pub pieces-all : (each n : ℕ) → 1 ≤ each → n ≤ each * pieces each n
pieces-all each n l = let h : n + (each - 1) < pieces each n * each + each = lt-div-mul-add l in omega arith

-- ---- rows of the same width, counted as rows and as numbers
pub pieces-wide : (width most count : ℕ) → 1 ≤ width → 1 ≤ most → pieces (width * most) (count * width) ≡ pieces most count
pieces-wide zero most count l m = absurd (omega arith)
pieces-wide (suc a) zero count l m = absurd (omega arith)
pieces-wide (suc a) (suc b) count l m =
    let w = suc a in
    let one : suc b - 1 ≡ b = omega arith in
    let full : w * suc b ≡ suc (a * b + a + b) = omega arith in
    let most : w * suc b - 1 ≡ a * b + a + b = omega arith in
    let e : count * w + (a * b + a + b) ≡ (count + b) * w + a = omega arith in
    let rest : a / w ≡ 0 = div-eq_of_lt (omega arith) in
    let whole : (count + b) + a / w ≡ count + (suc b - 1) = omega arith in
    ap (λ (k : ℕ). (count * w + k) / (w * suc b)) most
    ∙ ap (λ (k : ℕ). k / (w * suc b)) e
    ∙ sym (div-div-eq-div-mul ((count + b) * w + a) w (suc b))
    ∙ ap (λ (k : ℕ). k / suc b) (mul-add-div_right l (count + b) a ∙ whole)
