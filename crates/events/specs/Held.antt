-- What a queue's length tells of it, and what a test tells of a list of tests. Assumes nothing.
use Rattle.std.specs.Prelude.{◌≡◌, refl, Bool, true, false, ◌&&◌, List, [], ◌∷◌, ◌++◌, ℕ, suc, ◌+◌, length}
use Rattle.std.proofs.Common.{arith, length-append}
use Rattle.rules.specs.Base.{is_empty, hold}

pub none-held : {A : Type 0} (queue : List A) → length queue ≡ 0 → queue ≡ []
none-held [] e = refl
none-held (x ∷ xs) e = let z : suc (length xs) ≡ 0 = e in absurd (omega arith)

pub some-held : {A : Type 0} (queue : List A) → (length queue ≡ 0 → ⊥) → is_empty queue ≡ false
some-held [] e = absurd (e refl)
some-held (x ∷ xs) e = refl

pub one_more : (queue : List ℕ) (job n : ℕ) → length queue ≡ n → length (queue ++ job ∷ []) ≡ n + 1
one_more queue job n e = simp length-append (omega arith)

-- ---- tests
pub both_false : (b : Bool) → (b && false) ≡ false
both_false true = refl
both_false false = refl

pub last-test : (b : Bool) → b ≡ hold (hold (b ∷ []) ∷ [])
last-test true = refl
last-test false = refl
