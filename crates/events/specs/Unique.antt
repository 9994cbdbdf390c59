-- An answer is told by its meaning, and there is a queue of every length: so a contract over every queue is met by one answer alone. Assumes nothing.
use Rattle.std.specs.Prelude.{ℕ, zero, suc, ◌≤◌, ◌≡◌, refl, List, [], ◌∷◌, length, take, T, Err, Ok, Result}
use Rattle.rules.specs.declared.Refusal.{Refusal}
use Rattle.std.proofs.Common.{arith, sym, ap, ◌∙◌, length-take-le}
use Rattle.rules.specs.Sizes.{is_content}
use Rattle.rules.specs.Base.{Outcome, refused, done, every}
use Rattle.rules.specs.Models as Models
use Rattle.rules.specs.Models.{Fate}
use Rattle.events.specs.declared.Taken.{Taken}
use Rattle.events.specs.declared.Taken.TheVariants as taken
use Rattle.events.specs.Meaning.{fate_of, count_of, out_of}

-- there is a queue of every length, of 32-bit contents
abbrev pub zeros : ℕ → List ℕ
zeros zero = []
zeros (suc n) = 0 ∷ zeros n

pub zeros-length : (n : ℕ) → length (zeros n) ≡ n
zeros-length zero = refl
zeros-length (suc n) = ap suc (zeros-length n)

pub zeros-contents : (n : ℕ) → T (every is_content (zeros n))
zeros-contents zero = tt
zeros-contents (suc n) = zeros-contents n

-- ---- an answer is told by its meaning
abbrev taken_of : Outcome Fate → Result Taken Refusal
taken_of (done Models.Started) = Ok taken.Started
taken_of (done Models.Kept) = Ok taken.Kept
taken_of (done Models.Dropped) = Ok taken.Dropped
taken_of (done Models.Marked) = Ok taken.Marked
taken_of (done Models.Asked) = Ok taken.Asked
taken_of (done Models.Passed) = Ok taken.Asked
taken_of (refused r) = Err r

taken_back : (a : Result Taken Refusal) → taken_of (fate_of a) ≡ a
taken_back (Ok taken.Started) = refl
taken_back (Ok taken.Kept) = refl
taken_back (Ok taken.Dropped) = refl
taken_back (Ok taken.Marked) = refl
taken_back (Ok taken.Asked) = refl
taken_back (Err r) = refl

pub same_taken : (a b : Result Taken Refusal) → fate_of a ≡ fate_of b → a ≡ b
same_taken a b h = sym (taken_back a) ∙ ap taken_of h ∙ taken_back b

same_count : (queue : List ℕ) (m n : ℕ) → m ≤ length queue → n ≤ length queue → take m queue ≡ take n queue → m ≡ n
same_count queue m n p q h = sym (length-take-le m queue p) ∙ ap length h ∙ length-take-le n queue q

pub same-gone : (queue : List ℕ) (a b : Result ℕ Refusal) → count_of a ≤ length queue → count_of b ≤ length queue → out_of a queue ≡ out_of b queue → a ≡ b
same-gone queue (Ok m) (Ok n) p q h = ap Ok (same_count queue m n p q (cc))
same-gone queue (Ok m) (Err r) p q h = let z : ◌≡◌ {A = ℕ} 0 1 = cc in absurd (omega arith)
same-gone queue (Err r) (Ok n) p q h = let z : ◌≡◌ {A = ℕ} 0 1 = cc in absurd (omega arith)
same-gone queue (Err r) (Err t) p q h = cc
