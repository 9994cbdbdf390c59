-- Texts of 32 bytes, filled up with dots, and when a word is one. Definitions only. Assumes nothing.
use Rattle.std.specs.Prelude.{ℕ, ◌-◌, Bool, true, false, not, List, [], ◌∷◌, ◌++◌, length, take, replicate, eqb, if◌then◌else◌}
use Prim.Native.String.{String, [] as empty, ◌∷◌ as ◌then◌}
use Prim.Native.Char.{code}
use Rattle.bench_words.specs.Splitting.{span_of}

-- the bytes of a text of one-byte characters
abbrev pub bytes : String → List ℕ
bytes empty = []
bytes (c then rest) = code c ∷ bytes rest

abbrev pub is_dot : ℕ → Bool
is_dot b = eqb b 46

abbrev pub padded : List ℕ → List ℕ
padded text = text ++ replicate (32 - length text) 46

-- up to the first dot
abbrev pub text_span : List ℕ → ℕ
text_span text = span_of (λ b. not (is_dot b)) text

abbrev pub text_in : List ℕ → List ℕ
text_in text = take (text_span text) text

-- the same bytes
unfoldable pub same : List ℕ → List ℕ → Bool
same [] [] = true
same [] (y ∷ ys) = false
same (x ∷ xs) [] = false
same (x ∷ xs) (y ∷ ys) = let rest = same xs ys in if eqb x y then rest else false
