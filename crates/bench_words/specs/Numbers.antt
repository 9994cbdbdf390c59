-- The numbers and times that words stand for. Definitions only. Assumes nothing.
use Rattle.std.specs.Prelude.{ℕ, suc, ◌+◌, ◌*◌, ◌-◌, ◌^◌, Bool, false, ◌&&◌, List, [], ◌∷◌, ◌++◌, length, get_or, take, drop, leb, ltb, eqb, if◌then◌else◌, Option, Some, None}
use Rattle.std.specs.Float.{binary64}
use Rattle.std.specs.Float.Ieee.{round, to_bits}
use Rattle.times.proofs.Whole.{tick}
use Rattle.bench_words.specs.Texts.{text_span}

abbrev pub within : ℕ → ℕ → ℕ → Bool
within first last b = leb first b && leb b last

-- 0 to 9, A to F, a to f; 16 is no digit
unfoldable pub digit_of : ℕ → ℕ
digit_of b =
    if within 48 57 b then b - 48
    else if within 65 70 b then b - 65 + 10
    else if within 97 102 b then b - 97 + 10
    else 16

-- digits in a base, each one more place; `value` is that of the digits before, and none may go beyond `most`
unfoldable pub numeral : ℕ → ℕ → ℕ → List ℕ → Option ℕ
numeral base most value [] = Some value
numeral base most value (b ∷ bs) =
    if ltb (digit_of b) base && leb (value * base + digit_of b) most
    then numeral base most (value * base + digit_of b) bs
    else None

-- a whole number in decimal, of at least one digit
unfoldable pub number_of : ℕ → List ℕ → Option ℕ
number_of most [] = None
number_of most (b ∷ bs) = numeral 10 most 0 (b ∷ bs)

-- `0x` and 16 bytes more
unfoldable pub has_bits : List ℕ → Bool
has_bits word = eqb (length word) 18 && eqb (get_or word 0 0) 48 && eqb (get_or word 1 0) 120

abbrev pub ticks : Option ℕ → Option ℕ
ticks (Some n) = Some (to_bits binary64 (tick n))
ticks None = None

-- a point is the dot that ends a text
abbrev pub has_point : List ℕ → Bool
has_point word = ltb (text_span word) (length word)

-- n over 10 ^ k, rounded once to an f64: to the nearest one, and to the even one where two are as near
abbrev pub over_tens : ℕ → Option ℕ → Option ℕ
over_tens k (Some n) = Some (to_bits binary64 (round binary64 false n (10 ^ k)))
over_tens k None = None

-- the largest number of 15 digits
abbrev pub nines : ℕ
nines = 999_999_999_999_999

-- "digits, a point, digits; up to 15 digits in all": the number that all the digits make, over 10 to the power of how many stand behind the point
unfoldable pub decimal_of : List ℕ → Option ℕ
decimal_of word =
    let before = take (text_span word) word in
    let behind = drop (suc (text_span word)) word in
    if ltb 0 (length before) && ltb 0 (length behind) && leb (length before + length behind) 15
    then over_tens (length behind) (number_of nines (before ++ behind))
    else None

-- the bits of a time: as they are written, or those of a decimal number, or those of a whole number of at most 2^53
unfoldable pub time_of : List ℕ → Option ℕ
time_of word =
    if has_bits word then numeral 16 0xFFFF_FFFF_FFFF_FFFF 0 (drop 2 word)
    else if has_point word then decimal_of word
    else ticks (number_of 0x20_0000_0000_0000 word)
