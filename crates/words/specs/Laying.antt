-- Words laid into a buffer from a place on, and their laws: one word, none, words behind words already laid, and that the buffer stays as long. Assumes nothing.
use Rattle.std.specs.Prelude.{ℕ, zero, suc, ◌+◌, ◌-◌, ◌≤◌, ◌<◌, ◌≡◌, refl, List, [], ◌∷◌, ◌++◌, length, set, take, drop}
use Rattle.std.proofs.Common.{sym, ap, ◌∙◌, append_assoc, add-one, arith, length-append, length-drop, length-set, take-append-drop, length-take-le, take_at, drop_at, drop-drop}
use Rattle.std.proofs.lemmas.List.{set_split}

abbrev pub zeros : ℕ → List ℕ
zeros zero = []
zeros (suc n) = 0 ∷ zeros n

pub zeros-long : (n : ℕ) → length (zeros n) ≡ n
zeros-long zero = refl
zeros-long (suc n) = ap suc (zeros-long n)

-- words at the start of a buffer; what is behind them stays
abbrev pub over : List ℕ → List ℕ → List ℕ
over words buffer = words ++ drop (length words) buffer

-- words from `at` on; all else stays as it was
abbrev pub laid : ℕ → List ℕ → List ℕ → List ℕ
laid at words buffer = take at buffer ++ over words (drop at buffer)

pub laid_none : (at : ℕ) (buffer : List ℕ) → laid at [] buffer ≡ buffer
laid_none at buffer = take-append-drop at buffer

pub laid_one : (at word : ℕ) (buffer : List ℕ) → at < length buffer → set buffer at word ≡ laid at (word ∷ []) buffer
laid_one at word buffer l =
    set_split buffer at word l
    ∙ ap (λ (z : List ℕ). take at buffer ++ word ∷ z) (ap (λ (n : ℕ). drop n buffer) (sym (add-one at)) ∙ sym (drop-drop 1 at buffer))

-- ---- words laid behind words already laid are laid together
pub laid_both : (at next : ℕ) (words more buffer : List ℕ) → at ≤ length buffer → at + length words ≡ next → laid next more (laid at words buffer) ≡ laid at (words ++ more) buffer
laid_both at next words more buffer l e =
    let front = take at buffer ++ words in
    let rest = drop (length words) (drop at buffer) in
    let long : length front ≡ next = (let h = length-append (take at buffer) words in omega (arith, length-take-le at buffer l)) in
    let ends : length words + length more ≡ length (words ++ more) = sym (length-append words more) in
    ap (laid next more) (sym (append_assoc (take at buffer) words rest))
    ∙ ap (λ (z : List ℕ). z ++ over more (drop next (front ++ rest))) (take_at front rest next long)
    ∙ ap (λ (z : List ℕ). front ++ over more z) (drop_at front rest next long)
    ∙ append_assoc (take at buffer) words (over more rest)
    ∙ ap (λ (z : List ℕ). take at buffer ++ z) (sym (append_assoc words more (drop (length more) rest)))
    ∙ ap (λ (z : List ℕ). take at buffer ++ ((words ++ more) ++ z)) (drop-drop (length more) (length words) (drop at buffer) ∙ ap (λ (n : ℕ). drop n (drop at buffer)) ends)

pub laid-long : (at : ℕ) (words buffer : List ℕ) → at + length words ≤ length buffer → length (laid at words buffer) ≡ length buffer
laid-long at words buffer l =
    let rest = drop (length words) (drop at buffer) in
    let a = length-append (take at buffer) (words ++ rest) in
    let b = length-append words rest in
    let d = length-drop (length words) (drop at buffer) in
    let e = length-drop at buffer in
    omega (arith, length-take-le at buffer (omega arith))

-- the same, of buffers as they came
pub laid_more : (at next : ℕ) (words more before now after : List ℕ) → at ≤ length before → now ≡ laid at words before → at + length words ≡ next → after ≡ laid next more now → after ≡ laid at (words ++ more) before
laid_more at next words more before now after l e long f = f ∙ ap (laid next more) e ∙ laid_both at next words more before l long

-- ---- three words, set one by one
pub three-laid : (at a b c : ℕ) (buffer : List ℕ) → at + 3 ≤ length buffer → set (set (set buffer at a) (at + 1) b) (at + 2) c ≡ laid at (a ∷ b ∷ c ∷ []) buffer
three-laid at a b c buffer room =
    let one = set buffer at a in
    let two = set one (at + 1) b in
    let long = length-set buffer at a in
    let long-2 = length-set one (at + 1) b in
    laid_more at (at + 2) (a ∷ b ∷ []) (c ∷ []) buffer two (set two (at + 2) c) (omega arith)
    (laid_more at (at + 1) (a ∷ []) (b ∷ []) buffer one two (omega arith) (laid_one at a buffer (omega arith)) (omega arith) (laid_one (at + 1) b one (omega arith)))
    (omega arith) (laid_one (at + 2) c two (omega arith))

-- ---- zeros, one by one
zeros-next : (at end : ℕ) → at < end → zeros (end - at) ≡ 0 ∷ zeros (end - (at + 1))
zeros-next at end l = let e : end - at ≡ suc (end - (at + 1)) = omega arith in ap zeros e

pub zero_more : (at end : ℕ) (buffer : List ℕ) → at < end → end ≤ length buffer → laid (at + 1) (zeros (end - (at + 1))) (set buffer at 0) ≡ laid at (zeros (end - at)) buffer
zero_more at end buffer l room =
    let more = zeros (end - (at + 1)) in
    laid_more at (at + 1) (0 ∷ []) more buffer (set buffer at 0) (laid (at + 1) more (set buffer at 0)) (omega arith) (laid_one at 0 buffer (omega arith)) (omega arith) refl
    ∙ ap (λ (z : List ℕ). laid at z buffer) (sym (zeros-next at end l))

pub zero-end : (at end : ℕ) (buffer : List ℕ) → end ≤ at → laid at (zeros (end - at)) buffer ≡ buffer
zero-end at end buffer l =
    let e : end - at ≡ 0 = omega arith in
    ap (λ (n : ℕ). laid at (zeros n) buffer) e ∙ laid_none at buffer
