-- The laws of lines and words: a span by its bytes, and that the next line and the next word stand where the spans say. Assumes nothing.
use Rattle.std.specs.Prelude.{ℕ, zero, suc, ◌+◌, ◌-◌, ◌≤◌, ◌<◌, ◌≡◌, refl, Bool, true, false, not, ◌||◌, List, [], ◌∷◌, ◌++◌, length, get_or, take, if◌then◌else◌}
use Rattle.std.proofs.Common.{sym, ◌∙◌, append_assoc, add-one, drop_of_length-le, eqb-true, drop-cons}
use Rattle.std.proofs.Math.Path.{ap}
use Rattle.std.proofs.lemmas.Bool.{false≢true}
use native.Mathlib.Omega.{arith}
use Rattle.std.proofs.Math.ListN.{drop, length-drop}
use Rattle.std.proofs.Math.Seq.{drop-drop}
use Rattle.bench_words.specs.declared.Span.{Span}
use Rattle.bench_words.specs.Splitting.{is_blank, is_colon, is_comment, is_plain, is_newline, span_of, line_span, word_span, lines_from, lines_of, words_from, words_of, word_at}

-- ---- a span by its bytes
module _ (test : ℕ → Bool) (line : List ℕ) (at : ℕ) where
  pub span-end : length line ≤ at → span_of test (drop at line) ≡ 0
  span-end h = rw (drop_of_length-le line h)

  pub span-stop : at < length line → test (get_or line at 0) ≡ false → span_of test (drop at line) ≡ 0
  span-stop h fails = rw (drop-cons line at 0 h, fails)

  pub span-go : at < length line → test (get_or line at 0) ≡ true → span_of test (drop at line) ≡ suc (span_of test (drop (at + 1) line))
  span-go h passes = rw (drop-cons line at 0 h, passes, add-one)

within_more : (t : Bool) (m n : ℕ) → m ≤ n → (if t then suc m else 0) ≤ suc n
within_more true m n h = omega arith
within_more false m n h = omega arith

pub span-within : (test : ℕ → Bool) (bytes : List ℕ) → span_of test bytes ≤ length bytes
span-within test [] = omega arith
span-within test (b ∷ bs) = within_more (test b) (span_of test bs) (length bs) (span-within test bs)

pub span-inside : (test : ℕ → Bool) (line : List ℕ) (at : ℕ) → at ≤ length line → at + span_of test (drop at line) ≤ length line
span-inside test line at h = omega (arith, span-within test (drop at line), length-drop at line)

-- ---- the steps of a span that a loop measures from `from` on
pub span_begins : (test : ℕ → Bool) (line : List ℕ) (from at : ℕ) → at < length line → test (get_or line at 0) ≡ true
    → from ≡ at + span_of test (drop at line) → from ≡ at + 1 + span_of test (drop (at + 1) line)
span_begins test line from at h passes e = omega (arith, e, span-go test line at h passes)

pub span-ends : (test : ℕ → Bool) (line : List ℕ) (from at : ℕ) → length line ≤ at → from ≡ at + span_of test (drop at line) → at ≡ from
span-ends test line from at h e = omega (arith, e, span-end test line at h)

pub span-stops : (test : ℕ → Bool) (line : List ℕ) (from at : ℕ) → at < length line → test (get_or line at 0) ≡ false
    → from ≡ at + span_of test (drop at line) → at ≡ from
span-stops test line from at h fails e = omega (arith, e, span-stop test line at h fails)

-- ---- lines
append-nil : (xs : List ℕ) → xs ++ [] ≡ xs
append-nil [] = refl
append-nil (x ∷ xs) = ap (λ ys. x ∷ ys) (append-nil xs)

lines-by : (t : Bool) (b : ℕ) (line bs : List ℕ) →
    lines_from (line ++ b ∷ []) bs ≡ ((line ++ b ∷ []) ++ take (line_span bs) bs) ∷ lines_of (drop (suc (line_span bs)) bs)
    → (if t then line ∷ lines_from [] bs else lines_from (line ++ b ∷ []) bs)
    ≡ (line ++ take (if not t then suc (line_span bs) else 0) (b ∷ bs)) ∷ lines_of (drop (suc (if not t then suc (line_span bs) else 0)) (b ∷ bs))
lines-by true b line bs e = rw (append-nil line)
lines-by false b line bs e = rw append_assoc at e

lines-begun : (x : ℕ) (line bs : List ℕ) → lines_from (x ∷ line) bs ≡ ((x ∷ line) ++ take (line_span bs) bs) ∷ lines_of (drop (suc (line_span bs)) bs)
unfolding lines_from
lines-begun x line [] = rw (append-nil line)
lines-begun x line (b ∷ bs) = lines-by (is_newline b) b (x ∷ line) bs (lines-begun x (line ++ b ∷ []) bs)

-- the first line of a text is its span, and the others come after its newline
lines_next : (b : ℕ) (bs : List ℕ) → lines_of (b ∷ bs) ≡ take (line_span (b ∷ bs)) (b ∷ bs) ∷ lines_of (drop (suc (line_span (b ∷ bs))) (b ∷ bs))
unfolding lines_from
lines_next b bs = lines-by (is_newline b) b [] bs (lines-begun b [] bs)

pub lines-some : (bs : List ℕ) → 0 < length bs → lines_of bs ≡ take (line_span bs) bs ∷ lines_of (drop (suc (line_span bs)) bs)
lines-some [] h = absurd (omega arith)
lines-some (b ∷ bs) h = lines_next b bs

-- ---- words
-- a byte is a comment's first, a blank, a colon, or one of a word's
data Byte (b : ℕ) : Type 0 where
  comment : is_comment b ≡ true → is_blank b ≡ false → Byte b
  blank : is_comment b ≡ false → is_blank b ≡ true → Byte b
  colon : is_comment b ≡ false → is_blank b ≡ false → is_colon b ≡ true → Byte b
  plain : is_comment b ≡ false → is_blank b ≡ false → is_colon b ≡ false → Byte b

byte : (b : ℕ) → Byte b
byte b = by (is_comment b) (is_blank b) (is_colon b) refl refl refl
  where
    by : (t u v : Bool) → is_comment b ≡ t → is_blank b ≡ u → is_colon b ≡ v → Byte b
    by true u v p q r = comment p (rw (eqb-true b 35 p))
    by false true v p q r = blank p q
    by false false true p q r = colon p q r
    by false false false p q r = plain p q r

or-true : (b : Bool) → b || true ≡ true
or-true true = refl
or-true false = refl

-- what words-begun says of a word and the bytes after it
abbrev Begun : List ℕ → List ℕ → Type 0
Begun word bs = words_from word bs ≡ (word ++ take (span_of is_plain bs) bs) ∷ words_of (drop (span_of is_plain bs) bs)

begun-by : (x : ℕ) (word : List ℕ) (b : ℕ) (bs : List ℕ) → Byte b → Begun (x ∷ (word ++ b ∷ [])) bs → Begun (x ∷ word) (b ∷ bs)
unfolding words_from
begun-by x word b bs (comment p q) e = simp (p, q, or-true, append-nil word)
begun-by x word b bs (blank p q) e = simp (p, q, append-nil word)
begun-by x word b bs (colon p q r) e = simp (p, q, r, append-nil word)
begun-by x word b bs (plain p q r) e = rw (p, q, r, e, append_assoc)

-- a word that is begun goes on to its span's end
words-begun : (x : ℕ) (word bs : List ℕ) → Begun (x ∷ word) bs
unfolding words_from
words-begun x word [] = rw (append-nil word)
words-begun x word (b ∷ bs) = begun-by x word b bs (byte b) (words-begun x (word ++ b ∷ []) bs)

-- blanks before a word are nothing
blank-skips : (b : ℕ) (bs : List ℕ) → Byte b → words_of bs ≡ words_of (drop (span_of is_blank bs) bs) → words_of (b ∷ bs) ≡ words_of (drop (span_of is_blank (b ∷ bs)) (b ∷ bs))
unfolding words_from
blank-skips b bs (comment p q) e = simp (p, q)
blank-skips b bs (blank p q) e = rw (p, q, e)
blank-skips b bs (colon p q r) e = simp (p, q, r)
blank-skips b bs (plain p q r) e = simp (p, q, r)

pub words-skip : (bs : List ℕ) → words_of bs ≡ words_of (drop (span_of is_blank bs) bs)
words-skip [] = refl
words-skip (b ∷ bs) = blank-skips b bs (byte b) (words-skip bs)

-- ---- the next word
abbrev starts_blank : List ℕ → Bool
starts_blank [] = false
starts_blank (b ∷ bs) = is_blank b

skipped-by : (t : Bool) (b n : ℕ) (bs : List ℕ) → is_blank b ≡ t → starts_blank (drop n bs) ≡ false → starts_blank (drop (if t then suc n else 0) (b ∷ bs)) ≡ false
skipped-by true b n bs h e = e
skipped-by false b n bs h e = h

skipped : (bs : List ℕ) → starts_blank (drop (span_of is_blank bs) bs) ≡ false
skipped [] = refl
skipped (b ∷ bs) = skipped-by (is_blank b) b (span_of is_blank bs) bs refl (skipped bs)

-- the first n bytes are a word, and others come after it; none where n is 0
abbrev pub words_here : ℕ → List ℕ → List (List ℕ)
words_here zero bs = []
words_here (suc n) bs = take (suc n) bs ∷ words_of (drop (suc n) bs)

words-by : (b : ℕ) (bs : List ℕ) → is_blank b ≡ false → Byte b → words_of (b ∷ bs) ≡ words_here (word_span (b ∷ bs)) (b ∷ bs)
unfolding words_from
words-by b bs h (comment p q) = rw (eqb-true b 35 p)
words-by b bs h (blank p q) = let z : ◌≡◌ {A = Bool} true false = sym q ∙ h in elim (false≢true (sym z)) [ ]
words-by b bs h (colon p q r) = simp (p, q, r)
words-by b bs h (plain p q r) = simp (p, q, r) (words-begun b [] bs)

words-here : (bs : List ℕ) → starts_blank bs ≡ false → words_of bs ≡ words_here (word_span bs) bs
unfolding words_from
words-here [] h = refl
words-here (b ∷ bs) h = words-by b bs h (byte b)

within_word : (t : Bool) (m n : ℕ) → m ≤ suc n → (if t then 1 else m) ≤ suc n
within_word true m n h = omega arith
within_word false m n h = h

word-within : (bs : List ℕ) → word_span bs ≤ length bs
word-within [] = omega arith
word-within (b ∷ bs) = within_word (is_colon b) (span_of is_plain (b ∷ bs)) (length bs) (span-within is_plain (b ∷ bs))

-- the words from a place on: the next is where word_at says
module _ (line : List ℕ) (from : ℕ) where
  words-at : words_of (drop from line) ≡ words_here ((word_at line from).end - (word_at line from).start) (drop (word_at line from).start line)
  unfolding word_at
  words-at =
      let rest = drop from line in
      let start = from + span_of is_blank rest in
      let here : drop (span_of is_blank rest) rest ≡ drop start line = drop-drop (span_of is_blank rest) from line in
      let n = word_span (drop start line) in
      let all : start + n - start ≡ n = omega arith in
      words-skip rest ∙ ap words_of here ∙ rw all (words-here (drop start line) (rw here at (skipped rest)))

  none-at : (word_at line from).end ≤ (word_at line from).start → words_of (drop from line) ≡ []
  none-at h =
      let none : (word_at line from).end - (word_at line from).start ≡ 0 = omega arith in
      words-at ∙ rw none

  some_at : (word_at line from).start < (word_at line from).end
      → words_of (drop from line) ≡ take ((word_at line from).end - (word_at line from).start) (drop (word_at line from).start line) ∷ words_of (drop (word_at line from).end line)
  some_at h =
      let start = (word_at line from).start in
      let n = (word_at line from).end - (word_at line from).start in
      let some : n ≡ suc (n - 1) = omega arith in
      let after : start + suc (n - 1) ≡ (word_at line from).end = omega arith in
      words-at ∙ rw some (rw (drop-drop (suc (n - 1)) start line, after))

  inside-at : from ≤ length line → ((word_at line from).start ≤ (word_at line from).end) × ((word_at line from).end ≤ length line)
  unfolding word_at
  inside-at h =
      let start = from + span_of is_blank (drop from line) in
      let in-line = span-inside is_blank line from h in
      (omega arith, omega (arith, word-within (drop start line), length-drop start line, in-line))

  -- the same of a span that is word_at's
  module _ (r : Span) (e : r ≡ word_at line from) where
    pub word_none : r.end ≤ r.start → words_of (drop from line) ≡ []
    word_none h = none-at (rw e at h)

    pub word_some : r.start < r.end → words_of (drop from line) ≡ take (r.end - r.start) (drop r.start line) ∷ words_of (drop r.end line)
    word_some h = rw e (some_at (rw e at h))

    pub word-inside : from ≤ length line → (r.start ≤ r.end) × (r.end ≤ length line)
    word-inside h = rw e (inside-at h)

-- ---- a word's span by its first byte
module _ (line : List ℕ) (at : ℕ) where
  pub word-end-none : length line ≤ at → word_span (drop at line) ≡ 0
  word-end-none h = rw (drop_of_length-le line h)

  pub word-end-colon : at < length line → is_colon (get_or line at 0) ≡ true → word_span (drop at line) ≡ 1
  word-end-colon h passes = rw (drop-cons line at 0 h, passes)

  pub word-end-plain : at < length line → is_colon (get_or line at 0) ≡ false → word_span (drop at line) ≡ span_of is_plain (drop at line)
  word-end-plain h fails = rw (drop-cons line at 0 h, fails)
