-- A text's lines, a line's words, and where they stand. Definitions only. Assumes nothing.
use Rattle.std.specs.Prelude.{ℕ, suc, ◌+◌, Bool, not, ◌||◌, List, [], ◌∷◌, ◌++◌, drop, eqb, if◌then◌else◌}
use Rattle.bench_words.specs.declared.Span.{Span}

-- ---- bytes
abbrev pub is_newline : ℕ → Bool
is_newline b = eqb b 10

-- "spaces or tabs (or \r)"
abbrev pub is_blank : ℕ → Bool
is_blank b = eqb b 32 || eqb b 9 || eqb b 13

abbrev pub is_colon : ℕ → Bool
is_colon b = eqb b 58

-- "`#` starts a comment"
abbrev pub is_comment : ℕ → Bool
is_comment b = eqb b 35

-- the byte is one of a word's, which has neither blank nor colon nor comment in it
abbrev pub is_plain : ℕ → Bool
is_plain b = not (is_blank b || is_colon b || is_comment b)

-- ---- lines and words
-- the bytes gathered so far are the next of the list, if there are any
abbrev pub closed : List ℕ → List (List ℕ) → List (List ℕ)
closed [] rest = rest
closed (b ∷ bs) rest = (b ∷ bs) ∷ rest

-- the lines of a text of whose first line `line` is read already
unfoldable pub lines_from : List ℕ → List ℕ → List (List ℕ)
lines_from line [] = closed line []
lines_from line (b ∷ bs) = if is_newline b then line ∷ lines_from [] bs else lines_from (line ++ b ∷ []) bs

abbrev pub lines_of : List ℕ → List (List ℕ)
lines_of text = lines_from [] text

-- the words of a line of which `word`, at the end of what is read already, may go on
unfoldable pub words_from : List ℕ → List ℕ → List (List ℕ)
words_from word [] = closed word []
words_from word (b ∷ bs) =
    if is_comment b then closed word []
    else if is_blank b then closed word (words_from [] bs)
    else if is_colon b then closed word ((b ∷ []) ∷ words_from [] bs)
    else words_from (word ++ b ∷ []) bs

abbrev pub words_of : List ℕ → List (List ℕ)
words_of line = words_from [] line

-- ---- where they stand
-- how many of the first bytes pass the test, up to the first that does not
abbrev pub span_of : (ℕ → Bool) → List ℕ → ℕ
span_of test [] = 0
span_of test (b ∷ bs) = let more = span_of test bs in if test b then suc more else 0

abbrev pub line_span : List ℕ → ℕ
line_span bytes = span_of (λ b. not (is_newline b)) bytes

abbrev pub word_span : List ℕ → ℕ
word_span [] = 0
word_span (b ∷ bs) = if is_colon b then 1 else span_of is_plain (b ∷ bs)

-- the next word of a line from a place on
unfoldable pub word_at : List ℕ → ℕ → Span
word_at line from =
    let start = from + span_of is_blank (drop from line) in
    record { start = start; end = start + word_span (drop start line) }
