-- The laws of filing: a row that is put, word by word, and the line that comes next. Assumes nothing.
use Rattle.std.specs.Prelude.{ℕ, suc, ◌+◌, ◌*◌, ◌-◌, ◌/◌, ◌≤◌, ◌<◌, ◌≡◌, refl, Bool, true, false, not, ◌&&◌, List, [], ◌∷◌, leb, ltb, eqb, length, get_or, set, take, drop, Some, None, Err, if◌then◌else◌}
use Rattle.std.proofs.Common.{sym, ◌∙◌, arith, div-mul-le_self, mul-le-mul_right, suc-mul, add-one, ltb-true, ltb-false, leb-true, le-leb, length-drop, drop_of_length-le, drop-drop}
use Rattle.std.proofs.Math.Seq.{paste, paste-suc}
use Rattle.rules.specs.Base.{hold}
use Rattle.bench_words.specs.Splitting.{is_newline, line_span, lines_of}
use Rattle.bench_words.specs.SplittingLaws.{span-inside, lines-some}
use Rattle.bench_lines.specs.declared.Expected.{Expected}
use Rattle.bench_lines.specs.Reading.{read_line}
use Rattle.bench_file.specs.declared.Counts.{Counts}
use Rattle.bench_file.specs.declared.Page.{Page}
use Rattle.bench_file.specs.declared.Page.TheVariants.{Models, Connectors, Couplings, Services, Actions, Flag}
use Rattle.bench_file.specs.Filing.{Pages, Filing, next_line, file_said, ending, wrong_line, read_from, mark_span, body_of, same_page, is_on, left_after, line_in}

-- ---- a row that has room
-- its words are there
pub row_room : (n width row : ℕ) → row < n / width → row * width + width ≤ n
row_room n width row whole = omega (arith, mul-le-mul_right width whole, suc-mul row width, div-mul-le_self n width)

-- one word more
pub paste_more : (words cells : List ℕ) (start at : ℕ) → start + at < length words → at < length cells
    → set (paste words start cells at) (start + at) (get_or cells at 0) ≡ paste words start cells (at + 1)
paste_more words cells start at h k = rw add-one (paste-suc words start cells at 0 h k)

-- ---- the next line
next-by : (text : List ℕ) (end : ℕ) (t : Bool) → ltb end (length text) ≡ t → drop (if t then end + 1 else end) text ≡ drop (suc end) text
next-by text end true h = rw add-one
next-by text end false h =
    drop_of_length-le text {i = end} (ltb-false end (length text) h) ∙ sym (drop_of_length-le text {i = suc end} (omega (arith, ltb-false end (length text) h)))

next-most : (n end : ℕ) (t : Bool) → ltb end n ≡ t → end ≤ n → (if t then end + 1 else end) ≤ n
next-most n end true h k = omega (arith, ltb-true end n h)
next-most n end false h k = k

next-later : (n at end : ℕ) (t : Bool) → ltb end n ≡ t → at ≤ end → at < n → at < (if t then end + 1 else end)
next-later n at end true h k l = omega arith
next-later n at end false h k l = omega (arith, ltb-false end n h)

module _ (text : List ℕ) (at end : ℕ) (e : end ≡ at + line_span (drop at text)) (h : at < length text) where
  pub line-within : end ≤ length text
  line-within = rw e (span-inside (λ b. not (is_newline b)) text at (omega arith))

  pub next-within : next_line (length text) end ≤ length text
  next-within = next-most (length text) end (ltb end (length text)) refl line-within

  pub next-further : at < next_line (length text) end
  next-further = next-later (length text) at end (ltb end (length text)) refl (omega (arith, e)) h

  -- the line that ends here, and those after it
  pub lines_at : lines_of (drop at text) ≡ take (end - at) (drop at text) ∷ lines_of (drop (next_line (length text) end) text)
  lines_at =
      let n = line_span (drop at text) in
      let some : 0 < length (drop at text) = rw (length-drop at text) (omega arith) in
      let long : n ≡ end - at = omega (arith, e) in
      let past : at + suc n ≡ suc end = omega (arith, e) in
      let rest : drop (suc n) (drop at text) ≡ drop (next_line (length text) end) text =
      drop-drop (suc n) at text ∙ (rw past) ∙ sym (next-by text end (ltb end (length text)) refl) in
      lines-some (drop at text) some ∙ rw (rest, long)

-- ---- a line that is filed, and one that is wrong
module _ (line : List ℕ) (rest : List (List ℕ)) (k : ℕ) (n : Counts) (p : Pages) (filed : Filing) (e : filed ≡ file_said (read_line line).said (read_line line).cells n p) where
  pub file-goes : filed.fault ≡ None → read_from (line ∷ rest) k n p ≡ read_from rest (k + 1) filed.counts filed.pages
  file-goes h = rw (sym e, h)

  pub file-stops : (x : Expected) → filed.fault ≡ Some x → read_from (line ∷ rest) k n p ≡ ending (Err (wrong_line (k + 1) (read_line line).column x)) filed.pages
  file-stops x h = rw (sym e, h)

-- ---- the line of a row
module _ (page : Page) (line : List ℕ) (rest : List (List ℕ)) (k left : ℕ) (on : Bool) (e : on ≡ is_on page (read_line line).said) where
  pub row_here : on && eqb left 0 ≡ true → line_in page (line ∷ rest) k left ≡ k + 1
  row_here h = rw (sym e, h)

  pub row-later : on && eqb left 0 ≡ false → line_in page (line ∷ rest) k left ≡ line_in page rest (k + 1) (left_after on left)
  row-later h = rw (sym e, h)

mark-by : (n : ℕ) (t u : Bool) → leb 3 n ≡ t → (if (if t then u else false) then 3 else 0) ≤ n
mark-by n true true h = leb-true 3 n h
mark-by n true false h = omega arith
mark-by n false u h = omega arith

pub mark-within : (text : List ℕ) → mark_span text ≤ length text
mark-within text = mark-by (length text) (leb 3 (length text)) (hold (eqb (get_or text 0 0) 0xEF ∷ eqb (get_or text 1 0) 0xBB ∷ eqb (get_or text 2 0) 0xBF ∷ [])) refl

-- a mark is passed over, whatever comes behind it
pub marked : (text : List ℕ) → body_of (0xEF ∷ 0xBB ∷ 0xBF ∷ text) ≡ text
marked text = rw (le-leb 3 (length (0xEF ∷ 0xBB ∷ 0xBF ∷ text)) (omega arith))

-- ---- one page is no other
pub page-is : (a b : Page) → same_page a b ≡ true → a ≡ b
page-is Models Models h = refl
page-is Models Connectors h = cc
page-is Models Couplings h = cc
page-is Models Services h = cc
page-is Models Actions h = cc
page-is Models Flag h = cc
page-is Connectors Models h = cc
page-is Connectors Connectors h = refl
page-is Connectors Couplings h = cc
page-is Connectors Services h = cc
page-is Connectors Actions h = cc
page-is Connectors Flag h = cc
page-is Couplings Models h = cc
page-is Couplings Connectors h = cc
page-is Couplings Couplings h = refl
page-is Couplings Services h = cc
page-is Couplings Actions h = cc
page-is Couplings Flag h = cc
page-is Services Models h = cc
page-is Services Connectors h = cc
page-is Services Couplings h = cc
page-is Services Services h = refl
page-is Services Actions h = cc
page-is Services Flag h = cc
page-is Actions Models h = cc
page-is Actions Connectors h = cc
page-is Actions Couplings h = cc
page-is Actions Services h = cc
page-is Actions Actions h = refl
page-is Actions Flag h = cc
page-is Flag Models h = cc
page-is Flag Connectors h = cc
page-is Flag Couplings h = cc
page-is Flag Services h = cc
page-is Flag Actions h = cc
page-is Flag Flag h = refl
