-- The line of a row is the one that it was read from: it is on the row's page, and its cells are the row. Assumes nothing.
use Rattle.std.specs.Prelude.{ℕ, suc, ◌+◌, ◌*◌, ◌-◌, ◌≤◌, ◌<◌, ◌≡◌, refl, Bool, true, false, ◌&&◌, List, [], ◌∷◌, eqb, length, get_or, take, drop, Option, Some, None, Result, Ok, Err}
use Rattle.std.proofs.Common.{sym, ap, subst, ◌∙◌, arith, mul-le-mul_right, suc-mul, length-take-le, take-take, take-add, drop_at, ltb-true, eqb-true}
use Rattle.std.proofs.lemmas.Bool.{false≢true, eqb-false}
use Rattle.std.proofs.lemmas.List.Edits.{take-paste, length-paste}
use Rattle.std.proofs.Math.Seq.{paste}
use Rattle.bench_words.specs.Splitting.{lines_of}
use Rattle.bench_lines.specs.declared.Expected.{Expected}
use Rattle.bench_lines.specs.declared.Item.{Item}
use Rattle.bench_lines.specs.Reading.{read_line}
use Rattle.bench_lines.specs.LineLaws.{cells-ten}
use Rattle.bench_file.specs.declared.Counts.{Counts}
use Rattle.bench_file.specs.declared.Misread.{Misread}
use Rattle.bench_file.specs.declared.Page.{Page}
use Rattle.bench_file.specs.declared.Page.TheVariants.{Models, Connectors, Couplings, Services, Actions, Flag}
use Rattle.bench_file.specs.Filing.{Pages, Filing, page_of, has_room, put_row, count_of, counts_of, fault_of, placed, file_in, file_said, wrong_line, after, read_from, no_rows, body_of, read_file, same_page, is_on, left_after, line_in, line_of}
use Rattle.bench_file.specs.FilingLaws.{row_room, row_here, row-later, page-is}
use Rattle.bench_file.specs.FileLaws.{Added, Filled, Fit, fit_of, said_in, from-left, none-fit}

-- ---- the rows of a page
abbrev pub width_of : Page → ℕ
width_of Models = 10
width_of Connectors = 4
width_of Couplings = 6
width_of Services = 1
width_of Actions = 7
width_of Flag = 0

abbrev pub words_on : Page → Pages → List ℕ
words_on Models p = p.models
words_on Connectors p = p.connectors
words_on Couplings p = p.couplings
words_on Services p = p.services
words_on Actions p = p.actions
words_on Flag p = []

abbrev pub row_on : Page → ℕ → Pages → List ℕ
row_on page row p = take (width_of page) (drop (row * width_of page) (words_on page p))

-- the number is that of one of these lines, which come after k others; it is on the page, and its cells are the row
pub record Stands (page : Page) (row : ℕ) (lines : List (List ℕ)) (k number : ℕ) (p : Pages) : Type 0 where
  pub place : ℕ
  pub there : place < length lines
  pub counted : number ≡ k + place + 1
  pub on : is_on page (read_line (get_or lines place [])).said ≡ true
  pub cells : row_on page row p ≡ take (width_of page) (read_line (get_or lines place [])).cells

-- ---- a part of a list by the part up to its end
part_of : (at width : ℕ) (xs : List ℕ) → at ≤ length xs → drop at (take (at + width) xs) ≡ take width (drop at xs)
part_of at width xs h = ap (drop at) (take-add at width xs) ∙ drop_at (take at xs) (take width (drop at xs)) at (length-take-le at xs h)

pasted : (words cells : List ℕ) (at width : ℕ) → at + width ≤ length words → width ≤ length cells → take width (drop at (paste words at cells width)) ≡ take width cells
pasted words cells at width h wide =
    let long : at ≤ length (paste words at cells width) = omega (arith, h, length-paste words at cells width h wide) in
    sym (part_of at width (paste words at cells width) long)
    ∙ ap (drop at) (take-paste words at cells width (omega (arith, h)) wide)
    ∙ drop_at (take at words) (take width cells) at (length-take-le at words (omega (arith, h)))

-- rows that were there stay
module _ {width n m : ℕ} {before now : List ℕ} (f : Added width n m before now) (row : ℕ) (h : row < n) where
  row_stays : take width (drop (row * width) now) ≡ take width (drop (row * width) before)
  row_stays =
      let at = row * width in
      let up : at + width ≤ n * width = omega (arith, mul-le-mul_right width h, suc-mul row width) in
      let in-m : n * width ≤ m * width = mul-le-mul_right width f.more in
      let room : at ≤ length before = omega (arith, f.room, up, in-m) in
      let long : at ≤ length now = omega (arith, f.long, room) in
      let same = sym (take-take (at + width) (n * width) now up) ∙ ap (take (at + width)) f.rows ∙ take-take (at + width) (n * width) before up in
      sym (part_of at width now long) ∙ ap (drop at) same ∙ part_of at width before room

page-stays : (page : Page) {n m : Counts} {p q : Pages} → Filled n m p q → (row : ℕ) → row < count_of page n → row_on page row q ≡ row_on page row p
page-stays Models f row h = row_stays f.models row h
page-stays Connectors f row h = row_stays f.connectors row h
page-stays Couplings f row h = row_stays f.couplings row h
page-stays Services f row h = row_stays f.services row h
page-stays Actions f row h = row_stays f.actions row h
page-stays Flag f row h = absurd (omega (arith, h))

-- ---- what cannot be
abbrev is_fine : Option Expected → Bool
is_fine None = true
is_fine (Some e) = false

abbrev is_read : Result Counts Misread → Bool
is_read (Ok n) = true
is_read (Err w) = false

module _ {A : Type 0} where
  no_true : ◌≡◌ {A = Bool} false true → A
  no_true h = elim (false≢true h) [ ]

  no_false : ◌≡◌ {A = Bool} true false → A
  no_false h = elim (false≢true (sym h)) [ ]

  no-fault : (e : Expected) → Some e ≡ None → A
  no-fault e h = no_true (ap is_fine h)

  no-wrong : (line column : ℕ) (e : Expected) (m : Counts) → Err (wrong_line line column e) ≡ Ok m → A
  no-wrong line column e m h = no_true (ap is_read h)

-- ---- what a line does to a page: a row more, or nothing
data Moved (page : Page) (on : Bool) (cells : List ℕ) (n m : Counts) (q : Pages) : Type 0 where
  more : on ≡ true → count_of page m ≡ count_of page n + 1 → row_on page (count_of page n) q ≡ take (width_of page) cells → Moved page on cells n m q
  none : on ≡ false → count_of page m ≡ count_of page n → Moved page on cells n m q

other-count : (n : Counts) (t : Bool) (page other : Page) → same_page page other ≡ false → count_of page (counts_of n (placed t other n)) ≡ count_of page n
other-count n false page other h = refl
other-count n true Models Models h = cc
other-count n true Models Connectors h = refl
other-count n true Models Couplings h = refl
other-count n true Models Services h = refl
other-count n true Models Actions h = refl
other-count n true Models Flag h = refl
other-count n true Connectors Models h = refl
other-count n true Connectors Connectors h = cc
other-count n true Connectors Couplings h = refl
other-count n true Connectors Services h = refl
other-count n true Connectors Actions h = refl
other-count n true Connectors Flag h = refl
other-count n true Couplings Models h = refl
other-count n true Couplings Connectors h = refl
other-count n true Couplings Couplings h = cc
other-count n true Couplings Services h = refl
other-count n true Couplings Actions h = refl
other-count n true Couplings Flag h = refl
other-count n true Services Models h = refl
other-count n true Services Connectors h = refl
other-count n true Services Couplings h = refl
other-count n true Services Services h = cc
other-count n true Services Actions h = refl
other-count n true Services Flag h = refl
other-count n true Actions Models h = refl
other-count n true Actions Connectors h = refl
other-count n true Actions Couplings h = refl
other-count n true Actions Services h = refl
other-count n true Actions Actions h = cc
other-count n true Actions Flag h = refl
other-count n true Flag Models h = refl
other-count n true Flag Connectors h = refl
other-count n true Flag Couplings h = refl
other-count n true Flag Services h = refl
other-count n true Flag Actions h = refl
other-count n true Flag Flag h = cc

module _ (n : Counts) (p : Pages) (cells : List ℕ) (ten : length cells ≡ 10) where
  put-row : (width row : ℕ) (words : List ℕ) → has_room width row words ≡ true → width ≤ 10 → take width (drop (row * width) (put_row width row cells words)) ≡ take width cells
  put-row width row words h wide = rw h (pasted words cells (row * width) width (row_room (length words) width row (ltb-true _ _ h)) (omega (arith, ten, wide)))

  models-moved : (t : Bool) → has_room 10 n.models p.models ≡ t → fault_of (placed t Models n) ≡ None → Moved Models true cells n (counts_of n (placed t Models n)) (file_in Models cells n p).pages
  models-moved true h e = more refl refl (put-row 10 n.models p.models h (omega arith))
  models-moved false h e = no-fault _ e

  connectors-moved : (t : Bool) → has_room 4 n.connectors p.connectors ≡ t → fault_of (placed t Connectors n) ≡ None → Moved Connectors true cells n (counts_of n (placed t Connectors n)) (file_in Connectors cells n p).pages
  connectors-moved true h e = more refl refl (put-row 4 n.connectors p.connectors h (omega arith))
  connectors-moved false h e = no-fault _ e

  couplings-moved : (t : Bool) → has_room 6 n.couplings p.couplings ≡ t → fault_of (placed t Couplings n) ≡ None → Moved Couplings true cells n (counts_of n (placed t Couplings n)) (file_in Couplings cells n p).pages
  couplings-moved true h e = more refl refl (put-row 6 n.couplings p.couplings h (omega arith))
  couplings-moved false h e = no-fault _ e

  services-moved : (t : Bool) → has_room 1 n.services p.services ≡ t → fault_of (placed t Services n) ≡ None → Moved Services true cells n (counts_of n (placed t Services n)) (file_in Services cells n p).pages
  services-moved true h e = more refl refl (put-row 1 n.services p.services h (omega arith))
  services-moved false h e = no-fault _ e

  actions-moved : (t : Bool) → has_room 7 n.actions p.actions ≡ t → fault_of (placed t Actions n) ≡ None → Moved Actions true cells n (counts_of n (placed t Actions n)) (file_in Actions cells n p).pages
  actions-moved true h e = more refl refl (put-row 7 n.actions p.actions h (omega arith))
  actions-moved false h e = no-fault _ e

  own-page : (page : Page) → 0 < width_of page → (file_in page cells n p).fault ≡ None → Moved page true cells n (file_in page cells n p).counts (file_in page cells n p).pages
  own-page Models some e = models-moved (has_room 10 n.models p.models) refl e
  own-page Connectors some e = connectors-moved (has_room 4 n.connectors p.connectors) refl e
  own-page Couplings some e = couplings-moved (has_room 6 n.couplings p.couplings) refl e
  own-page Services some e = services-moved (has_room 1 n.services p.services) refl e
  own-page Actions some e = actions-moved (has_room 7 n.actions p.actions) refl e
  own-page Flag some e = absurd (omega (arith, some))

  other-page : (page other : Page) → same_page page other ≡ false → count_of page (file_in other cells n p).counts ≡ count_of page n
  other-page page Models h = other-count n (has_room 10 n.models p.models) page Models h
  other-page page Connectors h = other-count n (has_room 4 n.connectors p.connectors) page Connectors h
  other-page page Couplings h = other-count n (has_room 6 n.couplings p.couplings) page Couplings h
  other-page page Services h = other-count n (has_room 1 n.services p.services) page Services h
  other-page page Actions h = other-count n (has_room 7 n.actions p.actions) page Actions h
  other-page page Flag h = other-count n true page Flag h

  in-page : (page other : Page) (t : Bool) → same_page page other ≡ t → 0 < width_of page → (file_in other cells n p).fault ≡ None → Moved page t cells n (file_in other cells n p).counts (file_in other cells n p).pages
  in-page page other true h some e =
      subst (λ (to : Page). (file_in to cells n p).fault ≡ None → Moved page true cells n (file_in to cells n p).counts (file_in to cells n p).pages) (page-is page other h) (own-page page some) e
  in-page page other false h some e = none refl (other-page page other h)

  said-moved : (page : Page) (said : Result (Option Item) Expected) → 0 < width_of page → (file_said said cells n p).fault ≡ None → Moved page (is_on page said) cells n (file_said said cells n p).counts (file_said said cells n p).pages
  said-moved page (Ok None) some e = none refl refl
  said-moved page (Ok (Some item)) some e = in-page page (page_of item) (same_page page (page_of item)) refl some e
  said-moved page (Err x) some e = no-fault x e

-- ---- the file
-- one line more before it
later : {page : Page} {row : ℕ} {line : List ℕ} {rest : List (List ℕ)} {k number : ℕ} {p : Pages} → Stands page row rest (k + 1) number p → Stands page row (line ∷ rest) k number p
later s = record { place = suc s.place; there = omega (arith, s.there); counted = omega (arith, s.counted); on = s.on; cells = s.cells }

module _ (page : Page) (some : 0 < width_of page) (row : ℕ) (m : Counts) (before : row < count_of page m) where
  -- what from-stands says of the lines from here on
  abbrev From : List (List ℕ) → ℕ → Counts → Pages → Type 0
  From lines k n p = Fit n p → count_of page n ≤ row → (read_from lines k n p).reading ≡ Ok m → Stands page row lines k (line_in page lines k (row - count_of page n)) (read_from lines k n p).pages

  module _ (line : List ℕ) (rest : List (List ℕ)) (k : ℕ) (n c : Counts) (p q : Pages) (filled : Filled n c p q) (below : count_of page n ≤ row) (e : (read_from rest (k + 1) c q).reading ≡ Ok m) where
    -- it is this line's
    here : (on : Bool) → on ≡ is_on page (read_line line).said → on ≡ true → count_of page c ≡ count_of page n + 1 → row_on page (count_of page n) q ≡ take (width_of page) (read_line line).cells → row ≡ count_of page n
        → Stands page row (line ∷ rest) k (line_in page (line ∷ rest) k (row - count_of page n)) (read_from rest (k + 1) c q).pages
    here on says so one cells is =
        let left : row - count_of page n ≡ 0 = omega (arith, is) in
        let final = from-left rest (k + 1) c q (fit_of filled) in
        let stays = page-stays page final.filled row (omega (arith, is, one)) in
        let number = row_here page line rest k (row - count_of page n) on says (rw (so, left)) in
        record { place = 0; there = omega arith; counted = omega (arith, number); on = sym says ∙ so; cells = stays ∙ ap (λ r. row_on page r q) is ∙ cells }

    -- it is one of those behind it
    behind : (on : Bool) → on ≡ is_on page (read_line line).said → on && eqb (row - count_of page n) 0 ≡ false → left_after on (row - count_of page n) ≡ row - count_of page c → count_of page c ≤ row → From rest (k + 1) c q
        → Stands page row (line ∷ rest) k (line_in page (line ∷ rest) k (row - count_of page n)) (read_from rest (k + 1) c q).pages
    behind on says not left up go =
        let number = row-later page line rest k (row - count_of page n) on says not in
        rw (number, left) (later (go (fit_of filled) up e))

    moves : Moved page (is_on page (read_line line).said) (read_line line).cells n c q → From rest (k + 1) c q
        → Stands page row (line ∷ rest) k (line_in page (line ∷ rest) k (row - count_of page n)) (read_from rest (k + 1) c q).pages
    moves (none other same) go =
        let left : left_after false (row - count_of page n) ≡ row - count_of page c = omega (arith, same) in
        behind false (sym other) refl left (omega (arith, same, below)) go
    moves (more so one cells) go = by (eqb (row - count_of page n) 0) refl
      where
        by : (t : Bool) → eqb (row - count_of page n) 0 ≡ t → Stands page row (line ∷ rest) k (line_in page (line ∷ rest) k (row - count_of page n)) (read_from rest (k + 1) c q).pages
        by true z = here true (sym so) refl one cells (omega (arith, below, eqb-true (row - count_of page n) 0 z))
        by false z =
            let apart = eqb-false (row - count_of page n) 0 z in
            let left : left_after true (row - count_of page n) ≡ row - count_of page c = omega (arith, one) in
            behind true (sym so) z left (omega (arith, one, below, apart)) go

  -- a line is filed, or it is wrong and the file is not read
  filed-stands : (line : List ℕ) (rest : List (List ℕ)) (k : ℕ) (n : Counts) (p : Pages) → Fit n p → count_of page n ≤ row → (filed : Filing) → filed ≡ file_said (read_line line).said (read_line line).cells n p
      → From rest (k + 1) filed.counts filed.pages → (fault : Option Expected) → filed.fault ≡ fault → (after (k + 1) (read_line line).column fault filed.counts filed.pages (read_from rest (k + 1))).reading ≡ Ok m
      → Stands page row (line ∷ rest) k (line_in page (line ∷ rest) k (row - count_of page n)) (after (k + 1) (read_line line).column fault filed.counts filed.pages (read_from rest (k + 1))).pages
  filed-stands line rest k n p fit below filed is go None h e =
      let cells = (read_line line).cells in
      let said = (read_line line).said in
      let filled = rw (sym is) at (said_in n p fit cells (cells-ten line) said) in
      let moved = rw (sym is) at (said-moved n p cells (cells-ten line) page said some (ap (λ f. f.fault) (sym is) ∙ h)) in
      moves line rest k n filed.counts p filed.pages filled below e moved go
  filed-stands line rest k n p fit below filed is go (Some x) h e = no-wrong (k + 1) (read_line line).column x m e

  from-stands : (lines : List (List ℕ)) (k : ℕ) (n : Counts) (p : Pages) → From lines k n p
  from-stands [] k n p fit below e =
      let same : n ≡ m = cc in
      absurd (omega (arith, ap (count_of page) same, below, before))
  from-stands (line ∷ rest) k n p fit below e =
      let filed = file_said (read_line line).said (read_line line).cells n p in
      filed-stands line rest k n p fit below filed refl (from-stands rest (k + 1) filed.counts filed.pages) filed.fault refl e

-- of every file that is read: the line of each row is the one that it was read from
pub row-stands : (text : List ℕ) (p : Pages) (m : Counts) → (read_file text p).reading ≡ Ok m → (page : Page) (row : ℕ) → row < count_of page m
    → Stands page row (lines_of (body_of text)) 0 (line_of page row text) (read_file text p).pages
unfolding read_file line_of
row-stands text p m e page row h = by page row h
  where
    lines : List (List ℕ)
    lines = lines_of (body_of text)

    all : (row : ℕ) → row - 0 ≡ row
    all row = omega arith

    by : (page : Page) (row : ℕ) → row < count_of page m → Stands page row lines 0 (line_in page lines 0 row) (read_from lines 0 no_rows p).pages
    by Models row h = subst (λ (r : ℕ). Stands Models row lines 0 (line_in Models lines 0 r) (read_from lines 0 no_rows p).pages) (all row) (from-stands Models (omega arith) row m h lines 0 no_rows p (none-fit p) (omega arith) e)
    by Connectors row h = subst (λ (r : ℕ). Stands Connectors row lines 0 (line_in Connectors lines 0 r) (read_from lines 0 no_rows p).pages) (all row) (from-stands Connectors (omega arith) row m h lines 0 no_rows p (none-fit p) (omega arith) e)
    by Couplings row h = subst (λ (r : ℕ). Stands Couplings row lines 0 (line_in Couplings lines 0 r) (read_from lines 0 no_rows p).pages) (all row) (from-stands Couplings (omega arith) row m h lines 0 no_rows p (none-fit p) (omega arith) e)
    by Services row h = subst (λ (r : ℕ). Stands Services row lines 0 (line_in Services lines 0 r) (read_from lines 0 no_rows p).pages) (all row) (from-stands Services (omega arith) row m h lines 0 no_rows p (none-fit p) (omega arith) e)
    by Actions row h = subst (λ (r : ℕ). Stands Actions row lines 0 (line_in Actions lines 0 r) (read_from lines 0 no_rows p).pages) (all row) (from-stands Actions (omega arith) row m h lines 0 no_rows p (none-fit p) (omega arith) e)
    by Flag row h = absurd (omega (arith, h))
