-- What a file leaves of the lent words: each page keeps its length, the rows that are counted fit, and all beyond them is as it was. Assumes nothing.
use Rattle.std.specs.Prelude.{ℕ, ◌+◌, ◌*◌, ◌-◌, ◌≤◌, ◌≡◌, refl, Bool, true, false, List, [], ◌∷◌, ◌++◌, length, take, drop, Option, Some, None, Result, Ok, Err}
use Rattle.std.proofs.Common.{sym, ap, ◌∙◌, arith, mul-le-mul_right, suc-mul, add-one, ltb-true, length-append, length-take-le, take-take, drop-drop}
use Rattle.std.proofs.lemmas.List.{take-append-le}
use Rattle.std.proofs.lemmas.List.Edits.{length-paste, drop-paste}
use Rattle.bench_words.specs.Splitting.{lines_of}
use Rattle.bench_lines.specs.declared.Item.{Item}
use Rattle.bench_lines.specs.declared.Expected.{Expected}
use Rattle.bench_lines.specs.Reading.{read_line}
use Rattle.bench_lines.specs.LineLaws.{cells-ten}
use Rattle.bench_file.specs.declared.Counts.{Counts}
use Rattle.bench_file.specs.declared.Page.{Page}
use Rattle.bench_file.specs.declared.Page.TheVariants.{Models, Connectors, Couplings, Services, Actions, Flag}
use Rattle.bench_file.specs.Filing.{Pages, page_of, has_room, put_row, counts_of, placed, file_in, file_said, Ending, after, read_from, no_rows, body_of, read_file}
use Rattle.bench_file.specs.FilingLaws.{row_room}

-- ---- one page, from n rows to m
pub record Added (width n m : ℕ) (before now : List ℕ) : Type 0 where
  pub long : length now ≡ length before
  pub more : n ≤ m
  pub room : m * width ≤ length before
  -- the rows that were there
  pub rows : take (n * width) now ≡ take (n * width) before
  pub beyond : drop (m * width) now ≡ drop (m * width) before

added_none : (width n : ℕ) (words : List ℕ) → n * width ≤ length words → Added width n n words words
added_none width n words h = record { long = refl; more = omega arith; room = h; rows = refl; beyond = refl }

module _ (width n : ℕ) (words cells : List ℕ) (h : has_room width n words ≡ true) (wide : width ≤ length cells) where
  one_more : (n + 1) * width ≡ n * width + width
  one_more = rw add-one (suc-mul n width)

  fits : n * width + width ≤ length words
  fits = row_room (length words) width n (ltb-true _ _ h)

  added-row : Added width n (n + 1) words (put_row width n cells words)
  added-row =
      let at = n * width in
      let start = length-take-le at words (omega (arith, fits)) in
      let whole : at ≤ length (take at words ++ take width cells) = rw (length-append (take at words) (take width cells)) (omega (arith, start)) in
      rw h (record {
        long = length-paste words at cells width fits wide;
        more = omega arith;
        room = rw one_more fits;
        rows = take-append-le at (take at words ++ take width cells) (drop (at + width) words) whole ∙ take-append-le at (take at words) (take width cells) (omega (arith, start)) ∙ take-take at at words (omega arith);
        beyond = rw one_more (drop-paste words at cells width (omega (arith, fits)) wide);
      })

module _ {width n m k : ℕ} {a b d : List ℕ} (f : Added width n m a b) (g : Added width m k b d) where
  further : m * width ≤ k * width
  further = mul-le-mul_right width g.more

  added_then : Added width n k a d
  added_then =
      let first = mul-le-mul_right width f.more in
      let on : m * width + (k * width - m * width) ≡ k * width = omega (arith, further) in
      record {
        long = g.long ∙ f.long;
        more = omega (arith, f.more, g.more);
        room = omega (arith, g.room, f.long);
        rows = sym (take-take (n * width) (m * width) d first) ∙ ap (take (n * width)) g.rows ∙ take-take (n * width) (m * width) b first ∙ f.rows;
        beyond = g.beyond ∙ sym (drop-drop (k * width - m * width) (m * width) b ∙ ap (λ j. drop j b) on) ∙ ap (drop (k * width - m * width)) f.beyond ∙ drop-drop (k * width - m * width) (m * width) a ∙ ap (λ j. drop j a) on;
      }

-- ---- all pages
pub record Filled (n m : Counts) (p q : Pages) : Type 0 where
  pub models : Added 10 n.models m.models p.models q.models
  pub connectors : Added 4 n.connectors m.connectors p.connectors q.connectors
  pub couplings : Added 6 n.couplings m.couplings p.couplings q.couplings
  pub services : Added 1 n.services m.services p.services q.services
  pub actions : Added 7 n.actions m.actions p.actions q.actions

-- the rows that are counted are there
pub record Fit (n : Counts) (p : Pages) : Type 0 where
  pub models : n.models * 10 ≤ length p.models
  pub connectors : n.connectors * 4 ≤ length p.connectors
  pub couplings : n.couplings * 6 ≤ length p.couplings
  pub services : n.services * 1 ≤ length p.services
  pub actions : n.actions * 7 ≤ length p.actions

pub fit_of : {n m : Counts} {p q : Pages} → Filled n m p q → Fit m q
fit_of f = record { models = omega (arith, f.models.room, f.models.long); connectors = omega (arith, f.connectors.room, f.connectors.long); couplings = omega (arith, f.couplings.room, f.couplings.long); services = omega (arith, f.services.room, f.services.long); actions = omega (arith, f.actions.room, f.actions.long) }

filled-then : {n m k : Counts} {p q r : Pages} → Filled n m p q → Filled m k q r → Filled n k p r
filled-then f g = record { models = added_then f.models g.models; connectors = added_then f.connectors g.connectors; couplings = added_then f.couplings g.couplings; services = added_then f.services g.services; actions = added_then f.actions g.actions }

module _ (n : Counts) (p : Pages) (fit : Fit n p) where
  filled_none : Filled n n p p
  filled_none = record { models = added_none 10 n.models p.models fit.models; connectors = added_none 4 n.connectors p.connectors fit.connectors; couplings = added_none 6 n.couplings p.couplings fit.couplings; services = added_none 1 n.services p.services fit.services; actions = added_none 7 n.actions p.actions fit.actions }

  module _ (cells : List ℕ) (ten : length cells ≡ 10) where
    models-in : (t : Bool) → has_room 10 n.models p.models ≡ t → Filled n (counts_of n (placed t Models n)) p (file_in Models cells n p).pages
    models-in true h = record { models = added-row 10 n.models p.models cells h (omega (arith, ten)); connectors = added_none 4 n.connectors p.connectors fit.connectors; couplings = added_none 6 n.couplings p.couplings fit.couplings; services = added_none 1 n.services p.services fit.services; actions = added_none 7 n.actions p.actions fit.actions }
    models-in false h = rw h filled_none

    connectors-in : (t : Bool) → has_room 4 n.connectors p.connectors ≡ t → Filled n (counts_of n (placed t Connectors n)) p (file_in Connectors cells n p).pages
    connectors-in true h = record { models = added_none 10 n.models p.models fit.models; connectors = added-row 4 n.connectors p.connectors cells h (omega (arith, ten)); couplings = added_none 6 n.couplings p.couplings fit.couplings; services = added_none 1 n.services p.services fit.services; actions = added_none 7 n.actions p.actions fit.actions }
    connectors-in false h = rw h filled_none

    couplings-in : (t : Bool) → has_room 6 n.couplings p.couplings ≡ t → Filled n (counts_of n (placed t Couplings n)) p (file_in Couplings cells n p).pages
    couplings-in true h = record { models = added_none 10 n.models p.models fit.models; connectors = added_none 4 n.connectors p.connectors fit.connectors; couplings = added-row 6 n.couplings p.couplings cells h (omega (arith, ten)); services = added_none 1 n.services p.services fit.services; actions = added_none 7 n.actions p.actions fit.actions }
    couplings-in false h = rw h filled_none

    services-in : (t : Bool) → has_room 1 n.services p.services ≡ t → Filled n (counts_of n (placed t Services n)) p (file_in Services cells n p).pages
    services-in true h = record { models = added_none 10 n.models p.models fit.models; connectors = added_none 4 n.connectors p.connectors fit.connectors; couplings = added_none 6 n.couplings p.couplings fit.couplings; services = added-row 1 n.services p.services cells h (omega (arith, ten)); actions = added_none 7 n.actions p.actions fit.actions }
    services-in false h = rw h filled_none

    actions-in : (t : Bool) → has_room 7 n.actions p.actions ≡ t → Filled n (counts_of n (placed t Actions n)) p (file_in Actions cells n p).pages
    actions-in true h = record { models = added_none 10 n.models p.models fit.models; connectors = added_none 4 n.connectors p.connectors fit.connectors; couplings = added_none 6 n.couplings p.couplings fit.couplings; services = added_none 1 n.services p.services fit.services; actions = added-row 7 n.actions p.actions cells h (omega (arith, ten)) }
    actions-in false h = rw h filled_none

    page-in : (page : Page) → Filled n (file_in page cells n p).counts p (file_in page cells n p).pages
    page-in Models = models-in (has_room 10 n.models p.models) refl
    page-in Connectors = connectors-in (has_room 4 n.connectors p.connectors) refl
    page-in Couplings = couplings-in (has_room 6 n.couplings p.couplings) refl
    page-in Services = services-in (has_room 1 n.services p.services) refl
    page-in Actions = actions-in (has_room 7 n.actions p.actions) refl
    page-in Flag = record { models = added_none 10 n.models p.models fit.models; connectors = added_none 4 n.connectors p.connectors fit.connectors; couplings = added_none 6 n.couplings p.couplings fit.couplings; services = added_none 1 n.services p.services fit.services; actions = added_none 7 n.actions p.actions fit.actions }

    pub said_in : (said : Result (Option Item) Expected) → Filled n (file_said said cells n p).counts p (file_said said cells n p).pages
    said_in (Ok None) = filled_none
    said_in (Ok (Some item)) = page-in (page_of item)
    said_in (Err e) = filled_none

-- ---- the file
-- what an ending leaves: rows are added, and those that it counts are these
pub record Left (n : Counts) (p : Pages) (e : Ending) : Type 0 where
  pub counts : Counts
  pub filled : Filled n counts p e.pages
  pub told : (m : Counts) → e.reading ≡ Ok m → counts ≡ m

after-left : (n : Counts) (p : Pages) (line column : ℕ) (fault : Option Expected) (m : Counts) (q : Pages) (next : Counts → Pages → Ending)
    → Filled n m p q → (Fit m q → Left m q (next m q)) → Left n p (after line column fault m q next)
after-left n p line column None m q next f go =
    let rest = go (fit_of f) in
    record { counts = rest.counts; filled = filled-then f rest.filled; told = rest.told }
after-left n p line column (Some e) m q next f go = record { counts = m; filled = f; told = λ k h. cc }

pub from-left : (lines : List (List ℕ)) (k : ℕ) (n : Counts) (p : Pages) → Fit n p → Left n p (read_from lines k n p)
from-left [] k n p fit = record { counts = n; filled = filled_none n p fit; told = λ m h. cc }
from-left (line ∷ rest) k n p fit =
    let r = read_line line in
    let filed = file_said r.said r.cells n p in
    after-left n p (k + 1) r.column filed.fault filed.counts filed.pages (read_from rest (k + 1)) (said_in n p fit r.cells (cells-ten line) r.said) (from-left rest (k + 1) filed.counts filed.pages)

pub none-fit : (p : Pages) → Fit no_rows p
none-fit p = record { models = omega arith; connectors = omega arith; couplings = omega arith; services = omega arith; actions = omega arith }

-- of every file and every memory: rows from the start of each page on, each page as long as it was, all beyond the rows as it was
pub file-left : (text : List ℕ) (p : Pages) → Left no_rows p (read_file text p)
unfolding read_file
file-left text p = from-left (lines_of (body_of text)) 0 no_rows p (none-fit p)
