-- The laws of a copy of the words that are held: it is put together from its parts, laid out words hold 0 where nothing is held, and all of it is the copy of every word. Assumes nothing.
use Rattle.std.specs.Prelude.{ℕ, zero, suc, ◌+◌, ◌-◌, ◌*◌, ◌/◌, ◌%◌, ◌≤◌, ◌<◌, ◌≡◌, refl, ◌⊎◌, List, [], ◌∷◌, length, set, take, drop, T, leb, eqb}
use Rattle.std.proofs.Common.{sym, ap, subst, ◌∙◌, inl, inr, div-add-mod', mod-lt, arith, length-append, length-drop, ext_get_or, length-take-le, get_or-take, get_or-drop, get_or-append-add, get_or-set_same, eqb→eq, leb→le}
use Rattle.std.proofs.Math.ListN.{get_or-append}
use Rattle.std.specs.Float.Ieee.Bits.{is_true}
use Rattle.rules.specs.Table.{Table, Kind, processor, batcher, stopwatch, coupled, kind_at}
use Rattle.rules.specs.Ends.{All, nil, ◌&◌, every-all}
use Rattle.words.specs.Queue.{unused_clear}
use Rattle.marks.specs.Jobs.{fit_in}
use Rattle.marks.specs.MarkingLaws.{fit-rules, whole_says, unused_in, unused-says}
use Rattle.memory.specs.Words.{word_at, head_at, held_in, begin_in, width_of, own_in}
use Rattle.memory.specs.View.{WordsFit}
use Rattle.memory.specs.Places.{only_same, only_set}
use Rattle.views.specs.World.{begin_of, Laid}
use Rattle.views.proofs.WorldLayout.{begin-end, head-begin}
use Rattle.copying.specs.Copied.{copied}
use Rattle.copying.specs.EndLaws.{widths-next}
use Rattle.copying.specs.Sparing.{Brought, Free, Spare, Alike, Lends}

side : (p mid : ℕ) → (p < mid) ⊎ (mid ≤ p)
side p zero = inr (omega arith)
side zero (suc mid) = inl (omega arith)
side (suc p) (suc mid) = elim (side p mid) [ inl l ↦ inl (omega arith) | inr m ↦ inr (omega arith) ]

-- ---- parts of a copy
module _ (src : List ℕ) where
  pub brought-none : (lo : ℕ) (dst : List ℕ) → Brought lo lo src dst dst
  brought-none lo dst = record { only = only_same lo lo dst; same = λ p a b. absurd (omega arith) }

  -- words that are alike need no copy
  pub brought-alike : (lo hi : ℕ) (dst : List ℕ) → ((p : ℕ) → lo ≤ p → p < hi → word_at dst p ≡ word_at src p) → Brought lo hi src dst dst
  brought-alike lo hi dst alike = record { only = only_same lo hi dst; same = alike }

  module _ (lo mid hi : ℕ) (first middle after : List ℕ) (low : lo ≤ mid) (high : mid ≤ hi) where
    -- a part below, after the part above
    pub brought-below : Brought mid hi src first middle → Brought lo mid src middle after → Brought lo hi src first after
    brought-below above below = record {
      only = record { long = below.only.long ∙ above.only.long; rest = rest };
      same = λ p a b. elim (side p mid) [ inl l ↦ below.same p a l | inr m ↦ below.only.rest p (inr m) ∙ above.same p m b ];
    }
      where
        rest : (p : ℕ) → (p < lo) ⊎ (hi ≤ p) → word_at after p ≡ word_at first p
        rest p (inl l) = below.only.rest p (inl l) ∙ above.only.rest p (inl (omega arith))
        rest p (inr m) = below.only.rest p (inr (omega arith)) ∙ above.only.rest p (inr m)

    -- a part above, after the part below
    pub brought-above : Brought lo mid src first middle → Brought mid hi src middle after → Brought lo hi src first after
    brought-above below above = record {
      only = record { long = above.only.long ∙ below.only.long; rest = rest };
      same = λ p a b. elim (side p mid) [ inl l ↦ above.only.rest p (inl l) ∙ below.same p a l | inr m ↦ above.same p m b ];
    }
      where
        rest : (p : ℕ) → (p < lo) ⊎ (hi ≤ p) → word_at after p ≡ word_at first p
        rest p (inl l) = above.only.rest p (inl (omega arith)) ∙ below.only.rest p (inl l)
        rest p (inr m) = above.only.rest p (inr m) ∙ below.only.rest p (inr (omega arith))

  -- one word more
  pub brought-more : (lo k : ℕ) (dst mid : List ℕ) → lo ≤ k → k < length mid → Brought lo k src dst mid → Brought lo (k + 1) src dst (set mid k (word_at src k))
  brought-more lo k dst mid low room b =
      brought-above lo k (k + 1) dst mid (set mid k (word_at src k)) low (omega arith) b (record {
        only = only_set k (k + 1) k (word_at src k) mid (omega arith) (omega arith);
        same = λ p a l. let e : p ≡ k = omega arith in rw e (get_or-set_same mid k (word_at src k) 0 room);
      })

  -- the whole is the copy of every word
  pub brought-copied : (n : ℕ) (dst after : List ℕ) → n ≤ length src → n ≤ length dst → Brought 0 n src dst after → after ≡ copied 0 n src dst
  brought-copied n dst after in_src in_dst b = ext_get_or 0 after (copied 0 n src dst) long word
    where
      front : length (take n src) ≡ n
      front = length-take-le n src in_src

      long : length after ≡ length (copied 0 n src dst)
      long = b.only.long ∙ (let f = front in let d = length-drop n dst in let a = length-append (take n src) (drop n dst) in omega arith)

      word : (p : ℕ) → p < length after → word_at after p ≡ word_at (copied 0 n src dst) p
      word p l = by (side p n)
        where
          by : (p < n) ⊎ (n ≤ p) → word_at after p ≡ word_at (copied 0 n src dst) p
          by (inl m) = b.same p (omega arith) m ∙ sym (get_or-append (take n src) (drop n dst) 0 p (let f = front in omega arith) ∙ get_or-take n src p 0 m)
          by (inr m) =
              let e : n + (p - n) ≡ p = omega arith in
              let f : length (take n src) + (p - n) ≡ p = (let g = front in omega arith) in
              b.only.rest p (inr m)
              ∙ ap (word_at dst) (sym e)
              ∙ sym (get_or-drop n dst (p - n) 0)
              ∙ sym (get_or-append-add (take n src) (drop n dst) (p - n) 0)
              ∙ ap (word_at (copied 0 n src dst)) f

-- ---- a row that holds more has fewer free places
pub free-less : (begin next few more p : ℕ) → few ≤ more → Free begin next more p → Free begin next few p
free-less begin next few more p l f = record { column = f.column; from = (let a = f.from in omega arith); below = f.below; within = f.within }

-- ---- a row's copy, column by column: those before `at` are copied
pub record Columns (begin next : ℕ) (src first dst : List ℕ) (at : ℕ) : Type 0 where
  pub passed : ℕ
  pub stands : at ≡ begin + passed * 64
  pub within : at ≤ next
  pub done : Brought begin at src first dst

module _ (begin next held : ℕ) (src first : List ℕ) (alike : Alike begin next held src first) where
  pub row-none : held ≡ 0 → Brought begin next src first first
  row-none none = brought-alike src begin next first (λ p a b.
      let e = div-add-mod' (p - begin) 64 in
      let l : (p - begin) % 64 < 64 = mod-lt (p - begin) (omega arith) in
      alike.same p (record { column = (p - begin) / 64; from = omega arith; below = omega arith; within = b }))

  pub columns-start : Columns begin next src first first begin
  columns-start = record { passed = 0; stands = omega arith; within = (let w = alike.wide in omega arith); done = brought-none src begin first }

  module _ (dst : List ℕ) (at : ℕ) (columns : Columns begin next src first dst at) (more : at < next) where
    pub column_fits : (at + 64 ≤ next) × (at + held ≤ length src) × (at + held ≤ length dst)
    column_fits =
        let s = columns.stands in
        let w = alike.wide in
        let f = alike.few in
        let i = alike.in_src in
        let j = alike.in_dst in
        let l = columns.done.only.long in
        let whole : at + 64 ≤ next = omega arith in
        (whole, omega arith, omega arith)

    pub columns-on : (after : List ℕ) → Brought at (at + held) src dst after → Columns begin next src first after (at + 64)
    columns-on after brought = record {
      passed = suc columns.passed;
      stands = (let s = columns.stands in omega arith);
      within = column_fits.0;
      done = brought-above src begin at (at + 64) first dst after (let s = columns.stands in omega arith) (omega arith) columns.done
          (brought-below src at (at + held) (at + 64) dst dst after (omega arith) (let f = alike.few in omega arith) (brought-alike src (at + held) (at + 64) dst rest) brought);
    }
      where
        rest : (p : ℕ) → at + held ≤ p → p < at + 64 → word_at dst p ≡ word_at src p
        rest p a b =
            let s = columns.stands in
            let w = column_fits.0 in
            columns.done.only.rest p (inr (omega arith)) ∙ alike.same p (record { column = columns.passed; from = omega arith; below = omega arith; within = omega arith })

  pub columns-end : (dst : List ℕ) (at : ℕ) → Columns begin next src first dst at → next ≤ at → Brought begin next src first dst
  columns-end dst at columns last = subst (λ (hi : ℕ). Brought begin hi src first dst) (let w = columns.within in let e : at ≡ next = omega arith in e) columns.done

  -- a queue is one column
  pub queue-brought : next - begin ≡ 64 → (dst : List ℕ) → Brought begin (begin + held) src first dst → Brought begin next src first dst
  queue-brought one dst brought =
      let w = alike.wide in
      columns-end dst (begin + 64) (columns-on first begin columns-start (omega arith) dst brought) (omega arith)

-- ---- the free places of laid out words hold 0
clear_at : (words : List ℕ) (k : ℕ) → All (λ w. T (eqb w 0)) words → word_at words k ≡ 0
clear_at [] k nil = refl
clear_at (w ∷ ws) zero (h & rest) = eqb→eq w 0 h
clear_at (w ∷ ws) (suc k) (h & rest) = clear_at ws k rest

module _ (b : ℕ) (mem : List ℕ) (i : ℕ) where
  abbrev held : ℕ
  held = held_in mem i

  -- what a row's words hold, by its width
  abbrev Held : ℕ → Type 0
  Held width = (held ≤ 64) × ((p : ℕ) → Free b (b + width) held p → word_at mem p ≡ 0)

  own-word : (width p : ℕ) → b ≤ p → p < b + width → word_at mem p ≡ word_at (own_in b width mem) (p - b)
  own-word width p a l =
      let e : p ≡ b + (p - b) = omega arith in
      ap (word_at mem) e ∙ sym (get_or-take width (drop b mem) (p - b) 0 (omega arith) ∙ get_or-drop b mem (p - b) 0)

  queue-held : T (leb held 64) → T (unused_clear held (own_in b 64 mem)) → Held 64
  queue-held few clear = (
    leb→le held 64 few,
    λ p f.
        let past : b + held ≤ p = (let a = f.from in let l = f.within in omega arith) in
        let e : p - b ≡ held + (p - b - held) = omega arith in
        own-word 64 p (omega arith) f.within
        ∙ ap (word_at (own_in b 64 mem)) e
        ∙ sym (get_or-drop held (own_in b 64 mem) (p - b - held) 0)
        ∙ clear_at (drop held (own_in b 64 mem)) (p - b - held) (every-all (λ w. eqb w 0) (drop held (own_in b 64 mem)) clear),
  )

  column-held : T (unused_in held (own_in b 192 mem)) → (p column : ℕ) → b + column * 64 + held ≤ p → p < b + column * 64 + 64 → p < b + 192 → word_at (own_in b 192 mem) (p - b) ≡ 0
  column-held unused p zero from below within = (unused-says held (own_in b 192 mem) unused (p - b) (omega arith) (omega arith)).0
  column-held unused p (suc zero) from below within =
      let e : p - b ≡ 64 + (p - b - 64) = omega arith in
      ap (word_at (own_in b 192 mem)) e ∙ (unused-says held (own_in b 192 mem) unused (p - b - 64) (omega arith) (omega arith)).1
  column-held unused p (suc (suc zero)) from below within =
      let e : p - b ≡ 128 + (p - b - 128) = omega arith in
      ap (word_at (own_in b 192 mem)) e ∙ (unused-says held (own_in b 192 mem) unused (p - b - 128) (omega arith) (omega arith)).2
  column-held unused p (suc (suc (suc column))) from below within = absurd (omega arith)

  columns-held : T (fit_in held (own_in b 192 mem)) → T (unused_in held (own_in b 192 mem)) → Held 192
  columns-held fit unused = (
    (whole_says held (own_in b 192 mem) (fit-rules held (own_in b 192 mem) (is_true (fit_in held (own_in b 192 mem)) fit)).whole).0,
    λ p f.
        own-word 192 p (let a = f.from in omega arith) f.within ∙ column-held unused p f.column f.from f.below f.within,
  )

  row-held : (k : Kind) → WordsFit k b mem i → Held (width_of k)
  row-held (processor p) (phase & few & clear & nil) = queue-held few clear
  row-held (batcher m) (phase & few & clear & nil) = queue-held few clear
  row-held (stopwatch w) (phase & fit & unused & nil) = columns-held fit unused
  row-held coupled (phase & timer & few & clear & nil) = queue-held few clear

width-columns : (k : Kind) → (n : ℕ) × (width_of k ≡ n * 64)
width-columns (processor p) = (1, refl)
width-columns (batcher m) = (1, refl)
width-columns (stopwatch w) = (3, refl)
width-columns coupled = (1, refl)

module _ (t : Table) where
  pub next-begin : (i : ℕ) → i < length t.rows → begin_of t (suc i) ≡ begin_of t i + width_of (kind_at t i)
  next-begin i l = let h = widths-next t.rows i l in omega arith

  pub laid-spare : (mem : List ℕ) → Laid t mem → Spare t mem
  laid-spare mem laid = record {
    few = λ i l. (row-held (begin_of t i) mem i (kind_at t i) (laid.words i l)).0;
    clear = λ i p l f. (row-held (begin_of t i) mem i (kind_at t i) (laid.words i l)).1 p (subst (λ (next : ℕ). Free (begin_of t i) next (held_in mem i) p) (next-begin i l) f);
  }

  pub zero-spare : (words : List ℕ) → ((p : ℕ) → word_at words p ≡ 0) → Spare t words
  zero-spare words zeros = record { few = λ i l. let z = zeros (head_at i + 2) in omega arith; clear = λ i p l f. zeros p }

-- ---- the loop over the rows, the last first: from `next` on all is copied
pub record Going (rows end : ℕ) (src first dst : List ℕ) (row next : ℕ) : Type 0 where
  pub lends : Lends rows end src first
  pub few : row ≤ rows
  pub at : next ≡ begin_of lends.table row
  pub done : Brought next end src first dst

module _ (rows end : ℕ) (src first : List ℕ) where
  pub going_start : Lends rows end src first → Going rows end src first first rows end
  going_start lends = record {
    lends = lends;
    few = omega arith;
    at = lends.ends ∙ ap (begin_of lends.table) (sym lends.counted);
    done = brought-none src end first;
  }

  pub going_end : (dst : List ℕ) (row next : ℕ) → Going rows end src first dst row next → row ≡ 0 → Brought (head_at rows) end src first dst
  going_end dst row next going none =
      let begin : next ≡ head_at rows = (let a = going.at ∙ ap (begin_of going.lends.table) none in let n = going.lends.counted in omega arith) in
      subst (λ (lo : ℕ). Brought lo end src first dst) begin going.done

  module _ (dst : List ℕ) (row next k : ℕ) (going : Going rows end src first dst row next) (is : row ≡ suc k) where
    abbrev t : Table
    t = going.lends.table

    there : k < length t.rows
    there = let n = going.lends.counted in let f = going.few in omega arith

    next-is : next ≡ begin_of t k + width_of (kind_at t k)
    next-is = going.at ∙ ap (begin_of t) is ∙ next-begin t k there

    within : next ≤ end
    within = let b = begin-end t k there in let n = next-is in let e = going.lends.ends in omega arith

    pub head-room : (head_at k + 4 ≤ length src) × (head_at k + 4 ≤ length dst)
    head-room =
        let h = head-begin t k k there in
        let n = next-is in
        let w = within in
        let e = going.lends.ends in
        let r = going.lends.laid.room in
        let d = going.lends.room in
        let l = going.done.only.long in
        (omega arith, omega arith)

    -- a word before the copied ones is as it was
    before : (p : ℕ) → p < next → word_at dst p ≡ word_at first p
    before p l = going.done.only.rest p (inl l)

    held_same : held_in dst k ≡ held_in first k
    held_same = before (head_at k + 2) (let h = head-begin t k k there in let n = next-is in omega arith)

    pub few-held : (held_in src k ≤ 64) × (held_in dst k ≤ 64)
    few-held = ((laid-spare t src going.lends.laid).few k there, let f = going.lends.spare.few k there in let s = held_same in omega arith)

    module _ (begin held : ℕ) (is-begin : begin ≡ begin_in src k) (from-src : held_in src k ≤ held) (from-dst : held_in dst k ≤ held) (few : held ≤ 64) where
      begin-is : begin ≡ begin_of t k
      begin-is = is-begin ∙ going.lends.laid.begins k there

      free_of : (words : List ℕ) → Spare t words → held_in words k ≤ held → (p : ℕ) → Free begin next held p → word_at words p ≡ 0
      free_of words spare l p f =
          spare.clear k p there (free-less (begin_of t k) (begin_of t (suc k)) (held_in words k) held p l (subst (λ (n : ℕ). Free (begin_of t k) n held p) upto (subst (λ (b : ℕ). Free b next held p) begin-is f)))
        where
          upto : next ≡ begin_of t (suc k)
          upto = going.at ∙ ap (begin_of t) is

      pub row-alike : Alike begin next held src dst
      row-alike = record {
        columns = (width-columns (kind_at t k)).0;
        wide = (let w = (width-columns (kind_at t k)).1 in let n = next-is in let b = begin-is in omega arith);
        few = few;
        in_src = (let w = within in let e = going.lends.ends in let r = going.lends.laid.room in omega arith);
        in_dst = (let w = within in let d = going.lends.room in let l = going.done.only.long in omega arith);
        same = λ p f. before p f.within ∙ free_of first going.lends.spare (let s = held_same in omega arith) p f ∙ sym (free_of src (laid-spare t src going.lends.laid) from-src p f);
      }

      pub going_on : (after : List ℕ) → Brought begin next src dst after → Going rows end src first after k begin
      going_on after row_done = record {
        lends = going.lends;
        few = (let f = going.few in omega arith);
        at = begin-is;
        done = brought-below src begin next end first dst after (let b = begin-is in let n = next-is in omega arith) within going.done row_done;
      }

-- ---- the rows' own words, then the heads, then the messages
pub held-copied : (rows end used : ℕ) (src first one two three : List ℕ) → Lends rows end src first → end ≤ used → used ≤ length src → used ≤ length first → Brought (head_at rows) end src first one → Brought 0 (head_at rows) src one two → Brought end used src two three → three ≡ copied 0 used src first
held-copied rows end used src first one two three lends low in_src in-first own heads messages =
    let heads-end : head_at rows ≤ end = (let n = lends.counted in let e = lends.ends in omega arith) in
    brought-copied src used first three in_src in-first
    (brought-above src 0 end used first two three (omega arith) low
    (brought-below src 0 (head_at rows) end first one two (omega arith) heads-end own heads)
    messages)
