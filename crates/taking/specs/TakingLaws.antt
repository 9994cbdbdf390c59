-- The laws of messages that are taken: where they stand nothing changes, their words are narrow, and message by message they are all. Assumes nothing.
use Rattle.std.specs.Prelude.{ℕ, zero, suc, ◌+◌, ◌*◌, ◌-◌, ◌≤◌, ◌<◌, ◌≡◌, refl, Bool, true, false, List, [], ◌∷◌, map, length, T, eqb, Float, if◌then◌else◌, Ok, Result, Some, ⊤}
use Rattle.rules.specs.declared.Refusal.{Refusal}
use Rattle.std.proofs.Common.{sym, ap, subst, ◌∙◌, inr, arith, ltb-false, eq-eqb, ne_eqb, ltb→lt}
use Rattle.std.proofs.lemmas.Bool.{eqb-false}
use Rattle.std.specs.Float.{binary64}
use Rattle.std.specs.Float.Ieee.{of_bits}
use Rattle.rules.specs.declared.Message.{Message}
use Rattle.rules.specs.Base.{Outcome, done, ◌>>=◌, each, those, from}
use Rattle.rules.specs.Table.{Table, id_at, row_at, is_parentless}
use Rattle.rules.specs.Step.{World, levels, external}
use Rattle.rules.specs.Valid.{message_rules}
use Rattle.rules.specs.Ends.{All, nil, ◌&◌, parts}
use Rattle.rules.specs.Depth.{Deep, parentless-deep}
use Rattle.rules.proofs.Worlds.{MessageFits}
use Rattle.words.specs.Search.{first_from}
use Rattle.words.specs.SearchLaws.{search-hit}
use Rattle.selection.specs.Selected.{each_map, sweep-bounds}
use Rattle.lookup.specs.Inside.{Inside, table_in}
use Rattle.lookup.specs.InsideLaws.{place-keeps, fine-in, in-parentless}
use Rattle.memory.specs.Words.{word_at}
use Rattle.views.specs.World.{end_of, Ready, Frame, Moves, Does}
use Rattle.views.specs.Messages.{message_in, messages_in}
use Rattle.views.proofs.Frames.{frame_same}
use Rattle.sweeps.specs.Loops.{all_of, stays, does-as, Going, going_start, going_on, going-skip, going_end}
use Rattle.sweeps.specs.Skips.{stop_from, stop-over}
use Rattle.taking.specs.Taking.{takes_one, takes_all, is_for, is_addressed, Active}

-- ---- the messages stand where no event writes
module _ (t : Table) (active : ℕ) (before mem : List ℕ) (past : end_of t ≤ active) (frame : Frame t 0 0 before mem) where
  word-stays : (p : ℕ) → active ≤ p → word_at mem p ≡ word_at before p
  word-stays p l = frame.high p (omega arith) (inr (omega arith))

  pub message-stays : (k : ℕ) → message_in active mem k ≡ message_in active before k
  message-stays k = λ i. record {
    source_id = word-stays (active + k * 6) (omega arith) i;
    source_port = word-stays (active + k * 6 + 1) (omega arith) i;
    target_id = word-stays (active + k * 6 + 2) (omega arith) i;
    target_port = word-stays (active + k * 6 + 3) (omega arith) i;
    time = of_bits binary64 (word-stays (active + k * 6 + 4) (omega arith) i);
    content = word-stays (active + k * 6 + 5) (omega arith) i;
  }

  pub messages-stay : (n : ℕ) → messages_in active n mem ≡ messages_in active n before
  messages-stay n = λ i. map (λ k. message-stays k i) (from 0 n)

pub active-stays : (t : Table) (before mem : List ℕ) (active count : ℕ) → Frame t 0 0 before mem → Active t before active count → Active t mem active count
active-stays t before mem active count frame a = record {
  past = a.past;
  room = let r = a.room in omega (arith, frame.long);
  few = a.few;
  fit = subst (λ (ms : List Message). All MessageFits ms) (sym (messages-stay t active before mem a.past frame count)) a.fit;
}

-- ---- each of them fits, so that its port and its content are narrow
pub one-fits : (t : Table) (mem : List ℕ) (active count k : ℕ) → Active t mem active count → k < count → MessageFits (message_in active mem k)
one-fits t mem active count k a l = place-keeps MessageFits (message_in active mem) count a.fit k l

pub narrow : (m : Message) → MessageFits m → (m.target_port < 65536) × (m.content < 4294967296)
narrow m fits = by (parts (message_rules m) fits)
  where
    by : All T (message_rules m) → (m.target_port < 65536) × (m.content < 4294967296)
    by (source & sp & target & tp & time & content & nil) = (ltb→lt m.target_port 65536 tp, ltb→lt m.content 4294967296 content)

-- ---- to visit those that pass the test is to visit each that passes it
abbrev pub always : ℕ → Bool
always k = true

abbrev visit_if : {A S : Type 0} → (A → S → Outcome S) → (A → Bool) → A → S → Outcome S
visit_if visit test x s = if test x then visit x s else done s

each-those : {A S : Type 0} (visit : A → S → Outcome S) (test : A → Bool) (xs : List A) (s : S) → each visit (those test xs) s ≡ each (visit_if visit test) xs s
each-those visit test [] s = refl
each-those {A} {S} visit test (x ∷ xs) s = by (test x) (each-those visit test xs)
  where
    by : (b : Bool) → ((s : S) → each visit (those test xs) s ≡ each (visit_if visit test) xs s) → each visit (if b then x ∷ those test xs else those test xs) s ≡ ((if b then visit x s else done s) >>= each (visit_if visit test) xs)
    by true later = λ i. visit x s >>= (λ s. later s i)
    by false later = later s

those-always : (j n : ℕ) → those always (from j n) ≡ from j n
those-always j zero = refl
those-always j (suc n) = ap (λ l. j ∷ l) (those-always (suc j) n)

-- ---- one message and one row
module _ (t : Table) (services : List Float) (clock : Float) (i : ℕ) (m : Message) (mem : List ℕ) where
  pub not-its : Ready t mem → (m.target_id ≡ id_at t i → ⊥) → Moves (takes_one t services clock i m) t mem mem
  not-its ready other = let e = ne_eqb m.target_id (id_at t i) other in does-as t mem mem done (takes_one t services clock i m) (Ok tt) (λ w. rw e) (stays t mem ready)

  pub its : (after : List ℕ) (r : Result ⊤ Refusal) → m.target_id ≡ id_at t i → Does r (external t services levels clock i m.target_port m.content) t mem after → Does r (takes_one t services clock i m) t mem after
  its after r same d =
      let e = eq-eqb m.target_id (id_at t i) same in
      does-as t mem after (external t services levels clock i m.target_port m.content) (takes_one t services clock i m) r (λ w. rw e) d

-- ---- what a row does with all of them is what it does with each
abbrev pub takes_at : Table → List Float → Float → ℕ → ℕ → List ℕ → ℕ → World → Outcome World
takes_at t services clock i active mem k = takes_one t services clock i (message_in active mem k)

pub one_by_one : (t : Table) (services : List Float) (clock : Float) (i active count : ℕ) (mem after : List ℕ) (r : Result ⊤ Refusal) → Does r (all_of t (takes_at t services clock i active mem) always mem count) t mem after
    → Does r (takes_all t services clock (messages_in active count mem) i) t mem after
one_by_one t services clock i active count mem after r d = does-as t mem after (all_of t (takes_at t services clock i active mem) always mem count) (takes_all t services clock (messages_in active count mem) i) r same d
  where
    same : (w : World) → takes_all t services clock (messages_in active count mem) i w ≡ all_of t (takes_at t services clock i active mem) always mem count w
    same w =
        each-those (λ (m : Message). external t services levels clock i m.target_port m.content) (λ (m : Message). eqb m.target_id (id_at t i)) (messages_in active count mem) w
        ∙ each_map (takes_one t services clock i) (message_in active mem) (from 0 count) w
        ∙ ap (λ (ks : List ℕ). each (takes_at t services clock i active mem) ks w) (sym (those-always 0 count))

-- ---- messages that are for another are passed over, and so are models that none is for
module _ (t : Table) (services : List Float) (clock : Float) (i active count : ℕ) (mem₀ mem : List ℕ) where
  -- the row i has taken those before the k-th
  abbrev pub Along : ℕ → Type 0
  Along k = Going t (takes_at t services clock i active mem₀) always mem₀ count k mem

  module _ (past : end_of t ≤ active) where
    pass-one : (k : ℕ) → k < count → is_for active mem (id_at t i) k ≡ false → Along k → Along (k + 1)
    pass-one k l other g =
        let stays : message_in active mem k ≡ message_in active mem₀ k = message-stays t active mem₀ mem past g.frame k in
        going_on t (takes_at t services clock i active mem₀) always mem₀ count k mem g k mem (search-hit always k count l refl)
        (not-its t services clock i (message_in active mem₀ k) mem g.ready (eqb-false (message_in active mem₀ k).target_id (id_at t i) (subst (λ (m : Message). eqb m.target_id (id_at t i) ≡ false) stays other)))
        (frame_same t 0 0 mem)

    pub pass-others : (id k : ℕ) → id ≡ id_at t i → k ≤ count → Along k → Along (stop_from (is_for active mem id) k (count - k))
    pass-others id k e l g = subst (λ (n : ℕ). Along (stop_from (is_for active mem n) k (count - k))) (sym e) (stop-over (is_for active mem (id_at t i)) Along count pass-one k l g)

not-addressed : (t : Table) (services : List Float) (clock : Float) (i active count : ℕ) (mem : List ℕ) → end_of t ≤ active → Ready t mem → is_addressed t active count mem i ≡ false
    → Moves (takes_all t services clock (messages_in active count mem) i) t mem mem
not-addressed t services clock i active count mem past ready none =
    let visit = takes_at t services clock i active mem in
    let last = stop_from (is_for active mem (id_at t i)) 0 (count - 0) in
    let g = pass-others t services clock i active count mem mem past (id_at t i) 0 refl (omega arith) (going_start t visit always mem count ready) in
    one_by_one t services clock i active count mem mem (Ok tt) (going_end t visit always mem count last mem g (ltb-false last count none))

-- ---- a model without parent that a search found is one of the rows, and all levels are before it
abbrev pub has_no_parent : Table → ℕ → Bool
has_no_parent t j = is_parentless (row_at t j).parent

module _ (state : List ℕ) (inside : Inside state) (start j : ℕ) (found : first_from (has_no_parent (table_in state)) start (length (table_in state).rows - start) ≡ Some j) where
  pub taker-bounds : (start ≤ j) × (j < length (table_in state).rows) × (has_no_parent (table_in state) j ≡ true)
  taker-bounds = sweep-bounds {S = ℕ} (λ k s. done s) (has_no_parent (table_in state)) start (length (table_in state).rows) 0 j found

  pub taker-deep : Deep (table_in state) levels j
  taker-deep =
      let free : T (has_no_parent (table_in state) j) = subst T (sym taker-bounds.2) tt in
      in-parentless state inside j taker-bounds.1 free (Deep (table_in state) levels) (parentless-deep (table_in state) (fine-in state inside))

-- the models from `row` on that no message is for are passed over
module _ (t : Table) (services : List Float) (clock : Float) (active count : ℕ) (mem₀ mem : List ℕ) (past : end_of t ≤ active) where
  abbrev visits : ℕ → World → Outcome World
  visits = takes_all t services clock (messages_in active count mem₀)

  abbrev Down : ℕ → Type 0
  Down row = Going t visits (has_no_parent t) mem₀ (length t.rows) row mem

  pass-row : (row : ℕ) → row < length t.rows → is_addressed t active count mem row ≡ false → Down row → Down (row + 1)
  pass-row row l none g = by (has_no_parent t row) refl
    where
      by : (b : Bool) → has_no_parent t row ≡ b → Down (row + 1)
      by true e =
          going_on t visits (has_no_parent t) mem₀ (length t.rows) row mem g row mem (search-hit (has_no_parent t) row (length t.rows) l e)
          (subst (λ (ms : List Message). Moves (takes_all t services clock ms row) t mem mem) (messages-stay t active mem₀ mem past g.frame count) (not-addressed t services clock row active count mem past g.ready none))
          (frame_same t 0 0 mem)
      by false e = going-skip t visits (has_no_parent t) mem₀ (length t.rows) row mem g l e

  pub pass-rows : (row here : ℕ) → here ≡ stop_from (is_addressed t active count mem) row (length t.rows - row) → row ≤ length t.rows → Down row → Down here
  pass-rows row here e l g = subst Down (sym e) (stop-over (is_addressed t active count mem) Down (length t.rows) pass-row row l g)
