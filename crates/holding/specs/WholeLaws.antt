-- The laws of the whole: the rows one after the other, the active messages, the table; and that all of these are what 20 asks of a lent state. Assumes nothing.
use Rattle.std.specs.Prelude.{ℕ, suc, ◌+◌, ◌-◌, ◌*◌, ◌≤◌, ◌<◌, ◌^◌, ◌≡◌, Bool, true, false, List, map, length, get_or, take, drop, leb, None, Option, Some, Result, Err, is_ok, ⊤}
use Rattle.std.proofs.Math.Path.{refl, sym, ap, subst}
use Rattle.std.proofs.Common.{◌∙◌, length-drop, take_all, get_or-drop}
use native.Mathlib.Omega.{arith}
use Rattle.std.proofs.Math.Dec.{T}
use Rattle.times.specs.Time.{is_time}
use Rattle.times.specs.Order.{same_test}
use Rattle.rules.specs.declared.Message.{Message}
use Rattle.rules.specs.Layout.{lent}
use Rattle.rules.specs.Base.{every, hold, from}
use Rattle.rules.specs.Sizes.{most_active}
use Rattle.rules.specs.Table as Table
use Rattle.rules.specs.Table.{Table, Row, no_row, kind_at}
use Rattle.rules.specs.Intake as Intake
use Rattle.rules.specs.Intake.{Posted, intake, is_passed}
use Rattle.rules.specs.Simulation.{State, state_at}
use Rattle.rules.specs.Valid.{state_fits, message_rules, is_valid}
use Rattle.rules.specs.Ends.{all_map, every-all, one}
use Rattle.rules.specs.Decides.{Decides, passes, tells, is_true, is_false, reads, ◌also◌, ◌and◌, alone, itself, at-most, same, every-decides, whole_table, intake-exactly, passes-decides, state-decides, message-decides, valid-decides}
use Rattle.rules.specs.Depth.{passed-again}
use Rattle.words.specs.Lists.{part_length}
use Rattle.table.specs.declared.BadTable.{BadTable}
use Rattle.table.specs.declared.BadTable.TheVariants.{TooLarge}
use Rattle.table.specs.Verdicts.{verdict_of}
use Rattle.table.specs.Judged.{large-models, large-connectors, large-couplings}
use Rattle.memory.specs.Words.{word_at, head_at, phase_in, timer_in, held_in, begin_in, width_of, own_in}
use Rattle.memory.specs.View.{state_in, word_rules}
use Rattle.lookup.specs.Inside.{Inside, count_in, connectors_at, couplings_at, tail_at, models_in, connectors_in, couplings_in, posted_in, table_in}
use Rattle.lookup.specs.InsideLaws.{place-keeps, counts, lent_models, lent_connectors, lent_couplings, models-part, connectors-part, couplings-part}
use Rattle.views.specs.World.{widths_of, begin_of, end_of, state_of, states_in}
use Rattle.views.proofs.WorldLayout.{states-long, state-is}
use Rattle.views.specs.Messages.{message_in, messages_in}
use Rattle.views.specs.MessageLaws.{messages-long}
use Rattle.stepping.specs.Simulating.{clock_in, active_in}
use Rattle.rerunning.specs.Running.{tail_in, sim_of}
use Rattle.marks.specs.MarkingLaws.{every-from}
use Rattle.copying.specs.EndLaws as laws
use Rattle.storing.specs.StoredLaws.{widths-most}
use Rattle.storing.specs.State.{state_words, row_rules, rows_fit, is_stored}
use Rattle.holding.specs.Fitting.{state_by, row_fits, row_stands, next_if, row_end, rows_from, rows_stand, rows_end, tail_fits, table_fits}
use Rattle.holding.specs.RowLaws.{sweep-over, sweep-stops, sweep-on}

-- ---- one row
module _ (k : Table.Kind) (begin : ℕ) (mem : List ℕ) (i : ℕ) where
  pub row_moved : (begin_in mem i ≡ begin → ⊥) → row_end k begin mem i ≡ None
  unfolding row_end row_stands
  row_moved n = rw (is_false (same (begin_in mem i) begin) n) refl

  row_next : begin_in mem i ≡ begin → next_if (row_fits k (phase_in mem i) (timer_in mem i) (held_in mem i) (own_in begin (width_of k) mem)) (begin + width_of k) ≡ row_end k begin mem i
  unfolding row_end row_stands
  row_next e =
      sym (rw (is_true (same (begin_in mem i) begin) e)
      (ap (λ (b : Bool). next_if b (begin + width_of k)) (one (row_fits k (phase_in mem i) (timer_in mem i) (held_in mem i) (own_in begin (width_of k) mem)))))

-- of a row of a known kind, by what its head and its own words are
pub row-says : (k known : Table.Kind) (begin : ℕ) (mem : List ℕ) (i phase timer held end : ℕ) (fits : Bool) (r : Option ℕ)
    → k ≡ known → begin_in mem i ≡ begin → phase ≡ phase_in mem i → timer ≡ timer_in mem i → held ≡ held_in mem i → end ≡ begin + width_of known
    → fits ≡ row_fits known phase timer held (take (end - begin) (drop begin mem)) → r ≡ next_if fits end → r ≡ row_end k begin mem i
row-says k known begin mem i phase timer held end fits r is b p t h e f g =
    let width : end - begin ≡ width_of known = omega arith in
    g ∙ (λ j. next_if (f j) (e j)) ∙ (λ j. next_if (row_fits known (p j) (t j) (h j) (take (width j) (drop begin mem))) (begin + width_of known)) ∙ row_next known begin mem i b
    ∙ ap (λ (j : Table.Kind). row_end j begin mem i) (sym is)

-- ---- the rows, from the row i on
widths-next : (rows : List Row) (i : ℕ) → i < length rows → widths_of rows (i + 1) ≡ widths_of rows i + width_of (get_or rows i no_row).kind
widths-next rows i l = let e : i + 1 ≡ suc i = omega arith in ap (widths_of rows) e ∙ laws.widths-next rows i l

next-bad : (b : Bool) (end : ℕ) → next_if b end ≡ None → b ≡ false
next-bad true end e = let z : ◌≡◌ {A = ℕ} 0 1 = cc in absurd (omega arith)
next-bad false end e = refl

next-at : (b : Bool) (end at : ℕ) → next_if b end ≡ Some at → (b ≡ true) × (at ≡ end)
next-at true end at e = (refl, cc)
next-at false end at e = let z : ◌≡◌ {A = ℕ} 0 1 = cc in absurd (omega arith)

module _ (t : Table) (mem : List ℕ) where
  abbrev stands : ℕ → Bool
  stands j = row_stands (kind_at t j) (begin_of t j) mem j

  -- within what is there
  pub begin-room : (i : ℕ) → i < length t.rows → begin_of t i + 192 ≤ head_at (length t.rows) + length t.rows * 192
  begin-room i l = let m = widths-most t.rows i in omega arith

  pub end-room : end_of t ≤ head_at (length t.rows) + length t.rows * 192
  end-room = let m = widths-most t.rows (length t.rows) in omega arith

  pub rows-over : (i n : ℕ) → n ≤ i → rows_from t mem i (n - i) ≡ true
  unfolding rows_from
  rows-over i n h = sweep-over (λ k n. every stands (from k n)) stands (λ _. refl) (λ _ _. refl) i n h

  module _ (i n begin : ℕ) (l : i < n) (all : n ≡ length t.rows) (at : begin ≡ begin_of t i) where
    here : row_end (kind_at t i) begin mem i ≡ next_if (stands i) (begin_of t i + width_of (kind_at t i))
    unfolding row_end
    here = λ j. next_if (row_stands (kind_at t i) (at j) mem i) (at j + width_of (kind_at t i))

    pub rows-stop : row_end (kind_at t i) begin mem i ≡ None → rows_from t mem i (n - i) ≡ false
    unfolding rows_from
    rows-stop e = sweep-stops (λ k n. every stands (from k n)) stands (λ _. refl) (λ _ _. refl) i n l (next-bad (stands i) (begin_of t i + width_of (kind_at t i)) (sym here ∙ e))

    pub rows_on : (end : ℕ) → row_end (kind_at t i) begin mem i ≡ Some end → (end ≡ begin_of t (i + 1)) × (rows_from t mem i (n - i) ≡ rows_from t mem (i + 1) (n - (i + 1)))
    unfolding rows_from
    rows_on end e =
        let both = next-at (stands i) (begin_of t i + width_of (kind_at t i)) end (sym here ∙ e) in
        let w = widths-next t.rows i (omega arith) in
        let b = both.1 in
        (omega arith, sweep-on (λ k n. every stands (from k n)) stands (λ _. refl) (λ _ _. refl) i n l both.0)

  pub rows-bad : rows_stand t mem ≡ false → None ≡ rows_end t mem
  unfolding rows_end
  rows-bad e = sym (ap (λ (b : Bool). next_if b (end_of t)) e)

  pub rows-good : (begin : ℕ) → begin ≡ end_of t → rows_stand t mem ≡ true → Some begin ≡ rows_end t mem
  unfolding rows_end
  rows-good begin b e = ap Some b ∙ sym (ap (λ (b : Bool). next_if b (end_of t)) e)

  rows-say : rows_end t mem ≡ None → rows_stand t mem ≡ false
  unfolding rows_end
  rows-say e = next-bad (rows_stand t mem) (end_of t) e

  pub rows_tell : (end : ℕ) → rows_end t mem ≡ Some end → (rows_stand t mem ≡ true) × (end ≡ end_of t)
  unfolding rows_end
  rows_tell end e = next-at (rows_stand t mem) (end_of t) end e

  -- ---- the changing part
  abbrev active-fit : Bool
  active-fit = every (λ m. hold (message_rules m)) (active_in t mem)

  tail-decides : Decides (tail_fits t mem) ((word_at mem 0 ≤ most_active) also T (is_time (clock_in mem)) also T (rows_stand t mem) also T active-fit)
  unfolding tail_fits
  tail-decides = at-most (word_at mem 0) most_active and itself (is_time (clock_in mem)) and itself (rows_stand t mem) and alone (itself active-fit)

  pub tail-many : most_active < word_at mem 0 → false ≡ tail_fits t mem
  tail-many l = sym (is_false tail-decides (λ h. let m = h.0 in omega arith))

  pub tail-late : is_time (clock_in mem) ≡ false → false ≡ tail_fits t mem
  tail-late e = sym (is_false tail-decides (λ h. subst T e h.1.0))

  pub tail-bad : rows_end t mem ≡ None → false ≡ tail_fits t mem
  tail-bad e = sym (is_false tail-decides (λ h. subst T (rows-say e) h.1.1.0))

  pub tail-rest : word_at mem 0 ≤ most_active → is_time (clock_in mem) ≡ true → (end : ℕ) → rows_end t mem ≡ Some end → every (λ m. hold (message_rules m)) (messages_in end (word_at mem 0) mem) ≡ tail_fits t mem
  tail-rest l c end e =
      let told = rows_tell end e in
      ap (λ (p : ℕ). every (λ m. hold (message_rules m)) (messages_in p (word_at mem 0) mem)) told.1
      ∙ same_test active-fit (tail_fits t mem) (λ a. passes tail-decides (l, (subst T (sym c) tt, (subst T (sym told.0) tt, a)))) (λ h. (tells tail-decides h).1.1.1)

-- ---- what a row must keep, as facts
row-state : (k : Table.Kind) (b : ℕ) (mem : List ℕ) (i : ℕ) → state_by k (phase_in mem i) (timer_in mem i) (held_in mem i) (own_in b (width_of k) mem) ≡ state_in k b mem i
row-state (Table.processor p) b mem i = refl
row-state (Table.batcher m) b mem i = refl
row-state (Table.stopwatch w) b mem i = refl
row-state Table.coupled b mem i = refl

module _ (t : Table) (mem : List ℕ) (i : ℕ) where
  abbrev words-fit : Bool
  words-fit = hold (word_rules (kind_at t i) (phase_in mem i) (timer_in mem i) (held_in mem i) (own_in (begin_of t i) (width_of (kind_at t i)) mem))

  abbrev Stands : Type 0
  Stands = (begin_in mem i ≡ begin_of t i) also T words-fit also T (state_fits (kind_at t i) (state_of t mem i))

  stands-decide : Decides (stands t mem i) Stands
  unfolding row_stands row_fits
  stands-decide =
      let own = own_in (begin_of t i) (width_of (kind_at t i)) mem in
      let is = row-state (kind_at t i) (begin_of t i) mem i in
      reads (same (begin_in mem i) (begin_of t i) and alone (itself words-fit and alone (itself (state_fits (kind_at t i) (state_by (kind_at t i) (phase_in mem i) (timer_in mem i) (held_in mem i) own)))))
      (λ h. (h.0, (h.1.0, subst (λ (s : State). T (state_fits (kind_at t i) s)) is h.1.1)))
      (λ h. (h.0, (h.1.0, subst (λ (s : State). T (state_fits (kind_at t i) s)) (sym is) h.1.1)))

  rules-decide : Decides (hold (row_rules t mem i)) ((begin_in mem i ≡ begin_of t i) also T words-fit)
  rules-decide = same (begin_in mem i) (begin_of t i) and alone (itself words-fit)

rows_are : (t : Table) (mem : List ℕ) → (T (rows_stand t mem) → T (every (stands t mem) (from 0 (length t.rows)))) × (T (every (stands t mem) (from 0 (length t.rows))) → T (rows_stand t mem))
unfolding rows_from
rows_are t mem = (λ h. h, λ h. h)

-- by place
from_at : (test : ℕ → Bool) (n : ℕ) → T (every test (from 0 n)) → (i : ℕ) → i < n → T (test i)
from_at test n t = place-keeps (λ j. T (test j)) (λ j. j) n (all_map {R = λ j. T (test j)} (λ j. j) (every-all test (from 0 n) t) (λ j h. h))

-- ---- the active messages
module _ (at : ℕ) (mem : List ℕ) where
  abbrev pub messages_from : ℕ → ℕ → Bool
  messages_from k n = every (λ m. hold (message_rules m)) (map (message_in at mem) (from k n))

  abbrev message-fits : ℕ → Bool
  message-fits k = hold (message_rules (message_in at mem k))

  module _ (k n : ℕ) where
    pub messages-over : n ≤ k → messages_from k (n - k) ≡ true
    messages-over = sweep-over messages_from message-fits (λ _. refl) (λ _ _. refl) k n

    pub messages-stop : k < n → hold (message_rules (message_in at mem k)) ≡ false → messages_from k (n - k) ≡ false
    messages-stop = sweep-stops messages_from message-fits (λ _. refl) (λ _ _. refl) k n

    pub messages-on : k < n → hold (message_rules (message_in at mem k)) ≡ true → messages_from k (n - k) ≡ messages_from (k + 1) (n - (k + 1))
    messages-on = sweep-on messages_from message-fits (λ _. refl) (λ _ _. refl) k n

pub message-rest : (m : Message) → m.source_id ≤ 65535 → m.source_port ≤ 65535 → m.target_id ≤ 65535 → m.target_port ≤ 65535 → is_time m.time ≡ true → leb m.content 4294967295 ≡ hold (message_rules m)
message-rest m a b c d e =
    same_test (leb m.content 4294967295) (hold (message_rules m))
    (λ t. let l = tells (at-most m.content 4294967295) t in passes (message-decides m) (omega arith, (omega arith, (omega arith, (omega arith, (subst T (sym e) tt, omega arith))))))
    (λ h. let l = (tells (message-decides m) h).1.1.1.1.1 in passes (at-most m.content 4294967295) (omega arith))

-- ---- the table
passing-is : (v : Intake.Verdict) → is_passed v ≡ is_ok (verdict_of v)
passing-is Intake.too_large = refl
passing-is (Intake.bad_row k) = refl
passing-is (Intake.bad_connector k) = refl
passing-is (Intake.bad_coupling k) = refl
passing-is (Intake.passed t) = refl

module _ (state : List ℕ) where
  abbrev needed : ℕ
  needed = state_words (count_in 0 state) (count_in 1 state) (count_in 2 state)

  table-decides : Decides (table_fits state) ((needed ≤ length state) also T (is_passed (intake (posted_in state))))
  unfolding table_fits
  table-decides = at-most needed (length state) and alone (itself (is_passed (intake (posted_in state))))

  -- too short for any table, or for this one
  pub table-short : length state < 1542 → false ≡ table_fits state
  table-short l = sym (is_false table-decides (λ h. let m = h.0 in omega arith))

  pub table-cut : length state < tail_at state + count_in 0 state * 196 + 1539 → false ≡ table_fits state
  table-cut l = sym (is_false table-decides (λ h. let m = h.0 in omega arith))

  -- more rows than there may be
  large : (needed ≤ length state → verdict_of (intake (posted_in state)) ≡ Err TooLarge) → false ≡ table_fits state
  large f = sym (is_false table-decides (λ h. subst T (passing-is (intake (posted_in state)) ∙ ap is_ok (f h.0)) h.1))

  module _ (room : needed ≤ length state) where
    models-words : length (models_in state) ≡ count_in 0 state * 10
    models-words = part_length 3 (count_in 0 state * 10) state (omega arith)

    connectors-words : length (connectors_in state) ≡ count_in 1 state * 4
    connectors-words = part_length (connectors_at state) (count_in 1 state * 4) state (omega arith)

    couplings-words : length (couplings_in state) ≡ count_in 2 state * 6
    couplings-words = part_length (couplings_at state) (count_in 2 state * 6) state (omega arith)

  pub many-rows : 64 < count_in 0 state → false ≡ table_fits state
  many-rows l = large (λ r. let m = models-words r in large-models (models_in state) (connectors_in state) (couplings_in state) (omega arith))

  pub many-connectors : count_in 0 state ≤ 64 → 256 < count_in 1 state → false ≡ table_fits state
  many-connectors a l = large (λ r. let m = models-words r in let n = connectors-words r in large-connectors (models_in state) (connectors_in state) (couplings_in state) (omega arith) (omega arith))

  pub many-couplings : count_in 0 state ≤ 64 → count_in 1 state ≤ 256 → 256 < count_in 2 state → false ≡ table_fits state
  many-couplings a b l =
      large (λ r. let m = models-words r in let n = connectors-words r in let o = couplings-words r in large-couplings (models_in state) (connectors_in state) (couplings_in state) (omega arith) (omega arith) (omega arith))

  -- what intake answers for the parts as they are lent
  pub table-says : tail_at state + count_in 0 state * 196 + 1539 ≤ length state → (told known : Result ⊤ BadTable) → told ≡ verdict_of (intake (lent (lent_models state) (lent_connectors state) (lent_couplings state))) → told ≡ known → is_ok known ≡ table_fits state
  unfolding table_fits
  table-says l told known e f =
      let parts : lent (lent_models state) (lent_connectors state) (lent_couplings state) ≡ posted_in state = λ i. lent (models-part state i) (connectors-part state i) (couplings-part state i) in
      ap is_ok (sym f ∙ e ∙ ap (λ (p : Posted). verdict_of (intake p)) parts) ∙ sym (passing-is (intake (posted_in state)))
      ∙ sym (rw (is_true (at-most needed (length state)) (omega arith)) (one (is_passed (intake (posted_in state)))))

  -- ---- the table passes: it is inside, and the changing part is as long as any of its states
  passed-whole : (p : Posted) (v : Intake.Verdict) → intake p ≡ v → T (is_passed v) → intake p ≡ Intake.passed (whole_table p)
  passed-whole p Intake.too_large e u = absurd u
  passed-whole p (Intake.bad_row k) e u = absurd u
  passed-whole p (Intake.bad_connector k) e u = absurd u
  passed-whole p (Intake.bad_coupling k) e u = absurd u
  passed-whole p (Intake.passed t) e u = e ∙ ap Intake.passed ((intake-exactly p (Intake.passed t)).0 e).4

  stored-decides : Decides (is_stored state) ((needed ≤ length state) also T (is_passed (intake (posted_in state))) also T (rows_fit (table_in state) (tail_in state)) also T (is_valid (sim_of state)))
  unfolding is_stored
  stored-decides = at-most needed (length state) and itself (is_passed (intake (posted_in state))) and itself (rows_fit (table_in state) (tail_in state)) and alone (itself (is_valid (sim_of state)))

  pub table-not : table_fits state ≡ false → false ≡ is_stored state
  table-not e = sym (is_false stored-decides (λ h. subst T e (passes table-decides (h.0, h.1.0))))

  module _ (fits : table_fits state ≡ true) where
    told : (needed ≤ length state) also T (is_passed (intake (posted_in state)))
    told = tells table-decides (subst T (sym fits) tt)

    pub inside_of : Inside state
    inside_of = record { room = (let m = told.0 in omega arith); passes = passed-whole (posted_in state) (intake (posted_in state)) refl told.1 }

    module _ (tail : ℕ) (is : tail ≡ tail_at state) where
      pub tail_within : tail ≤ length state
      tail_within = let r = inside_of.room in omega arith

      -- the changing part, as it is lent
      tail-is : take (length state - tail) (drop tail state) ≡ tail_in state
      tail-is =
          ap (λ (p : ℕ). take (length state - p) (drop p state)) is
          ∙ take_all (length state - tail_at state) (tail_in state) (let d = length-drop (tail_at state) state in omega arith)

      pub tail-room : head_at (length (table_in state).rows) + length (table_in state).rows * 192 + 1536 ≤ length (take (length state - tail) (drop tail state))
      tail-room = rw tail-is (let d = length-drop (tail_at state) state in let m = told.0 in let n = (counts state inside_of).0 in omega arith)

      module _ (wide : (i : ℕ) → get_or state i 0 < 2 ^ 64) where
        abbrev t : Table
        t = table_in state

        abbrev mem : List ℕ
        mem = tail_in state

        into : T (tail_fits t mem) → T (is_stored state)
        into h =
            let facts = tells (tail-decides t mem) h in
            let row : (i : ℕ) → i < length t.rows → Stands t mem i = λ i l. tells (stands-decide t mem i) (from_at (stands t mem) (length t.rows) ((rows_are t mem).0 facts.1.1.0) i l) in
            passes stored-decides (
              told.0,
              (
                told.1,
                (
                  every-from (λ i. hold (row_rules t mem i)) 0 (length t.rows) (λ i a b. passes (rules-decide t mem i) (let r = row i (omega arith) in (r.0, r.1.0))),
                  passes (valid-decides (sim_of state))
                      (record {
                        table = tells (passes-decides t) (passed-again (posted_in state) t inside_of.passes);
                        states = (states-long t mem, λ i l. tells (state-decides (kind_at t i) (state_at (states_in t mem) i)) (subst (λ (s : State). T (state_fits (kind_at t i) s)) (sym (state-is t mem i l)) (row i l).1.1));
                        active-most = rw (messages-long (end_of t) (word_at mem 0) mem) facts.0;
                        active-keep = tells (every-decides message-decides (active_in t mem)) facts.1.1.1;
                        clock = facts.1.0;
                        place = subst (λ (n : ℕ). n < 2 ^ 64) (sym (get_or-drop (tail_at state) state 2 0)) (wide (tail_at state + 2));
                      }),
                ),
              ),
            )

        back : T (is_stored state) → T (tail_fits t mem)
        back h =
            let facts = tells stored-decides h in
            let asked = tells (valid-decides (sim_of state)) facts.1.1.1 in
            passes (tail-decides t mem) (
              (rw (messages-long (end_of t) (word_at mem 0) mem) at asked.active-most),
              (
                asked.clock,
                (
                  (rows_are t mem).1
                      (every-from (stands t mem) 0 (length t.rows)
                      (λ i a b. let l : i < length t.rows = omega arith in
                      let words = tells (rules-decide t mem i) (from_at (λ j. hold (row_rules t mem j)) (length t.rows) facts.1.1.0 i l) in
                      passes (stands-decide t mem i)
                      (words.0, (words.1, subst (λ (s : State). T (state_fits (kind_at t i) s)) (state-is t mem i l) (passes (state-decides (kind_at t i) (state_at (states_in t mem) i)) (asked.states.1 i l)))))),
                  passes (every-decides message-decides (active_in t mem)) asked.active-keep,
                ),
              ),
            )

        pub stored_is : tail_fits t (take (length state - tail) (drop tail state)) ≡ is_stored state
        stored_is = ap (tail_fits t) tail-is ∙ same_test (tail_fits t mem) (is_stored state) into back
