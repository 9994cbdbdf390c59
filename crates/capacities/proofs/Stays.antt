-- A state's table migrated, by today's reading: it holds the same jobs, messages, clock and place, and passes 20 if it did. Assumes nothing.
use Prim.Native.Nat.{ℕ, zero, suc, ◌+◌, ◌≤◌}
use Rattle.std.specs.Prelude.{◌≡◌, Bool, true, false, not, ◌&&◌, List, [], ◌∷◌, map, eqb, length, get_or, if◌then◌else◌, Some, Result, Ok, Err, ⊤}
use Rattle.std.proofs.Math.Path.{refl, sym}
use Rattle.std.proofs.Common.{ap, ◌∙◌, arith, leb-true, le-leb}
use Rattle.std.proofs.lemmas.Bool.{false≢true}
use Rattle.std.proofs.Math.Dec.{leb}
use Rattle.times.specs.Time.{is_time, is_timer}
use Rattle.rules.specs.Sizes.{is_content, is_word, most_jobs, most_active}
use Rattle.rules.specs.Base.{every, hold, from, is_empty}
use Rattle.rules.specs.Table.{Kind, Row, Table, no_row, kind_at}
use Rattle.rules.specs.Intake as Intake
use Rattle.rules.specs.Intake.{Posted, is_passed, passes_intake, handed}
use Rattle.rules.specs.Decides.{whole_table}
use Rattle.rules.specs.Simulation.{State, Simulation, as_processor}
use Rattle.rules.specs.Valid.{is_active, state_number, state_fits, states_fit, message_rules, is_valid}
use Rattle.rules.specs.Layout.{rows_of, model_row, model_width, lent}
use Rattle.table.specs.declared.BadTable.{BadTable}
use Rattle.table.specs.Verdicts.{verdict_of}
use Rattle.memory.specs.Words.{word_at, place_in, head_at, phase_in, timer_in, held_in, begin_in, width_of, own_in}
use Rattle.memory.specs.View.{state_in, word_rules}
use Rattle.lookup.specs.Inside.{count_in, connectors_at, models_in, posted_in, table_in}
use Rattle.views.specs.World.{widths_of, begin_of, end_of, state_of, states_in}
use Rattle.views.specs.Messages.{messages_in}
use Rattle.stepping.specs.Simulating.{clock_in, active_in, sim_in}
use Rattle.rerunning.specs.Running.{tail_in, sim_of}
use Rattle.storing.specs.State.{state_words, row_rules, rows_fit, is_stored}
use Rattle.capacities.specs.Migration.{old_model_row, old_lent}
use Rattle.capacities.proofs.Alike.{Wider, equal, wider, Alike, empty, next, Lines, nothing, read, whole-alike, verdict-alike, all_lines}
use Rattle.capacities.proofs.States.{old_posted_in, old_sim_of, old_is_stored, migrated, stored-as-before, holds-as-before}

-- ---- rows of wider kinds: as many, and their words stand in the same places
rows-many : (rs ss : List Row) → Alike rs ss → length rs ≡ length ss
rows-many rs ss empty = refl
rows-many (r ∷ rs) (s ∷ ss) (next h t) = ap suc (rows-many rs ss t)

width_same : (k l : Kind) → Wider k l → width_of k ≡ width_of l
width_same k l (equal m) = refl
width_same k l (wider p q more) = refl

widths-same : (rs ss : List Row) → Alike rs ss → (i : ℕ) → widths_of rs i ≡ widths_of ss i
widths-same rs ss empty i = refl
widths-same (r ∷ rs) (s ∷ ss) (next h t) zero = refl
widths-same (r ∷ rs) (s ∷ ss) (next h t) (suc i) = λ j. width_same r.kind s.kind h.kind j + widths-same rs ss t i j

kinds-wider : (rs ss : List Row) → Alike rs ss → (i : ℕ) → Wider (get_or rs i no_row).kind (get_or ss i no_row).kind
kinds-wider rs ss empty zero = equal no_row.kind
kinds-wider rs ss empty (suc i) = equal no_row.kind
kinds-wider (r ∷ rs) (s ∷ ss) (next h t) zero = h.kind
kinds-wider (r ∷ rs) (s ∷ ss) (next h t) (suc i) = kinds-wider rs ss t i

state-same : (k l : Kind) → Wider k l → (b : ℕ) (mem : List ℕ) (i : ℕ) → state_in k b mem i ≡ state_in l b mem i
state-same k l (equal m) b mem i = refl
state-same k l (wider p q more) b mem i = refl

words_same : (k l : Kind) → Wider k l → (phase timer held b : ℕ) (mem : List ℕ) → hold (word_rules k phase timer held (own_in b (width_of k) mem)) ≡ hold (word_rules l phase timer held (own_in b (width_of l) mem))
words_same k l (equal m) phase timer held b mem = refl
words_same k l (wider p q more) phase timer held b mem = refl

-- ---- a state that fits a row fits a wider one
mono : (x a b c e : Bool) (n m more : ℕ) → m ≤ more → (if x then hold (a ∷ b ∷ c ∷ leb n m ∷ e ∷ []) else false) ≡ true → (if x then hold (a ∷ b ∷ c ∷ leb n more ∷ e ∷ []) else false) ≡ true
mono false a b c e n m more l h = h
mono true false b c e n m more l h = h
mono true true false c e n m more l h = h
mono true true true false e n m more l h = h
mono true true true true e n m more l h = go (leb n m) refl
  where
    go : (d : Bool) → leb n m ≡ d → hold (leb n more ∷ e ∷ []) ≡ true
    go false f = absurd (false≢true (sym (ap (λ (d : Bool). hold (d ∷ e ∷ [])) f) ∙ h))
    go true f =
        let below = leb-true n m f in
        ap (λ (d : Bool). hold (d ∷ e ∷ [])) (le-leb n more (omega arith) ∙ sym f) ∙ h

fits_wider : (k l : Kind) → Wider k l → (s : State) → state_fits k s ≡ true → state_fits l s ≡ true
fits_wider k l (equal m) s h = h
fits_wider k l (wider p q more) s h =
    let own = as_processor s in
    mono (eqb 1 (state_number s)) (is_timer own.timer) (leb (length own.queue) most_jobs) (every is_content own.queue) (not (is_active own.phase && is_empty own.queue))
    (length own.queue) p.queue_capacity q.queue_capacity more h

both : (a b c d : Bool) → (a ≡ true → c ≡ true) → (b ≡ true → d ≡ true) → (if a then b else false) ≡ true → (if c then d else false) ≡ true
both true b c d f g h = ap (λ (x : Bool). if x then d else false) (f refl) ∙ g h
both false b c d f g h = absurd (false≢true h)

states-wider : (rs ss : List Row) → Alike rs ss → (xs : List State) → states_fit rs xs ≡ true → states_fit ss xs ≡ true
states-wider rs ss empty xs h = h
states-wider (r ∷ rs) (s ∷ ss) (next e t) [] h = h
states-wider (r ∷ rs) (s ∷ ss) (next e t) (x ∷ xs) h =
    both (state_fits r.kind x) (states_fit rs xs) (state_fits s.kind x) (states_fit ss xs) (fits_wider r.kind s.kind e.kind x) (states-wider rs ss t xs) h

-- ---- two tables with such rows, over the same words
module _ (t u : Table) (rows : Alike t.rows u.rows) (mem : List ℕ) where
  many : length t.rows ≡ length u.rows
  many = rows-many t.rows u.rows rows

  begins-same : (i : ℕ) → begin_of t i ≡ begin_of u i
  begins-same i = λ j. head_at (many j) + widths-same t.rows u.rows rows i j

  ends_same : end_of t ≡ end_of u
  ends_same = begins-same (length t.rows) ∙ ap (begin_of u) many

  state-here : (i : ℕ) → state_of t mem i ≡ state_of u mem i
  state-here i = state-same (kind_at t i) (kind_at u i) (kinds-wider t.rows u.rows rows i) (begin_of t i) mem i ∙ ap (λ (b : ℕ). state_in (kind_at u i) b mem i) (begins-same i)

  pub states-same : states_in t mem ≡ states_in u mem
  states-same = λ j. map (λ i. state-here i j) (from 0 (many j))

  pub active-same : active_in t mem ≡ active_in u mem
  active-same = ap (λ (n : ℕ). messages_in n (word_at mem 0) mem) ends_same

  rules-here : (i : ℕ) → hold (row_rules t mem i) ≡ hold (row_rules u mem i)
  rules-here i =
      let k = kind_at t i in
      let l = kind_at u i in
      (λ j. hold (eqb (begin_in mem i) (begin_of t i) ∷ words_same k l (kinds-wider t.rows u.rows rows i) (phase_in mem i) (timer_in mem i) (held_in mem i) (begin_of t i) mem j ∷ []))
      ∙ ap (λ (b : ℕ). hold (eqb (begin_in mem i) b ∷ hold (word_rules l (phase_in mem i) (timer_in mem i) (held_in mem i) (own_in b (width_of l) mem)) ∷ [])) (begins-same i)

  fit_same : rows_fit t mem ≡ rows_fit u mem
  fit_same = λ j. every (λ i. rules-here i j) (from 0 (many j))

-- ---- intake passes both or neither
abbrev passed_by : Result ⊤ BadTable → Bool
passed_by (Err bad) = false
passed_by (Ok u) = true

passed_is : (v : Intake.Verdict) → is_passed v ≡ passed_by (verdict_of v)
passed_is Intake.too_large = refl
passed_is (Intake.bad_row row) = refl
passed_is (Intake.bad_connector row) = refl
passed_is (Intake.bad_coupling row) = refl
passed_is (Intake.passed t) = refl

passed-same : (p q : Posted) → Lines p.rows q.rows → p.connectors ≡ q.connectors → p.couplings ≡ q.couplings → is_passed (Intake.intake p) ≡ is_passed (Intake.intake q)
passed-same p q l e f = passed_is (Intake.intake p) ∙ ap passed_by (verdict-alike p q l e f) ∙ sym (passed_is (Intake.intake q))

some-lines : (rs ss : List Row) → Alike rs ss → Lines (map Some rs) (map Some ss)
some-lines rs ss empty = nothing
some-lines (r ∷ rs) (s ∷ ss) (next h t) = read h (some-lines rs ss t)

intake-same : (t u : Table) → Alike t.rows u.rows → t.connectors ≡ u.connectors → t.couplings ≡ u.couplings → passes_intake t ≡ passes_intake u
unfolding passes_intake
intake-same t u rows e f = passed-same (handed t) (handed u) (some-lines t.rows u.rows rows) (ap (map Some) e) (ap (map Some) f)

-- ---- what is valid under the first table is valid under the second
second : (a b c : Bool) (rest : List Bool) → (b ≡ true → c ≡ true) → hold (a ∷ b ∷ rest) ≡ true → hold (a ∷ c ∷ rest) ≡ true
second true true c rest f h = ap (λ (x : Bool). hold (x ∷ rest)) (f refl) ∙ h
second true false c rest f h = absurd (false≢true h)
second false b c rest f h = h

valid-wider : (t u : Table) → Alike t.rows u.rows → t.connectors ≡ u.connectors → t.couplings ≡ u.couplings → (mem : List ℕ) → is_valid (sim_in t mem) ≡ true → is_valid (sim_in u mem) ≡ true
unfolding is_valid
valid-wider t u rows e f mem h =
    second (passes_intake u) (states_fit t.rows (states_in u mem)) (states_fit u.rows (states_in u mem))
    (leb (length (active_in u mem)) most_active ∷ every (λ m. hold (message_rules m)) (active_in u mem) ∷ is_time (clock_in mem) ∷ is_word (place_in mem) ∷ [])
    (states-wider t.rows u.rows rows (states_in u mem))
    ((λ i. hold
    (sym (intake-same t u rows e f) i ∷ states_fit t.rows (sym (states-same t u rows mem) i)
    ∷ leb (length (sym (active-same t u rows mem) i)) most_active ∷ every (λ m. hold (message_rules m)) (sym (active-same t u rows mem) i) ∷ is_time (clock_in mem) ∷ is_word (place_in mem) ∷ []))
    ∙ h)

-- ---- the two readings of a state's table
module _ (state : List ℕ) where
  readings : Alike (table_in state).rows (whole_table (old_posted_in state)).rows
  unfolding lent old_lent
  readings = whole-alike (map model_row (rows_of model_width (models_in state))) (map old_model_row (rows_of model_width (models_in state))) (all_lines (rows_of model_width (models_in state)))

  links-same : ((table_in state).connectors ≡ (whole_table (old_posted_in state)).connectors) × ((table_in state).couplings ≡ (whole_table (old_posted_in state)).couplings)
  unfolding lent old_lent
  links-same = (refl, refl)

  passes-old : is_passed (Intake.intake (posted_in state)) ≡ is_passed (Intake.intake (old_posted_in state))
  unfolding lent old_lent
  passes-old = passed-same (posted_in state) (old_posted_in state) (all_lines (rows_of model_width (models_in state))) refl refl

  -- the same jobs, parked messages and marks, active messages, clock and place
  module _ (room : connectors_at state ≤ length state) where
    pub states-stay : (sim_of (migrated state)).states ≡ (sim_of state).states
    states-stay = ap (λ (sim : Simulation). sim.states) (holds-as-before state room) ∙ sym (states-same (table_in state) (whole_table (old_posted_in state)) readings (tail_in state))

    pub active-stay : (sim_of (migrated state)).active ≡ (sim_of state).active
    active-stay = ap (λ (sim : Simulation). sim.active) (holds-as-before state room) ∙ sym (active-same (table_in state) (whole_table (old_posted_in state)) readings (tail_in state))

    pub clock-stays : (sim_of (migrated state)).clock ≡ (sim_of state).clock
    clock-stays = ap (λ (sim : Simulation). sim.clock) (holds-as-before state room)

    pub place-stays : (sim_of (migrated state)).place ≡ (sim_of state).place
    place-stays = ap (λ (sim : Simulation). sim.place) (holds-as-before state room)

  -- a state that passes 20 unmigrated passes it migrated
  fourth : (a b c d e : Bool) → (d ≡ true → e ≡ true) → hold (a ∷ b ∷ c ∷ d ∷ []) ≡ true → hold (a ∷ b ∷ c ∷ e ∷ []) ≡ true
  fourth true true true d e f h = second true d e [] f h
  fourth true true false d e f h = h
  fourth true false c d e f h = h
  fourth false b c d e f h = h

  has_room : is_stored state ≡ true → connectors_at state ≤ length state
  unfolding is_stored
  has_room h = by (leb words (length state)) refl
    where
      words : ℕ
      words = state_words (count_in 0 state) (count_in 1 state) (count_in 2 state)

      by : (b : Bool) → leb words (length state) ≡ b → connectors_at state ≤ length state
      by true e = let l = leb-true words (length state) e in omega arith
      by false e = absurd (false≢true (sym (rw e) ∙ h))

  old-stored : is_stored state ≡ true → old_is_stored state ≡ true
  unfolding is_stored old_is_stored
  old-stored h =
      let t = table_in state in
      let u = whole_table (old_posted_in state) in
      let long = leb (state_words (count_in 0 state) (count_in 1 state) (count_in 2 state)) (length state) in
      fourth long (is_passed (Intake.intake (old_posted_in state))) (rows_fit u (tail_in state)) (is_valid (sim_of state)) (is_valid (old_sim_of state))
      (valid-wider t u readings links-same.0 links-same.1 (tail_in state))
      ((λ i. hold (long ∷ sym passes-old i ∷ sym (fit_same t u readings (tail_in state)) i ∷ is_valid (sim_of state) ∷ [])) ∙ h)

  pub stored-stays : is_stored state ≡ true → is_stored (migrated state) ≡ true
  stored-stays h = stored-as-before state (has_room h) ∙ old-stored h
