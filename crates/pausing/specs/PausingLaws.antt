-- Running on is the same as running through, of jt_step_n: two calls on one state buffer and one output are one call. Assumes nothing.
use Rattle.std.specs.Prelude.{ℕ, zero, suc, ◌+◌, ◌-◌, ◌*◌, ◌≤◌, ◌≡◌, refl, Bool, true, false, not, List, [], ◌∷◌, ◌++◌, length, take, drop, T, ltb, eqb, Float, if◌then◌else◌}
use Rattle.std.proofs.Common.{sym, ap, subst, ◌∙◌, append_assoc, arith, length-append, length-drop, length-take-le, take_at, nltb→le, eqb→eq}
use Rattle.times.specs.Order.{same_test}
use Rattle.rules.specs.declared.Message.{Message}
use Rattle.rules.specs.declared.Refusal.{Refusal}
use Rattle.rules.specs.declared.Refusal.TheVariants.{BadState}
use Rattle.rules.specs.Names.{number}
use Rattle.rules.specs.Sizes.{is_word}
use Rattle.rules.specs.Base.{refused}
use Rattle.rules.specs.Layout.{message_width, room_in, laid_down}
use Rattle.rules.specs.Simulation.{Simulation}
use Rattle.rules.specs.Valid.{is_valid}
use Rattle.rules.specs.Calls as Calls
use Rattle.rules.specs.Calls.{End, Done, Reached, Spent, Refused, Ran, ended}
use Rattle.rules.proofs.Runs.{Valid, valid-of, NotTwenty, step_n-keeps, step_n-valid}
use Rattle.rules.proofs.Refused.{Counted, steps-counted}
use Rattle.lookup.specs.Inside.{tail_at, models_in, connectors_in, couplings_in, table_in}
use Rattle.rerunning.specs.Running.{tail_in, sim_of}
use Rattle.copying.specs.CopiedLaws.{laid-long}
use Rattle.engine.specs.RunLaws.{laid_more}
use Rattle.storing.specs.StoredLaws.{stored-inside, stored_of, stored-holds, laid-is, kept_same}
use Rattle.chains.proofs.ChainLaws.{same-table, kept-counts, zero-done}
use Rattle.storing.specs.State.{changing, laid_state, over, kept, is_stored}
use Rattle.storing.specs.Lent.{run_in}
use Rattle.storing.specs.KeptLaws.{changing-long, kept-is, passes_on}
use Rattle.storing.specs.ReadBack.{kept-stored}
use Rattle.simulation.specs.CallLaws as call
use Rattle.host.specs.Numbers.{end_number, end_word, reported, report_after}
use Rattle.promises.specs.RunOn.{whole_end, joined, room_left, total}
use Rattle.promises.proofs.RunOn.{passes, run_on, refused-again}
use Rattle.pausing.specs.Pausing.{Made, jt_step_n, steps_told, rows_told, end_told, next_row, rest_of, unless_refused, as_one, jt_step_n_on, blank, jt_in_parts, state_end, up_to_end, Same, paused_after}

-- ---- the answer for the whole: a refusal's number is not 0
number-some : (r : Refusal) → eqb (number r) 0 ≡ false
number-some r =
    same_test (eqb (number r) 0) false
    (λ t. let e = (zero-done {A = ℕ} (refused r) (eqb→eq (number r) 0 t)).1 in let z : ◌≡◌ {A = ℕ} 0 1 = cc in absurd (omega arith)) absurd

number_of : (end : End) → T (not (eqb (end_number end) 0)) → (r : Refusal) × (end ≡ Refused r)
number_of Done t = absurd t
number_of Reached t = absurd t
number_of Spent t = absurd t
number_of (Refused r) t = (r, refl)

-- by whatever word of its end
whole_word : (word : End → ℕ) (first second : End) → unless_refused (end_number first) (word first) (word second) ≡ word (whole_end first second)
whole_word word Done second = refl
whole_word word Reached second = refl
whole_word word Spent second = refl
whole_word word (Refused r) second = ap (λ (b : Bool). if b then word second else word (Refused r)) (number-some r)

-- ---- a report of three words: all are written
report-told : (report : List ℕ) (steps rows end : ℕ) → length report ≡ 3
    → (steps_told (reported steps rows end report) ≡ steps) × (rows_told (reported steps rows end report) ≡ rows) × (end_told (reported steps rows end report) ≡ end)
report-told [] steps rows end e = absurd (omega arith)
report-told (x ∷ []) steps rows end e = absurd (omega arith)
report-told (x ∷ y ∷ []) steps rows end e = absurd (omega arith)
report-told (x ∷ y ∷ z ∷ ws) steps rows end e = (refl, refl, refl)

-- ---- the room that is left, by the words that are left: also where the output has words past its last whole row
room-left : (first : List Message) (rows : List ℕ) → length first ≤ room_in rows → room_in (drop (length first * message_width) (laid_down first rows)) ≡ room_in rows - length first
room-left first rows fits =
    let long = laid-long first rows (omega arith) in
    let rest = length-drop (length first * message_width) (laid_down first rows) in
    omega arith

-- ---- a state's words up to its end
module _ (state : List ℕ) (stored : T (is_stored state)) (next : Simulation) (same : next.table ≡ (sim_of state).table) (ok : T (is_valid next)) where
  abbrev after : List ℕ
  after = kept state next

  front : take (tail_at state) after ≡ take (tail_at state) state
  front =
      let inside = stored-inside state stored in
      ap (take (tail_at state)) (kept-is state stored next)
      ∙ take_at (take (tail_at state) state) (changing next ++ drop (tail_at state + length (changing next)) state) (tail_at state) (length-take-le (tail_at state) state inside.room)

  same-tail : tail_at after ≡ tail_at state
  same-tail = let (rows, links, inner) = kept-counts state stored next same ok in omega arith

  state-words : up_to_end after ≡ take (tail_at state) state ++ changing next
  state-words =
      let inside = stored-inside state stored in
      let (there, is) = kept-stored state next stored same ok in
      let long = changing-long (table_in after) (tail_in after) (stored-holds after (stored_of after there)) in
      let end : state_end after ≡ tail_at state + length (changing next) = λ i. same-tail i + (sym long ∙ ap (λ (s : Simulation). length (changing s)) is) i in
      let front_long = length-take-le (tail_at state) state inside.room in
      ap (λ (n : ℕ). take n after) end
      ∙ ap (take (tail_at state + length (changing next))) (kept-is state stored next ∙ sym (append_assoc (take (tail_at state) state) (changing next) (drop (tail_at state + length (changing next)) state)))
      ∙ take_at (take (tail_at state) state ++ changing next) (drop (tail_at state + length (changing next)) state) (tail_at state + length (changing next))
      (length-append (take (tail_at state) state) (changing next) ∙ ap (λ (n : ℕ). n + length (changing next)) front_long)

-- so of a buffer that 20 lets pass they are the words that the layout makes of the simulation in it
pub up-to-end : (state : List ℕ) → T (is_stored state) → up_to_end state ≡ laid_state (models_in state) (connectors_in state) (couplings_in state) (sim_of state)
up-to-end state stored =
    ap up_to_end (sym (kept_same state stored))
    ∙ state-words state stored (sim_of state) refl (subst T (sym (passes_on state stored)) tt)
    ∙ sym (laid-is state (stored-inside state stored) (sim_of state))

-- words over themselves
over-own : (n : ℕ) (words : List ℕ) → over (take n words) words ≡ words
over-own zero words = refl
over-own (suc n) [] = refl
over-own (suc n) (x ∷ words) = ap (λ (ws : List ℕ). x ∷ ws) (over-own n words)

-- ---- one call on a buffer that holds a simulation, by the rules' run
abbrev made_by : Ran → (state rows report : List ℕ) → Made
made_by ran state rows report = record { number = end_number ran.end; report = report_after report ran; state = kept state ran.sim; rows = laid_down ran.rows rows }

made : (services : List Float) (count : ℕ) (state rows report : List ℕ) → is_stored state ≡ true
    → jt_step_n services count state rows report ≡ made_by (Calls.step_n services (room_in rows) count (sim_of state)) state rows report
made services count state rows report e =
    let run : Simulation → Ran = Calls.step_n services (room_in rows) count in
    let is = call.run_on state e run in
    let left = sym (call.leaves-on state e run) in
    λ i. record { number = end_number (is i).end; report = report_after report (is i); state = left i; rows = laid_down (is i).rows rows }

made-20 : (services : List Float) (count : ℕ) (state rows report : List ℕ) → is_stored state ≡ false
    → jt_step_n services count state rows report ≡ record { number = 20; report = reported 0 0 3 report; state = state; rows = rows }
made-20 services count state rows report e =
    let run : Simulation → Ran = Calls.step_n services (room_in rows) count in
    let is = call.run-20 state e run in
    let left = call.left-20 state e (run_in run state) in
    λ i. record { number = end_number (is i).end; report = report_after report (is i); state = left i; rows = laid_down (is i).rows rows }

-- a run stays with its table
stays : (services : List Float) → T (is_word (length services)) → (room count : ℕ) (sim : Simulation) → T (is_valid sim) → (Calls.step_n services room count sim).sim.table ≡ sim.table
stays services short room count sim valid =
    (step_n-keeps NotTwenty (λ s log. Valid s × (s.table ≡ sim.table)) (same-table sim.table) services short room count sim [] (valid-of sim valid, refl)).0.1

-- it leaves a buffer that 20 lets pass again, with the simulation that the rules' run leaves
leaves-stored : (services : List Float) → T (is_word (length services)) → (count : ℕ) (state rows report : List ℕ) → T (is_stored state)
    → T (is_stored (jt_step_n services count state rows report).state) × (sim_of (jt_step_n services count state rows report).state ≡ (Calls.step_n services (room_in rows) count (sim_of state)).sim)
leaves-stored services short count state rows report stored =
    let sim = sim_of state in
    let valid = subst T (sym (passes_on state stored)) tt in
    let here = same_test (is_stored state) true (λ _. tt) (λ _. stored) in
    let table = stays services short (room_in rows) count sim valid in
    subst (λ (m : Made). T (is_stored m.state) × (sim_of m.state ≡ (Calls.step_n services (room_in rows) count sim).sim)) (sym (made services count state rows report here))
    (kept-stored state (Calls.step_n services (room_in rows) count sim).sim stored table (step_n-valid services (room_in rows) count sim short valid).sim)

-- no steps are no steps
passes_none : (services : List Float) (room : ℕ) (sim : Simulation) → T (is_valid sim) → Calls.step_n services room 0 sim ≡ ended Done sim
unfolding Calls.steps
passes_none services room sim v = passes services room 0 sim v

-- ==== the theorems. The service list is no longer than one that is lent can be, and each part's report has three words: C's types keep both
module _ (services : List Float) (short : T (is_word (length services))) (a b : ℕ) (rows one two report : List ℕ) (three : length one ≡ 3) (three' : length two ≡ 3) where
  -- a buffer that 20 lets pass
  module _ (state : List ℕ) (stored : T (is_stored state)) where
    abbrev sim : Simulation
    sim = sim_of state

    abbrev first : Ran
    first = Calls.step_n services (room_in rows) a sim

    abbrev second : Ran
    second = Calls.step_n services (room_left (room_in rows) first) b first.sim

    abbrev whole : Ran
    whole = Calls.step_n services (room_in rows) (a + b) sim

    both : joined first second ≡ whole
    both = run_on services short (room_in rows) a b sim

    here : is_stored state ≡ true
    here = same_test (is_stored state) true (λ _. tt) (λ _. stored)

    valid : T (is_valid sim)
    valid = subst T (sym (passes_on state stored)) tt

    first-valid : T (is_valid first.sim)
    first-valid = (step_n-valid services (room_in rows) a sim short valid).sim

    first-table : first.sim.table ≡ sim.table
    first-table = stays services short (room_in rows) a sim valid

    first_rows : length first.rows ≤ room_in rows
    first_rows = subst (λ (r : Ran). length r.rows ≤ room_in rows) (sym (passes services (room_in rows) a sim valid)) (steps-counted services a (room_in rows) sim).rows

    -- what the first call leaves
    abbrev paused : List ℕ
    paused = kept state first.sim

    abbrev rest : List ℕ
    rest = drop (length first.rows * message_width) (laid_down first.rows rows)

    first_made : jt_step_n services a state rows one ≡ made_by first state rows one
    first_made = made services a state rows one here

    paused-holds : T (is_stored paused) × (sim_of paused ≡ first.sim)
    paused-holds = kept-stored state first.sim stored first-table first-valid

    -- and the second
    second-made : (told : List ℕ) → jt_step_n services b paused rest told ≡ made_by second paused rest told
    second-made told =
        let (there, is) = paused-holds in
        made services b paused rest told (same_test (is_stored paused) true (λ _. tt) (λ _. there))
        ∙ λ i. made_by (Calls.step_n services (room-left first.rows rows first_rows i) b (is i)) paused rest told

    told-first : (steps_told (report_after one first) ≡ first.steps) × (rows_told (report_after one first) ≡ length first.rows) × (end_told (report_after one first) ≡ end_word first.end)
    told-first = report-told one first.steps (length first.rows) (end_word first.end) three

    told-second : (steps_told (report_after two second) ≡ second.steps) × (rows_told (report_after two second) ≡ length second.rows) × (end_told (report_after two second) ≡ end_word second.end)
    told-second = report-told two second.steps (length second.rows) (end_word second.end) three'

    on-is : jt_step_n_on services a b state rows one two report ≡ as_one report (made_by first state rows one) (made_by second paused rest two)
    on-is =
        ap (λ (m : Made). as_one report m (jt_step_n services b m.state (rest_of m) two)) first_made
        ∙ ap (λ (n : ℕ). as_one report (made_by first state rows one) (jt_step_n services b paused (drop (n * message_width) (laid_down first.rows rows)) two)) told-first.1
        ∙ ap (as_one report (made_by first state rows one)) (second-made two)

    whole-valid : T (is_valid whole.sim)
    whole-valid = (step_n-valid services (room_in rows) (a + b) sim short valid).sim

    whole-table : whole.sim.table ≡ sim.table
    whole-table = stays services short (room_in rows) (a + b) sim valid

    last-same : second.sim ≡ whole.sim
    last-same = ap (λ (r : Ran). r.sim) both

    second-valid : T (is_valid second.sim)
    second-valid = subst (λ (s : Simulation). T (is_valid s)) (sym last-same) whole-valid

    second-table : second.sim.table ≡ (sim_of paused).table
    second-table = ap (λ (s : Simulation). s.table) last-same ∙ whole-table ∙ sym first-table ∙ sym (ap (λ (s : Simulation). s.table) paused-holds.1)

    -- the words of the state that both leave
    last-words : take (tail_at paused) paused ++ changing second.sim ≡ up_to_end (kept state whole.sim)
    last-words =
        (λ i. (ap (λ (n : ℕ). take n paused) (same-tail state stored first.sim first-table first-valid) ∙ front state stored first.sim first-table first-valid) i ++ changing (last-same i))
        ∙ sym (state-words state stored whole.sim whole-table whole-valid)

    same-made : Same (as_one report (made_by first state rows one) (made_by second paused rest two)) (made_by whole state rows report)
    same-made =
        let (steps₁, rows₁, end₁) = told-first in
        let (steps₂, rows₂, end₂) = told-second in
        let (paused-there, paused-is) = paused-holds in
        let (last-there, last-is) = kept-stored paused second.sim paused-there second-table second-valid in
        let (whole-there, whole_is) = kept-stored state whole.sim stored whole-table whole-valid in
        let all = reported (first.steps + second.steps) in
        record {
          number = whole_word end_number first.end second.end ∙ ap (λ (r : Ran). end_number r.end) both;
          report =
              (λ i. reported (steps₁ i + steps₂ i) (rows₁ i + rows₂ i) (unless_refused (end_number first.end) (end₁ i) (end₂ i)) report)
              ∙ (λ i. all (sym (length-append first.rows second.rows) i) (whole_word end_word first.end second.end i) report)
              ∙ ap (report_after report) both;
          rows =
              ap (λ (n : ℕ). take (n * message_width) (laid_down first.rows rows) ++ laid_down second.rows rest) rows₁
              ∙ laid_more first.rows second.rows (length first.rows) rows (laid_down first.rows rows) refl refl
              ∙ ap (λ (r : Ran). laid_down r.rows rows) both;
          state = state-words paused paused-there second.sim second-table second-valid ∙ last-words;
          passes = same_test (is_stored (kept paused second.sim)) (is_stored (kept state whole.sim)) (λ _. whole-there) (λ _. last-there);
          sim = last-is ∙ last-same ∙ sym whole_is;
        }

    words-made : kept paused second.sim ≡ over (up_to_end (kept state whole.sim)) paused
    words-made = ap (λ (words : List ℕ). over words paused) (laid-is paused (stored-inside paused paused-holds.0) second.sim ∙ last-words)

    -- a first part that is refused
    again-made : (r : Refusal) → first.end ≡ Refused r → (n : ℕ) → b ≡ suc n → made_by second paused rest two ≡ record { number = end_number first.end; report = reported 0 0 3 two; state = paused; rows = rest }
    again-made r e n more =
        let is : second ≡ ended (Refused r) first.sim = ap (λ (m : ℕ). Calls.step_n services (room_left (room_in rows) first) m first.sim) more ∙ refused-again services short (room_in rows) a n sim r e in
        let left = ap (kept paused) (sym paused-holds.1) ∙ kept_same paused paused-holds.0 in
        ap (λ (ran : Ran). made_by ran paused rest two) is
        ∙ λ i. record { number = end_number (sym e i); report = reported 0 0 3 two; state = left i; rows = rest }

  -- a buffer that it does not: "20 comes first", in both
  module _ (state : List ℕ) (e : is_stored state ≡ false) where
    abbrev bad : List ℕ → Made
    bad told = record { number = 20; report = reported 0 0 3 told; state = state; rows = rows }

    first-20 : (steps_told (reported 0 0 3 one) ≡ 0) × (rows_told (reported 0 0 3 one) ≡ 0) × (end_told (reported 0 0 3 one) ≡ 3)
    first-20 = report-told one 0 0 3 three

    second-20 : (steps_told (reported 0 0 3 two) ≡ 0) × (rows_told (reported 0 0 3 two) ≡ 0) × (end_told (reported 0 0 3 two) ≡ 3)
    second-20 = report-told two 0 0 3 three'

    -- the second call, on what the first left
    again-20 : (n : ℕ) → jt_step_n services n (jt_step_n services a state rows one).state (rest_of (jt_step_n services a state rows one)) two ≡ bad two
    again-20 n =
        ap (λ (m : Made). jt_step_n services n m.state (rest_of m) two) (made-20 services a state rows one e)
        ∙ ap (λ (k : ℕ). jt_step_n services n state (drop (k * message_width) rows) two) first-20.1
        ∙ made-20 services n state rows two e

    on-20 : jt_step_n_on services a b state rows one two report ≡ record { number = 20; report = (as_one report (bad one) (bad two)).report; state = state; rows = rows }
    on-20 =
        (λ i. as_one report (made-20 services a state rows one e i) (again-20 b i))
        ∙ ap (λ (n : ℕ). record { number = 20; report = (as_one report (bad one) (bad two)).report; state = state; rows = take (n * message_width) rows ++ rows }) first-20.1

    same-20 : Same (jt_step_n_on services a b state rows one two report) (jt_step_n services (a + b) state rows report)
    same-20 =
        let told : (as_one report (bad one) (bad two)).report ≡ reported 0 0 3 report = λ i. reported (first-20.0 i + second-20.0 i) (first-20.1 i + second-20.1 i) (first-20.2 i) report in
        subst (λ (m : Made). Same (jt_step_n_on services a b state rows one two report) m) (sym (made-20 services (a + b) state rows report e))
        (subst (λ (m : Made). Same m (bad report)) (sym on-20) (record { number = refl; report = told; rows = refl; state = refl; passes = refl; sim = refl }))

    words-20 : (jt_step_n_on services a b state rows one two report).state ≡ over (up_to_end (jt_step_n services (a + b) state rows report).state) (jt_step_n services a state rows one).state
    words-20 =
        ap (λ (m : Made). m.state) on-20
        ∙ sym (over-own (state_end state) state)
        ∙ λ i. over (up_to_end (sym (made-20 services (a + b) state rows report e) i).state) (sym (made-20 services a state rows one e) i).state

  -- "a steps and then b steps .. shall give the end state, rows, total steps and answer of one call with a + b", whatever the buffers hold and however long they are
  pub going_on : (state : List ℕ) → Same (jt_step_n_on services a b state rows one two report) (jt_step_n services (a + b) state rows report)
  going_on state = go (is_stored state) refl
    where
      go : (x : Bool) → is_stored state ≡ x → Same (jt_step_n_on services a b state rows one two report) (jt_step_n services (a + b) state rows report)
      go true e =
          let stored = subst T (sym e) tt in
          let both = as_one report (made_by (first state stored) state rows one) (made_by (second state stored) (paused state stored) (rest state stored) two) in
          subst (λ (m : Made). Same m (jt_step_n services (a + b) state rows report)) (sym (on-is state stored))
          (subst (λ (m : Made). Same both m) (sym (made services (a + b) state rows report e)) (same-made state stored))
      go false e = same-20 state e

  -- all words of the buffer: the state of one call, and beyond its end what stood there at the pause
  pub going-on-words : (state : List ℕ) → (jt_step_n_on services a b state rows one two report).state ≡ over (up_to_end (jt_step_n services (a + b) state rows report).state) (jt_step_n services a state rows one).state
  going-on-words state = go (is_stored state) refl
    where
      go : (x : Bool) → is_stored state ≡ x → (jt_step_n_on services a b state rows one two report).state ≡ over (up_to_end (jt_step_n services (a + b) state rows report).state) (jt_step_n services a state rows one).state
      go true e =
          let stored = subst T (sym e) tt in
          ap (λ (m : Made). m.state) (on-is state stored)
          ∙ words-made state stored
          ∙ λ i. over (up_to_end (sym (made services (a + b) state rows report e) i).state) (sym (first_made state stored) i).state
      go false e = words-20 state e

  -- "a second part of at least one step is then refused at once with the same number and 0 steps": it changes no word but its report
  pub refused-again-there : (state : List ℕ) (n : ℕ) → b ≡ suc n → T (not (eqb (jt_step_n services a state rows one).number 0))
      → jt_step_n services b (jt_step_n services a state rows one).state (rest_of (jt_step_n services a state rows one)) two
      ≡ record { number = (jt_step_n services a state rows one).number; report = reported 0 0 3 two; state = (jt_step_n services a state rows one).state; rows = rest_of (jt_step_n services a state rows one) }
  refused-again-there state n more t = go (is_stored state) refl
    where
      Again : Made → Type 0
      Again m = T (not (eqb m.number 0)) → jt_step_n services b m.state (rest_of m) two ≡ record { number = m.number; report = reported 0 0 3 two; state = m.state; rows = rest_of m }

      go : (x : Bool) → is_stored state ≡ x
          → jt_step_n services b (jt_step_n services a state rows one).state (rest_of (jt_step_n services a state rows one)) two
          ≡ record { number = (jt_step_n services a state rows one).number; report = reported 0 0 3 two; state = (jt_step_n services a state rows one).state; rows = rest_of (jt_step_n services a state rows one) }
      go true e =
          let stored = subst T (sym e) tt in
          let made-first = first_made state stored in
          subst Again (sym made-first)
          (λ t. let (r, is) = number_of (first state stored).end t in
          subst (λ (k : ℕ). jt_step_n services b (paused state stored) (drop (k * message_width) (laid_down (first state stored).rows rows)) two
          ≡ record { number = end_number (first state stored).end; report = reported 0 0 3 two; state = paused state stored; rows = drop (k * message_width) (laid_down (first state stored).rows rows) })
          (sym (told-first state stored).1) (second-made state stored two ∙ again-made state stored r is n more)) t
      go false e =
          again-20 state e b
          ∙ λ i. record { number = (sym (made-20 services a state rows one e) i).number; report = reported 0 0 3 two; state = (sym (made-20 services a state rows one e) i).state; rows = rest-20 state e i }
        where
          rest-20 : (state : List ℕ) (e : is_stored state ≡ false) → rows ≡ rest_of (jt_step_n services a state rows one)
          rest-20 state e = ap (λ (k : ℕ). drop (k * message_width) rows) (sym (first-20 state e).1) ∙ ap rest_of (sym (made-20 services a state rows one e))

-- ---- what a call's report says of it, whatever its buffer holds: no more steps than asked for, and the rows stand in the output
module _ (services : List Float) (count : ℕ) (state rows report : List ℕ) (three : length report ≡ 3) where
  abbrev ran : Ran
  ran = run_in (Calls.step_n services (room_in rows) count) state

  counted : Counted (room_in rows) count Done ran
  counted = go (is_stored state) refl
    where
      bad : Counted (room_in rows) count Done (ended (Refused BadState) (sim_of state))
      bad = record { rows = omega arith; steps = omega arith; all = λ e. let z : ◌≡◌ {A = ℕ} 0 1 = cc in absurd (omega arith) }

      go : (x : Bool) → is_stored state ≡ x → Counted (room_in rows) count Done ran
      go true e =
          let run : Simulation → Ran = Calls.step_n services (room_in rows) count in
          let valid = subst T (sym (passes_on state (subst T (sym e) tt))) tt in
          subst (Counted (room_in rows) count Done) (sym (call.run_on state e run ∙ passes services (room_in rows) count (sim_of state) valid)) (steps-counted services count (room_in rows) (sim_of state))
      go false e = subst (Counted (room_in rows) count Done) (sym (call.run-20 state e (Calls.step_n services (room_in rows) count))) bad

  pub few-steps : steps_told (jt_step_n services count state rows report).report ≤ count
  few-steps = let e = (report-told report ran.steps (length ran.rows) (end_word ran.end) three).0 in let c = counted.steps in omega arith

  pub few-rows : next_row (jt_step_n services count state rows report).report ≤ length rows
  few-rows = let e = (report-told report ran.steps (length ran.rows) (end_word ran.end) three).1 in let c = counted.rows in omega arith

  pub laid-rows : length (jt_step_n services count state rows report).rows ≡ length rows
  laid-rows = laid-long ran.rows rows (let c = counted.rows in omega arith)

-- "a second part of no steps answers done": on a buffer that 20 lets pass, after whatever part, and whatever output it is lent
pub nothing-more-there : (services : List Float) → T (is_word (length services)) → (a : ℕ) (state rows left one two : List ℕ) → T (is_stored state)
    → jt_step_n services 0 (jt_step_n services a state rows one).state left two ≡ record { number = 0; report = reported 0 0 0 two; state = (jt_step_n services a state rows one).state; rows = left }
nothing-more-there services short a state rows left one two stored =
    let paused = (jt_step_n services a state rows one).state in
    let (there, is) = leaves-stored services short a state rows one stored in
    let here = same_test (is_stored paused) true (λ _. tt) (λ _. there) in
    let none = passes_none services (room_in left) (sim_of paused) (subst T (sym (passes_on paused there)) tt) in
    made services 0 paused left two here
    ∙ ap (λ (ran : Ran). made_by ran paused left two) none
    ∙ λ i. record { number = 0; report = reported 0 0 0 two; state = kept_same paused there i; rows = left }

-- ==== any number of pauses
same_then : (report : List ℕ) (first second whole : Made) → Same second whole → Same (as_one report first second) (as_one report first whole)
same_then report first second whole s = record {
  number = ap (unless_refused first.number first.number) s.number;
  report = λ i. reported (steps_told first.report + steps_told (s.report i)) (rows_told first.report + rows_told (s.report i)) (unless_refused first.number (end_told first.report) (end_told (s.report i))) report;
  rows = ap (λ (rest : List ℕ). take (next_row first.report) first.rows ++ rest) s.rows;
  state = s.state;
  passes = s.passes;
  sim = s.sim;
}

same-both : (one other third : Made) → Same one other → Same other third → Same one third
same-both one other third s t = record {
  number = s.number ∙ t.number;
  report = s.report ∙ t.report;
  rows = s.rows ∙ t.rows;
  state = s.state ∙ t.state;
  passes = s.passes ∙ t.passes;
  sim = s.sim ∙ t.sim;
}

same_self : (m : Made) → Same m m
same_self m = record { number = refl; report = refl; rows = refl; state = refl; passes = refl; sim = refl }

pub going-on-in-parts : (services : List Float) → T (is_word (length services)) → (ns : List ℕ) (state rows report : List ℕ) → Same (jt_in_parts services ns state rows report) (jt_step_n services (total ns) state rows report)
going-on-in-parts services short [] state rows report = same_self (jt_step_n services 0 state rows report)
going-on-in-parts services short (n ∷ ns) state rows report =
    let first = jt_step_n services n state rows blank in
    let rest = jt_step_n services (total ns) first.state (rest_of first) blank in
    same-both (jt_in_parts services (n ∷ ns) state rows report) (as_one report first rest) (jt_step_n services (n + total ns) state rows report)
    (same_then report first (jt_in_parts services ns first.state (rest_of first) blank) rest (going-on-in-parts services short ns first.state (rest_of first) blank))
    (going_on services short n (total ns) rows blank blank report refl refl state)

-- ==== for a program that makes the two calls, each with a report of three zeros: what their contracts say of them together
module _ (services : List Float) (a b count : ℕ) (all : a + b ≡ count) (state rows : List ℕ) (first second : Made)
    (one : first ≡ jt_step_n services a state rows blank) (two : second ≡ jt_step_n services b first.state (rest_of first) blank) where
  both-made : (report : List ℕ) → as_one report first second ≡ jt_step_n_on services a b state rows blank blank report
  both-made report = ap (as_one report first) two ∙ ap (λ (m : Made). as_one report m (jt_step_n services b m.state (rest_of m) blank)) one

  pub two-calls : T (is_word (length services)) → (report : List ℕ) → Same (as_one report first second) (jt_step_n services count state rows report)
  two-calls short report =
      subst (λ (n : ℕ). Same (as_one report first second) (jt_step_n services n state rows report)) all
      (subst (λ (m : Made). Same m (jt_step_n services (a + b) state rows report)) (sym (both-made report)) (going_on services short a b rows blank blank report refl refl state))

  pub two-words : T (is_word (length services)) → (report : List ℕ) → second.state ≡ over (up_to_end (jt_step_n services count state rows report).state) (jt_step_n services a state rows report).state
  two-words short report =
      ap (λ (m : Made). m.state) (both-made report)
      ∙ going-on-words services short a b rows blank blank report refl refl state
      ∙ ap (λ (n : ℕ). over (up_to_end (jt_step_n services n state rows report).state) (jt_step_n services a state rows report).state) all

  pub two-few : (steps_told first.report + steps_told second.report ≤ count) × (rows_told first.report + rows_told second.report ≤ length rows)
  two-few =
      let rest = rest_of first in
      let steps₁ = subst (λ (m : Made). steps_told m.report ≤ a) (sym one) (few-steps services a state rows blank refl) in
      let steps₂ = subst (λ (m : Made). steps_told m.report ≤ b) (sym two) (few-steps services b first.state rest blank refl) in
      let rows₁ = subst (λ (m : Made). next_row m.report ≤ length rows) (sym one) (few-rows services a state rows blank refl) in
      let rows₂ = subst (λ (m : Made). next_row m.report ≤ length rest) (sym two) (few-rows services b first.state rest blank refl) in
      let long = ap (λ (m : Made). length m.rows) one ∙ laid-rows services a state rows blank refl in
      let left = length-drop (next_row first.report) first.rows in
      (omega arith, omega arith)

-- where it pauses is within the run
pub after-few : (pause count : ℕ) → paused_after pause count ≤ count
after-few pause count = go (ltb count pause) (λ t. t)
  where
    go : (x : Bool) → (T (not x) → T (not (ltb count pause))) → (if x then count else pause) ≤ count
    go true t = omega arith
    go false t = nltb→le count pause (t tt)
