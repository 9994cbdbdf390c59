-- The laws of a whole state: its parts laid one after the other; and what `post` and `put` answer and leave. Assumes nothing.
use Rattle.std.specs.Prelude.{ℕ, ◌+◌, ◌-◌, ◌*◌, ◌/◌, ◌≤◌, true, false, length, get_or, take, drop, leb, Err, Ok, Result, ⊤}
use Rattle.std.proofs.Math.Path.{◌≡◌, refl, sym, ap}
use Rattle.std.proofs.Common.{◌∙◌, subst, add-zero, arith, length-append, length-drop, take_at, get_or-drop, drop-drop}
use mathlib.Core.List.{List, [], ◌∷◌, ◌++◌, append-nil, append_assoc}
use Rattle.std.proofs.Math.Seq.{take-length}
use Rattle.std.specs.Float.{binary64}
use Rattle.std.specs.Float.Ieee.{to_bits}
use Rattle.times.specs.Time.{instant}
use Rattle.times.proofs.Laws.{timer-clear, time-timer}
use Rattle.times.proofs.Patterns.{clear-bits}
use Rattle.rules.specs.declared.Refusal.{Refusal}
use Rattle.rules.specs.declared.Refusal.TheVariants.{TooLarge, BadRow, BadCoupling, BadState}
use Rattle.rules.specs.Base.{Outcome, refused, done, ◌>>=◌}
use Rattle.rules.specs.Table.{Table}
use Rattle.rules.specs.Intake as Intake
use Rattle.rules.specs.Intake.{Posted, intake, passed, taken_in}
use Rattle.rules.specs.Ends.{All}
use Rattle.rules.proofs.Worlds.{MessageFits}
use Rattle.rules.specs.Decides.{whole_table, intake-exactly}
use Rattle.rules.specs.Layout.{model_width, connector_width, coupling_width, lent, written_all}
use Rattle.rules.specs.Simulation.{begun}
use Rattle.rules.specs.Calls.{post}
use Rattle.words.specs.Lists.{part_length}
use Rattle.table.specs.declared.BadTable.{BadTable}
use Rattle.table.specs.Verdicts.{verdict_of, refusal_of}
use Rattle.table.specs.Passed.{models-long, connectors-long, couplings-long, sizes}
use Rattle.words.specs.Laying.{zeros-long}
use Rattle.memory.specs.Words.{head_at, word_at, place_in}
use Rattle.lookup.specs.Inside.{tail_at, table_in}
use Rattle.views.specs.World.{end_of}
use Rattle.views.specs.Messages.{messages_in}
use Rattle.views.specs.MessageLaws.{messages-long}
use Rattle.copying.specs.Copied.{copied}
use Rattle.copying.specs.CopiedLaws.{messages-written}
use Rattle.stepping.specs.Simulating.{clock_in}
use Rattle.rerunning.specs.Running.{tail_in, Stored, sim_of}
use Rattle.storing.specs.State.{zeros, heads, over, laid_state, words_for}
use Rattle.storing.specs.Lent.{answered, post_in}
use Rattle.storing.specs.SizeLaws.{few-enough}
use Rattle.posting.specs.Laying.{laid, new_rows, widths, fresh_words, table_words, front_words, lent_table, Passes, Room, Fits, renewed}
use Rattle.posting.specs.LayingLaws.{laid_more}
use Rattle.posting.specs.NewLaws.{heads-long, widths-most, new-long, state-new}

-- ---- the changing part with new rows: three words, the heads, zeros
module _ (models : List ℕ) where
  abbrev rows : ℕ
  rows = length models / model_width

  pub fresh-long : (active clock place : ℕ) → length (fresh_words active clock place (new_rows models)) ≡ head_at rows + widths (new_rows models)
  fresh-long active clock place =
      let new = new_rows models in
      let h = heads-long (head_at (length new)) new in
      let z = zeros-long (widths new) in
      let n = new-long models 0 rows in
      let a = length-append (heads (head_at (length new)) new) (zeros (widths new)) in
      omega arith

  pub fresh-laid : (at end active clock place : ℕ) (before one two three : List ℕ) → at ≤ length before → end ≡ head_at rows + widths (new_rows models)
      → one ≡ laid at (active ∷ clock ∷ place ∷ []) before
      → two ≡ laid (at + 3) (heads (head_at rows) (new_rows models)) one
      → three ≡ laid (at + 3 + rows * 4) (zeros (at + end - (at + 3 + rows * 4))) two
      → three ≡ laid at (fresh_words active clock place (new_rows models)) before
  fresh-laid at end active clock place before one two three l e f g h =
      let new = new_rows models in
      let n = new-long models 0 rows in
      let front = heads (head_at rows) new in
      let long = heads-long (head_at rows) new in
      let count : at + end - (at + 3 + rows * 4) ≡ widths new = omega arith in
      laid_more at (at + 3 + rows * 4) (active ∷ clock ∷ place ∷ front) (zeros (at + end - (at + 3 + rows * 4))) before two three l
      (laid_more at (at + 3) (active ∷ clock ∷ place ∷ []) front before one two l f (omega arith) g) (omega arith) h
      ∙ (λ i. laid at (active ∷ clock ∷ place ∷ (heads (head_at (sym n i)) new ++ zeros (count i))) before)

-- ---- the counts, and the table's words
module _ (models connectors couplings : List ℕ) where
  abbrev counts : List ℕ
  counts = length models / model_width ∷ length connectors / connector_width ∷ length couplings / coupling_width ∷ []

  pub table-long : length (table_words models connectors couplings) ≡ 3 + length models + length connectors + length couplings
  table-long = let a = length-append models (connectors ++ couplings) in let b = length-append connectors couplings in omega arith

  pub table-laid : (before one two three four : List ℕ) → one ≡ laid 0 counts before
      → two ≡ laid 3 (take (length models) models) one
      → three ≡ laid (3 + length models) (take (length connectors) connectors) two
      → four ≡ laid (3 + length models + length connectors) (take (length couplings) couplings) three
      → four ≡ over (table_words models connectors couplings) before
  table-laid before one two three four e f g h =
      let two_is : two ≡ laid 0 (counts ++ models) before =
      laid_more 0 3 counts models before one two (omega arith) e (omega arith) (f ∙ ap (λ (z : List ℕ). laid 3 z one) (take-length models)) in
      let three-is : three ≡ laid 0 ((counts ++ models) ++ connectors) before =
      laid_more 0 (3 + length models) (counts ++ models) connectors before two three (omega arith) two_is (omega (arith, length-append counts models))
      (g ∙ ap (λ (z : List ℕ). laid (3 + length models) z two) (take-length connectors)) in
      laid_more 0 (3 + length models + length connectors) ((counts ++ models) ++ connectors) couplings before three four (omega arith) three-is
      (let a = length-append models connectors in omega arith) (h ∙ ap (λ (z : List ℕ). laid (3 + length models + length connectors) z three) (take-length couplings))
      ∙ ap (λ (words : List ℕ). over words before) (let shift : counts ++ ((models ++ connectors) ++ couplings) ≡ table_words models connectors couplings = ap (λ (z : List ℕ). counts ++ z) (append_assoc models connectors couplings) in shift)

  -- a state with new rows leaves room for 256 messages
  pub front-room : (active clock place : ℕ) (state : List ℕ) → Fits models connectors couplings state → length (front_words models connectors couplings active clock place) + 1536 ≤ length state
  front-room active clock place state fit =
      let r = fit.room in
      let w = widths-most models 0 (length models / model_width) in
      let f = fresh-long models active clock place in
      let t = table-long in
      omega (arith, length-append (table_words models connectors couplings) (fresh_words active clock place (new_rows models)))

  -- ---- a table that passed: its lengths, and the room for it
  module _ (passes : Passes models connectors couplings) where
    abbrev t : Table
    t = lent_table models connectors couplings

    pub fits : (state : List ℕ) → Room models connectors couplings state → Fits models connectors couplings state
    fits state room =
        let m = models-long models connectors couplings t passes in
        let n = connectors-long models connectors couplings t passes in
        let k = couplings-long models connectors couplings t passes in
        let s = sizes models connectors couplings t passes in
        record { few = omega (arith, s.0); room = omega arith }

    pub room_for : (state : List ℕ) → words_for (length models) (length connectors) (length couplings) ≤ length state → Room models connectors couplings state
    room_for state h =
        let m = models-long models connectors couplings t passes in
        let n = connectors-long models connectors couplings t passes in
        let k = couplings-long models connectors couplings t passes in
        let s = sizes models connectors couplings t passes in
        let e = few-enough (length models) (length connectors) (length couplings) (omega (arith, s.0)) (omega (arith, s.1)) (omega (arith, s.2)) in
        omega arith

-- ---- intake, as an answer
abbrev answer_for : Result ⊤ BadTable → Result ⊤ Refusal
answer_for (Err bad) = Err (refusal_of bad)
answer_for (Ok u) = Ok tt

answer-for : (v : Intake.Verdict) → answer_for (verdict_of v) ≡ answered (taken_in v)
answer-for Intake.too_large = refl
answer-for (Intake.bad_row k) = refl
answer-for (Intake.bad_connector k) = refl
answer-for (Intake.bad_coupling k) = refl
answer-for (passed t) = refl

pub answer-read : (v : Intake.Verdict) (read known : Result ⊤ BadTable) → read ≡ verdict_of v → read ≡ known → answer_for known ≡ answered (taken_in v)
answer-read v read known e f = ap answer_for (sym f ∙ e) ∙ answer-for v

-- what is not refused has passed
pub has-passed : (p : Posted) → answered (taken_in (intake p)) ≡ Ok tt → intake p ≡ passed (whole_table p)
has-passed p = go (intake p) refl
  where
    no : (r : Refusal) → ◌≡◌ {A = Result ⊤ Refusal} (Err r) (Ok tt) → ⊥
    no r e = let z : ◌≡◌ {A = ℕ} 0 1 = cc in omega arith

    go : (v : Intake.Verdict) → intake p ≡ v → answered (taken_in v) ≡ Ok tt → intake p ≡ passed (whole_table p)
    go Intake.too_large e d = absurd (no TooLarge d)
    go (Intake.bad_row k) e d = absurd (no BadRow d)
    go (Intake.bad_connector k) e d = absurd (no BadCoupling d)
    go (Intake.bad_coupling k) e d = absurd (no BadCoupling d)
    go (passed t) e d = e ∙ ap passed ((intake-exactly p (passed t)).0 e).4

-- ---- post: 20 for a short buffer, then intake, then a new simulation
module _ (models connectors couplings state : List ℕ) where
  abbrev needed : ℕ
  needed = words_for (length models) (length connectors) (length couplings)

  pub post-short : leb needed (length state) ≡ false → post_in models connectors couplings state ≡ refused BadState
  unfolding post_in
  post-short h = rw h refl

  pub post-refused : (r : Refusal) → leb needed (length state) ≡ true → answered (taken_in (intake (lent models connectors couplings))) ≡ Err r → post_in models connectors couplings state ≡ refused r
  unfolding post_in post
  post-refused r h e = rw h (go (taken_in (intake (lent models connectors couplings))) e)
    where
      go : (o : Outcome Table) → answered o ≡ Err r → (o >>= λ t. done (begun t)) ≡ refused r
      go (refused s) e = cc
      go (done t) e = let z : ◌≡◌ {A = ℕ} 0 1 = cc in absurd (omega arith)

  pub post-done : leb needed (length state) ≡ true → Passes models connectors couplings → post_in models connectors couplings state ≡ done (begun (lent_table models connectors couplings))
  unfolding post_in post
  post-done h passes = rw (h, passes) refl

  -- its words: no messages, the clock at 0
  pub post-laid : Passes models connectors couplings → over (front_words models connectors couplings 0 0 0) state ≡ over (laid_state models connectors couplings (begun (lent_table models connectors couplings))) state
  unfolding to_bits
  post-laid passes =
      ap (λ (words : List ℕ). over words state) (sym (append-nil (front_words models connectors couplings 0 0 0)) ∙ sym (state-new models connectors couplings passes [] instant 0))

-- ---- put: the old messages, clock and place, and then new rows
module _ (state : List ℕ) (stored : Stored state) where
  pub count-read : (tail : ℕ) → tail ≡ tail_at state → get_or state tail 0 ≡ word_at (tail_in state) 0
  count-read tail e = ap (λ (p : ℕ). get_or state p 0) (e ∙ sym (add-zero (tail_at state))) ∙ sym (get_or-drop (tail_at state) state 0 0)

  pub word_read : (tail k : ℕ) → tail ≡ tail_at state → get_or state (tail + k) 0 ≡ word_at (tail_in state) k
  word_read tail k e = ap (λ (p : ℕ). get_or state (p + k) 0) e ∙ sym (get_or-drop (tail_at state) state k 0)

  clock-kept : to_bits binary64 (clock_in (tail_in state)) ≡ word_at (tail_in state) 1
  clock-kept = clear-bits (word_at (tail_in state) 1) (timer-clear (clock_in (tail_in state)) (time-timer (clock_in (tail_in state)) stored.clock))

  -- the three words are there
  pub tail-room : tail_at state + 3 ≤ length state
  tail-room = let r = stored.room in let i = stored.inside.room in omega (arith, length-drop (tail_at state) state)

  pub message-room : word_at (tail_in state) 0 * 6 + (tail_at state + end_of (table_in state)) ≤ length state
  message-room = let r = stored.room in let i = stored.inside.room in omega (arith, length-drop (tail_at state) state)

  -- the messages' words, saved
  saved : (at n : ℕ) (empty : List ℕ) → at ≡ tail_at state + end_of (table_in state) → n ≡ word_at (tail_in state) 0 → take (n * 6) (copied at (n * 6) state empty) ≡ written_all (sim_of state).active
  saved at n empty e f =
      let end = end_of (table_in state) in
      let m = message-room in
      let room : end + n * 6 ≤ length (tail_in state) = (let r = stored.room in omega arith) in
      let active : All MessageFits (messages_in end n (tail_in state)) = subst (λ (k : ℕ). All MessageFits (messages_in end k (tail_in state))) (sym f) stored.active in
      take_at (take (n * 6) (drop at state)) (drop (n * 6) empty) (n * 6) (part_length at (n * 6) state (omega arith))
      ∙ ap (λ (p : ℕ). take (n * 6) (drop p state)) e
      ∙ ap (take (n * 6)) (sym (drop-drop end (tail_at state) state))
      ∙ sym (messages-written end (tail_in state) n room active)
      ∙ ap (λ (k : ℕ). written_all (messages_in end k (tail_in state))) f

  pub put-laid : (models connectors couplings : List ℕ) → Passes models connectors couplings → (at n clock place : ℕ) (empty words : List ℕ)
      → at ≡ tail_at state + end_of (table_in state) → n ≡ word_at (tail_in state) 0 → clock ≡ word_at (tail_in state) 1 → place ≡ place_in (tail_in state)
      → words ≡ copied at (n * 6) state empty
      → over (front_words models connectors couplings n clock place ++ take (n * 6) words) state ≡ over (laid_state models connectors couplings (renewed models connectors couplings (sim_of state))) state
  put-laid models connectors couplings passes at n clock place empty words here count clock-is place_is copied-so =
      let sim = sim_of state in
      let long : n ≡ length sim.active = count ∙ sym (messages-long (end_of (table_in state)) (word_at (tail_in state) 0) (tail_in state)) in
      let time : clock ≡ to_bits binary64 sim.clock = clock-is ∙ sym clock-kept in
      let messages : take (n * 6) words ≡ written_all sim.active = ap (take (n * 6)) copied-so ∙ saved at n empty here count in
      (λ i. over (front_words models connectors couplings (long i) (time i) (place_is i) ++ messages i) state)
      ∙ ap (λ (z : List ℕ). over z state) (sym (state-new models connectors couplings passes sim.active sim.clock sim.place))
