-- A run in place: what the look after a step answers, what a lent state's words are once they are copied, and that the steps completed before are completed again. Assumes nothing.
use Rattle.std.specs.Prelude.{ℕ, zero, suc, ◌+◌, ◌*◌, ◌-◌, ◌≤◌, ◌<◌, ◌≡◌, refl, true, false, List, [], ◌++◌, length, take, drop, T, Float, if◌then◌else◌, Err, None, Ok, Option, Result, Some, ⊤}
use Rattle.std.proofs.Common.{sym, ap, subst, ◌∙◌, add-zero, zero-add, add-one, arith, le-leb, length-append, length-drop, length-take-le, get_or-take, get_or-drop}
use Rattle.std.specs.Result.{is_err}
use Rattle.std.proofs.lemmas.Bool.{lt-leb, false≢true}
use Rattle.std.proofs.Math.ListN.{get_or-append}
use Rattle.std.specs.Float.Ieee.{lt, of_bits}
use Rattle.std.specs.Float.{binary64}
use Rattle.times.specs.Time.{is_time}
use Rattle.rules.specs.declared.Refusal.{Refusal}
use Rattle.rules.specs.declared.Refusal.TheVariants.{NoOutRoom}
use Rattle.rules.specs.Base.{Outcome, refused, done, ◌>>=◌}
use Rattle.rules.specs.Table.{Table}
use Rattle.rules.specs.Simulation.{Simulation}
use Rattle.rules.specs.Step.{Happening, step_on}
use Rattle.rules.specs.Ends.{All}
use Rattle.rules.proofs.Worlds.{MessageFits}
use Rattle.rules.specs.Calls as Calls
use Rattle.rules.specs.Calls.{Ran, ended, then_ran, onward, fitting, look}
use Rattle.memory.specs.Words.{word_at}
use Rattle.lookup.specs.Inside.{tail_at, table_in}
use Rattle.views.specs.World.{end_of, Laid}
use Rattle.views.specs.Messages.{messages_in}
use Rattle.views.specs.MessageLaws.{messages-same, messages-long}
use Rattle.copying.specs.Copied.{copied}
use Rattle.copying.specs.CopiedLaws.{to_end}
use Rattle.copying.specs.Sparing.{Lends}
use Rattle.copying.specs.SparingLaws.{zero-spare}
use Rattle.stepping.specs.declared.Stopped.{Stopped}
use Rattle.stepping.specs.declared.Stopped.TheVariants as stopped
use Rattle.stepping.specs.Simulating.{clock_in, active_in, sim_in, Sound, Went, Steps}
use Rattle.rerunning.specs.Running.{tail_in, Stored, sim_of, reached, Completed, Goes, Arrives, Refuses, Nexts}
use Rattle.views.proofs.Outside.{within-world, within-ready}

-- ---- what was done is one thing, and is not refused
abbrev simulation_of : Simulation → Outcome Simulation → Simulation
simulation_of other (refused r) = other
simulation_of other (done s) = s

pub same-done : (s other : Simulation) → done s ≡ done other → s ≡ other
same-done s other e = ap (simulation_of s) e

abbrev Is-done : Outcome Simulation → Type 0
Is-done (refused r) = ⊥
Is-done (done s) = Unit {0}

not_done : (r : Refusal) (s : Simulation) → ◌≡◌ {A = Outcome Simulation} (refused r) (done s) → ⊥
not_done r s e = subst Is-done (sym e) tt

-- ---- so many steps
module _ (t : Table) (services : List Float) (sim : Simulation) where
  abbrev onto : Simulation → Outcome Simulation
  onto s = step_on t services s >>= λ r. done r.0

  pub reached-on : (k : ℕ) (s after : Simulation) (log : List Happening) → reached t services k sim ≡ done s → step_on t services s ≡ done (after, log) → reached t services (k + 1) sim ≡ done after
  reached-on k s after log e step = rw (add-one k) (ap (λ (o : Outcome Simulation). o >>= onto) e ∙ ap (λ (o : Outcome (Simulation × List Happening)). o >>= λ r. done r.0) step)

  reached-stops : (k : ℕ) (s : Simulation) (r : Refusal) → reached t services k sim ≡ done s → step_on t services s ≡ refused r → reached t services (suc k) sim ≡ refused r
  reached-stops k s r e step = ap (λ (o : Outcome Simulation). o >>= onto) e ∙ ap (λ (o : Outcome (Simulation × List Happening)). o >>= λ r. done r.0) step

  completed-before : (k : ℕ) → Completed t services (suc k) sim → Completed t services k sim
  completed-before k whole = by (reached t services k sim) refl whole.1
    where
      by : (o : Outcome Simulation) → reached t services k sim ≡ o → (o >>= onto) ≡ done whole.0 → Completed t services k sim
      by (refused r) e h = absurd (not_done r whole.0 h)
      by (done s) e h = (s, e)

  completed-from : (more k : ℕ) → Completed t services (more + k) sim → Completed t services k sim
  completed-from zero k whole = subst (λ (n : ℕ). Completed t services n sim) (zero-add k) whole
  completed-from (suc more) k whole =
      let e : suc more + k ≡ suc (more + k) = omega arith in
      completed-from more k (completed-before (more + k) (subst (λ (n : ℕ). Completed t services n sim) e whole))

  -- a step before the last of the completed ones is not refused
  pub never-stops : (k steps : ℕ) (s : Simulation) (r : Refusal) → k < steps → Completed t services steps sim → reached t services k sim ≡ done s → step_on t services s ≡ refused r → ⊥
  never-stops k steps s r l whole e step =
      let more : steps ≡ (steps - suc k) + suc k = omega arith in
      let one = completed-from (steps - suc k) (suc k) (subst (λ (n : ℕ). Completed t services n sim) more whole) in
      not_done r one.0 (sym (reached-stops k s r e step) ∙ one.1)

-- ---- what a step answered: it was done, or it is refused
pub stepped : (services : List Float) (t : Table) (mem after : List ℕ) (r : Result ⊤ Stopped) → is_err r ≡ false → Steps r services t mem after → Went services t mem after
stepped services t mem after (Ok tt) e s = s
stepped services t mem after (Err why) e s = absurd (false≢true (sym e))

pub not_stepped : (services : List Float) (t : Table) (mem after : List ℕ) (r : Result ⊤ Stopped) → is_err r ≡ true → Steps r services t mem after → (q : Refusal) × (step_on t services (sim_in t mem) ≡ refused q)
not_stepped services t mem after (Ok tt) e s = absurd (false≢true e)
not_stepped services t mem after (Err (stopped.Untouched q)) e s = (q, s.is)
not_stepped services t mem after (Err (stopped.Halfway q)) e s = (q, s)

-- ---- the words of a lent state, copied
module _ (state mem : List ℕ) (stored : Stored state) (room : end_of (table_in state) + 2816 ≤ length mem) where
  abbrev table : Table
  table = table_in state

  -- so many words
  abbrev used : ℕ
  used = end_of table + word_at (tail_in state) 0 * 6

  abbrev laid_in : List ℕ
  laid_in = take used (tail_in state) ++ drop used mem

  front : length (take used (tail_in state)) ≡ used
  front = length-take-le used (tail_in state) stored.room

  used-fits : used ≤ length mem
  used-fits = let f = stored.few in omega arith

  loaded-long : length laid_in ≡ length mem
  loaded-long =
      let d = length-drop used mem in
      let u = used-fits in
      let a = length-append (take used (tail_in state)) (drop used mem) in
      let f = front in
      omega arith

  word : (p : ℕ) → p < used → word_at laid_in p ≡ word_at (tail_in state) p
  word p l = get_or-append (take used (tail_in state)) (drop used mem) 0 p (let f = front in omega arith) ∙ get_or-take used (tail_in state) p 0 l

  row_word : (p : ℕ) → 2 ≤ p → p < end_of table → word_at laid_in p ≡ word_at (tail_in state) p
  row_word p low l = word p (omega arith)

  enough : end_of table ≤ length (tail_in state)
  enough = let r = stored.room in omega arith

  reaches : end_of table ≤ length laid_in
  reaches = let l = loaded-long in omega arith

  count_same : word_at laid_in 0 ≡ word_at (tail_in state) 0
  count_same = word 0 (omega arith)

  clock-same : clock_in laid_in ≡ clock_in (tail_in state)
  clock-same = ap (of_bits binary64) (word 1 (omega arith))

  active-same : active_in table laid_in ≡ active_in table (tail_in state)
  active-same =
      ap (λ (n : ℕ). messages_in (end_of table) n laid_in) count_same
      ∙ messages-same (end_of table) (word_at (tail_in state) 0) (tail_in state) laid_in (λ p low l. word p l)

  loaded-is : sim_in table laid_in ≡ sim_of state
  loaded-is =
      let w = within-world table (tail_in state) laid_in enough reaches row_word [] in
      λ i. record { table = table; states = (w i).states; active = active-same i; clock = clock-same i; place = (w i).place }

  loaded-sound : Sound table laid_in
  loaded-sound = record {
    ready = within-ready table (tail_in state) laid_in enough reaches row_word stored.ready;
    few = (let f = stored.few in let e = count_same in omega arith);
    active = subst (All MessageFits) (sym active-same) stored.active;
    clock = subst (λ (x : Float). T (is_time x)) (sym clock-same) stored.clock;
    room = (let l = loaded-long in omega arith);
  }

  first_word : word_at state (tail_at state) ≡ word_at (tail_in state) 0
  first_word = ap (word_at state) (sym (add-zero (tail_at state))) ∙ sym (get_or-drop (tail_at state) state 0 0)

  -- as the code has it: where the changing part begins, its first word, which says how many messages there are, and where they stand
  module _ (tail count active : ℕ) (is-tail : tail ≡ tail_at state) (is-count : count ≡ word_at state tail) (is-active : active ≡ end_of table) where
    count-is : count ≡ word_at (tail_in state) 0
    count-is = is-count ∙ ap (word_at state) is-tail ∙ first_word

    pub copy-fits : (tail < length state) × (count ≤ 256) × (tail + (active + count * 6) ≤ length state) × (active + count * 6 ≤ length mem)
    copy-fits =
        let d = length-drop (tail_at state) state in
        let inner = stored.inside.room in
        let r = stored.room in
        let f = stored.few in
        let u = used-fits in
        let n = count-is in
        (omega arith, omega arith, omega arith, omega arith)

    pub loads-all : (after : List ℕ) → after ≡ copied tail (active + count * 6) state mem → (sim_in table after ≡ sim_of state) × Sound table after × (length after ≡ length mem)
    loads-all after e =
        let n : active + count * 6 ≡ used = (let m = count-is in omega arith) in
        let whole : after ≡ laid_in = e ∙ (λ i. copied (is-tail i) (n i) state mem) in
        subst (λ (words : List ℕ). (sim_in table words ≡ sim_of state) × Sound table words × (length words ≡ length mem)) (sym whole) (loaded-is, loaded-sound, loaded-long)

    -- the same into words that are all 0: what the state does not hold is 0 there too
    abbrev lent : List ℕ
    lent = take (length state - tail) (drop tail state)

    lent_is : lent ≡ tail_in state
    lent_is = to_end tail state ∙ ap (λ (k : ℕ). drop k state) is-tail

    pub lends_held : (rows : ℕ) → rows ≡ length table.rows → ((p : ℕ) → word_at mem p ≡ 0) → Lends rows active lent mem × (active + count * 6 ≤ length lent) × (active + count * 6 ≤ length mem)
    lends_held rows is-rows zeros =
        let n = count-is in
        let r = stored.room in
        let l = ap length lent_is in (
          record { table = table; counted = is-rows; ends = is-active; laid = subst (Laid table) (sym lent_is) stored.ready.laid; spare = zero-spare table mem zeros; room = omega arith },
          omega arith,
          copy-fits.3,
        )

    pub loads-held : (after : List ℕ) → after ≡ copied 0 (active + count * 6) lent mem → (sim_in table after ≡ sim_of state) × Sound table after × (length after ≡ length mem)
    loads-held after e = loads-all after (e ∙ ap (λ (words : List ℕ). copied 0 (active + count * 6) words mem) (to_end tail state))

-- ---- the look at the clock and the room left, after a completed step
module _ (services : List Float) (until : Float) (room steps : ℕ) (state mem after : List ℕ) where
  pub record Fits (n : ℕ) : Type 0 where
    pub below : lt (clock_in mem) until ≡ true
    pub count : n ≡ word_at mem 0
    pub few : n ≤ room
    pub same : after ≡ mem

  pub record Stays : Type 0 where
    pub above : lt (clock_in mem) until ≡ false
    pub same : after ≡ mem

  pub record Undone (r : Refusal) : Type 0 where
    pub below : lt (clock_in mem) until ≡ true
    pub full : room < word_at mem 0
    pub for : r ≡ NoOutRoom
    pub again : reached (table_in state) services steps (sim_of state) ≡ done (sim_in (table_in state) after)
    pub sound : Sound (table_in state) after

abbrev pub Looked : Result (Option ℕ) Refusal → List Float → Float → ℕ → ℕ → List ℕ → List ℕ → List ℕ → Type 0
Looked (Ok (Some n)) services until room steps state mem after = Fits services until room steps state mem after n
Looked (Ok None) services until room steps state mem after = Stays services until room steps state mem after
Looked (Err r) services until room steps state mem after = Undone services until room steps state mem after r

-- ---- a refused step, undone: the words hold what they held
module _ (services : List Float) (until : Float) (room : ℕ) (t : Table) (mem after : List ℕ) where
  pub refuses : (r : Refusal) → Sound t after → sim_in t after ≡ sim_in t mem → step_on t services (sim_in t mem) ≡ refused r → Refuses services until room t mem after r
  refuses r sound same e = record { sound = sound; same = same; is = λ rest. ap (λ (o : Outcome (Simulation × List Happening)). look until room (sim_in t mem) o rest) e }

  module _ (mid : List ℕ) (went : Went services t mem mid) where
    opened : (rest : Simulation → Ran) → look until room (sim_in t mem) (step_on t services (sim_in t mem)) rest
        ≡ (if lt (clock_in mid) until then onward (sim_in t mem) (fitting room (sim_in t mid, went.log)) rest else then_ran [] went.log (ended Calls.Reached (sim_in t mid)))
    opened rest = ap (λ (o : Outcome (Simulation × List Happening)). look until room (sim_in t mem) o rest) went.is

    sent : length (active_in t mid) ≡ word_at mid 0
    sent = messages-long (end_of t) (word_at mid 0) mid

    goes_on : (n : ℕ) → lt (clock_in mid) until ≡ true → n ≡ word_at mid 0 → n ≤ room → after ≡ mid → Goes services until room t mem after n
    goes_on n below count few same = subst (λ (words : List ℕ). Goes services until room t mem words n) (sym same) (record {
      sound = went.sound;
      count = count;
      few = few;
      log = went.log;
      step = went.is;
      is = λ rest. opened rest ∙ rw (below, le-leb (length (active_in t mid)) room (let s = sent in omega arith));
    })

    arrives : lt (clock_in mid) until ≡ false → after ≡ mid → Arrives services until room t mem after
    arrives above same = subst (λ (words : List ℕ). Arrives services until room t mem words) (sym same) (record { sound = went.sound; log = went.log; is = λ rest. opened rest ∙ rw above })

    no_room : (r : Refusal) → lt (clock_in mid) until ≡ true → room < word_at mid 0 → r ≡ NoOutRoom → Sound t after → sim_in t after ≡ sim_in t mem → Refuses services until room t mem after r
    no_room r below full for sound same = record {
      sound = sound;
      same = same;
      is = λ rest. opened rest ∙ rw (for, below, lt-leb (length (active_in t mid)) room (let s = sent in omega arith));
    }

-- what the look answers is what the step and the look together do
pub nexts : (r : Result (Option ℕ) Refusal) (services : List Float) (until : Float) (room steps : ℕ) (state mem mid after : List ℕ) → Went services (table_in state) mem mid → reached (table_in state) services steps (sim_of state) ≡ done (sim_in (table_in state) mem)
    → Looked r services until room steps state mid after → Nexts r services until room (table_in state) mem after
nexts (Ok (Some n)) services until room steps state mem mid after went held l = goes_on services until room (table_in state) mem after mid went n l.below l.count l.few l.same
nexts (Ok None) services until room steps state mem mid after went held l = arrives services until room (table_in state) mem after mid went l.above l.same
nexts (Err r) services until room steps state mem mid after went held l = no_room services until room (table_in state) mem after mid went r l.below l.full l.for l.sound (same-done _ _ (sym l.again ∙ held))
