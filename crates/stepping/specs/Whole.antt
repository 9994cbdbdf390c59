-- A step in place, its parts put together: with messages active, and without. Assumes nothing.
use Rattle.std.specs.Prelude.{ℕ, zero, suc, ◌+◌, ◌≤◌, ◌<◌, ◌≡◌, true, false, length, set, T, Float, if◌then◌else◌, Result, ⊤}
use Rattle.std.proofs.Math.Path.{refl, ap}
use Rattle.std.proofs.Common.{sym, subst, ◌∙◌, inl, inr, arith, length-set, get_or-set_same, get_or-set_other}
use Rattle.std.proofs.lemmas.Bool.{false≢true}
use mathlib.Core.List.{List, [], ◌∷◌, ◌++◌, map}
use Rattle.std.specs.Float.{binary64}
use Rattle.std.specs.Float.Ieee.{add, eq, of_bits, to_bits}
use Rattle.std.specs.Float.Ieee.Bits.{of_bits-to_bits, is_true}
use Rattle.times.specs.Time.{instant, never, is_never, is_time, is_timer}
use Rattle.times.specs.Order.{same_test}
use Rattle.times.proofs.Laws.{later-instant, never-is, never-timer, timer-split, timers-eq, instant-time, time-timer, time-fits, timers-zero, timers-instant}
use Rattle.rules.specs.declared.Refusal.{Refusal}
use Rattle.rules.specs.declared.Refusal.TheVariants.{Idle, ClockOverflow}
use Rattle.rules.specs.declared.Message.{Message}
use Rattle.rules.specs.Base.{Outcome, refused, done, ◌>>=◌}
use Rattle.rules.specs.Sizes.{most_active, is_word}
use Rattle.rules.specs.Table.{Table, kind_at}
use Rattle.rules.specs.Simulation.{Simulation, state_at}
use Rattle.rules.specs.Step.{Happening, waited, World, taken, least_timer, advance, after, all_after, later, step_on}
use Rattle.rules.specs.Ends.{Ends, goes}
use Rattle.rules.specs.Depth.{Fine}
use Rattle.rules.proofs.Least.{fits-timer, own_timer}
use Rattle.rules.proofs.Worlds.{Stepped, step_on-keeps}
use Rattle.rules.proofs.Runs.{NotTwenty, any-closed}
use Rattle.rules.proofs.Exactly.{taken_none}
use Rattle.memory.specs.Words.{word_at, place_in}
use Rattle.views.specs.World.{end_of, states_in, world_in, Ready, Moves, Does}
use Rattle.views.proofs.Outside.{far-world, far-ready}
use Rattle.views.specs.Messages.{messages_in, Joins}
use Rattle.views.specs.MessageLaws.{messages-same, messages-long}
use Rattle.row_timers.specs.Passing.{Passed}
use Rattle.row_timers.specs.Aging.{none_passed}
use Rattle.stepping.specs.Simulating.{clock_in, active_in, sim_in, turns_of, closing, Sound, Went, Closes, Closed}

-- ---- the number of messages and the clock are written
abbrev pub stamped : ℕ → ℕ → List ℕ → List ℕ
stamped n bits mem = set (set mem 0 n) 1 bits

module _ (t : Table) (clock : Float) (time : T (is_time clock)) (n bits : ℕ) (is-bits : bits ≡ to_bits binary64 clock) (fin : List ℕ) (room : end_of t + 2816 ≤ length fin) where
  abbrev last : List ℕ
  last = stamped n bits fin

  pub stamped-long : length last ≡ length fin
  stamped-long = length-set (set fin 0 n) 1 bits ∙ length-set fin 0 n

  above : (p : ℕ) → 2 ≤ p → word_at last p ≡ word_at fin p
  above p l = get_or-set_other (set fin 0 n) 1 p bits 0 (λ e. omega arith) ∙ get_or-set_other fin 0 p n 0 (λ e. omega arith)

  count-is : word_at last 0 ≡ n
  count-is = get_or-set_other (set fin 0 n) 1 0 bits 0 (λ e. omega arith) ∙ get_or-set_same fin 0 n 0 (omega arith)

  clock-is : clock_in last ≡ clock
  clock-is =
      ap (of_bits binary64) (get_or-set_same (set fin 0 n) 1 bits 0 (omega (arith, length-set fin 0 n)) ∙ is-bits)
      ∙ of_bits-to_bits binary64 clock (time-fits clock time)

  active-is : active_in t last ≡ messages_in (end_of t) n fin
  active-is = ap (λ (k : ℕ). messages_in (end_of t) k last) count-is ∙ messages-same (end_of t) n fin last (λ p l u. above p (omega arith))

  pub stamped-ready : Ready t fin → Ready t last
  stamped-ready ready = far-ready t fin last stamped-long (λ p l u. above p l) ready

  -- the simulation after the turns stands in the words
  pub closes : (services : List Float) (mid : List ℕ) → (j : Joins (messages_in (end_of t)) most_active n 0 (turns_of t services clock) t mid fin) → (log : List Happening)
      → (turns_of t services clock (world_in t mid log, []) >>= closing t clock) ≡ done (sim_in t last, j.more log)
  closes services mid j log =
      ap (λ (o : Outcome (World × List Message)). o >>= closing t clock) (j.is log)
      ∙ ap (λ (w : World). closing t clock (w, messages_in (end_of t) n fin)) (sym (far-world t fin last stamped-long (λ p l u. above p l) (j.more log)))
      ∙ sym named
    where
      named : ◌≡◌ {A = Outcome (Simulation × List Happening)} (done (sim_in t last, j.more log)) (done (record { table = t; states = states_in t last; active = messages_in (end_of t) n fin; clock = clock; place = place_in last }, j.more log))
      named = λ i. done (record { table = t; states = states_in t last; active = active-is i; clock = clock-is i; place = place_in last }, j.more log)

-- ---- no messages are active
module _ (t : Table) (services : List Float) (mem : List ℕ) (none : word_at mem 0 ≡ 0) where
  abbrev least-now : Float
  least-now = least_timer t (states_in t mem)

  none-active : active_in t mem ≡ []
  none-active = ap (λ (n : ℕ). messages_in (end_of t) n mem) none

  abbrev on : Float → Outcome (Simulation × List Happening)
  on a = later (clock_in mem) a >>= λ clock. turns_of t services clock (all_after a (world_in t mem []), []) >>= closing t clock

  opened : step_on t services (sim_in t mem) ≡ ((if is_never least-now then refused Idle else done least-now) >>= on)
  unfolding step_on
  opened =
      ap (λ (ms : List Message). taken t services (clock_in mem) ms (world_in t mem []) >>= λ w. advance t ms w.states >>= λ a. later (clock_in mem) a >>= λ clock. turns_of t services clock (all_after a w, []) >>= closing t clock) none-active
      ∙ ap (λ (o : Outcome World). o >>= λ w. advance t [] w.states >>= λ a. later (clock_in mem) a >>= λ clock. turns_of t services clock (all_after a w, []) >>= closing t clock) (taken_none t services (clock_in mem) (world_in t mem []))

  pub idle-is : is_never least-now ≡ true → step_on t services (sim_in t mem) ≡ refused Idle
  idle-is e = opened ∙ rw e

  module _ (e : is_never least-now ≡ false) where
    pub overflow-is : is_time (add binary64 (clock_in mem) least-now) ≡ false → step_on t services (sim_in t mem) ≡ refused ClockOverflow
    overflow-is o = opened ∙ rw (e, o)

    pub passes_on : is_time (add binary64 (clock_in mem) least-now) ≡ true → (mid : List ℕ) → Passed t least-now mem mid
        → step_on t services (sim_in t mem) ≡ (turns_of t services (add binary64 (clock_in mem) least-now) (world_in t mid (waited least-now ∷ []), []) >>= closing t (add binary64 (clock_in mem) least-now))
    passes_on o mid p =
        opened ∙ (rw (e, o)) ∙ sym (ap (λ (w : World). turns_of t services (add binary64 (clock_in mem) least-now) (w, []) >>= closing t (add binary64 (clock_in mem) least-now)) passed)
      where
        passed : world_in t mid (waited least-now ∷ []) ≡ all_after least-now (world_in t mem [])
        passed = λ i. record { states = p.states i; place = p.place i; log = waited least-now ∷ [] }

-- ---- messages are active
module _ (t : Table) (services : List Float) (mem : List ℕ) (some : 0 < word_at mem 0) (time : T (is_time (clock_in mem))) where
  abbrev rest_of : List Message → World → Outcome (Simulation × List Happening)
  rest_of ms w = advance t ms w.states >>= λ a. later (clock_in mem) a >>= λ clock. turns_of t services clock (all_after a w, []) >>= closing t clock

  opened-by : step_on t services (sim_in t mem) ≡ (taken t services (clock_in mem) (active_in t mem) (world_in t mem []) >>= rest_of (active_in t mem))
  unfolding step_on
  opened-by = refl

  pub taken-stops : (r : Refusal) → ((log : List Happening) → taken t services (clock_in mem) (active_in t mem) (world_in t mem log) ≡ refused r) → step_on t services (sim_in t mem) ≡ refused r
  taken-stops r stops = opened-by ∙ ap (λ (o : Outcome World). o >>= rest_of (active_in t mem)) (stops [])

  -- the advance is 0, and so is what is left of every timer the timer
  some-active : (k : ℕ) → word_at mem 0 ≡ k → 0 < k → (w : World) → rest_of (messages_in (end_of t) k mem) w ≡ (turns_of t services (clock_in mem) (all_after instant w, []) >>= closing t (clock_in mem))
  some-active zero e l w = absurd (omega arith)
  some-active (suc k) e l w =
      let same = later-instant (clock_in mem) time in
      ap (λ (clock : Float). (if is_time clock then done clock else refused ClockOverflow) >>= λ clock. turns_of t services clock (all_after instant w, []) >>= closing t clock) same
      ∙ rw (is_true (is_time (clock_in mem)) time)

  unaged : (mid : List ℕ) → Ready t mid → states_in t mid ≡ map (after instant) (states_in t mid)
  unaged mid ready =
      (none_passed t instant mid ready instant-time
      (λ i. timers-instant (own_timer (state_at (states_in t mid) i)) (fits-timer (kind_at t i) (state_at (states_in t mid) i) (ready.good.0.fit i)))
      (is_true (eq instant instant) ((timers-zero instant (time-timer instant instant-time)).1 refl))).states

  pub taken-on : (mid : List ℕ) → (m : Moves (taken t services (clock_in mem) (active_in t mem)) t mem mid)
      → step_on t services (sim_in t mem) ≡ (turns_of t services (clock_in mem) (world_in t mid (m.more [] ++ waited instant ∷ []), []) >>= closing t (clock_in mem))
  taken-on mid m =
      opened-by ∙ ap (λ (o : Outcome World). o >>= rest_of (active_in t mem)) (m.is [])
      ∙ some-active (word_at mem 0) refl some (world_in t mid (m.more []))
      ∙ sym (ap (λ (w : World). turns_of t services (clock_in mem) (w, []) >>= closing t (clock_in mem)) same)
    where
      same : world_in t mid (m.more [] ++ waited instant ∷ []) ≡ all_after instant (world_in t mid (m.more []))
      same = λ i. record { states = unaged mid m.ready i; place = place_in mid; log = m.more [] ++ waited instant ∷ [] }

-- ---- what 20 asks is kept
module _ (t : Table) (ok : Fine t) (services : List Float) (short : T (is_word (length services))) (mem : List ℕ) (sound : Sound t mem) where
  pub went : (after : List ℕ) (log : List Happening) → Ready t after → length after ≡ length mem → step_on t services (sim_in t mem) ≡ done (sim_in t after, log) → Went services t mem after
  went after log ready long e =
      let s = go (subst (λ (o : Outcome (Simulation × List Happening)). Ends NotTwenty (Stepped t (λ _. Unit {0}) (sim_in t mem)) o) e
      (step_on-keeps t ok services short NotTwenty (λ _. Unit {0}) (any-closed t) (sim_in t mem) sound.clock sound.active sound.ready.good tt)) in
      record { sound = record { ready = ready; few = few-of s; active = s.active; clock = s.clock; room = (let r = sound.room in omega arith) }; log = log; is = e }
    where
      go : Ends NotTwenty (Stepped t (λ _. Unit {0}) (sim_in t mem)) (done (sim_in t after, log)) → Stepped t (λ _. Unit {0}) (sim_in t mem) (sim_in t after, log)
      go (goes s) = s

      few-of : Stepped t (λ _. Unit {0}) (sim_in t mem) (sim_in t after, log) → word_at after 0 ≤ most_active
      few-of s = subst (λ (n : ℕ). n ≤ most_active) (messages-long (end_of t) (word_at after 0) after) s.few

-- ---- as the code has it: the clock, the place of the messages and their number by other names
pub close-done : (t : Table) (services : List Float) (clock : Float) → T (is_time clock) → (mem fin after : List ℕ) (active n bits : ℕ) → active ≡ end_of t → bits ≡ to_bits binary64 clock → end_of t + 2816 ≤ length fin → after ≡ stamped n bits fin
    → Joins (messages_in active) most_active n 0 (turns_of t services clock) t mem fin → Closes t services clock mem after
close-done t services clock time mem fin after active n bits e is-bits room is j =
    subst (Closes t services clock mem) (sym is)
    (let k = subst (λ (at : ℕ). Joins (messages_in at) most_active n 0 (turns_of t services clock) t mem fin) e j in
    record { ready = stamped-ready t clock time n bits is-bits fin room k.ready; more = k.more; is = closes t clock time n bits is-bits fin room services mem k })

pub taken_as : (t : Table) (services : List Float) (mem mid : List ℕ) (clock : Float) (active count : ℕ) (r : Result ⊤ Refusal) → clock ≡ clock_in mem → active ≡ end_of t → count ≡ word_at mem 0
    → Does r (taken t services clock (messages_in active count mem)) t mem mid → Does r (taken t services (clock_in mem) (active_in t mem)) t mem mid
taken_as t services mem mid clock active count r c a n d =
    subst (λ (x : Float). Does r (taken t services x (active_in t mem)) t mem mid) c
    (subst (λ (at : ℕ). Does r (taken t services clock (messages_in at (word_at mem 0) mem)) t mem mid) a
    (subst (λ (k : ℕ). Does r (taken t services clock (messages_in active k mem)) t mem mid) n d))

pub closed-as : (t : Table) (services : List Float) (clock other : Float) (mem after : List ℕ) (r : Result ⊤ Refusal) → clock ≡ other → Closed r t services clock mem after → Closed r t services other mem after
closed-as t services clock other mem after r e c = subst (λ (x : Float). Closed r t services x mem after) e c

-- what comes of the turns comes of the step
module _ (t : Table) (ok : Fine t) (services : List Float) (short : T (is_word (length services))) (mem : List ℕ) (sound : Sound t mem) (clock : Float) (mid : List ℕ) (log : List Happening)
    (opens : step_on t services (sim_in t mem) ≡ (turns_of t services clock (world_in t mid log, []) >>= closing t clock)) where
  pub ends-done : (after : List ℕ) → length after ≡ length mem → Closes t services clock mid after → Went services t mem after
  ends-done after long c = went t ok services short mem sound after (c.more log) c.ready long (opens ∙ c.is log)

  pub ends-halfway : (r : Refusal) → ((log : List Happening) → turns_of t services clock (world_in t mid log, []) ≡ refused r) → step_on t services (sim_in t mem) ≡ refused r
  ends-halfway r stops = opens ∙ ap (λ (o : Outcome (World × List Message)). o >>= closing t clock) (stops log)

-- ---- the least timer: a timer, below all others, and a time where it is not infinite
pub never-eq : (a : Float) → T (is_timer a) → eq a never ≡ is_never a
never-eq a timer = same_test (eq a never) (is_never a) (λ h. subst (λ (x : Float). T (is_never x)) (sym ((timers-eq a never timer never-timer).0 h)) tt) (λ h. (timers-eq a never timer never-timer).1 (never-is a h))

pub some-time : (a : Float) → T (is_timer a) → is_never a ≡ false → T (is_time a)
some-time a timer e = elim (timer-split a timer) [
  | inl h ↦ h
  | inr h ↦ absurd (false≢true (sym e ∙ ap is_never h))
]
