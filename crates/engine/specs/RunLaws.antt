-- The laws of a run in place: rows laid down behind others, what the run so far has in common with the whole, how each end is told; a state that 20 lets pass; and a run that no clock ends. Assumes nothing.
use Prim.Native.Nat.{ℕ, zero, suc, ◌+◌, ◌-◌, ◌*◌, ◌≤◌, ◌<◌}
use Rattle.std.specs.Prelude.{◌≡◌, Bool, true, false, List, [], ◌∷◌, ◌++◌, take, drop, T, leb, Float, if◌then◌else◌}
use Rattle.std.proofs.Math.Path.{refl, ap}
use Rattle.std.proofs.Common.{sym, ◌∙◌, subst, append_assoc, append-nil, le_of_eq, length-append, length-drop, drop_of_length-le, take_at, drop_at, drop-drop}
use native.Mathlib.Omega.{arith}
use Rattle.std.proofs.Math.Nat.{sub-zero}
use borrow.Rule.Slice.PartMut.{put_mid}
use Rattle.std.proofs.Math.ListN.{length}
use Rattle.std.specs.Float.Ieee.{lt}
use Rattle.times.specs.Time.{never, is_time}
use Rattle.times.proofs.Laws as law
use Rattle.times.specs.Order.{same_test, Number, at}
use Rattle.rules.specs.declared.Refusal.{Refusal}
use Rattle.rules.specs.declared.Refusal.TheVariants.{BadTime, NoOutRoom}
use Rattle.rules.specs.declared.Message.{Message}
use Rattle.rules.specs.Base.{Outcome, refused, done, ◌>>=◌}
use Rattle.rules.specs.Sizes.{is_word}
use Rattle.rules.specs.Table.{Table}
use Rattle.rules.specs.Simulation.{Simulation}
use Rattle.rules.specs.Step.{Happening, step_on}
use Rattle.rules.specs.Layout.{message_width, written, written_all, laid_down}
use Rattle.rules.specs.Ends.{Ends, stops, goes, ends-map}
use Rattle.rules.specs.Depth.{passed-again}
use Rattle.rules.specs.Valid.{is_valid}
use Rattle.rules.proofs.Runs.{Valid, is-valid, step-ends, any-closed, NotTwenty}
use Rattle.rules.specs.Calls.{End, Done, Reached, Spent, Refused, Ran, ended, then_ran, fitting, onward, look, steps, step_n, steps_until, step_until}
use Rattle.memory.specs.Words.{word_at}
use Rattle.lookup.specs.Inside.{posted_in, table_in}
use Rattle.views.specs.World.{end_of}
use Rattle.views.specs.Messages.{messages_in}
use Rattle.views.specs.MessageLaws.{messages-long}
pub use Rattle.copying.specs.CopiedLaws.{to_end}
use Rattle.copying.specs.CopiedLaws.{written-long}
use Rattle.stepping.specs.Simulating.{active_in, sim_in, Sound}
use Rattle.rerunning.specs.Running.{tail_in, Stored, sim_of, reached, Goes, Arrives, Refuses}
use Rattle.rerunning.specs.RunningLaws.{reached-on}
use Rattle.engine.specs.declared.End.TheVariants as end
use Rattle.engine.specs.declared.Report.{Report}
use Rattle.engine.specs.Telling.{end_is, Told}

-- ---- the words from a place to the end, as they are lent
pub put-at-end : (start : ℕ) (words new : List ℕ) → put_mid start (length words - start) words new ≡ take start words ++ new
put-at-end start words new =
    ap (λ (z : List ℕ). take start words ++ (new ++ z)) (drop_of_length-le (drop start words) (le_of_eq (length-drop start words)))
    ∙ ap (λ (z : List ℕ). take start words ++ z) (append-nil new)

-- ---- rows laid down behind others
written_both : (xs ys : List Message) → written_all (xs ++ ys) ≡ written_all xs ++ written_all ys
written_both [] ys = refl
written_both (x ∷ xs) ys = ap (λ (z : List ℕ). written x ++ z) (written_both xs ys) ∙ sym (append_assoc (written x) (written_all xs) (written_all ys))

pub laid_more : (first more : List Message) (n : ℕ) (before rows : List ℕ) → length first ≡ n → rows ≡ laid_down first before
    → take (n * 6) rows ++ laid_down more (drop (n * 6) rows) ≡ laid_down (first ++ more) before
laid_more first more n before rows long is =
    let front : length (written_all first) ≡ n * 6 = (let h = written-long first in omega arith) in
    let rest = drop (message_width * length first) before in
    let ends : message_width * length first + message_width * length more ≡ message_width * length (first ++ more) = (let h = length-append first more in omega arith) in
    ap (λ (z : List ℕ). take (n * 6) z ++ laid_down more (drop (n * 6) z)) is
    ∙ ap (λ (z : List ℕ). z ++ laid_down more (drop (n * 6) (written_all first ++ rest))) (take_at (written_all first) rest (n * 6) front)
    ∙ ap (λ (z : List ℕ). written_all first ++ laid_down more z) (drop_at (written_all first) rest (n * 6) front)
    ∙ sym (append_assoc (written_all first) (written_all more) (drop (message_width * length more) rest))
    ∙ ap (λ (z : List ℕ). z ++ drop (message_width * length more) rest) (sym (written_both first more))
    ∙ ap (λ (z : List ℕ). written_all (first ++ more) ++ z) (drop-drop (message_width * length more) (message_width * length first) before ∙ ap (λ (k : ℕ). drop k before) ends)

-- ---- the run so far, `taken` steps with their rows, and then the rest of it: together they are the whole
pub record Before (taken : ℕ) (first : List Message) (whole rest : Ran) : Type 0 where
  pub end : whole.end ≡ rest.end
  pub sim : whole.sim ≡ rest.sim
  pub steps : whole.steps ≡ taken + rest.steps
  pub rows : whole.rows ≡ first ++ rest.rows

before_more : (taken : ℕ) (rows more : List Message) (log : List Happening) (whole rest next : Ran) → Before taken rows whole rest → rest ≡ then_ran more log next → Before (taken + 1) (rows ++ more) whole next
before_more taken rows more log whole rest next b e =
    record {
      end = b.end ∙ ap (λ (r : Ran). r.end) e;
      sim = b.sim ∙ ap (λ (r : Ran). r.sim) e;
      steps = (let s = b.steps in let n : rest.steps ≡ suc next.steps = ap (λ (r : Ran). r.steps) e in omega arith);
      rows = b.rows ∙ ap (λ (r : Ran). rows ++ r.rows) e ∙ sym (append_assoc rows more next.rows);
    }

module _ (services : List Float) (until : Float) (room bound : ℕ) (t : Table) (sim : Simulation) (empty : List ℕ) where
  pub record Underway (mem rows : List ℕ) (taken written : ℕ) : Type 0 where
    pub sound : Sound t mem
    pub came : reached t services taken sim ≡ done (sim_in t mem)
    pub few : written ≤ room
    pub laid : List Message
    pub long : length laid ≡ written
    pub now-laid : rows ≡ laid_down laid empty
    pub whole : Before taken laid (steps_until services until room bound sim) (steps_until services until (room - written) (bound - taken) (sim_in t mem))

  pub starts : (mem : List ℕ) → sim_in t mem ≡ sim → Sound t mem → Underway mem empty 0 0
  starts mem e sound =
      record {
        sound = sound;
        came = ap done (sym e);
        few = omega arith;
        laid = [];
        long = refl;
        now-laid = refl;
        whole = simp sub-zero
            (subst (λ (s : Simulation). Before 0 [] (steps_until services until room bound sim) (steps_until services until room bound s)) (sym e)
            (record { end = refl; sim = refl; steps = omega arith; rows = refl }));
      }

  module _ (mem rows : List ℕ) (taken written : ℕ) (u : Underway mem rows taken written) where
    abbrev left : ℕ → Simulation → Ran
    left n next = steps_until services until (room - written - length next.active) n next

    -- the rest is one look, and what comes after it
    one_more : (n : ℕ) → bound - taken ≡ suc n → steps_until services until (room - written) (bound - taken) (sim_in t mem) ≡ look until (room - written) (sim_in t mem) (step_on t services (sim_in t mem)) (left n)
    unfolding steps_until
    one_more n e = ap (λ (k : ℕ). steps_until services until (room - written) k (sim_in t mem)) e

    less : taken < bound → bound - taken ≡ suc (bound - (taken + 1))
    less h = omega arith

    pub goes_on : (count active : ℕ) (after rows' : List ℕ) → taken < bound → active ≡ end_of t → Goes services until (room - written) t mem after count
        → rows' ≡ take (written * 6) rows ++ laid_down (messages_in active count after) (drop (written * 6) rows)
        → Underway after rows' (taken + 1) (written + count)
    goes_on count active after rows' h begins g is =
        let n = bound - (taken + 1) in
        let more = active_in t after in
        let long = messages-long (end_of t) (word_at after 0) after in
        let same : messages_in active count after ≡ more = (λ i. messages_in (begins i) (g.count i) after) in
        let room-left : room - written - length more ≡ room - (written + count) = (let e = g.count in omega (arith, long)) in
        record {
          sound = g.sound;
          came = reached-on t services sim taken (sim_in t mem) (sim_in t after) g.log u.came g.step;
          few = (let f = g.few in let v = u.few in omega arith);
          laid = u.laid ++ more;
          long = (let l = length-append u.laid more in let e = g.count in let v = u.long in omega (arith, long));
          now-laid = is ∙ ap (λ (ms : List Message). take (written * 6) rows ++ laid_down ms (drop (written * 6) rows)) same ∙ laid_more u.laid more written empty rows u.long u.now-laid;
          whole = before_more taken u.laid more g.log (steps_until services until room bound sim) (steps_until services until (room - written) (bound - taken) (sim_in t mem)) (steps_until services until (room - (written + count)) n (sim_in t after)) u.whole
              (one_more n (less h) ∙ g.is (left n) ∙ ap (λ (k : ℕ). then_ran more g.log (steps_until services until k n (sim_in t after))) room-left);
        }

    told-by : (r : Report) (taken' : ℕ) (after : List ℕ) (e : End) → r.steps ≡ taken' → r.written ≡ written → end_is r.end ≡ e → Sound t after
        → Before taken' (u.laid ++ []) (steps_until services until room bound sim) (ended e (sim_in t after)) → Told r (steps_until services until room bound sim) t after empty rows
    told-by r taken' after e s w is sound b =
        let rows_are : (steps_until services until room bound sim).rows ≡ u.laid = b.rows ∙ append-nil (u.laid ++ []) ∙ append-nil u.laid in
        record {
          end = is ∙ sym b.end;
          steps = (let k = b.steps in omega (arith, s));
          written = w ∙ sym u.long ∙ ap length (sym rows_are);
          sim = sym b.sim;
          sound = sound;
          rows = u.now-laid ∙ ap (λ (ms : List Message). laid_down ms empty) (sym rows_are);
        }

    ends_at : (after : List ℕ) (e : End) → steps_until services until (room - written) (bound - taken) (sim_in t mem) ≡ ended e (sim_in t after)
        → Before taken (u.laid ++ []) (steps_until services until room bound sim) (ended e (sim_in t after))
    ends_at after e is =
        subst (λ (r : Ran). Before taken (u.laid ++ []) (steps_until services until room bound sim) r) is
        (subst (λ (ms : List Message). Before taken ms (steps_until services until room bound sim) (steps_until services until (room - written) (bound - taken) (sim_in t mem))) (sym (append-nil u.laid)) u.whole)

    pub arrives : (after : List ℕ) → taken < bound → Arrives services until (room - written) t mem after → Told (record { steps = taken + 1; written = written; end = end.Reached }) (steps_until services until room bound sim) t after empty rows
    arrives after h g =
        let n = bound - (taken + 1) in
        told-by (record { steps = taken + 1; written = written; end = end.Reached }) (taken + 1) after Reached refl refl refl g.sound
        (before_more taken u.laid [] g.log (steps_until services until room bound sim) (steps_until services until (room - written) (bound - taken) (sim_in t mem)) (ended Reached (sim_in t after)) u.whole
        (one_more n (less h) ∙ g.is (left n)))

    pub refuses : (refusal : Refusal) (after : List ℕ) → taken < bound → Refuses services until (room - written) t mem after refusal
        → Told (record { steps = taken; written = written; end = end.Refused refusal }) (steps_until services until room bound sim) t after empty rows
    refuses refusal after h g =
        let n = bound - (taken + 1) in
        told-by (record { steps = taken; written = written; end = end.Refused refusal }) taken after (Refused refusal) refl refl refl g.sound
        (ends_at after (Refused refusal) (one_more n (less h) ∙ g.is (left n) ∙ ap (ended (Refused refusal)) (sym g.same)))

    none_left : bound ≤ taken → steps_until services until (room - written) (bound - taken) (sim_in t mem) ≡ ended Spent (sim_in t mem)
    unfolding steps_until
    none_left h = let z : bound - taken ≡ 0 = omega arith in ap (λ (k : ℕ). steps_until services until (room - written) k (sim_in t mem)) z

    pub spent : bound ≤ taken → Told (record { steps = taken; written = written; end = end.Spent }) (steps_until services until room bound sim) t mem empty rows
    spent h =
        told-by (record { steps = taken; written = written; end = end.Spent }) taken mem Spent refl refl refl u.sound (ends_at mem Spent (none_left h))

-- ---- what 20 asks of a simulation holds of one that is stored
pub stored-valid : (state : List ℕ) → Stored state → Valid (sim_of state)
stored-valid state s =
    record {
      table = passed-again (posted_in state) (table_in state) s.inside.passes;
      fitted = s.ready.good.0;
      few = rw (messages-long (end_of (table_in state)) (word_at (tail_in state) 0) (tail_in state)) s.few;
      active = s.active;
      clock = s.clock;
      place = s.ready.good.1;
    }

passes-20 : (state : List ℕ) → Stored state → is_valid (sim_of state) ≡ true
passes-20 state s = same_test (is_valid (sim_of state)) true (λ _. tt) (λ _. is-valid (sim_of state) (stored-valid state s))

-- ---- step_until: a bad `until` is refused before any step, and else it is the run
module _ (services : List Float) (until : Float) (room allowance : ℕ) (state : List ℕ) (s : Stored state) where
  pub until-bad : is_time until ≡ false → step_until services until room allowance (sim_of state) ≡ ended (Refused BadTime) (sim_of state)
  unfolding step_until
  until-bad e = rw (passes-20 state s) (rw e refl)

  pub until-good : is_time until ≡ true → step_until services until room allowance (sim_of state) ≡ steps_until services until room allowance (sim_of state)
  unfolding step_until
  until-good e = rw (passes-20 state s) (rw e refl)

-- ---- step_n is a run that no clock ends
abbrev pub done_for : End → End
done_for Done = Done
done_for Reached = Reached
done_for Spent = Done
done_for (Refused r) = Refused r

abbrev pub as_done : Ran → Ran
as_done r = record { end = done_for r.end; sim = r.sim; steps = r.steps; rows = r.rows; log = r.log }

below-never : (x : Float) → T (is_time x) → lt x never ≡ true
unfolding lt
below-never x h = go x (law.time-number x h)
  where
    go : (x : Float) → Number x → lt x never ≡ true
    go x (at m e) = refl

fitting-on : (room : ℕ) (sim next : Simulation) (log : List Happening) (rest rest' : Simulation → Ran) → rest next ≡ as_done (rest' next) → onward sim (fitting room (next, log)) rest ≡ as_done (onward sim (fitting room (next, log)) rest')
fitting-on room sim next log rest rest' e = go (leb (length next.active) room)
  where
    go : (b : Bool) → onward sim (if b then done (next, log) else refused NoOutRoom) rest ≡ as_done (onward sim (if b then done (next, log) else refused NoOutRoom) rest')
    go true = ap (then_ran next.active log) e
    go false = refl

look-on : (room : ℕ) (sim : Simulation) {o : Outcome (Simulation × List Happening)} (rest rest' : Simulation → Ran) → Ends NotTwenty (λ r. Valid r.0) o → ((next : Simulation) → Valid next → rest next ≡ as_done (rest' next))
    → onward sim (o >>= fitting room) rest ≡ as_done (look never room sim o rest')
look-on room sim rest rest' (stops b) same = refl
look-on room sim rest rest' (goes {a = a} v) same =
    let (next, log) = a in
    rw (below-never next.clock v.clock) (fitting-on room sim next log rest rest' (same next v))

module _ (services : List Float) (short : T (is_word (length services))) where
  steps-run : (count room : ℕ) (sim : Simulation) → Valid sim → steps services room count sim ≡ as_done (steps_until services never room count sim)
  unfolding steps steps_until
  steps-run zero room sim v = refl
  steps-run (suc count) room sim v =
      look-on room sim (λ next. steps services (room - length next.active) count next) (λ next. steps_until services never (room - length next.active) count next)
      (ends-map (step-ends NotTwenty (λ _. Unit {0}) services sim short (any-closed sim.table) v tt) (λ r b. b) (λ r h. h.0))
      (λ next w. steps-run count (room - length next.active) next w)

  pub step_n-run : (room count : ℕ) (state : List ℕ) → Stored state → step_n services room count (sim_of state) ≡ as_done (steps_until services never room count (sim_of state))
  unfolding step_n
  step_n-run room count state s = rw (passes-20 state s) (steps-run count room (sim_of state) (stored-valid state s))
