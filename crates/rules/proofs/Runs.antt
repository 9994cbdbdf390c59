-- What each step keeps, every call keeps: step, step_n, step_until, inject_input, the resets, and a list of calls. And from a valid simulation every call leaves a valid one, and none is refused with 20. Assumes nothing.
use Prim.Native.Nat.{ℕ, zero, suc, ◌+◌, ◌-◌, ◌≤◌}
use Rattle.std.specs.Prelude.{◌≡◌, refl, Bool, leb, ltb, eqb, Float, if◌then◌else◌}
use Rattle.std.proofs.Common.{sym, subst, arith, leb→le, le→leb, T_not}
use Rattle.std.proofs.Math.Bool.{true, false, not}
use mathlib.Core.List.{List, [], ◌∷◌, ◌++◌, append_assoc, append-nil}
use Rattle.std.proofs.Math.ListN.{length, get_or-map}
use Rattle.std.proofs.lemmas.List.{length-map}
use Rattle.std.proofs.Math.Dec.{T}
use Rattle.std.specs.Float.Ieee.{lt}
use Rattle.times.specs.Time.{instant, is_time}
use Rattle.times.proofs.Laws as law
use Rattle.rules.specs.declared.Refusal.{Refusal}
use Rattle.rules.specs.declared.Refusal.TheVariants.{TooLarge, BadRow, BadCoupling, ModelNotFound, InvalidModelState, NoMessageRoom, BadTime, NoOutRoom, BadState}
use Rattle.rules.specs.declared.BatcherPhase.{BatcherPhase}
use Rattle.rules.specs.declared.BatcherPhase.TheVariants as batching
use Rattle.rules.specs.declared.Batcher.{Batcher}
use Rattle.rules.specs.declared.Message.{Message}
use Rattle.rules.specs.Sizes.{is_word, most_active}
use Rattle.rules.specs.Base.{Outcome, those, hold}
use Rattle.rules.specs.Table.{Kind, processor, batcher, stopwatch, coupled, Row, Table, no_row, id_at, kind_at, parentless}
use Rattle.rules.specs.Intake.{Posted, intake, taken_in, passes_intake}
use Rattle.rules.specs.Simulation.{BatcherState, State, Simulation, fresh, fresh_all, begun, empty_table, state_at}
use Rattle.rules.specs.Models.{joining, batcher_external}
use Rattle.rules.specs.Step.{Happening, World, one_step}
use Rattle.rules.specs.Valid.{state_rules, state_fits, message_rules, simulation_rules, is_valid}
use Rattle.rules.specs.Calls.{guarded, post, handed_back, put, inject_input, reset_messages, reset_global_time, reset, End, Done, Reached, Spent, Refused, Ran, ended, then_ran, fitting, onward, steps, step_n, step, look, steps_until, step_until, get_messages, get_global_time, status_of_first, get_status, Call, InjectInput, Step, StepN, StepUntil, Reset, ResetMessages, ResetGlobalTime, changed, called, calls, list_rules, call_rules}
use Rattle.rules.specs.Ends.{two-not, All, nil, ◌&◌, all_append, every-all, all-every, parts, whole_of, Ends, stops, goes, ends-if, ends-bind, ends-map, ends-most}
use Rattle.rules.specs.Depth.{fine, intake-ends}
use Rattle.rules.proofs.Least.{Fitted, fitted, fitted-fits}
use Rattle.rules.specs.Kept.{Other, keep-more}
use Rattle.rules.proofs.Worlds.{Closed, MessageFits, world_of, step_on-keeps}

-- ---- refusal 20's rules, as facts
pub record Valid (sim : Simulation) : Type 0 where
  pub table : T (passes_intake sim.table)
  pub fitted : Fitted sim.table sim.states
  pub few : length sim.active ≤ most_active
  pub active : All MessageFits sim.active
  pub clock : T (is_time sim.clock)
  pub place : T (is_word sim.place)

pub valid-of : (sim : Simulation) → T (is_valid sim) → Valid sim
unfolding is_valid
valid-of sim h = go (parts (simulation_rules sim) h)
  where
    go : All T (simulation_rules sim) → Valid sim
    go (a & b & c & d & e & f & nil) =
        record { table = a; fitted = fitted sim.table sim.states b; few = leb→le (length sim.active) most_active c; active = every-all (λ m. hold (message_rules m)) sim.active d; clock = e; place = f }

pub is-valid : (sim : Simulation) → Valid sim → T (is_valid sim)
unfolding is_valid
is-valid sim v =
    whole_of {bs = simulation_rules sim}
    (v.table & fitted-fits sim.table sim.states v.fitted & le→leb (length sim.active) most_active v.few
    & all-every (λ m. hold (message_rules m)) v.active & v.clock & v.place & nil)

pub guarded-ends : {A : Type 0} {B : Refusal → Type 0} {Q : A → Type 0} (sim : Simulation) {o : Outcome A} → T (is_valid sim) → Ends B Q o → Ends B Q (guarded sim o)
guarded-ends sim h e = ends-if (is_valid sim) (λ _. e) (λ t. absurd (T_not (is_valid sim) t h))

-- a step of a valid simulation keeps K, and leaves a valid one
pub step-ends : (B : Refusal → Type 0) (K : World → Type 0) (services : List Float) (sim : Simulation) → T (is_word (length services)) → Closed sim.table B K → Valid sim → K (world_of sim [])
    → Ends B (λ r. Valid r.0 × (r.0.table ≡ sim.table) × K (world_of r.0 r.1)) (one_step services sim)
step-ends B K services sim short closed v k =
    ends-map (step_on-keeps sim.table (fine sim.table v.table) services short B K closed sim v.clock v.active (v.fitted, v.place) k) (λ r b. b)
    (λ r s. (
      record {
        table = subst (λ (z : Table). T (passes_intake z)) (sym s.table) v.table;
        fitted = subst (λ (z : Table). Fitted z r.0.states) (sym s.table) s.good.0;
        few = s.few;
        active = s.active;
        clock = s.clock;
        place = s.good.1;
      },
      s.table,
      s.kept,
    ))

-- ---- from the step to the calls
abbrev pub EndsWell : (Refusal → Type 0) → End → Type 0
EndsWell B Done = Unit {0}
EndsWell B Reached = Unit {0}
EndsWell B Spent = Unit {0}
EndsWell B (Refused r) = B r

-- a call whose own numbers keep their widths
abbrev pub CallFits : Call → Type 0
CallFits c = T (hold (call_rules c))

lists-short : (services : List Float) (room : ℕ) → All T (list_rules services room) → T (is_word (length services))
lists-short services room (a & b & c) = b

-- P, of a simulation and of all that happened so far: it tells that the simulation is valid, a change of messages and clock alone keeps it, and so does a step
pub record Carried (B : Refusal → Type 0) (P : Simulation → List Happening → Type 0) : Type 0 where
  pub other : (r : Refusal) → Other r → B r
  pub valid : (sim : Simulation) (log : List Happening) → P sim log → Valid sim
  pub change : (sim next : Simulation) (log : List Happening) → next.table ≡ sim.table → next.states ≡ sim.states → next.place ≡ sim.place → Valid next → P sim log → P next log
  pub forward : (services : List Float) (sim : Simulation) (log : List Happening) → T (is_word (length services)) → P sim log → Ends B (λ r. P r.0 (log ++ r.1)) (one_step services sim)

module _ (B : Refusal → Type 0) (P : Simulation → List Happening → Type 0) (carried : Carried B P) where
  abbrev pub RanOn : List Happening → Ran → Type 0
  RanOn log r = P r.sim (log ++ r.log) × EndsWell B r.end

  now-valid : (sim : Simulation) (log : List Happening) → P sim log → T (is_valid sim)
  now-valid sim log p = is-valid sim (carried.valid sim log p)

  ended-keeps : (end : End) (sim : Simulation) (log : List Happening) → EndsWell B end → P sim log → RanOn log (ended end sim)
  ended-keeps end sim log e p = (subst (P sim) (sym (append-nil log)) p, e)

  then_keeps : (rows : List Message) (log more : List Happening) (r : Ran) → RanOn (log ++ more) r → RanOn log (then_ran rows more r)
  then_keeps rows log more r p = (subst (P r.sim) (append_assoc log more r.log) p.0, p.1)

  onward-keeps : (sim : Simulation) (log : List Happening) {o : Outcome (Simulation × List Happening)} (rest : Simulation → Ran) → P sim log → Ends B (λ r. P r.0 (log ++ r.1)) o
      → ((next : Simulation) (all : List Happening) → P next all → RanOn all (rest next)) → RanOn log (onward sim o rest)
  onward-keeps sim log rest p (stops {r = r} b) k = ended-keeps (Refused r) sim log b p
  onward-keeps sim log rest p (goes {a = a} h) k = then_keeps a.0.active log a.1 (rest a.0) (k a.0 (log ++ a.1) h)

  fitting-keeps : (room : ℕ) (log : List Happening) (r : Simulation × List Happening) → P r.0 (log ++ r.1) → Ends B (λ r. P r.0 (log ++ r.1)) (fitting room r)
  fitting-keeps room log r h = ends-if (leb (length r.0.active) room) (λ _. goes {a = r} h) (λ _. stops (carried.other NoOutRoom tt))

  look-keeps : (until : Float) (room : ℕ) (sim : Simulation) (log : List Happening) {o : Outcome (Simulation × List Happening)} (rest : Simulation → Ran) → P sim log → Ends B (λ r. P r.0 (log ++ r.1)) o
      → ((next : Simulation) (all : List Happening) → P next all → RanOn all (rest next)) → RanOn log (look until room sim o rest)
  look-keeps until room sim log rest p (stops {r = r} b) k = ended-keeps (Refused r) sim log b p
  look-keeps until room sim log rest p (goes {a = a} h) k = go (lt a.0.clock until)
    where
      go : (b : Bool) → RanOn log (if b then onward sim (fitting room a) rest else then_ran [] a.1 (ended Reached a.0))
      go true = onward-keeps sim log rest p (fitting-keeps room log a h) k
      go false = then_keeps [] log a.1 (ended Reached a.0) (ended-keeps Reached a.0 (log ++ a.1) tt h)

  module _ (services : List Float) (short : T (is_word (length services))) where
    steps-keeps : (count room : ℕ) (sim : Simulation) (log : List Happening) → P sim log → RanOn log (steps services room count sim)
    unfolding steps
    steps-keeps zero room sim log p = ended-keeps Done sim log tt p
    steps-keeps (suc count) room sim log p =
        onward-keeps sim log (λ next. steps services (room - length next.active) count next) p
        (ends-bind (fitting room) (carried.forward services sim log short p) (λ r h. fitting-keeps room log r h))
        (λ next all q. steps-keeps count (room - length next.active) next all q)

    pub step_n-keeps : (room count : ℕ) (sim : Simulation) (log : List Happening) → P sim log → RanOn log (step_n services room count sim)
    unfolding step_n
    step_n-keeps room count sim log p = go (is_valid sim) (now-valid sim log p)
      where
        go : (b : Bool) → T b → RanOn log (if b then steps services room count sim else ended (Refused BadState) sim)
        go true t = steps-keeps count room sim log p
        go false t = absurd t

    steps_until-keeps : (until : Float) (allowance room : ℕ) (sim : Simulation) (log : List Happening) → P sim log → RanOn log (steps_until services until room allowance sim)
    unfolding steps_until
    steps_until-keeps until zero room sim log p = ended-keeps Spent sim log tt p
    steps_until-keeps until (suc allowance) room sim log p =
        look-keeps until room sim log (λ next. steps_until services until (room - length next.active) allowance next) p (carried.forward services sim log short p)
        (λ next all q. steps_until-keeps until allowance (room - length next.active) next all q)

    pub step_until-keeps : (until : Float) (room allowance : ℕ) (sim : Simulation) (log : List Happening) → P sim log → RanOn log (step_until services until room allowance sim)
    unfolding step_until
    step_until-keeps until room allowance sim log p = go (is_valid sim) (not (is_time until)) (now-valid sim log p)
      where
        go : (b c : Bool) → T b → RanOn log (if not b then ended (Refused BadState) sim else if c then ended (Refused BadTime) sim else steps_until services until room allowance sim)
        go false c t = absurd t
        go true true t = ended-keeps (Refused BadTime) sim log (carried.other BadTime tt) p
        go true false t = steps_until-keeps until allowance room sim log p

  -- messages and clock change, and nothing else
  changed-keeps : (sim : Simulation) (active : List Message) (clock : Float) (log : List Happening) → length active ≤ most_active → All MessageFits active → T (is_time clock) → P sim log
      → P (record { table = sim.table; states = sim.states; active = active; clock = clock; place = sim.place }) log
  changed-keeps sim active clock log few ms c p =
      let v = carried.valid sim log p in
      carried.change sim (record { table = sim.table; states = sim.states; active = active; clock = clock; place = sim.place }) log refl refl refl
      (record { table = v.table; fitted = v.fitted; few = few; active = ms; clock = c; place = v.place }) p

  pub inject-keeps : (m : Message) (sim : Simulation) (log : List Happening) → CallFits (InjectInput m) → P sim log → Ends B (λ next. P next log) (inject_input m sim)
  unfolding inject_input
  inject-keeps m sim log f p =
      guarded-ends sim (now-valid sim log p)
      (ends-if (not (is_time m.time)) (λ _. stops (carried.other BadTime tt))
      (λ t. ends-bind _ (ends-most most_active NoMessageRoom (sim.active ++ m ∷ []) (carried.other NoMessageRoom tt))
      (λ active k. goes (changed-keeps sim active sim.clock log k.1
      (subst (λ (z : List Message). All MessageFits z) (sym k.0) (all_append (carried.valid sim log p).active (go (parts (call_rules (InjectInput m)) f) (two-not (is_time m.time) t) & nil)))
      (carried.valid sim log p).clock p))))
    where
      go : All T (call_rules (InjectInput m)) → T (is_time m.time) → MessageFits m
      go (a & b & c & d & e & g & nil) t = whole_of {bs = message_rules m} (a & b & c & d & t & g & nil)

  pub reset_messages-keeps : (sim : Simulation) (log : List Happening) → P sim log → Ends B (λ next. P next log) (reset_messages sim)
  unfolding reset_messages
  reset_messages-keeps sim log p = guarded-ends sim (now-valid sim log p) (goes (changed-keeps sim [] sim.clock log (omega arith) nil (carried.valid sim log p).clock p))

  pub reset_global_time-keeps : (sim : Simulation) (log : List Happening) → P sim log → Ends B (λ next. P next log) (reset_global_time sim)
  unfolding reset_global_time
  reset_global_time-keeps sim log p =
      let v = carried.valid sim log p in
      guarded-ends sim (now-valid sim log p) (goes (changed-keeps sim sim.active instant log v.few v.active law.instant-time p))

  pub reset-keeps : (sim : Simulation) (log : List Happening) → P sim log → Ends B (λ next. P next log) (reset sim)
  unfolding reset
  reset-keeps sim log p = guarded-ends sim (now-valid sim log p) (goes (changed-keeps sim [] instant log (omega arith) nil law.instant-time p))

  answer_keeps : (sim : Simulation) (log : List Happening) {o : Outcome Simulation} → P sim log → Ends B (λ next. P next log) o → RanOn log (changed sim o)
  answer_keeps sim log p (stops {r = r} b) = ended-keeps (Refused r) sim log b p
  answer_keeps sim log p (goes {a = a} h) = ended-keeps Done a log tt h

  pub called-keeps : (c : Call) (sim : Simulation) (log : List Happening) → CallFits c → P sim log → RanOn log (called c sim)
  unfolding called step
  called-keeps (InjectInput m) sim log f p = answer_keeps sim log p (inject-keeps m sim log f p)
  called-keeps (Step services room) sim log f p = step_n-keeps services (lists-short services room (parts (list_rules services room) f)) room 1 sim log p
  called-keeps (StepN services room count) sim log f p = step_n-keeps services (go (parts (call_rules (StepN services room count)) f)) room count sim log p
    where
      go : All T (call_rules (StepN services room count)) → T (is_word (length services))
      go (a & b) = lists-short services room b
  called-keeps (StepUntil services until room allowance) sim log f p = step_until-keeps services (go (parts (call_rules (StepUntil services until room allowance)) f)) until room allowance sim log p
    where
      go : All T (call_rules (StepUntil services until room allowance)) → T (is_word (length services))
      go (a & b & c) = lists-short services room c
  called-keeps Reset sim log f p = answer_keeps sim log p (reset-keeps sim log p)
  called-keeps ResetMessages sim log f p = answer_keeps sim log p (reset_messages-keeps sim log p)
  called-keeps ResetGlobalTime sim log f p = answer_keeps sim log p (reset_global_time-keeps sim log p)

  pub calls-keeps : (cs : List Call) (sim : Simulation) (log : List Happening) → All CallFits cs → P sim log → P (calls cs sim).0 (log ++ (calls cs sim).1)
  calls-keeps [] sim log f p = subst (P sim) (sym (append-nil log)) p
  calls-keeps (c ∷ cs) sim log (f & fs) p =
      subst (P (calls cs (called c sim).sim).0) (append_assoc log (called c sim).log (calls cs (called c sim).sim).1)
      (calls-keeps cs (called c sim).sim (log ++ (called c sim).log) fs (called-keeps c sim log f p).0)

-- ---- a simulation as `post` gives it is valid
fresh-fits : (k : Kind) → T (state_fits k (fresh k))
fresh-fits (processor p) = whole_of {bs = state_rules (processor p) (fresh (processor p))} (law.never-timer & tt & tt & le→leb 0 p.queue_capacity (omega arith) & tt & nil)
fresh-fits (batcher b) = whole_of {bs = state_rules (batcher b) (fresh (batcher b))} (law.never-timer & tt & tt & nil)
fresh-fits (stopwatch w) = whole_of {bs = state_rules (stopwatch w) (fresh (stopwatch w))} (law.never-timer & tt & tt & tt & nil)
fresh-fits coupled = tt

pub fresh_at : (t : Table) (i : ℕ) → state_at (fresh_all t) i ≡ fresh (kind_at t i)
fresh_at t i = get_or-map (λ (r : Row). fresh r.kind) t.rows i no_row

fresh-fitted : (t : Table) → Fitted t (fresh_all t)
fresh-fitted t = record {
  same = length-map t.rows (λ (r : Row). fresh r.kind);
  fit = λ i. subst (λ (z : State). T (state_fits (kind_at t i) z)) (sym (fresh_at t i)) (fresh-fits (kind_at t i));
}

pub begun-valid : (t : Table) → T (passes_intake t) → Valid (begun t)
begun-valid t f = record { table = f; fitted = fresh-fitted t; few = omega arith; active = nil; clock = law.instant-time; place = tt }

-- ---- from a valid simulation every call leaves a valid one, and none is refused with 20
abbrev pub NotTwenty : Refusal → Type 0
NotTwenty r = r ≡ BadState → ⊥

other-not-twenty : (r : Refusal) → Other r → NotTwenty r
other-not-twenty r o e = subst Other e o

six-not-twenty : NotTwenty InvalidModelState
six-not-twenty e = let z : ◌≡◌ {A = ℕ} 0 1 = cc in omega arith

batcher-not-twenty : (b : Batcher) (job : ℕ) (s : BatcherState) → Ends NotTwenty (λ _. Unit {0}) (batcher_external b job s)
unfolding batcher_external
batcher-not-twenty b job s =
    ends-bind {Q = λ _. Unit {0}} _ (ends-if (ltb (length s.jobs + 1) b.max_batch_size) (λ _. join s.phase) (λ _. goes tt))
    (λ pt _. ends-bind _ (keep-more NotTwenty other-not-twenty job s.jobs) (λ q k. goes tt))
  where
    join : (phase : BatcherPhase) → Ends NotTwenty (λ _. Unit {0}) (joining phase b s)
    join batching.Passive = goes tt
    join batching.Batching = goes tt
    join batching.Release = stops six-not-twenty

pub any-closed : (t : Table) → Closed t NotTwenty (λ _. Unit {0})
any-closed t = record {
  other = other-not-twenty;
  six = λ i p e c. six-not-twenty;
  put_other = λ i s place w n k. tt;
  came-other = λ clock i port content fate w c n k. tt;
  went-other = λ clock i out w c n k. tt;
  took = λ clock i port content b s w c e q g k. batcher-not-twenty b content s;
  gave = λ clock i b s w c e q g k. tt;
  aged = λ a w g u l k. tt;
}

valid-carried : Carried NotTwenty (λ sim log. Valid sim)
valid-carried = record {
  other = other-not-twenty;
  valid = λ sim log v. v;
  change = λ sim next log e f g v p. v;
  forward = λ services sim log short v. ends-map (step-ends NotTwenty (λ _. Unit {0}) services sim short (any-closed sim.table) v tt) (λ r b. b) (λ r h. h.0);
}

-- a run leaves a valid simulation, and does not end by 20
pub record RanWell (r : Ran) : Type 0 where
  pub sim : T (is_valid r.sim)
  pub end : EndsWell NotTwenty r.end

ran-well : (r : Ran) → Valid r.sim × EndsWell NotTwenty r.end → RanWell r
ran-well r h = record { sim = is-valid r.sim h.0; end = h.1 }

pub step_n-valid : (services : List Float) (room count : ℕ) (sim : Simulation) → T (is_word (length services)) → T (is_valid sim) → RanWell (step_n services room count sim)
step_n-valid services room count sim short v = ran-well (step_n services room count sim) (step_n-keeps NotTwenty (λ sim log. Valid sim) valid-carried services short room count sim [] (valid-of sim v))

pub step-valid : (services : List Float) (room : ℕ) (sim : Simulation) → T (is_word (length services)) → T (is_valid sim) → RanWell (step services room sim)
unfolding step
step-valid services room sim short v = step_n-valid services room 1 sim short v

pub step_until-valid : (services : List Float) (until : Float) (room allowance : ℕ) (sim : Simulation) → T (is_word (length services)) → T (is_valid sim) → RanWell (step_until services until room allowance sim)
step_until-valid services until room allowance sim short v =
    ran-well (step_until services until room allowance sim) (step_until-keeps NotTwenty (λ sim log. Valid sim) valid-carried services short until room allowance sim [] (valid-of sim v))

-- an answer is a valid simulation, or a refusal that is not 20
abbrev pub AnswersWell : Outcome Simulation → Type 0
AnswersWell o = Ends NotTwenty (λ next. T (is_valid next)) o

answers-well : {o : Outcome Simulation} → Ends NotTwenty Valid o → AnswersWell o
answers-well h = ends-map h (λ r b. b) is-valid

pub inject-valid : (m : Message) (sim : Simulation) → CallFits (InjectInput m) → T (is_valid sim) → AnswersWell (inject_input m sim)
inject-valid m sim f v = answers-well (inject-keeps NotTwenty (λ sim log. Valid sim) valid-carried m sim [] f (valid-of sim v))

pub reset_messages-valid : (sim : Simulation) → T (is_valid sim) → AnswersWell (reset_messages sim)
reset_messages-valid sim v = answers-well (reset_messages-keeps NotTwenty (λ sim log. Valid sim) valid-carried sim [] (valid-of sim v))

pub reset_global_time-valid : (sim : Simulation) → T (is_valid sim) → AnswersWell (reset_global_time sim)
reset_global_time-valid sim v = answers-well (reset_global_time-keeps NotTwenty (λ sim log. Valid sim) valid-carried sim [] (valid-of sim v))

pub reset-valid : (sim : Simulation) → T (is_valid sim) → AnswersWell (reset sim)
reset-valid sim v = answers-well (reset-keeps NotTwenty (λ sim log. Valid sim) valid-carried sim [] (valid-of sim v))

-- any call, and any list of calls
pub called-valid : (c : Call) (sim : Simulation) → CallFits c → T (is_valid sim) → RanWell (called c sim)
called-valid c sim f v = ran-well (called c sim) (called-keeps NotTwenty (λ sim log. Valid sim) valid-carried c sim [] f (valid-of sim v))

pub calls-valid : (cs : List Call) (sim : Simulation) → All CallFits cs → T (is_valid sim) → T (is_valid (calls cs sim).0)
calls-valid cs sim f v = is-valid (calls cs sim).0 (calls-keeps NotTwenty (λ sim log. Valid sim) valid-carried cs sim [] f (valid-of sim v))

-- post and put: the table of a valid simulation passes intake
posted : (p : Posted) → Ends NotTwenty (λ t. T (passes_intake t)) (taken_in (intake p))
posted p = intake-ends p (other-not-twenty TooLarge tt) (other-not-twenty BadRow tt) (other-not-twenty BadCoupling tt)

pub post-valid : (p : Posted) → AnswersWell (post p)
unfolding post
post-valid p = answers-well (ends-bind _ (posted p) (λ t f. goes (begun-valid t f)))

empty-passes : T (passes_intake empty_table)
unfolding passes_intake intake
empty-passes = tt

-- "A refused `post` hands back the simulation of the empty table", which is valid too
pub handed_back-valid : (p : Posted) → T (is_valid (handed_back (post p)))
handed_back-valid p = go (post-valid p)
  where
    go : {o : Outcome Simulation} → AnswersWell o → T (is_valid (handed_back o))
    go (stops b) = is-valid (begun empty_table) (begun-valid empty_table empty-passes)
    go (goes h) = h

pub put-valid : (p : Posted) (sim : Simulation) → T (is_valid sim) → AnswersWell (put p sim)
unfolding put
put-valid p sim h =
    let v = valid-of sim h in
    guarded-ends sim h
    (answers-well (ends-bind _ (posted p) (λ t f. goes (record { table = f; fitted = fresh-fitted t; few = v.few; active = v.active; clock = v.clock; place = v.place }))))

-- messages, clock and status
pub get_messages-valid : (room : ℕ) (sim : Simulation) → T (is_valid sim) → Ends NotTwenty (λ _. Unit {0}) (get_messages room sim)
unfolding get_messages
get_messages-valid room sim h = guarded-ends sim h (ends-map (ends-most room NoOutRoom sim.active (other-not-twenty NoOutRoom tt)) (λ r b. b) (λ _ _. tt))

pub get_global_time-valid : (sim : Simulation) → T (is_valid sim) → Ends NotTwenty (λ _. Unit {0}) (get_global_time sim)
unfolding get_global_time
get_global_time-valid sim h = guarded-ends sim h (goes tt)

pub get_status-valid : (id : ℕ) (sim : Simulation) → T (is_valid sim) → Ends NotTwenty (λ _. Unit {0}) (get_status id sim)
unfolding get_status
get_status-valid id sim h = guarded-ends sim h (go (those (λ i. eqb (id_at sim.table i) id) (parentless sim.table)))
  where
    go : (is : List ℕ) → Ends NotTwenty (λ _. Unit {0}) (status_of_first sim.states is)
    go [] = stops (other-not-twenty ModelNotFound tt)
    go (i ∷ is) = goes tt
