-- Runs cut in two, computed: the first part, the second, both joined, and one call for both. Among them the smallest inputs at which a sentence that one might expect of `step_until` is false. Assumes nothing.
use Rattle.std.specs.Prelude.{ℕ, ◌+◌, ◌≡◌, refl, List, [], ◌∷◌, Float}
use Rattle.std.specs.Float.{binary64}
use Rattle.std.specs.Float.Ieee.{add, sub, lt, le, eq, fits, of_bits, to_bits}
use Rattle.times.specs.Time.{instant, is_time, is_timer, least_of}
use Rattle.rules.specs.declared.Refusal.TheVariants.{BadTime, Idle, NoOutRoom, BadState}
use Rattle.rules.specs.declared.Message.{Message}
use Rattle.rules.specs.Base.{done, ◌>>=◌}
use Rattle.rules.specs.Table.{Row, Connector}
use Rattle.rules.specs.Intake.{intake, passes_intake}
use Rattle.rules.specs.Simulation.{Simulation}
use Rattle.rules.specs.Models.{service, processor_external, processor_internal, batcher_external, batcher_internal, stopwatch_external, stopwatch_internal}
use Rattle.rules.specs.Step.{timer, external, internal, step_on}
use Rattle.rules.specs.Valid.{is_valid}
use Rattle.rules.specs.Calls.{post, inject_input, End, Done, Reached, Spent, Refused, Ran, steps, step_n, steps_until, step_until}
use Rattle.rules.specs.Examples.{five, ten, minus_zero, posted, row, a_batcher, link, message, job, start}
use Rattle.promises.specs.RunOn.{room_left, run_on_after, step_n_on, step_until_on, collected}

-- ---- what is seen of a run
pub record Part : Type 0 where
  pub end : End
  pub steps : ℕ
  pub rows : List Message

abbrev pub part : End → ℕ → List Message → Part
part end steps rows = record { end = end; steps = steps; rows = rows }

abbrev pub seen : Ran → Part
seen r = part r.end r.steps r.rows

-- first part, second, joined; and the call for both
abbrev pub all_seen : (first second both whole : Ran) → List Part
all_seen first second both whole = seen first ∷ seen second ∷ seen both ∷ seen whole ∷ []

unfoldable pub cut : (room a b : ℕ) → Simulation → List Part
cut room a b sim =
    let first = step_n [] room a sim in
    all_seen first (step_n [] (room_left room first) b first.sim) (step_n_on [] room a b sim) (step_n [] room (a + b) sim)

unfoldable pub cut_until : Float → (room a b : ℕ) → Simulation → List Part
cut_until until room a b sim =
    let first = step_until [] until room a sim in
    all_seen first (step_until [] until (room_left room first) b first.sim) (step_until_on [] until room a b sim) (step_until [] until room (a + b) sim)

-- ---- a batcher (m = 2, batch time 10) and three jobs: 11 and 12 go in the first step, 13 in the third; the fifth is refused with Idle. What goes on goes to an id that nobody has
abbrev pub one_batcher : ℕ → List Row
one_batcher m = row 1 (a_batcher m ten) ∷ []

abbrev pub away : List Connector
away = link 1 2 9 1 ∷ []

abbrev pub gone : Float → ℕ → Message
gone time content = message 1 2 9 1 time content

abbrev pub first : List Message
first = gone instant 11 ∷ gone instant 12 ∷ []

abbrev pub last : List Message
last = gone ten 13 ∷ []

abbrev pub all : List Message
all = gone instant 11 ∷ gone instant 12 ∷ gone ten 13 ∷ []

abbrev pub three_jobs : List Message
three_jobs = job 1 1 11 ∷ job 1 1 12 ∷ job 1 1 13 ∷ []

-- run until `early`, then until `later`, as it is and with the messages of the pause collected; and the run until `later` with an allowance of `whole`
unfoldable pub paused : (early later : Float) (room a b whole : ℕ) → Simulation → List Part
paused early later room a b whole sim =
    let r = step_until [] early room a sim in
    let on : ℕ → Simulation → Ran = λ left next. step_until [] later left b next in
    all_seen r (run_on_after r room on) (run_on_after (collected r) room on) (step_until [] later room whole sim)

-- ---- a case: a table is posted, messages are injected, all of which must be accepted; then the run is cut, and this is seen
pub record Case : Type 0 where
  pub rows : List Row
  pub messages : List Message
  pub run : Simulation → List Part
  pub then : List Part

abbrev pub Holds : Case → Type 0
Holds c = (start (posted c.rows away []) c.messages >>= λ sim. done (c.run sim)) ≡ done c.then

abbrev pub AllHold : List Case → Type 0
AllHold [] = Unit {0}
AllHold (c ∷ cs) = Holds c × AllHold cs

abbrev pub of_three : (Simulation → List Part) → List Part → Case
of_three run then = record { rows = one_batcher 2; messages = three_jobs; run = run; then = then }

-- the empty table, with so many messages to nobody
abbrev pub of_none : List Message → (Simulation → List Part) → List Part → Case
of_none messages run then = record { rows = []; messages = messages; run = run; then = then }

-- one job, which goes in the first step
abbrev pub of_one : (Simulation → List Part) → List Part → Case
of_one run then = record { rows = one_batcher 1; messages = job 1 1 11 ∷ []; run = run; then = then }

abbrev pub only_eleven : List Message
only_eleven = gone instant 11 ∷ []

abbrev pub twenty : Float
twenty = of_bits binary64 0x4034_0000_0000_0000

abbrev pub cases : List Case
cases =
    -- `step_n`
    of_three (cut 256 2 2) (part Done 2 first ∷ part Done 2 last ∷ part Done 4 all ∷ part Done 4 all ∷ [])
    ∷ of_three (cut 256 0 3) (part Done 0 [] ∷ part Done 3 all ∷ part Done 3 all ∷ part Done 3 all ∷ [])
    ∷ of_none [] (cut 0 0 0) (part Done 0 [] ∷ part Done 0 [] ∷ part Done 0 [] ∷ part Done 0 [] ∷ [])
    -- "a second part of at least one step is then refused at once with the same number and 0 steps"
    ∷ of_three (cut 256 6 1) (part (Refused Idle) 4 all ∷ part (Refused Idle) 0 [] ∷ part (Refused Idle) 4 all ∷ part (Refused Idle) 4 all ∷ [])
    -- "a second part of no steps answers done, and the answer for the whole is the first part's refusal"
    ∷ of_three (cut 256 6 0) (part (Refused Idle) 4 all ∷ part Done 0 [] ∷ part (Refused Idle) 4 all ∷ part (Refused Idle) 4 all ∷ [])
    -- room for two rows: 13 in the first part, and again in the second; or in the second alone
    ∷ of_three (cut 2 3 1) (part (Refused NoOutRoom) 2 first ∷ part (Refused NoOutRoom) 0 [] ∷ part (Refused NoOutRoom) 2 first ∷ part (Refused NoOutRoom) 2 first ∷ [])
    ∷ of_three (cut 2 1 2) (part Done 1 first ∷ part (Refused NoOutRoom) 1 [] ∷ part (Refused NoOutRoom) 2 first ∷ part (Refused NoOutRoom) 2 first ∷ [])
    -- `step_until`: an allowance cut in two
    ∷ of_three (cut_until ten 256 1 1) (part Spent 1 first ∷ part Spent 1 [] ∷ part Spent 2 first ∷ part Spent 2 first ∷ [])
    ∷ of_three (cut_until ten 256 1 5) (part Spent 1 first ∷ part Reached 2 [] ∷ part Reached 3 first ∷ part Reached 3 first ∷ [])
    -- not after Reached: a second part steps on, or answers Spent. The smallest inputs: one message to nobody, `until` 0
    ∷ of_none (job 1 1 11 ∷ []) (cut_until instant 0 1 1) (part Reached 1 [] ∷ part (Refused Idle) 0 [] ∷ part (Refused Idle) 1 [] ∷ part Reached 1 [] ∷ [])
    ∷ of_none (job 1 1 11 ∷ []) (cut_until instant 0 1 0) (part Reached 1 [] ∷ part Spent 0 [] ∷ part Spent 1 [] ∷ part Reached 1 [] ∷ [])
    -- after a refused first part an allowance of 0 answers Spent, and not Done; but a bad `until` is 10 again
    ∷ of_none [] (cut_until instant 0 1 0) (part (Refused Idle) 0 [] ∷ part Spent 0 [] ∷ part (Refused Idle) 0 [] ∷ part (Refused Idle) 0 [] ∷ [])
    ∷ of_none [] (cut_until minus_zero 0 0 0) (part (Refused BadTime) 0 [] ∷ part (Refused BadTime) 0 [] ∷ part (Refused BadTime) 0 [] ∷ part (Refused BadTime) 0 [] ∷ [])
    -- a pause at an earlier clock: with its messages collected it is the whole
    ∷ of_three (paused ten twenty 256 3 1 4) (part Reached 3 first ∷ part Spent 4 first ∷ part Spent 4 all ∷ part Spent 4 all ∷ [])
    -- if nobody collects them, the rows of the step that reaches it are lost
    ∷ of_one (paused instant ten 256 1 1 2) (part Reached 1 [] ∷ part Spent 2 [] ∷ part Spent 2 only_eleven ∷ part Spent 2 only_eleven ∷ [])
    -- where they do not fit, the pause completes a step that the whole, which must collect it, refuses with 13
    ∷ of_one (paused instant ten 0 1 0 1) (part Reached 1 [] ∷ part Spent 1 [] ∷ part Spent 1 only_eleven ∷ part (Refused NoOutRoom) 0 [] ∷ [])
    -- the whole's allowance is the steps made before the pause and what is allowed after it, and not both allowances
    ∷ of_none (job 1 1 11 ∷ []) (paused instant ten 0 2 0 2) (part Reached 1 [] ∷ part Spent 1 [] ∷ part Spent 1 [] ∷ part (Refused Idle) 1 [] ∷ [])
    -- a step that reaches both clocks is the last of the whole, which does not collect it either
    ∷ of_three (paused five ten 256 3 0 3) (part Reached 3 first ∷ part Spent 3 first ∷ part Spent 3 all ∷ part Reached 3 first ∷ [])
    ∷ []

pub all_hold : AllHold cases
unfolding cut cut_until paused start post inject_input is_valid passes_intake intake step_n steps step_until steps_until step_on service processor_external processor_internal batcher_external batcher_internal stopwatch_external stopwatch_internal timer external internal is_time is_timer least_of add sub lt le eq fits of_bits to_bits
all_hold = (refl, (refl, (refl, (refl, (refl, (refl, (refl, (refl, (refl, (refl, (refl, (refl, (refl, (refl, (refl, (refl, (refl, (refl, tt))))))))))))))))))

-- 20 comes first in both parts: a simulation that lacks a row's state
abbrev pub lacking : Simulation
lacking = record { table = record { rows = one_batcher 2; connectors = []; couplings = [] }; states = []; active = []; clock = instant; place = 0 }

pub twenty-twice : cut 0 1 0 lacking ≡ part (Refused BadState) 0 [] ∷ part (Refused BadState) 0 [] ∷ part (Refused BadState) 0 [] ∷ part (Refused BadState) 0 [] ∷ []
unfolding cut is_valid passes_intake intake step_n is_time is_timer least_of add sub lt le eq fits of_bits to_bits
twenty-twice = refl
