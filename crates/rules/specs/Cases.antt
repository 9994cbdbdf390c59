-- "The bench's own cases" of 01: one table of cases under one statement, computed over the rules. Then the bench's run. Assumes nothing.
use Rattle.std.specs.Prelude.{ℕ, ◌≡◌, refl, List, [], ◌∷◌, ◌++◌, Float, Some}
use Rattle.std.specs.Float.Ieee.{add, sub, lt, le, eq, fits, of_bits, to_bits}
use Rattle.times.specs.Time.{instant, never, is_time, is_timer, least_of}
use Rattle.rules.specs.declared.Refusal.TheVariants.{InvalidModelState, Idle}
use Rattle.rules.specs.declared.Metric.TheVariants.{Minimum}
use Rattle.rules.specs.declared.Message.{Message}
use Rattle.rules.specs.Base.{Outcome, done, ◌>>=◌}
use Rattle.rules.specs.Table.{coupled, Row, Connector, Coupling, external_input, internal_coupling, Table}
use Rattle.rules.specs.Intake.{intake, passes_intake}
use Rattle.rules.specs.Simulation.{State, of_coupled, Marks, Simulation}
use Rattle.rules.specs.Models.{service, processor_external, processor_internal, batcher_external, batcher_internal, stopwatch_external, stopwatch_internal}
use Rattle.rules.specs.Step.{timer, external, internal, step_on}
use Rattle.rules.specs.Valid.{is_valid}
use Rattle.rules.specs.Calls.{post, inject_input, End, Done, Reached, Refused, Ran, steps, step_n, step, steps_until, step_until}
use Rattle.rules.specs.Examples.{four, five, six, ten, posted, row, within, a_batcher, a_processor, a_stopwatch, link, active, passive, batch, release, no_batch, watch, parked_at, message, job, start, listing}

-- ---- a case: a table is posted, messages are injected, so many steps are made, and all of this is then seen, with the table as it was
pub record Seen : Type 0 where
  pub end : End
  pub steps : ℕ
  pub rows : List Message
  pub states : List State
  pub clock : Float
  pub place : ℕ
  pub active : List Message

pub record Case : Type 0 where
  pub table : Table
  pub messages : List Message
  pub services : List Float
  pub count : ℕ
  pub then : Seen

abbrev pub seen : Ran → Table × Seen
seen r = (
  r.sim.table,
  record { end = r.end; steps = r.steps; rows = r.rows; states = r.sim.states; clock = r.sim.clock; place = r.sim.place; active = r.sim.active },
)

-- `post` and each injection must be accepted: a refusal of theirs would be the outcome
unfoldable pub outcome : Case → Outcome (Table × Seen)
outcome c = start (posted c.table.rows c.table.connectors c.table.couplings) c.messages >>= λ sim. done (seen (step_n c.services 256 c.count sim))

abbrev pub Holds : Case → Type 0
Holds c = ◌≡◌ {A = Outcome (Table × Seen)} (outcome c) (done (c.table, c.then))

abbrev pub AllHold : List Case → Type 0
AllHold [] = Unit {0}
AllHold (c ∷ cs) = Holds c × AllHold cs

-- ---- tables, messages and service times. Outputs go on to an id that nobody has.
abbrev table_of : List Row → List Connector → List Coupling → Table
table_of rows connectors couplings = record { rows = rows; connectors = connectors; couplings = couplings }

abbrev pub one_batcher : Table
one_batcher = table_of (row 1 (a_batcher 2 ten) ∷ []) (link 1 2 9 1 ∷ []) []

abbrev pub one_processor : ℕ → Table
one_processor capacity = table_of (row 1 (a_processor capacity) ∷ []) (link 1 2 9 1 ∷ []) []

-- a Coupled with a batcher (m = 1) that feeds an idle processor
abbrev pub chain : Table
chain =
    table_of (row 1 coupled ∷ within 1 2 (a_batcher 1 ten) ∷ within 1 3 (a_processor 8) ∷ []) []
    (external_input 1 1 2 1 ∷ internal_coupling 1 2 2 3 1 ∷ [])

abbrev pub one_stopwatch : Table
one_stopwatch = table_of (row 1 (a_stopwatch Minimum) ∷ []) (link 1 4 9 1 ∷ []) []

abbrev pub three_jobs : List Message
three_jobs = job 1 1 11 ∷ job 1 1 12 ∷ job 1 1 13 ∷ []

abbrev pub four_jobs : List Message
four_jobs = three_jobs ++ job 1 1 14 ∷ []

-- 21 is made before 22 and stopped after it; then the metric is asked for
abbrev pub equals : List Message
equals = job 1 1 21 ∷ job 1 1 22 ∷ job 1 2 22 ∷ job 1 2 21 ∷ job 1 3 0 ∷ []

abbrev pub at_zero : ℕ → Marks
at_zero name = record { name = name; start = Some instant; stop = Some instant }

abbrev pub four_five_six : List Float
four_five_six = four ∷ five ∷ six ∷ []

-- a message that id 1 put out at a port
abbrev pub gone : ℕ → Float → ℕ → Message
gone port time content = message 1 port 9 1 time content

-- ---- the table of cases
-- C1 m = 2; jobs 11, 12, 13 at once: 11 and 12 go, 13 held, Batching.
abbrev pub c1 : Case
c1 = record {
  table = one_batcher;
  messages = three_jobs;
  services = [];
  count = 1;
  then = record {
    end = Done;
    steps = 1;
    rows = gone 2 instant 11 ∷ gone 2 instant 12 ∷ [];
    states = batch (13 ∷ []) ten ∷ [];
    clock = instant;
    place = 0;
    active = gone 2 instant 11 ∷ gone 2 instant 12 ∷ [];
  };
}

-- C3 m = 2, four jobs: two go, Release, timer 0; next event two, Passive.
abbrev pub c3 : Case
c3 = record {
  table = one_batcher;
  messages = four_jobs;
  services = [];
  count = 1;
  then = record {
    end = Done;
    steps = 1;
    rows = gone 2 instant 11 ∷ gone 2 instant 12 ∷ [];
    states = release (13 ∷ 14 ∷ []) ∷ [];
    clock = instant;
    place = 0;
    active = gone 2 instant 11 ∷ gone 2 instant 12 ∷ [];
  };
}

abbrev pub c3_next : Case
c3_next = record {
  table = one_batcher;
  messages = four_jobs;
  services = [];
  count = 2;
  then = record {
    end = Done;
    steps = 2;
    rows = gone 2 instant 11 ∷ gone 2 instant 12 ∷ gone 2 instant 13 ∷ gone 2 instant 14 ∷ [];
    states = no_batch ∷ [];
    clock = instant;
    place = 0;
    active = gone 2 instant 13 ∷ gone 2 instant 14 ∷ [];
  };
}

-- C5 capacity 0, first job: 6. The job stays active: the refused step changes nothing.
abbrev pub c5 : Case
c5 = record {
  table = one_processor 0;
  messages = job 1 1 11 ∷ [];
  services = four_five_six;
  count = 1;
  then = record { end = Refused InvalidModelState; steps = 0; rows = []; states = passive [] never ∷ []; clock = instant; place = 0; active = job 1 1 11 ∷ [] };
}

-- C6 capacity 1, one held, another comes: dropped, state the same. A drop takes no service time: the place is 1 with it and without it.
abbrev pub c6_held : Case
c6_held = record {
  table = one_processor 1;
  messages = job 1 1 11 ∷ [];
  services = four_five_six;
  count = 1;
  then = record { end = Done; steps = 1; rows = []; states = active (11 ∷ []) four ∷ []; clock = instant; place = 1; active = [] };
}

abbrev pub c6 : Case
c6 = record { table = one_processor 1; messages = job 1 1 11 ∷ job 1 1 12 ∷ []; services = four_five_six; count = 1; then = c6_held.then }

-- C8 processor releases its only job: timer 0; the next event makes it infinite.
abbrev pub c8 : Case
c8 = record {
  table = one_processor 8;
  messages = job 1 1 11 ∷ [];
  services = four_five_six;
  count = 2;
  then = record { end = Done; steps = 2; rows = gone 2 four 11 ∷ []; states = passive [] instant ∷ []; clock = four; place = 1; active = gone 2 four 11 ∷ [] };
}

abbrev pub c8_next : Case
c8_next = record {
  table = one_processor 8;
  messages = job 1 1 11 ∷ [];
  services = four_five_six;
  count = 3;
  then = record { end = Done; steps = 3; rows = gone 2 four 11 ∷ []; states = passive [] never ∷ []; clock = four; place = 1; active = [] };
}

-- C9 empty table, no message: 12, clock 0. `post` accepts it.
abbrev pub c9 : Case
c9 = record {
  table = table_of [] [] [];
  messages = [];
  services = [];
  count = 1;
  then = record { end = Refused Idle; steps = 0; rows = []; states = []; clock = instant; place = 0; active = [] };
}

-- C11 Coupled with batcher (m = 1) feeding an idle processor, one job: it is parked, and (as 02's A3 amends it) the second step hands the job over: the processor starts it.
abbrev pub c11_parked : Case
c11_parked = record {
  table = chain;
  messages = job 1 1 11 ∷ [];
  services = four_five_six;
  count = 1;
  then = record {
    end = Done;
    steps = 1;
    rows = [];
    states = of_coupled (parked_at 3 1 11 ∷ []) ∷ no_batch ∷ passive [] never ∷ [];
    clock = instant;
    place = 0;
    active = [];
  };
}

abbrev pub c11 : Case
c11 = record {
  table = chain;
  messages = job 1 1 11 ∷ [];
  services = four_five_six;
  count = 2;
  then = record {
    end = Done;
    steps = 2;
    rows = [];
    states = of_coupled [] ∷ no_batch ∷ active (11 ∷ []) four ∷ [];
    clock = instant;
    place = 1;
    active = [];
  };
}

-- C12 two equal durations: the first made is named.
abbrev pub c12 : Case
c12 = record {
  table = one_stopwatch;
  messages = equals;
  services = [];
  count = 1;
  then = record {
    end = Done;
    steps = 1;
    rows = gone 4 instant 21 ∷ [];
    states = watch (at_zero 21 ∷ at_zero 22 ∷ []) ∷ [];
    clock = instant;
    place = 0;
    active = gone 4 instant 21 ∷ [];
  };
}

-- "Proved, as one table under a single statement"
pub cases : AllHold (c1 ∷ c3 ∷ c3_next ∷ c5 ∷ c6_held ∷ c6 ∷ c8 ∷ c8_next ∷ c9 ∷ c11_parked ∷ c11 ∷ c12 ∷ [])
unfolding is_time is_timer least_of add sub lt le eq fits of_bits to_bits service processor_external processor_internal batcher_external batcher_internal stopwatch_external stopwatch_internal timer external internal step_on intake passes_intake is_valid post inject_input steps step_n start outcome
cases = (refl, (refl, (refl, (refl, (refl, (refl, (refl, (refl, (refl, (refl, (refl, (refl, tt))))))))))))

-- ---- "Run and compared whole: id 1 a batcher (m = 2, batch time 10), id 2 a processor (capacity 8), ports in 1 and out 2, one connector 1:2 to 2:1, service times 4, 5, 6, jobs 11, 12, 13 injected at 1:1"
abbrev pub line : Table
line = table_of (row 1 (a_batcher 2 ten) ∷ row 2 (a_processor 8) ∷ []) (link 1 2 2 1 ∷ []) []

abbrev pub started : Outcome Simulation
started = start (posted line.rows line.connectors line.couplings) three_jobs

unfoldable pub ten_steps : Outcome (List (ℕ × ℕ) × End)
ten_steps = started >>= λ sim. done (listing four_five_six 10 sim)

unfoldable pub until_ten : Outcome (Table × Seen)
until_ten = started >>= λ sim. done (seen (step_until four_five_six ten 256 20 sim))

-- a message on the connector
abbrev pub sent : Float → ℕ → Message
sent time content = message 1 2 2 1 time content

pub record Bench : Type 0 where
  pub ten-steps : ◌≡◌ {A = Outcome (List (ℕ × ℕ) × End)} ten_steps (done (
    (0, 2) ∷ (0, 0) ∷ (0x4010_0000_0000_0000, 0) ∷ (0x4010_0000_0000_0000, 0) ∷ (0x4022_0000_0000_0000, 0) ∷ (0x4022_0000_0000_0000, 0)
        ∷ (0x4024_0000_0000_0000, 1) ∷ (0x4024_0000_0000_0000, 0) ∷ (0x4030_0000_0000_0000, 0) ∷ (0x4030_0000_0000_0000, 0) ∷ [],
    Refused Idle,
  ))
  -- "From the same start `step_until` 10 completes 7 steps and collects 2 rows."
  pub until-ten : ◌≡◌ {A = Outcome (Table × Seen)} until_ten (done (
    line,
    record {
      end = Reached;
      steps = 7;
      rows = sent instant 11 ∷ sent instant 12 ∷ [];
      states = no_batch ∷ passive [] never ∷ [];
      clock = ten;
      place = 2;
      active = sent ten 13 ∷ [];
    },
  ))

pub bench : Bench
unfolding is_time is_timer least_of add sub lt le eq fits of_bits to_bits service processor_external processor_internal batcher_external batcher_internal stopwatch_external stopwatch_internal timer external internal step_on intake passes_intake is_valid post inject_input steps step_n step steps_until step_until start listing ten_steps until_ten
bench = record { ten-steps = refl; until-ten = refl }
