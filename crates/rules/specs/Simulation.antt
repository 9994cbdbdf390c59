-- What a simulation is made of: the models' states, the active messages, the clock, the place in the service list. Definitions only. Assumes nothing.
use Rattle.std.specs.Prelude.{ℕ, List, [], map, get_or, Float, Option}
use Rattle.times.specs.Time.{instant, never}
use Rattle.rules.specs.declared.ProcessorPhase.{ProcessorPhase}
use Rattle.rules.specs.declared.ProcessorPhase.TheVariants as working
use Rattle.rules.specs.declared.BatcherPhase.{BatcherPhase}
use Rattle.rules.specs.declared.BatcherPhase.TheVariants as batching
use Rattle.rules.specs.declared.StopwatchPhase.{StopwatchPhase}
use Rattle.rules.specs.declared.StopwatchPhase.TheVariants as watching
use Rattle.rules.specs.declared.Message.{Message}
use Rattle.rules.specs.Table.{Kind, processor, batcher, stopwatch, coupled, Row, Table}

-- ---- "Each has a timer, kept as an f64 beside its phase"
pub record ProcessorState : Type 0 where
  pub phase : ProcessorPhase
  pub timer : Float
  pub queue : List ℕ

pub record BatcherState : Type 0 where
  pub phase : BatcherPhase
  pub timer : Float
  pub jobs : List ℕ

-- a stopwatch's job: its name, and the clock at its start and at its stop
pub record Marks : Type 0 where
  pub name : ℕ
  pub start : Option Float
  pub stop : Option Float

pub record StopwatchState : Type 0 where
  pub phase : StopwatchPhase
  pub timer : Float
  pub jobs : List Marks

-- a message parked in a Coupled for a component
pub record Parked : Type 0 where
  pub component : ℕ
  pub port : ℕ
  pub content : ℕ

pub data State : Type 0 where
  of_processor : ProcessorState → State
  of_batcher : BatcherState → State
  of_stopwatch : StopwatchState → State
  of_coupled : List Parked → State

-- "infinite at first, phase Passive, nothing held"
abbrev pub fresh_processor : ProcessorState
fresh_processor = record { phase = working.Passive; timer = never; queue = [] }

abbrev pub fresh_batcher : BatcherState
fresh_batcher = record { phase = batching.Passive; timer = never; jobs = [] }

abbrev pub fresh_stopwatch : StopwatchState
fresh_stopwatch = record { phase = watching.Passive; timer = never; jobs = [] }

abbrev pub fresh : Kind → State
fresh (processor p) = of_processor fresh_processor
fresh (batcher b) = of_batcher fresh_batcher
fresh (stopwatch w) = of_stopwatch fresh_stopwatch
fresh coupled = of_coupled []

abbrev pub fresh_all : Table → List State
fresh_all t = map (λ (r : Row). fresh r.kind) t.rows

-- ---- the states stand beside the table's rows; `place` is the place in the service list
pub record Simulation : Type 0 where
  pub table : Table
  pub states : List State
  pub active : List Message
  pub clock : Float
  pub place : ℕ

-- what a new simulation of a table is
abbrev pub begun : Table → Simulation
begun t = record { table = t; states = fresh_all t; active = []; clock = instant; place = 0 }

abbrev pub empty_table : Table
empty_table = record { rows = []; connectors = []; couplings = [] }

-- ---- looking up a row's state. Each row has the state of its kind (Valid.antt): a fresh state stands for one that has not.
abbrev pub state_at : List State → ℕ → State
state_at states i = get_or states i (of_coupled [])

abbrev pub as_processor : State → ProcessorState
as_processor (of_processor s) = s
as_processor (of_batcher s) = fresh_processor
as_processor (of_stopwatch s) = fresh_processor
as_processor (of_coupled s) = fresh_processor

abbrev pub as_batcher : State → BatcherState
as_batcher (of_processor s) = fresh_batcher
as_batcher (of_batcher s) = s
as_batcher (of_stopwatch s) = fresh_batcher
as_batcher (of_coupled s) = fresh_batcher

abbrev pub as_stopwatch : State → StopwatchState
as_stopwatch (of_processor s) = fresh_stopwatch
as_stopwatch (of_batcher s) = fresh_stopwatch
as_stopwatch (of_stopwatch s) = s
as_stopwatch (of_coupled s) = fresh_stopwatch

abbrev pub as_coupled : State → List Parked
as_coupled (of_processor s) = []
as_coupled (of_batcher s) = []
as_coupled (of_stopwatch s) = []
as_coupled (of_coupled parked) = parked
