-- Events of models, Coupleds among them, and the step ("Coupled (001)" and "The step (000)" of 01). Definitions only. Assumes nothing.
use Rattle.std.specs.Prelude.{ℕ, zero, suc, Bool, List, [], ◌∷◌, ◌++◌, map, set, eqb, Float, if◌then◌else◌}
use Rattle.std.specs.Float.{binary64}
use Rattle.std.specs.Float.Ieee.{add, sub, eq}
use Rattle.times.specs.Time.{instant, never, is_never, is_time, least_of}
use Rattle.rules.specs.declared.Refusal.TheVariants.{NoMessageRoom, ClockOverflow, Idle, BadState}
use Rattle.rules.specs.declared.Message.{Message}
use Rattle.rules.specs.Sizes.{most_active, most_parked, most_out, deepest}
use Rattle.rules.specs.Base.{Outcome, refused, done, ◌>>=◌, each, those, at_most}
use Rattle.rules.specs.Table.{Kind, processor, batcher, stopwatch, coupled, Table, Target, Connector, id_at, kind_at, parentless, components, connected, inputs, outputs, internals}
use Rattle.rules.specs.Simulation.{Parked, State, of_processor, of_batcher, of_stopwatch, of_coupled, Simulation, state_at, as_processor, as_batcher, as_stopwatch, as_coupled}
use Rattle.rules.specs.Models.{Fate, Kept, Passed, processor_external, processor_internal, batcher_external, batcher_internal, stopwatch_external, stopwatch_internal}

-- what a model puts out: a content at a port
pub record Out : Type 0 where
  pub port : ℕ
  pub content : ℕ

abbrev pub out_at : ℕ → ℕ → Out
out_at port content = record { port = port; content = content }

-- ---- the log: what happened, in order, with the clock at which it did. An external event at a row and what became of it, an internal event at a row and what it put out, an advance of every timer. No rule reads it.
pub data Happening : Type 0 where
  came : (clock : Float) (row port content : ℕ) → Fate → Happening
  went : (clock : Float) (row : ℕ) → List Out → Happening
  waited : (advance : Float) → Happening

-- ---- what the events of a step work on
pub record World : Type 0 where
  pub states : List State
  pub place : ℕ
  pub log : List Happening

abbrev pub noted : Happening → World → World
noted h w = record { states = w.states; place = w.place; log = w.log ++ h ∷ [] }

-- the row i gets the state s
abbrev pub becomes : ℕ → State → World → World
becomes i s w = record { states = set w.states i s; place = w.place; log = w.log }

abbrev pub moved : ℕ → World → World
moved place w = record { states = w.states; place = place; log = w.log }

-- ---- timers
abbrev pub least : List Float → Float
least [] = never
least (x ∷ xs) = least_of x (least xs)

-- an atom's timer is its own; a Coupled's is 0 while a message is parked in it, else that of what is inside
abbrev pub timer_in : State → Float → Float
timer_in (of_processor s) inside = s.timer
timer_in (of_batcher s) inside = s.timer
timer_in (of_stopwatch s) inside = s.timer
timer_in (of_coupled []) inside = inside
timer_in (of_coupled (m ∷ parked)) inside = instant

-- the levels of events: those of the Coupleds, and one for what stands inside the deepest. Below them is nothing (Depth.antt).
abbrev pub levels : ℕ
levels = suc deepest

-- Coupled: "Timer: least of its components', infinite with none.", as 02's A3 amends it: "a Coupled with any parked message has timer 0."
unfoldable pub timer : Table → ℕ → List State → ℕ → Float
timer t zero states i = never
timer t (suc depth) states i = timer_in (state_at states i) (least (map (timer t depth states) (components t (id_at t i))))

-- "timer 0", "whose timer equals 0"
abbrev pub due : Table → ℕ → List State → ℕ → Bool
due t depth states i = eq (timer t depth states i) instant

-- ---- the events of a model, by the table and the service list
module _ (t : Table) (services : List Float) where
  abbrev pub External : Type 0
  External = ℕ → ℕ → ℕ → World → Outcome World

  abbrev pub Internal : Type 0
  Internal = ℕ → World → Outcome (World × List Out)

  -- ---- an external event of the row i: `content` at `port`
  -- Coupled: "A message goes at once along every matching external input coupling to the component; none matching, it is ignored."
  abbrev pub to_components : External → ℕ → ℕ → ℕ → World → Outcome World
  to_components deeper i port content w =
      each (λ (to : Target). each (λ j. deeper j to.port content) (those (λ j. eqb (id_at t j) to.target) (components t (id_at t i))))
      (inputs t (id_at t i) port) w

  abbrev pub external_as : Kind → External → Float → ℕ → ℕ → ℕ → World → Outcome World
  external_as (processor p) deeper clock i port content w = do
    (next, place, fate) ← processor_external p services port content (as_processor (state_at w.states i)) w.place
    done (noted (came clock i port content fate) (becomes i (of_processor next) (moved place w)))
  external_as (batcher b) deeper clock i port content w = do
    next ← batcher_external b content (as_batcher (state_at w.states i))
    done (noted (came clock i port content Kept) (becomes i (of_batcher next) w))
  external_as (stopwatch p) deeper clock i port content w = do
    (next, fate) ← stopwatch_external p clock port content (as_stopwatch (state_at w.states i))
    done (noted (came clock i port content fate) (becomes i (of_stopwatch next) w))
  external_as coupled deeper clock i port content w = to_components deeper i port content (noted (came clock i port content Passed) w)

  unfoldable pub external : ℕ → Float → External
  external zero clock i port content w = refused BadState
  external (suc depth) clock i port content w = external_as (kind_at t i) (external depth clock) clock i port content w

  -- ---- an internal event of the row i, with what it puts out
  -- "parked messages go to their components in component order, then parked order"
  abbrev pub unpark : External → ℕ → List Parked → World → Outcome World
  unpark deeper i parked w =
      each (λ j. each (λ (m : Parked). deeper j m.port m.content) (those (λ (m : Parked). eqb m.component (id_at t j)) parked))
      (components t (id_at t i)) w

  -- "Each message out is first parked along internal couplings" (8: "the 65th parked")
  abbrev pub park : ℕ → ℕ → Out → World → Outcome World
  park i j m w = do
    parked ← at_most most_parked NoMessageRoom (as_coupled (state_at w.states i) ++ map (λ (to : Target). record { component = to.target; port = to.port; content = m.content }) (internals t (id_at t i) (id_at t j) m.port))
    done (becomes i (of_coupled parked) w)

  -- "then put out along external output couplings" (8: "the 257th .. put out")
  abbrev pub hand : ℕ → ℕ → Out → World × List Out → Outcome (World × List Out)
  hand i j m (w, out) = do
    w' ← park i j m w
    out' ← at_most most_out NoMessageRoom (out ++ map (λ port. out_at port m.content) (outputs t (id_at t i) (id_at t j) m.port))
    done (w', out')

  -- "Then each component with timer 0 has its internal event, in order."
  abbrev pub turn : ℕ → Internal → ℕ → ℕ → World × List Out → Outcome (World × List Out)
  turn depth deeper i j (w, out) =
      if due t depth w.states j
      then (do
        (w', ms) ← deeper j w
        each (hand i j) ms (w', out))
      else done (w, out)

  -- "parked messages go to their components .., and the list is emptied (those for no component are lost)"
  abbrev pub internal_as : Kind → ℕ → External → Internal → Float → ℕ → World → Outcome (World × List Out)
  internal_as (processor p) depth ext int clock i w = do
    (next, place, jobs) ← processor_internal services (as_processor (state_at w.states i)) w.place
    let out = map (out_at p.output) jobs
    done (noted (went clock i out) (becomes i (of_processor next) (moved place w)), out)
  internal_as (batcher b) depth ext int clock i w =
      let (next, jobs) = batcher_internal b (as_batcher (state_at w.states i)) in
      let out = map (out_at b.output) jobs in
      done (noted (went clock i out) (becomes i (of_batcher next) w), out)
  internal_as (stopwatch p) depth ext int clock i w =
      let (next, jobs) = stopwatch_internal p (as_stopwatch (state_at w.states i)) in
      let out = map (out_at p.output) jobs in
      done (noted (went clock i out) (becomes i (of_stopwatch next) w), out)
  internal_as coupled depth ext int clock i w = do
    w₁ ← unpark ext i (as_coupled (state_at w.states i)) w
    (w₂, out) ← each (turn depth int i) (components t (id_at t i)) (becomes i (of_coupled []) w₁, [])
    done (noted (went clock i out) w₂, out)

  unfoldable pub internal : ℕ → Float → Internal
  internal zero clock i w = refused BadState
  internal (suc depth) clock i w = internal_as (kind_at t i) depth (external depth clock) (internal depth clock) clock i w

-- ---- the step (000)
-- 1. "If messages are active: each parentless model in row order takes, in list order, those whose target is its id."
abbrev pub taken : Table → List Float → Float → List Message → World → Outcome World
taken t services clock active w =
    each (λ i. each (λ (m : Message). external t services levels clock i m.target_port m.content) (those (λ (m : Message). eqb m.target_id (id_at t i)) active)) (parentless t) w

-- 2. "The advance is 0 if messages were active, else the least timer. Infinite: refusal 12."
abbrev pub least_timer : Table → List State → Float
least_timer t states = least (map (timer t levels states) (parentless t))

abbrev pub advance : Table → List Message → List State → Outcome Float
advance t (m ∷ ms) states = done instant
advance t [] states = let a = least_timer t states in if is_never a then refused Idle else done a

-- 3. "Every model keeps the timer less the step's advance, rounded once."
abbrev pub after : Float → State → State
after a (of_processor s) = of_processor (record { phase = s.phase; timer = sub binary64 s.timer a; queue = s.queue })
after a (of_batcher s) = of_batcher (record { phase = s.phase; timer = sub binary64 s.timer a; jobs = s.jobs })
after a (of_stopwatch s) = of_stopwatch (record { phase = s.phase; timer = sub binary64 s.timer a; jobs = s.jobs })
after a (of_coupled parked) = of_coupled parked

abbrev pub all_after : Float → World → World
all_after a w = noted (waited a) (record { states = map (after a) w.states; place = w.place; log = w.log })

-- "The clock gains the advance, rounded once; refusal 11 is decided here." (11: "the new clock is no time")
abbrev pub later : Float → Float → Outcome Float
later clock a = if is_time (add binary64 clock a) then done (add binary64 clock a) else refused ClockOverflow

-- 4. "Each outgoing message goes along every connector, in order, that matches source id and port, stamped with the new clock." (8: "the 257th active")
abbrev pub along : Table → Float → ℕ → Out → Connector → Message
along t clock i m c =
    record { source_id = id_at t i; source_port = m.port; target_id = c.target; target_port = c.target_port; time = clock; content = m.content }

abbrev pub send : Table → Float → ℕ → Out → List Message → Outcome (List Message)
send t clock i m sent = at_most most_active NoMessageRoom (sent ++ map (along t clock i m) (connected t (id_at t i) m.port))

-- "Each parentless model in row order whose timer equals 0 has its internal event."
abbrev pub root_turn : Table → List Float → Float → ℕ → World × List Message → Outcome (World × List Message)
root_turn t services clock i (w, sent) =
    if due t levels w.states i
    then (do
      (w', ms) ← internal t services levels clock i w
      sent' ← each (send t clock i) ms sent
      done (w', sent'))
    else done (w, sent)

-- 1 to 4 in order, and 5. "These messages replace the active ones." With the log of the step.
unfoldable pub step_on : Table → List Float → Simulation → Outcome (Simulation × List Happening)
step_on t services sim = do
  w₁ ← taken t services sim.clock sim.active (record { states = sim.states; place = sim.place; log = [] })
  a ← advance t sim.active w₁.states
  clock ← later sim.clock a
  (w₂, sent) ← each (root_turn t services clock) (parentless t) (all_after a w₁, [])
  done (record { table = sim.table; states = w₂.states; active = sent; clock = clock; place = w₂.place }, w₂.log)

abbrev pub one_step : List Float → Simulation → Outcome (Simulation × List Happening)
one_step services sim = step_on sim.table services sim
