-- What the rules say of a processor's events, case by case, by the number of jobs held. Assumes nothing.
use Rattle.std.specs.Prelude.{Err, Ok}
use mathlib.Core.Path.{◌≡◌, refl, sym, ap, ◌∙◌}
use mathlib.Core.Bool.{not, ◌&&◌}
use mathlib.Core.List.{List, [], ◌∷◌}
use Prim.Native.Nat.{ℕ, ◌+◌, ◌-◌, ◌≤◌, ◌<◌}
use native.Mathlib.Omega.{arith}
use lib.ListN.{length, length-drop}
use lib.Dec.{T, leb}
use lib.Ieee.Bits.{is_true}
use lib.Ieee.{Float}
use borrow.Author.Tests.{eq-eqb, ne_eqb, lt-ltb, le-ltb}
use Rattle.rules.specs.declared.Refusal.{Refusal}
use Rattle.rules.specs.declared.Refusal.TheVariants.{InvalidMessage, InvalidModelState, NoQueueRoom}
use Rattle.rules.specs.declared.Processor.{Processor}
use Rattle.rules.specs.Base.{Outcome, refused, done, every, hold, is_empty}
use Rattle.rules.specs.Simulation as Simulation
use Rattle.rules.specs.Models.{Fate, processor_external, processor_internal, processor_internal_in, service, start}
use Rattle.rules.specs.Valid.{model_fits, is_active}
use Rattle.rules.specs.Table as Table
use Rattle.rules.specs.Sizes.{is_content}
use Rattle.times.specs.Time.{is_timer}
use Rattle.rules.specs.declared.ProcessorPhase.{ProcessorPhase}
use Rattle.rules.specs.declared.ProcessorPhase.TheVariants as working
use Rattle.events.specs.declared.Taken.{Taken}
use Rattle.events.specs.declared.Taken.TheVariants as taken
use Rattle.processor.specs.declared.ProcessorState.{ProcessorState}
use Rattle.processor.specs.declared.Served.{Served}
use Rattle.processor.specs.Processing.{processor_of, fresh, unchanged, resting, Took, Went}
use Rattle.events.specs.Held.{none-held, some-held, one_more}

-- an event that changes nothing, refused or dropped
pub took-refused : (s : ProcessorState) (place : ℕ) (queue : List ℕ) (job : ℕ) (r : Refusal) (o : Outcome (Simulation.ProcessorState × ℕ × Fate)) → length queue ≡ s.held → o ≡ refused r → Took s place queue job (unchanged s place (Err r)) o
took-refused s place queue job r o e h = record { tells = rw h; holds = e }

module _ (row : Processor) (services : List Float) (port job place : ℕ) (s : ProcessorState) (queue : List ℕ) (e : length queue ≡ s.held) where
  pub other-port : (port ≡ row.input → ⊥) → Took s place queue job (unchanged s place (Err InvalidMessage)) (processor_external row services port job (processor_of s queue) place)
  unfolding processor_external
  other-port h = record { tells = rw (ne_eqb _ _ h); holds = e }

  module _ (p : port ≡ row.input) where
    pub empty-full : s.held ≡ row.queue_capacity → s.held ≡ 0 → Took s place queue job (unchanged s place (Err InvalidModelState)) (processor_external row services port job (processor_of s queue) place)
    unfolding processor_external
    empty-full f z =
        let q : queue ≡ [] = none-held queue (e ∙ z) in
        record { tells = rw (eq-eqb _ _ p, eq-eqb _ _ (e ∙ f), q); holds = e }

    pub full : s.held ≡ row.queue_capacity → (s.held ≡ 0 → ⊥) → Took s place queue job (unchanged s place (Ok taken.Dropped)) (processor_external row services port job (processor_of s queue) place)
    unfolding processor_external
    full f z = record { tells = rw (eq-eqb _ _ p, eq-eqb _ _ (e ∙ f), some-held queue (λ l. z (sym e ∙ l))); holds = e }

    pub no_room : (s.held ≡ row.queue_capacity → ⊥) → (s.held ≡ 0 → ⊥) → 64 ≤ s.held → Took s place queue job (unchanged s place (Err NoQueueRoom)) (processor_external row services port job (processor_of s queue) place)
    unfolding processor_external
    no_room f z m =
        let h : 64 ≤ length queue = omega arith in
        record { tells = rw (eq-eqb _ _ p, ne_eqb _ _ (λ l. f (sym e ∙ l)), some-held queue (λ l. z (sym e ∙ l)), le-ltb _ _ h); holds = e }

    pub kept : (s.held ≡ row.queue_capacity → ⊥) → (s.held ≡ 0 → ⊥) → s.held < 64 → Took s place queue job (record { next = record { phase = s.phase; timer = s.timer; held = s.held + 1 }; place = place; answer = Ok taken.Kept }) (processor_external row services port job (processor_of s queue) place)
    unfolding processor_external
    kept f z m =
        let h : length queue < 64 = omega arith in
        record { tells = rw (eq-eqb _ _ p, ne_eqb _ _ (λ l. f (sym e ∙ l)), some-held queue (λ l. z (sym e ∙ l)), lt-ltb _ _ h); holds = one_more queue job s.held e }

    pub starts : (s.held ≡ row.queue_capacity → ⊥) → s.held ≡ 0 → (r : Served Taken) → Took s place [] job r (start services job place) → Took s place queue job r (processor_external row services port job (processor_of s queue) place)
    unfolding processor_external
    starts f z r h =
        let q : queue ≡ [] = none-held queue (e ∙ z) in
        let g : 0 ≡ row.queue_capacity → ⊥ = λ l. f (z ∙ l) in
        rw (q, eq-eqb _ _ p, ne_eqb _ _ g) h

-- ---- internal events
module _ (services : List Float) (place : ℕ) (s : ProcessorState) (queue : List ℕ) (e : length queue ≡ s.held) where
  pub in-phase : (phase : ProcessorPhase) → s.phase ≡ phase → processor_internal services (processor_of s queue) place ≡ processor_internal_in phase services (processor_of s queue) place
  unfolding processor_internal
  in-phase phase h = ap (λ (p : ProcessorPhase). processor_internal_in p services (processor_of s queue) place) h

  pub released-none : s.held ≡ 0 → Went s place queue (resting 0 place 0) (processor_internal_in working.Active services (processor_of s queue) place)
  released-none z =
      let q : queue ≡ [] = none-held queue (e ∙ z) in
      rw q (record { tells = refl; holds = refl; within = omega arith })

  pub released-one : (s.held ≡ 0 → ⊥) → Went s place queue (resting (s.held - 1) place 1) (processor_internal_in working.Active services (processor_of s queue) place)
  released-one z = record { tells = refl; holds = simp length-drop (omega arith); within = omega arith }

  pub resumed-none : s.held ≡ 0 → Went s place queue (record { next = fresh; place = place; answer = Ok 0 }) (processor_internal_in working.Passive services (processor_of s queue) place)
  resumed-none z =
      let q : queue ≡ [] = none-held queue (e ∙ z) in
      rw q (record { tells = refl; holds = refl; within = omega arith })

  pub resumed-one : (s.held ≡ 0 → ⊥) → (x : Float) (next : ℕ) → done (x, next) ≡ service services place → Went s place queue (record { next = record { phase = working.Active; timer = x; held = s.held }; place = next; answer = Ok 0 }) (processor_internal_in working.Passive services (processor_of s queue) place)
  resumed-one z x next h =
      record { tells = rw (some-held queue (λ l. z (sym e ∙ l)), ← h); holds = e; within = omega arith }

  pub resumed-refused : (s.held ≡ 0 → ⊥) → (r : Refusal) → refused r ≡ service services place → Went s place queue (record { next = s; place = place; answer = Err r }) (processor_internal_in working.Passive services (processor_of s queue) place)
  resumed-refused z r h =
      record { tells = rw (some-held queue (λ l. z (sym e ∙ l)), ← h); holds = e; within = omega arith }

-- ---- a job starts
module _ (services : List Float) (place job : ℕ) (s : ProcessorState) where
  pub started : (x : Float) (next : ℕ) → done (x, next) ≡ service services place → Took s place [] job (record { next = record { phase = working.Active; timer = x; held = 1 }; place = next; answer = Ok taken.Started }) (start services job place)
  started x next h = record { tells = rw (← h); holds = refl }

  pub not-started : (r : Refusal) → refused r ≡ service services place → s.held ≡ 0 → Took s place [] job (unchanged s place (Err r)) (start services job place)
  not-started r h z = record { tells = rw (← h); holds = sym z }

-- ---- what 20 asks
module _ (row : Processor) (s : ProcessorState) (queue : List ℕ) (e : length queue ≡ s.held) (contents : T (every is_content queue)) (narrow : (row.input < 65536) × (row.output < 65536) × (row.queue_capacity < 18446744073709551616)) where
  pub fits-is : model_fits (Table.processor row) (Simulation.of_processor (processor_of s queue)) ≡ hold (hold (is_timer s.timer ∷ leb s.held 64 ∷ leb s.held row.queue_capacity ∷ not (is_active s.phase && is_empty queue) ∷ []) ∷ [])
  unfolding model_fits
  fits-is =
      rw (lt-ltb _ _ narrow.0, lt-ltb _ _ narrow.1, lt-ltb _ _ narrow.2, is_true (every is_content queue) contents, e)
