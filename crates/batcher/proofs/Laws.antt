-- What the rules say of a batcher's events, case by case, by the number of jobs held. Assumes nothing.
use Rattle.std.specs.Prelude.{Ok}
use mathlib.Core.Path.{◌≡◌, refl, ap, ◌∙◌}
use mathlib.Core.Bool.{Bool, true, false}
use mathlib.Core.List.{List, [], ◌∷◌}
use Prim.Native.Nat.{ℕ, ◌+◌, ◌-◌, ◌*◌, ◌≤◌, ◌<◌}
use native.Mathlib.Omega.{arith}
use lib.ListN.{length, length-drop}
use lib.Seq.{take-length, drop-length}
use lib.Dec.{T, leb, ltb}
use lib.Ieee.{Float}
use lib.Ieee.Bits.{is_true}
use borrow.Author.Tests.{lt-ltb, le-ltb, le-leb, lt-leb}
use Rattle.times.specs.Time.{instant, is_time, is_timer}
use Rattle.rules.specs.declared.Refusal.TheVariants.{InvalidModelState}
use Rattle.rules.specs.declared.BatcherPhase.{BatcherPhase}
use Rattle.rules.specs.declared.BatcherPhase.TheVariants as batching
use Rattle.rules.specs.declared.Batcher.{Batcher}
use Rattle.rules.specs.Sizes.{is_content}
use Rattle.rules.specs.Base.{Outcome, refused, done, ◌>>=◌, every, hold}
use Rattle.rules.specs.Table as Table
use Rattle.rules.specs.Simulation as Simulation
use Rattle.rules.specs.Models.{keep, joining, batcher_external, batcher_internal}
use Rattle.rules.specs.Valid.{model_fits}
use Rattle.batcher.specs.declared.BatcherState.{BatcherState}
use Rattle.batcher.specs.Batching.{batcher_of, fresh, unchanged, kept_as, Took, Went}
use Rattle.events.specs.Held.{one_more}

-- a job is kept, or there is no room
abbrev keeping : BatcherPhase → Float → List ℕ → ℕ → Outcome Simulation.BatcherState
keeping phase timer queue job = keep job queue >>= λ jobs. done (record { phase = phase; timer = timer; jobs = jobs })

took-kept : (s : BatcherState) (queue : List ℕ) (job : ℕ) (phase : BatcherPhase) (timer : Float) → length queue ≡ s.held → (b : Bool) → ltb s.held 64 ≡ b → Took s queue job (kept_as s phase timer) (keeping phase timer queue job)
took-kept s queue job phase timer e true h = rw (e, h) (record { tells = refl; holds = one_more queue job s.held e })
took-kept s queue job phase timer e false h = rw (e, h) (record { tells = refl; holds = e })

module _ (row : Batcher) (job : ℕ) (s : BatcherState) (queue : List ℕ) (e : length queue ≡ s.held) where
  -- a full batch
  pub full : row.max_batch_size ≤ s.held + 1 → Took s queue job (kept_as s batching.Release instant) (batcher_external row job (batcher_of s queue))
  unfolding batcher_external
  full h =
      let m : row.max_batch_size ≤ length queue + 1 = omega arith in
      rw (le-ltb _ _ m) (took-kept s queue job batching.Release instant e (ltb s.held 64) refl)

  module _ (few : s.held + 1 < row.max_batch_size) where
    joined : batcher_external row job (batcher_of s queue) ≡ (joining s.phase row (batcher_of s queue) >>= λ to. keeping to.0 to.1 queue job)
    unfolding batcher_external
    joined =
        let m : length queue + 1 < row.max_batch_size = omega arith in
        rw (lt-ltb _ _ m)

    pub begins : s.phase ≡ batching.Passive → Took s queue job (kept_as s batching.Batching row.max_batch_time) (batcher_external row job (batcher_of s queue))
    begins p =
        let o : batcher_external row job (batcher_of s queue) ≡ keeping batching.Batching row.max_batch_time queue job = joined ∙ rw p in
        rw o (took-kept s queue job batching.Batching row.max_batch_time e (ltb s.held 64) refl)

    pub joins : s.phase ≡ batching.Batching → Took s queue job (kept_as s batching.Batching s.timer) (batcher_external row job (batcher_of s queue))
    joins p =
        let o : batcher_external row job (batcher_of s queue) ≡ keeping batching.Batching s.timer queue job = joined ∙ rw p in
        rw o (took-kept s queue job batching.Batching s.timer e (ltb s.held 64) refl)

    pub waits : s.phase ≡ batching.Release → Took s queue job (unchanged s InvalidModelState) (batcher_external row job (batcher_of s queue))
    waits p =
        let o : batcher_external row job (batcher_of s queue) ≡ refused InvalidModelState = joined ∙ rw p in
        record { tells = rw o; holds = e }

-- ---- internal events
module _ (row : Batcher) (s : BatcherState) (queue : List ℕ) (e : length queue ≡ s.held) where
  pub all_go : s.held ≤ row.max_batch_size → Went s queue (record { next = fresh; answer = Ok s.held }) (done (batcher_internal row (batcher_of s queue)))
  unfolding batcher_internal
  all_go h =
      let m : length queue ≤ row.max_batch_size = omega arith in
      rw (← e) (record { tells = rw (le-leb _ _ m, take-length, drop-length); holds = ap length (drop-length queue); within = omega arith })

  module _ (many : row.max_batch_size < s.held) where
    pub batch-goes : row.max_batch_size ≤ s.held - row.max_batch_size → Went s queue (record { next = record { phase = batching.Release; timer = instant; held = s.held - row.max_batch_size }; answer = Ok row.max_batch_size }) (done (batcher_internal row (batcher_of s queue)))
    unfolding batcher_internal
    batch-goes h =
        let m : row.max_batch_size < length queue = omega arith in
        let t : 2 * row.max_batch_size ≤ length queue = omega arith in
        record { tells = rw (lt-leb _ _ m, le-leb _ _ t); holds = simp length-drop (omega arith); within = omega arith }

    pub rest-waits : s.held - row.max_batch_size < row.max_batch_size → Went s queue (record { next = record { phase = batching.Batching; timer = row.max_batch_time; held = s.held - row.max_batch_size }; answer = Ok row.max_batch_size }) (done (batcher_internal row (batcher_of s queue)))
    unfolding batcher_internal
    rest-waits h =
        let m : row.max_batch_size < length queue = omega arith in
        let t : length queue < 2 * row.max_batch_size = omega arith in
        record { tells = rw (lt-leb _ _ m, lt-leb _ _ t); holds = simp length-drop (omega arith); within = omega arith }

-- ---- what 20 asks
module _ (row : Batcher) (s : BatcherState) (queue : List ℕ) (e : length queue ≡ s.held) (contents : T (every is_content queue)) (narrow : (row.input < 65536) × (row.output < 65536)) where
  pub fits-is : model_fits (Table.batcher row) (Simulation.of_batcher (batcher_of s queue)) ≡ hold (hold (leb 1 row.max_batch_size ∷ leb row.max_batch_size 4611686018427387904 ∷ is_time row.max_batch_time ∷ []) ∷ hold (is_timer s.timer ∷ leb s.held 64 ∷ []) ∷ [])
  unfolding model_fits
  fits-is =
      rw (lt-ltb _ _ narrow.0, lt-ltb _ _ narrow.1, is_true (every is_content queue) contents, e)
