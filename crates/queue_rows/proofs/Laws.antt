-- From what the processor's and the batcher's rules answer, and from what is written, to what an event in place says of the rules' outcome. Assumes nothing.
use Rattle.std.specs.Prelude.{if◌then◌else◌, Err, Ok, Result}
use Prim.Native.Nat.{ℕ, ◌+◌, ◌≤◌}
use mathlib.Core.Path.{◌≡◌, refl, ap, ◌∙◌}
use mathlib.Core.Bool.{not}
use mathlib.Core.List.{List, [], ◌∷◌}
use native.Mathlib.Omega.{arith}
use lib.ListN.{length, take, drop}
use lib.Dec.{T, eqb, ltb, leb→le, le→leb}
use lib.Ieee.{Float}
use Rattle.times.specs.Time.{instant}
use Rattle.rules.specs.declared.Refusal.{Refusal}
use Rattle.rules.specs.declared.ProcessorPhase.{ProcessorPhase}
use Rattle.rules.specs.declared.ProcessorPhase.TheVariants as working
use Rattle.rules.specs.declared.BatcherPhase.{BatcherPhase}
use Rattle.rules.specs.declared.BatcherPhase.TheVariants as batching
use Rattle.rules.specs.declared.Processor.{Processor}
use Rattle.rules.specs.declared.Batcher.{Batcher}
use Rattle.rules.specs.Base.{Outcome, refused, done, ◌>>=◌, is_empty}
use Rattle.rules.specs.Table.{processor, batcher}
use Rattle.rules.specs.Simulation as Simulation
use Rattle.rules.specs.Models.{Fate, Started, Kept, Dropped, service, joining, processor_external, processor_internal, batcher_external, batcher_internal}
use Rattle.rules.specs.Valid.{processor_rules, batcher_rules}
use Rattle.rules.specs.Ends.{All, nil, ◌&◌, parts, Ends, stops, goes, ends-if, ends-bind}
use Rattle.rules.specs.Kept.{keep-more}
use Rattle.events.specs.Meaning.{handed_back, placed, fate_of, queue_after}
use Rattle.events.specs.declared.Taken.{Taken}
use Rattle.processor.specs.declared.ProcessorState.{ProcessorState}
use Rattle.processor.specs.Processing as Processing
use Rattle.batcher.specs.declared.BatcherState.{BatcherState}
use Rattle.batcher.specs.Batching as Batching
use Rattle.memory.specs.Words.{place_in, phase_in, held_in}
use Rattle.memory.specs.View.{Row, WordsFit, state_in, processor_in, batcher_in, working_of, working_number, batching_of, batching_number}
use Rattle.memory.specs.Atoms.{atom_external, atom_internal, Kept-by, Took, Gave}
use Rattle.memory.specs.Answers.{answer_of}
use Rattle.memory.specs.AnswerLaws.{goes_on, stops_at, answers, back_done, back-refused}
use Rattle.queue_rows.specs.Rows.{processor_at, batcher_at, processor_head, batcher_head, put_of, jobs_at, Queued, Written, Wrote}

-- ---- what an event needs of the row stands in what it is given
module _ (b : ℕ) (mem : List ℕ) (i : ℕ) where
  pub processor-queued : (p : Processor) → Row (processor p) b mem i → Queued b mem i
  processor-queued p r = go r.words (parts (processor_rules p (processor_in b mem i)) r.fits)
    where
      go : WordsFit (processor p) b mem i → All T (processor_rules p (processor_in b mem i)) → Queued b mem i
      go (_ & few & clear & nil) (timer & _ & contents & _ & _ & nil) =
          record { head = r.placed.head; room = r.placed.room; few = leb→le (held_in mem i) 64 few; clear = clear; timer = timer; contents = contents }

  pub batcher-queued : (m : Batcher) → Row (batcher m) b mem i → Queued b mem i
  batcher-queued m r = go r.words (parts (batcher_rules (batcher_in b mem i)) r.fits)
    where
      go : WordsFit (batcher m) b mem i → All T (batcher_rules (batcher_in b mem i)) → Queued b mem i
      go (_ & few & clear & nil) (timer & _ & contents & nil) =
          record { head = r.placed.head; room = r.placed.room; few = leb→le (held_in mem i) 64 few; clear = clear; timer = timer; contents = contents }

-- ---- the place beside the state
module _ {S R : Type 0} where
  unplaced-done : (o : Outcome (S × ℕ × R)) (next : S) (place : ℕ) (what : R) → placed o ≡ done ((next, place), what) → o ≡ done (next, place, what)
  unplaced-done (refused r) next place what e = let z : ◌≡◌ {A = ℕ} 0 1 = cc in absurd (omega arith)
  unplaced-done (done (n, p, w)) next place what e = let x : ◌≡◌ {A = (S × ℕ) × R} ((n, p), w) ((next, place), what) = cc in λ j. done ((x j).0.0, (x j).0.1, (x j).1)

  unplaced-refused : (o : Outcome (S × ℕ × R)) (r : Refusal) → placed o ≡ refused r → o ≡ refused r
  unplaced-refused (refused q) r e = let g : q ≡ r = cc in ap refused g
  unplaced-refused (done (n, p, w)) r e = let z : ◌≡◌ {A = ℕ} 0 1 = cc in absurd (omega arith)

-- ---- at most 64 are held after an external event
abbrev Any : Refusal → Type 0
Any r = Unit {0}

any-ends : {A : Type 0} (o : Outcome A) → Ends Any (λ a. Unit {0}) o
any-ends (refused r) = stops tt
any-ends (done a) = goes tt

processor-few : (p : Processor) (services : List Float) (port job place : ℕ) (s : Simulation.ProcessorState) → length s.queue ≤ 64
    → Ends Any (λ r. length r.0.queue ≤ 64) (processor_external p services port job s place)
unfolding processor_external
processor-few p services port job place s few =
    ends-if (not (eqb port p.input)) (λ _. stops tt)
    (λ _. ends-if (eqb (length s.queue) p.queue_capacity)
    (λ _. ends-if (is_empty s.queue) (λ _. stops tt) (λ _. goes {a = (s, place, Dropped)} few))
    (λ _. ends-if (is_empty s.queue)
    (λ _. ends-bind _ (any-ends (service services place)) (λ r _. goes {a = (record { phase = working.Active; timer = r.0; queue = job ∷ [] }, r.1, Started)} (omega arith)))
    (λ _. ends-bind _ (keep-more Any (λ r _. tt) job s.queue) (λ q k. goes {a = (record { phase = s.phase; timer = s.timer; queue = q }, place, Kept)} k.room))))

batcher-few : (m : Batcher) (job : ℕ) (s : Simulation.BatcherState) → Ends Any (λ n. length n.jobs ≤ 64) (batcher_external m job s)
unfolding batcher_external
batcher-few m job s =
    ends-bind _ (any-ends (if ltb (length s.jobs + 1) m.max_batch_size then joining s.phase m s else done (batching.Release, instant)))
    (λ pt _. ends-bind _ (keep-more Any (λ r _. tt) job s.jobs) (λ q k. goes k.room))

-- ---- a row's state and words, by what was written
working-back : (phase : ProcessorPhase) → working_of (working_number phase) ≡ phase
working-back working.Passive = refl
working-back working.Active = refl

batching-back : (phase : BatcherPhase) → batching_of (batching_number phase) ≡ phase
batching-back batching.Passive = refl
batching-back batching.Batching = refl
batching-back batching.Release = refl

working-named : (phase : ProcessorPhase) → T (ltb (working_number phase) 2)
working-named working.Passive = tt
working-named working.Active = tt

batching-named : (phase : BatcherPhase) → T (ltb (batching_number phase) 3)
batching-named batching.Passive = tt
batching-named batching.Batching = tt
batching-named batching.Release = tt

module _ (b i : ℕ) (place : ℕ) (jobs after : List ℕ) where
  processor-is : (s : ProcessorState) → Written b i (processor_head s place) jobs after → processor_in b after i ≡ Processing.processor_of s jobs
  processor-is s w =
      let f : working_of (phase_in after i) ≡ s.phase = ap working_of w.phase ∙ working-back s.phase in
      let t = w.timer in
      let q = w.jobs in
      λ j. record { phase = f j; timer = t j; queue = q j }

  processor-words : (p : Processor) (s : ProcessorState) → Written b i (processor_head s place) jobs after → WordsFit (processor p) b after i
  processor-words p s w =
      let named : T (ltb (phase_in after i) 2) = rw w.phase (working-named s.phase) in
      let few : held_in after i ≤ 64 = rw w.held w.few in
      named & le→leb (held_in after i) 64 few & w.clear & nil

  batcher-is : (s : BatcherState) → Written b i (batcher_head s place) jobs after → batcher_in b after i ≡ Batching.batcher_of s jobs
  batcher-is s w =
      let f : batching_of (phase_in after i) ≡ s.phase = ap batching_of w.phase ∙ batching-back s.phase in
      let t = w.timer in
      let q = w.jobs in
      λ j. record { phase = f j; timer = t j; jobs = q j }

  batcher-words : (m : Batcher) (s : BatcherState) → Written b i (batcher_head s place) jobs after → WordsFit (batcher m) b after i
  batcher-words m s w =
      let named : T (ltb (phase_in after i) 3) = rw w.phase (batching-named s.phase) in
      let few : held_in after i ≤ 64 = rw w.held w.few in
      named & le→leb (held_in after i) 64 few & w.clear & nil

-- ---- a processor's events
module _ (p : Processor) (services : List Float) (b i : ℕ) (mem : List ℕ) (next : ProcessorState) (place : ℕ) where
  module _ (port content : ℕ) (a : Result Taken Refusal) where
    abbrev rule : Outcome (Simulation.ProcessorState × ℕ × Fate)
    rule = processor_external p services port content (processor_in b mem i) (place_in mem)

    abbrev Told : Type 0
    Told = Processing.Took (processor_at mem i) (place_in mem) (jobs_at b mem i) content (record { next = next; place = place; answer = a }) rule

    -- at most 64 are held
    pub processor-holds : Told → length (jobs_at b mem i) ≤ 64 → next.held ≤ 64
    processor-holds t few = go rule (processor-few p services port content (place_in mem) (processor_in b mem i) few) t.tells
      where
        go : (o : Outcome (Simulation.ProcessorState × ℕ × Fate)) → Ends Any (λ r. length r.0.queue ≤ 64) o
            → ((Processing.processor_of next (queue_after a (jobs_at b mem i) content), place), fate_of a) ≡ handed_back (processor_in b mem i, place_in mem) (placed o) → next.held ≤ 64
        go o (stops u) e =
            let q : queue_after a (jobs_at b mem i) content ≡ jobs_at b mem i = ap (λ (x : (Simulation.ProcessorState × ℕ) × Outcome Fate). x.0.0.queue) e in
            let h = t.holds in
            let l : length (queue_after a (jobs_at b mem i) content) ≡ length (jobs_at b mem i) = ap length q in
            omega arith
        go o (goes {a = r} h) e =
            let q : queue_after a (jobs_at b mem i) content ≡ r.0.queue = ap (λ (x : (Simulation.ProcessorState × ℕ) × Outcome Fate). x.0.0.queue) e in
            let k = t.holds in
            let l : length (queue_after a (jobs_at b mem i) content) ≡ length r.0.queue = ap length q in
            omega arith

    module _ (clock : Float) (after : List ℕ) where
      processor-done : (fate : Fate) → fate_of a ≡ done fate → Told → Written b i (processor_head next place) (queue_after a (jobs_at b mem i) content) after
          → Kept-by (processor p) b i after (atom_external (processor p) services clock port content (state_in (processor p) b mem i) (place_in mem))
      processor-done fate is t w =
          let q = queue_after a (jobs_at b mem i) content in
          let o : rule ≡ done (Processing.processor_of next q, place, fate) =
          unplaced-done rule (Processing.processor_of next q) place fate (back_done (placed rule) (processor_in b mem i, place_in mem) (Processing.processor_of next q, place) fate (rw is at t.tells)) in
          record { fate = fate; is = rw (o, processor-is b i place q after next w, w.place); words = processor-words b i place q after p next w }

      processor-refused : (r : Refusal) → fate_of a ≡ refused r → Told → atom_external (processor p) services clock port content (state_in (processor p) b mem i) (place_in mem) ≡ refused r
      processor-refused r is t =
          let q = queue_after a (jobs_at b mem i) content in
          let o : rule ≡ refused r = unplaced-refused rule r (back-refused (placed rule) (processor_in b mem i, place_in mem) (Processing.processor_of next q, place) r (rw is at t.tells)) in
          rw o

      pub processor-took : Told → (answer_of a ≡ Ok tt → Written b i (processor_head next place) (queue_after a (jobs_at b mem i) content) after)
          → Took (answer_of a) (processor p) b i after (atom_external (processor p) services clock port content (state_in (processor p) b mem i) (place_in mem))
      processor-took t writes = elim (answers a) [
        | goes_on fate e is ↦ rw e (processor-done fate is t (writes e))
        | stops_at r e is ↦ rw e (processor-refused r is t)
      ]

  -- what it puts out
  module _ (at : ℕ) (after : List ℕ) where
    abbrev gone-rule : Outcome (Simulation.ProcessorState × ℕ × List ℕ)
    gone-rule = processor_internal services (processor_in b mem i) (place_in mem)

    pub processor-gave : (g : Result ℕ Refusal) → Processing.Went (processor_at mem i) (place_in mem) (jobs_at b mem i) (record { next = next; place = place; answer = g }) gone-rule → length (jobs_at b mem i) ≤ 64
        → ((n : ℕ) → g ≡ Ok n → Wrote n at p.output i b (processor_head next place) (jobs_at b mem i) after)
        → Gave (put_of g) at (processor p) b i after (atom_internal (processor p) services (state_in (processor p) b mem i) (place_in mem))
    processor-gave (Ok n) t few writes =
        let jobs = jobs_at b mem i in
        let w = writes n refl in
        let k = t.within in
        let o : gone-rule ≡ done (Processing.processor_of next (drop n jobs), place, take n jobs) =
        unplaced-done gone-rule (Processing.processor_of next (drop n jobs)) place (take n jobs) (back_done (placed gone-rule) (processor_in b mem i, place_in mem) (Processing.processor_of next (drop n jobs), place) (take n jobs) t.tells) in
        record {
          few = omega arith;
          is = rw (o, processor-is b i place (drop n jobs) after next w.row, w.row.place, w.outs);
          words = processor-words b i place (drop n jobs) after p next w.row;
        }
    processor-gave (Err r) t few writes =
        let jobs = jobs_at b mem i in
        let o : gone-rule ≡ refused r = unplaced-refused gone-rule r (back-refused (placed gone-rule) (processor_in b mem i, place_in mem) (Processing.processor_of next jobs, place) r t.tells) in
        rw o

-- ---- a batcher's events
abbrev with-fate : {S : Type 0} → Outcome S → Outcome (S × Fate)
with-fate o = o >>= λ next. done (next, Kept)

kept_back : {S : Type 0} (o : Outcome S) (next : S) (fate : Fate) → with-fate o ≡ done (next, fate) → o ≡ done next
kept_back (refused r) next fate e = let z : ◌≡◌ {A = ℕ} 0 1 = cc in absurd (omega arith)
kept_back {S} (done n) next fate e = let x : ◌≡◌ {A = S × Fate} (n, Kept) (next, fate) = cc in λ j. done (x j).0

kept-refused : {S : Type 0} (o : Outcome S) (r : Refusal) → with-fate o ≡ refused r → o ≡ refused r
kept-refused (refused q) r e = let g : q ≡ r = cc in ap refused g
kept-refused (done n) r e = let z : ◌≡◌ {A = ℕ} 0 1 = cc in absurd (omega arith)

module _ (m : Batcher) (b i : ℕ) (mem : List ℕ) (next : BatcherState) where
  module _ (content : ℕ) (a : Result Taken Refusal) where
    abbrev kept_rule : Outcome Simulation.BatcherState
    kept_rule = batcher_external m content (batcher_in b mem i)

    abbrev ToldKept : Type 0
    ToldKept = Batching.Took (batcher_at mem i) (jobs_at b mem i) content (record { next = next; answer = a }) kept_rule

    -- at most 64 are held
    pub batcher-holds : ToldKept → length (jobs_at b mem i) ≤ 64 → next.held ≤ 64
    batcher-holds t few = go kept_rule (batcher-few m content (batcher_in b mem i)) t.tells
      where
        go : (o : Outcome Simulation.BatcherState) → Ends Any (λ n. length n.jobs ≤ 64) o
            → (Batching.batcher_of next (queue_after a (jobs_at b mem i) content), fate_of a) ≡ handed_back (batcher_in b mem i) (with-fate o) → next.held ≤ 64
        go o (stops u) e =
            let l : length (queue_after a (jobs_at b mem i) content) ≡ length (jobs_at b mem i) = ap (λ (x : Simulation.BatcherState × Outcome Fate). length x.0.jobs) e in
            let k = t.holds in
            omega arith
        go o (goes {a = n} h) e =
            let l : length (queue_after a (jobs_at b mem i) content) ≡ length n.jobs = ap (λ (x : Simulation.BatcherState × Outcome Fate). length x.0.jobs) e in
            let k = t.holds in
            omega arith

    module _ (services : List Float) (clock : Float) (port : ℕ) (after : List ℕ) where
      batcher-done : (fate : Fate) → fate_of a ≡ done fate → ToldKept → Written b i (batcher_head next (place_in mem)) (queue_after a (jobs_at b mem i) content) after
          → Kept-by (batcher m) b i after (atom_external (batcher m) services clock port content (state_in (batcher m) b mem i) (place_in mem))
      batcher-done fate is t w =
          let q = queue_after a (jobs_at b mem i) content in
          let o : kept_rule ≡ done (Batching.batcher_of next q) = kept_back kept_rule (Batching.batcher_of next q) fate (back_done (with-fate kept_rule) (batcher_in b mem i) (Batching.batcher_of next q) fate (rw is at t.tells)) in
          record { fate = Kept; is = rw (o, batcher-is b i (place_in mem) q after next w, w.place); words = batcher-words b i (place_in mem) q after m next w }

      batcher-refused : (r : Refusal) → fate_of a ≡ refused r → ToldKept → atom_external (batcher m) services clock port content (state_in (batcher m) b mem i) (place_in mem) ≡ refused r
      batcher-refused r is t =
          let q = queue_after a (jobs_at b mem i) content in
          let o : kept_rule ≡ refused r = kept-refused kept_rule r (back-refused (with-fate kept_rule) (batcher_in b mem i) (Batching.batcher_of next q) r (rw is at t.tells)) in
          rw o

      pub batcher-took : ToldKept → (answer_of a ≡ Ok tt → Written b i (batcher_head next (place_in mem)) (queue_after a (jobs_at b mem i) content) after)
          → Took (answer_of a) (batcher m) b i after (atom_external (batcher m) services clock port content (state_in (batcher m) b mem i) (place_in mem))
      batcher-took t writes = elim (answers a) [
        | goes_on fate e is ↦ rw e (batcher-done fate is t (writes e))
        | stops_at r e is ↦ rw e (batcher-refused r is t)
      ]

  -- what it puts out
  module _ (services : List Float) (at : ℕ) (after : List ℕ) where
    pub batcher-gave : (g : Result ℕ Refusal) → Batching.Went (batcher_at mem i) (jobs_at b mem i) (record { next = next; answer = g }) (done (batcher_internal m (batcher_in b mem i))) → length (jobs_at b mem i) ≤ 64
        → ((n : ℕ) → g ≡ Ok n → Wrote n at m.output i b (batcher_head next (place_in mem)) (jobs_at b mem i) after)
        → Gave (put_of g) at (batcher m) b i after (atom_internal (batcher m) services (state_in (batcher m) b mem i) (place_in mem))
    batcher-gave (Ok n) t few writes =
        let jobs = jobs_at b mem i in
        let w = writes n refl in
        let k = t.within in
        let d = back_done (done (batcher_internal m (batcher_in b mem i))) (batcher_in b mem i) (Batching.batcher_of next (drop n jobs)) (take n jobs) t.tells in
        let o : ◌≡◌ {A = Simulation.BatcherState × List ℕ} (batcher_internal m (batcher_in b mem i)) (Batching.batcher_of next (drop n jobs), take n jobs) = cc in
        record {
          few = omega arith;
          is = rw (o, batcher-is b i (place_in mem) (drop n jobs) after next w.row, w.row.place, w.outs);
          words = batcher-words b i (place_in mem) (drop n jobs) after m next w.row;
        }
    batcher-gave (Err r) t few writes =
        let d = back-refused (done (batcher_internal m (batcher_in b mem i))) (batcher_in b mem i) (Batching.batcher_of next (jobs_at b mem i)) r t.tells in
        let z : ◌≡◌ {A = ℕ} 0 1 = cc in
        absurd (omega arith)
