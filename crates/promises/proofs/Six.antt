-- Who answers with 6: in any calls on a valid simulation, a processor of capacity 0, or a batcher that was handed in, in Release with h + 1 < m. No event leads a batcher into that state. Assumes nothing.
use Rattle.std.specs.Prelude.{ℕ, ◌+◌, ◌<◌, ◌≡◌, refl, ◌⊎◌, Bool, true, false, not, List, [], ◌∷◌, ◌++◌, set, leb, ltb, Float}
use Rattle.std.proofs.Common.{sym, ap, ◌∙◌, subst, inl, inr, arith, ltb→lt}
use Rattle.std.proofs.Math.ListN.{length, length-append}
use Rattle.std.proofs.Math.Dec.{T, leb→le, le→leb, nltb→le, nleb→lt}
use Rattle.times.specs.Time.{instant}
use Rattle.rules.specs.declared.Refusal.{Refusal}
use Rattle.rules.specs.declared.Refusal.TheVariants.{InvalidModelState, NoQueueRoom}
use Rattle.rules.specs.declared.BatcherPhase.{BatcherPhase}
use Rattle.rules.specs.declared.BatcherPhase.TheVariants as batching
use Rattle.rules.specs.declared.Batcher.{Batcher}
use Rattle.rules.specs.Sizes.{most_jobs}
use Rattle.rules.specs.Table.{Kind, processor, batcher, stopwatch, coupled, Table, kind_at}
use Rattle.rules.specs.Simulation.{BatcherState, State, of_processor, of_batcher, of_stopwatch, of_coupled, Simulation, state_at, as_batcher}
use Rattle.rules.specs.Models.{joining, batcher_external, batcher_internal}
use Rattle.rules.specs.Step.{Happening, World, after}
use Rattle.rules.specs.Calls.{Refused, Call, called}
use Rattle.rules.specs.Valid.{state_fits}
use Rattle.rules.specs.Ends.{All, Ends, stops, goes, ends-if, ends-bind, ends-map, ends-whatever}
use Rattle.rules.specs.Depth.{Fine, fine}
use Rattle.rules.specs.Kept.{Other}
use Rattle.rules.proofs.Worlds.{set_all, Closed, NotBatcher, after-at}
use Rattle.rules.proofs.Runs.{Valid, step-ends, EndsWell, CallFits, Carried, called-keeps, calls-keeps}
use Rattle.promises.specs.Story.{CapacityNone, HandedInShort, SixElsewhere, happened, left_by}
use Rattle.promises.specs.Machine.{Sized, Shape, release-sound, row_sized}

-- ---- a batcher's row that cannot answer with 6: in Release it holds m - 1 at least
abbrev ready_in : BatcherPhase → ℕ → ℕ → Bool
ready_in batching.Passive h m = true
ready_in batching.Batching h m = true
ready_in batching.Release h m = leb m (h + 1)

abbrev ready_as : Kind → State → Bool
ready_as (processor p) s = true
ready_as (batcher b) s = ready_in (as_batcher s).phase (length (as_batcher s).jobs) b.max_batch_size
ready_as (stopwatch w) s = true
ready_as coupled s = true

abbrev SixFrom : Table → (ℕ → Bool) → Type 0
SixFrom t since = CapacityNone t ⊎ ((i : ℕ) × (b : Batcher) × (kind_at t i ≡ batcher b) × (T (since i) → ⊥))

abbrev Allowed : Table → (ℕ → Bool) → Refusal → Type 0
Allowed t since r = r ≡ InvalidModelState → SixFrom t since

abbrev Ready : Table → (ℕ → Bool) → List State → Type 0
Ready t since states = (i : ℕ) → T (since i) → T (ready_as (kind_at t i) (state_at states i))

others-ready : (k : Kind) (s : State) → NotBatcher k → T (ready_as k s)
others-ready (processor p) s n = tt
others-ready (batcher b) s n = absurd n
others-ready (stopwatch w) s n = tt
others-ready coupled s n = tt

after-ready : (k : Kind) (a : Float) (s : State) → T (ready_as k s) → T (ready_as k (after a s))
after-ready (processor p) a s h = tt
after-ready (batcher b) a (of_processor s) h = h
after-ready (batcher b) a (of_batcher s) h = h
after-ready (batcher b) a (of_stopwatch s) h = h
after-ready (batcher b) a (of_coupled s) h = h
after-ready (stopwatch w) a s h = tt
after-ready coupled a s h = tt

other-allowed : (t : Table) (since : ℕ → Bool) (r : Refusal) → Other r → Allowed t since r
other-allowed t since r o e = absurd (subst Other e o)

abbrev NotSix : Refusal → Type 0
NotSix r = r ≡ InvalidModelState → ⊥

seven : NotSix NoQueueRoom
seven e = let z : ◌≡◌ {A = ℕ} 0 1 = cc in omega arith

module _ (b : Batcher) where
  abbrev IsReady : BatcherState → Type 0
  IsReady s = T (ready_in s.phase (length s.jobs) b.max_batch_size)

  external-ready : (job : ℕ) (s : BatcherState) → IsReady s → Ends NotSix IsReady (batcher_external b job s)
  unfolding batcher_external
  external-ready job s good =
      ends-bind {Q = λ pt. T (ready_in pt.0 (length s.jobs + 1) b.max_batch_size)} _
      (ends-if (ltb (length s.jobs + 1) b.max_batch_size)
      (λ t. join s.phase (ltb→lt (length s.jobs + 1) b.max_batch_size t) good)
      (λ t. goes {a = (batching.Release, instant)} (let l = nltb→le (length s.jobs + 1) b.max_batch_size t in le→leb b.max_batch_size (length s.jobs + 1 + 1) (omega arith))))
      (λ pt h. ends-bind {Q = λ jobs. jobs ≡ s.jobs ++ job ∷ []} _ (ends-if (ltb (length s.jobs) most_jobs) (λ _. goes refl) (λ _. stops seven))
      (λ jobs k. goes (subst (λ (z : ℕ). T (ready_in pt.0 z b.max_batch_size)) (sym (ap length k ∙ length-append s.jobs (job ∷ []))) h)))
    where
      join : (phase : BatcherPhase) → length s.jobs + 1 < b.max_batch_size → T (ready_in phase (length s.jobs) b.max_batch_size) → Ends NotSix (λ pt. T (ready_in pt.0 (length s.jobs + 1) b.max_batch_size)) (joining phase b s)
      join batching.Passive l e = goes {a = (batching.Batching, b.max_batch_time)} tt
      join batching.Batching l e = goes {a = (batching.Batching, s.timer)} tt
      join batching.Release l e = let z = leb→le b.max_batch_size (length s.jobs + 1) e in absurd (omega arith)

  -- what an internal event leaves is sound (Machine), and holds m in Release
  internal-ready : Sized b → (s : BatcherState) → IsReady (batcher_internal b s).0
  internal-ready ok s = go (batcher_internal b s).0.phase (release-sound b ok s).shape
    where
      h : ℕ
      h = length (batcher_internal b s).0.jobs

      go : (phase : BatcherPhase) → Shape phase h b.max_batch_size → T (ready_in phase h b.max_batch_size)
      go batching.Passive l = tt
      go batching.Batching l = tt
      go batching.Release l = le→leb b.max_batch_size (h + 1) (omega arith)

ready-closed : (t : Table) → Fine t → (since : ℕ → Bool) → Closed t (Allowed t since) (λ w. Ready t since w.states)
ready-closed t ok since = record {
  other = other-allowed t since;
  six = λ i p e c q. inl (i, p, e, c);
  put_other = λ i s place w n k. set_all (λ j z. T (since j) → T (ready_as (kind_at t j) z)) w.states i s k (λ _. others-ready (kind_at t i) s n);
  came-other = λ clock i port content fate w c n k. k;
  went-other = λ clock i out w c n k. k;
  took = λ clock i port content b s w c e q g k. takes i b s w content e q k;
  gave = λ clock i b s w c e q g k. set_all (λ j z. T (since j) → T (ready_as (kind_at t j) z)) w.states i (of_batcher (batcher_internal b s).0) k
      (λ _. subst (λ (z : Kind). T (ready_as z (of_batcher (batcher_internal b s).0))) (sym e) (internal-ready b (row_sized t ok i b e) s));
  aged = λ a w g u l k i f. subst (λ (z : State). T (ready_as (kind_at t i) z)) (sym (after-at a w.states i)) (after-ready (kind_at t i) a (state_at w.states i) (k i f));
}
  where
    takes : (i : ℕ) (b : Batcher) (s : BatcherState) (w : World) (content : ℕ) → kind_at t i ≡ batcher b → state_at w.states i ≡ of_batcher s → Ready t since w.states
        → Ends (Allowed t since) (λ n. Ready t since (set w.states i (of_batcher n))) (batcher_external b content s)
    takes i b s w content e q k = go (since i) refl
      where
        go : (x : Bool) → since i ≡ x → Ends (Allowed t since) (λ n. Ready t since (set w.states i (of_batcher n))) (batcher_external b content s)
        go true x =
            let good : T (ready_as (batcher b) (of_batcher s)) = subst (λ (z : State). T (ready_as (batcher b) z)) q (subst (λ (z : Kind). T (ready_as z (state_at w.states i))) e (k i (subst T (sym x) tt))) in
            ends-map (external-ready b content s good) (λ r n h. absurd (n h))
            (λ n r. set_all (λ j z. T (since j) → T (ready_as (kind_at t j) z)) w.states i (of_batcher n) k (λ _. subst (λ (z : Kind). T (ready_as z (of_batcher n))) (sym e) r))
        go false x =
            let n : (T (since i) → ⊥) = λ h. subst T x h in
            ends-map (ends-whatever (batcher_external b content s)) (λ r _ _. inr (i, b, e, n))
            (λ s₁ _. set_all (λ j z. T (since j) → T (ready_as (kind_at t j) z)) w.states i (of_batcher s₁) k (λ h. absurd (n h)))

record ReadySo (t : Table) (since : ℕ → Bool) (sim : Simulation) (log : List Happening) : Type 0 where
  valid : Valid sim
  table : sim.table ≡ t
  ready : Ready t since sim.states

carried : (t : Table) (since : ℕ → Bool) → Carried (Allowed t since) (ReadySo t since)
carried t since = record {
  other = other-allowed t since;
  valid = λ sim log h. h.valid;
  change = λ sim next log e f g v h. record { valid = v; table = e ∙ h.table; ready = subst (Ready t since) (sym f) h.ready };
  forward = λ services sim log short h.
      ends-map (step-ends (Allowed sim.table since) (λ w. Ready sim.table since w.states) services sim short (ready-closed sim.table (fine sim.table h.valid.table) since) h.valid (subst (λ (z : Table). Ready z since sim.states) (sym h.table) h.ready))
      (λ r b e. subst (λ (z : Table). SixFrom z since) h.table (b e))
      (λ r k. record { valid = k.0; table = k.1 ∙ h.table; ready = subst (λ (z : Table). Ready z since r.0.states) h.table k.2 });
}

abbrev ready_at : Simulation → ℕ → Bool
ready_at start i = ready_as (kind_at start.table i) (state_at start.states i)

short : (phase : BatcherPhase) (h m : ℕ) → (T (ready_in phase h m) → ⊥) → (phase ≡ batching.Release) × (h + 1 < m)
short batching.Passive h m n = absurd (n tt)
short batching.Batching h m n = absurd (n tt)
short batching.Release h m n = (refl, nleb→lt m (h + 1) (go (leb m (h + 1)) n))
  where
    go : (x : Bool) → (T x → ⊥) → T (not x)
    go true n = absurd (n tt)
    go false n = tt

handed : (start : Simulation) → Valid start → (i : ℕ) (b : Batcher) → kind_at start.table i ≡ batcher b → (T (ready_at start i) → ⊥) → HandedInShort start
handed start v i b e n = go (state_at start.states i) refl
  where
    fit : T (state_fits (batcher b) (state_at start.states i))
    fit = subst (λ (z : Kind). T (state_fits z (state_at start.states i))) e (v.fitted.fit i)

    go : (s : State) → state_at start.states i ≡ s → HandedInShort start
    go (of_processor s) q = absurd (subst (λ (z : State). T (state_fits (batcher b) z)) q fit)
    go (of_batcher s) q =
        let k = short s.phase (length s.jobs) b.max_batch_size (λ h. n (subst (λ (z : Kind). T (ready_as z (state_at start.states i))) (sym e) (subst (λ (z : State). T (ready_as (batcher b) z)) (sym q) h))) in
        (i, b, s, e, q, k.0, k.1)
    go (of_stopwatch s) q = absurd (subst (λ (z : State). T (state_fits (batcher b) z)) q fit)
    go (of_coupled s) q = absurd (subst (λ (z : State). T (state_fits (batcher b) z)) q fit)

pub six-elsewhere : (start : Simulation) → Valid start → (cs : List Call) → All CallFits cs → (c : Call) → CallFits c → (called c (left_by start cs)).end ≡ Refused InvalidModelState → SixElsewhere start
six-elsewhere start v cs fs c f e =
    go (subst (EndsWell (Allowed start.table (ready_at start))) e
    (called-keeps (Allowed start.table (ready_at start)) (ReadySo start.table (ready_at start)) (carried start.table (ready_at start)) c (left_by start cs) (happened start cs) f
    (calls-keeps (Allowed start.table (ready_at start)) (ReadySo start.table (ready_at start)) (carried start.table (ready_at start)) cs start [] fs (record { valid = v; table = refl; ready = λ i h. h }))).1 refl)
  where
    go : SixFrom start.table (ready_at start) → SixElsewhere start
    go (inl c) = inl c
    go (inr (i, b, e, n)) = inr (handed start v i b e n)
