-- Each contract of `batcher` is met by one answer alone. Assumes nothing.
use Rattle.std.specs.Prelude.{ℕ, ◌≡◌, refl, List, [], length, drop, Result}
use Rattle.rules.specs.declared.Refusal.{Refusal}
use Rattle.std.proofs.Common.{sym, ap, ◌∙◌}
use Rattle.rules.specs.Base.{Outcome}
use Rattle.rules.specs.Simulation as Simulation
use Rattle.rules.specs.Models.{Fate}
use Rattle.events.specs.declared.Taken.{Taken}
use Rattle.batcher.specs.declared.BatcherState.{BatcherState}
use Rattle.events.specs.declared.Handed.{Handed}
use Rattle.events.specs.Meaning.{queue_after, count_of}
use Rattle.batcher.specs.Batching as Batching
use Rattle.events.specs.Unique.{same_taken, same-gone}

-- ---- Batcher
module _ (s : BatcherState) (queue : List ℕ) where
  pub batcher-took-one : (job : ℕ) (o : Outcome Simulation.BatcherState) (a b : Handed BatcherState Taken) → Batching.Took s queue job a o → Batching.Took s queue job b o → a ≡ b
  batcher-took-one job o a b p q =
      let e = p.tells ∙ sym q.tells in
      let n : a.answer ≡ b.answer = same_taken a.answer b.answer (ap (λ (x : Simulation.BatcherState × Outcome Fate). x.1) e) in
      let h : a.next.held ≡ b.next.held = sym p.holds ∙ ap (λ (x : Result Taken Refusal). length (queue_after x queue job)) n ∙ q.holds in
      let f : a.next.phase ≡ b.next.phase = ap (λ (x : Simulation.BatcherState × Outcome Fate). x.0.phase) e in
      let t : a.next.timer ≡ b.next.timer = ap (λ (x : Simulation.BatcherState × Outcome Fate). x.0.timer) e in
      λ i. record { next = record { phase = f i; timer = t i; held = h i }; answer = n i }

  pub batcher-went-one : (o : Outcome (Simulation.BatcherState × List ℕ)) (a b : Handed BatcherState ℕ) → Batching.Went s queue a o → Batching.Went s queue b o → a ≡ b
  batcher-went-one o a b p q =
      let e = p.tells ∙ sym q.tells in
      let n : a.answer ≡ b.answer = same-gone queue a.answer b.answer p.within q.within (ap (λ (x : Simulation.BatcherState × Outcome (List ℕ)). x.1) e) in
      let h : a.next.held ≡ b.next.held = sym p.holds ∙ ap (λ (x : Result ℕ Refusal). length (drop (count_of x) queue)) n ∙ q.holds in
      let f : a.next.phase ≡ b.next.phase = ap (λ (x : Simulation.BatcherState × Outcome (List ℕ)). x.0.phase) e in
      let t : a.next.timer ≡ b.next.timer = ap (λ (x : Simulation.BatcherState × Outcome (List ℕ)). x.0.timer) e in
      λ i. record { next = record { phase = f i; timer = t i; held = h i }; answer = n i }

-- ---- a new state is the rules' fresh one
pub fresh-is : Batching.batcher_of Batching.fresh [] ≡ Simulation.fresh_batcher
fresh-is = refl
