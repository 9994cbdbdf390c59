-- Each contract of `processor` is met by one answer alone. Assumes nothing.
use Rattle.std.specs.Prelude.{ℕ, ◌≡◌, refl, List, [], length, drop, Result}
use Rattle.rules.specs.declared.Refusal.{Refusal}
use Rattle.std.proofs.Common.{sym, ap, ◌∙◌}
use Rattle.rules.specs.Base.{Outcome}
use Rattle.rules.specs.Simulation as Simulation
use Rattle.rules.specs.Models.{Fate}
use Rattle.events.specs.declared.Taken.{Taken}
use Rattle.processor.specs.declared.ProcessorState.{ProcessorState}
use Rattle.processor.specs.declared.Served.{Served}
use Rattle.events.specs.Meaning.{queue_after, count_of}
use Rattle.processor.specs.Processing as Processing
use Rattle.events.specs.Unique.{same_taken, same-gone}

-- ---- Processor
module _ (s : ProcessorState) (place : ℕ) (queue : List ℕ) where
  pub processor-took-one : (job : ℕ) (o : Outcome (Simulation.ProcessorState × ℕ × Fate)) (a b : Served Taken) → Processing.Took s place queue job a o → Processing.Took s place queue job b o → a ≡ b
  processor-took-one job o a b p q =
      let e = p.tells ∙ sym q.tells in
      let n : a.answer ≡ b.answer = same_taken a.answer b.answer (ap (λ (x : (Simulation.ProcessorState × ℕ) × Outcome Fate). x.1) e) in
      let h : a.next.held ≡ b.next.held = sym p.holds ∙ ap (λ (x : Result Taken Refusal). length (queue_after x queue job)) n ∙ q.holds in
      let f : a.next.phase ≡ b.next.phase = ap (λ (x : (Simulation.ProcessorState × ℕ) × Outcome Fate). x.0.0.phase) e in
      let t : a.next.timer ≡ b.next.timer = ap (λ (x : (Simulation.ProcessorState × ℕ) × Outcome Fate). x.0.0.timer) e in
      let l : a.place ≡ b.place = ap (λ (x : (Simulation.ProcessorState × ℕ) × Outcome Fate). x.0.1) e in
      λ i. record { next = record { phase = f i; timer = t i; held = h i }; place = l i; answer = n i }

  pub processor-went-one : (o : Outcome (Simulation.ProcessorState × ℕ × List ℕ)) (a b : Served ℕ) → Processing.Went s place queue a o → Processing.Went s place queue b o → a ≡ b
  processor-went-one o a b p q =
      let e = p.tells ∙ sym q.tells in
      let n : a.answer ≡ b.answer = same-gone queue a.answer b.answer p.within q.within (ap (λ (x : (Simulation.ProcessorState × ℕ) × Outcome (List ℕ)). x.1) e) in
      let h : a.next.held ≡ b.next.held = sym p.holds ∙ ap (λ (x : Result ℕ Refusal). length (drop (count_of x) queue)) n ∙ q.holds in
      let f : a.next.phase ≡ b.next.phase = ap (λ (x : (Simulation.ProcessorState × ℕ) × Outcome (List ℕ)). x.0.0.phase) e in
      let t : a.next.timer ≡ b.next.timer = ap (λ (x : (Simulation.ProcessorState × ℕ) × Outcome (List ℕ)). x.0.0.timer) e in
      let l : a.place ≡ b.place = ap (λ (x : (Simulation.ProcessorState × ℕ) × Outcome (List ℕ)). x.0.1) e in
      λ i. record { next = record { phase = f i; timer = t i; held = h i }; place = l i; answer = n i }

-- ---- a new state is the rules' fresh one
pub fresh-is : Processing.processor_of Processing.fresh [] ≡ Simulation.fresh_processor
fresh-is = refl
