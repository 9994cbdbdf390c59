-- The run of an order, by the run of another that it asks for: `step_n` and `step_until` as runs with a limit. Assumes nothing.
use Rattle.std.specs.Prelude.{ℕ, ◌≡◌, refl, true, false, List, length, T, Float}
use Rattle.std.proofs.Common.{sym, ap, subst, ◌∙◌}
use Rattle.times.specs.Time.{is_time, never}
use Rattle.rules.specs.declared.Refusal.TheVariants.{BadTime}
use Rattle.rules.specs.Sizes.{is_word}
use Rattle.rules.specs.Calls.{Ran, Refused, ended, step_n, steps_until}
use Rattle.rerunning.specs.Running.{sim_of}
use Rattle.engine.specs.declared.Report.{Report}
use Rattle.engine.specs.Telling.{end_is}
use Rattle.engine.specs.RunLaws.{done_for, as_done, step_n-run, until-bad, until-good}
use Rattle.storing.specs.State.{kept, is_stored}
use Rattle.storing.specs.StoredLaws.{stored_of, kept_same}
use Rattle.lent_runs.specs.declared.Order.{Order}
use Rattle.lent_runs.specs.declared.Order.TheVariants as order
use Rattle.lent_runs.specs.Reported.{ordered, refused_report, Reported}

-- a run with a limit asks for no other
abbrev pub rank : Order → ℕ
rank (order.Steps count) = 1
rank (order.Until until allowance) = 1
rank (order.Bounded until bound) = 0

module _ (services : List Float) (room : ℕ) (state : List ℕ) (stored : T (is_stored state)) where
  -- what is reported, and the state after it
  abbrev Obeyed : Ran → Report → (before laid after : List ℕ) → Type 0
  Obeyed ran r before laid after = Reported r ran before laid × (after ≡ kept state ran.sim)

  abbrev pub Obeys : Order → Report → (before laid after : List ℕ) → Type 0
  Obeys o r before laid after = Obeyed (ordered o services room (sim_of state)) r before laid after

  pub steps-done : T (is_word (length services)) → (o : Order) (count : ℕ) → o ≡ order.Steps count → (x : Float) → x ≡ never → (r r' : Report) (before laid after : List ℕ)
      → Obeys (order.Bounded x count) r before laid after → r'.steps ≡ r.steps → r'.written ≡ r.written → end_is r'.end ≡ done_for (end_is r.end) → Obeys o r' before laid after
  steps-done short o count is x e r r' before laid after (h, left) steps written end =
      let run : step_n services room count (sim_of state) ≡ as_done (steps_until services x room count (sim_of state)) =
      step_n-run services short room count state (stored_of state stored) ∙ ap (λ (y : Float). as_done (steps_until services y room count (sim_of state))) (sym e) in
      subst (λ (o : Order). Obeys o r' before laid after) (sym is)
      (subst (λ (ran : Ran). Obeyed ran r' before laid after) (sym run)
      (record { end = end ∙ ap done_for h.end; steps = steps ∙ h.steps; written = written ∙ h.written; rows = h.rows }, left))

  module _ (o : Order) (until : Float) (allowance : ℕ) (is : o ≡ order.Until until allowance) where
    pub until-refused : is_time until ≡ false → (r : Report) → r ≡ refused_report BadTime → (rows : List ℕ) → Obeys o r rows rows state
    until-refused bad r e rows =
        subst (λ (o : Order). Obeys o r rows rows state) (sym is)
        (subst (λ (ran : Ran). Obeyed ran r rows rows state) (sym (until-bad services until room allowance state (stored_of state stored) bad))
        (subst (λ (r : Report). Reported r (ended (Refused BadTime) (sim_of state)) rows rows) (sym e) (record { end = refl; steps = refl; written = refl; rows = refl }), sym (kept_same state stored)))

    pub until-run : is_time until ≡ true → (r : Report) (before laid after : List ℕ) → Obeys (order.Bounded until allowance) r before laid after → Obeys o r before laid after
    until-run good r before laid after h =
        subst (λ (o : Order). Obeys o r before laid after) (sym is)
        (subst (λ (ran : Ran). Obeyed ran r before laid after) (sym (until-good services until room allowance state (stored_of state stored) good)) h)

  pub bounded-run : (o : Order) (until : Float) (bound : ℕ) → o ≡ order.Bounded until bound → (r : Report) (before laid after : List ℕ) → Obeys (order.Bounded until bound) r before laid after → Obeys o r before laid after
  bounded-run o until bound is r before laid after h = subst (λ (o : Order). Obeys o r before laid after) (sym is) h
