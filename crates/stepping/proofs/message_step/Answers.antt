-- `stepping::message_step` meets its contract. Assumes nothing.
use Rattle.std.proofs.lemmas.Result.{err_from_is_err_and}
use Rattle.std.specs.Prelude.{Result, ⊤}
use Rattle.rules.specs.declared.Refusal.{Refusal}
use Prim.Native.Nat.{ℕ, ◌^◌}
use mathlib.Core.Path.{◌≡◌, refl, sym, subst, ◌∙◌}
use mathlib.Core.List.{[], ◌∷◌, ◌++◌}
use native.Mathlib.Omega.{arith}
use lib.ListN.{length}
use lib.Dec.{T, lt→ltb}
use lib.Ieee.{Float}
use Rattle.times.specs.Time.{is_time, instant}
use Rattle.rules.specs.Sizes.{is_word}
use Rattle.rules.specs.Ends.{All}
use Rattle.rules.proofs.Worlds.{MessageFits}
use Rattle.rules.specs.Step as Step
use Rattle.rules.specs.Step.{waited}
use Rattle.memory.specs.Words.{word_at}
use Rattle.lookup.specs.Inside.{table_in}
use Rattle.lookup.specs.InsideLaws.{fine-in}
use Rattle.views.specs.World.{Does}
use Rattle.views.specs.Messages.{messages_in}
use Rattle.stepping.specs.Simulating.{clock_in, active_in, Closed}
use Rattle.stepping.specs.Whole.{taken_as, taken-stops, taken-on, closed-as, ends-done, ends-halfway}
use Rattle.stepping.proofs.message_step.Goals as goal

-- src/lib.rt:146:11
pub take_all-requires : goal.take_all-requires
take_all-requires c =
    let a = c.args in
    let t = table_in a.state.now in
    let s = c.requires.1 in
    let e = c.requires.3 in (
      record { inside = c.requires.0; ready = s.ready; time = subst (λ (x : Float). T (is_time x)) (sym c.requires.2) s.clock },
      (omega arith),
      (let r = s.room in omega arith),
      s.few,
      subst (λ (at : ℕ). All MessageFits (messages_in at (word_at a.mem.now 0) a.mem.now)) (sym e) s.active,
    )

-- src/lib.rt:148:31
pub close-requires : goal.close-requires
close-requires c =
    let a = c.args in
    let t = table_in a.state.now in
    let s = c.requires.1 in
    let mid = c.take_all.new.mem in
    let m = c.in_ok-take_all.ensures.does in
    let long = c.take_all.auto.mem in (
      record { inside = c.requires.0; ready = m.ready; time = subst (λ (x : Float). T (is_time x)) (sym c.requires.2) s.clock },
      c.requires.3,
      (let r = s.room in let e = c.requires.3 in omega (arith, long)),
    )

pub returns-in_err-take_all : goal.returns-in_err-take_all
returns-in_err-take_all c =
    let refused = err_from_is_err_and c.from_residual.result c.from_residual.ensures.1 in
    let a = c.args in
    let t = table_in a.state.now in
    let s = c.requires.1 in
    let mid = c.take_all.new.mem in
    let d = taken_as t a.services.now a.mem.now mid a.clock a.active (word_at a.mem.now 0) c.take_all.result c.requires.2 c.requires.3 refl c.take_all.ensures.does in
    let m = subst (λ (r : Result ⊤ Refusal). Does r (Step.taken t a.services.now (clock_in a.mem.now) (active_in t a.mem.now)) t a.mem.now mid) c.in_err-take_all.was d in
    record { steps = rw (refused.1, refused.2) (taken-stops t a.services.now a.mem.now c.requires.4 s.clock _ m); long = c.take_all.auto.mem }

pub returns-in_err-close : goal.returns-in_err-close
returns-in_err-close c =
    let refused = err_from_is_err_and c.from_residual-in_err-close.result c.from_residual-in_err-close.ensures.1 in
    let a = c.args in
    let t = table_in a.state.now in
    let s = c.requires.1 in
    let mid = c.take_all.new.mem in
    let d = taken_as t a.services.now a.mem.now mid a.clock a.active (word_at a.mem.now 0) c.take_all.result c.requires.2 c.requires.3 refl c.take_all.ensures.does in
    let m = subst (λ (r : Result ⊤ Refusal). Does r (Step.taken t a.services.now (clock_in a.mem.now) (active_in t a.mem.now)) t a.mem.now mid) c.in_ok-take_all.was d in
    let after = c.close.new.mem in
    let short : T (is_word (length a.services.now)) = lt→ltb (length a.services.now) (2 ^ 64) c.well_formed.1.0.0 in
    let shut = subst (λ (r : Result ⊤ Refusal). Closed r t a.services.now (clock_in a.mem.now) mid after) c.in_err-close.was (closed-as t a.services.now a.clock (clock_in a.mem.now) mid after c.close.result c.requires.2 c.close.ensures.closes) in
    record {
      steps = rw (refused.1, refused.2) (ends-halfway t (fine-in a.state.now c.requires.0) a.services.now short a.mem.now s (clock_in a.mem.now) mid (m.more [] ++ waited instant ∷ []) (taken-on t a.services.now a.mem.now c.requires.4 s.clock mid m) _ shut);
      long = c.close.ensures.long ∙ c.take_all.auto.mem;
    }

pub returns : goal.returns
returns c =
    let a = c.args in
    let t = table_in a.state.now in
    let s = c.requires.1 in
    let mid = c.take_all.new.mem in
    let d = taken_as t a.services.now a.mem.now mid a.clock a.active (word_at a.mem.now 0) c.take_all.result c.requires.2 c.requires.3 refl c.take_all.ensures.does in
    let m = subst (λ (r : Result ⊤ Refusal). Does r (Step.taken t a.services.now (clock_in a.mem.now) (active_in t a.mem.now)) t a.mem.now mid) c.in_ok-take_all.was d in
    let after = c.close.new.mem in
    let short : T (is_word (length a.services.now)) = lt→ltb (length a.services.now) (2 ^ 64) c.well_formed.1.0.0 in
    let shut = subst (λ (r : Result ⊤ Refusal). Closed r t a.services.now (clock_in a.mem.now) mid after) c.in_ok-close.was (closed-as t a.services.now a.clock (clock_in a.mem.now) mid after c.close.result c.requires.2 c.close.ensures.closes) in
    let long : length after ≡ length a.mem.now = c.close.ensures.long ∙ c.take_all.auto.mem in
    record { steps = ends-done t (fine-in a.state.now c.requires.0) a.services.now short a.mem.now s (clock_in a.mem.now) mid (m.more [] ++ waited instant ∷ []) (taken-on t a.services.now a.mem.now c.requires.4 s.clock mid m) after long shut; long = long }
