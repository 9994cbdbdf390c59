-- `times::is_timer` meets its contract: the last line tests for +infinity. Assumes nothing.
use mathlib.Core.Path.{◌≡◌, refl, sym, ap, ◌∙◌}
use mathlib.Core.Bool.{Bool, true, false, ◌||◌}
use lib.Ieee.{Float, nan, inf, fin, eq}
use Rattle.times.specs.Time.{is_timer, is_never, never}
use Rattle.times.proofs.is_timer.Goals as goal

never-test : (x : Float) → eq x never ≡ is_never x
unfolding eq
never-test nan = refl
never-test (inf true) = refl
never-test (inf false) = refl
never-test (fin s m e) = refl

pub returns-then-is_time : goal.returns-then-is_time
unfolding is_timer
returns-then-is_time c = let x = c.args.x in sym (ap (λ (t : Bool). t || is_never x) (sym c.is_time.ensures ∙ c.if-is_time.true))

pub returns : goal.returns
unfolding is_timer
returns c = let x = c.args.x in
    ap (eq x) c.never.ensures ∙ never-test x ∙ sym (ap (λ (t : Bool). t || is_never x) (sym c.is_time.ensures ∙ c.if-is_time.false))
