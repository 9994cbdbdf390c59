-- `posting::lay_head` meets its contract. Assumes nothing.
use Prim.Native.Nat.{ℕ, ◌+◌}
use mathlib.Core.Path.{◌≡◌, sym, ap, ◌∙◌}
use mathlib.Core.List.{List, [], ◌∷◌}
use native.Mathlib.Omega.{arith}
use lib.ListN.{length, set}
use Rattle.posting.specs.Laying.{laid}
use Rattle.posting.specs.LayingLaws.{laid_one, laid_more}
use Rattle.posting.specs.NewLaws.{head-new}
use Rattle.posting.proofs.lay_head.Goals as goal

pub returns : goal.returns
returns c =
    let a = c.args in
    let three = c.lay_three.new.state in
    let long : length three ≡ length a.state.now = c.lay_three.auto.state in
    laid_more a.at (a.at + 3) (0 ∷ c.timer_of-timer.result ∷ 0 ∷ []) (a.begin ∷ []) a.state.now three (set three (a.at + 3) a.begin) (omega arith) c.lay_three.ensures (omega arith) (laid_one (a.at + 3) a.begin three (omega arith))
    ∙ ap (λ (timer : ℕ). laid a.at (0 ∷ timer ∷ 0 ∷ a.begin ∷ []) a.state.now) c.timer_of-timer.ensures
    ∙ ap (λ (words : List ℕ). laid a.at words a.state.now) (sym (head-new a.begin a.kind))
