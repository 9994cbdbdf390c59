-- `posting::clear` meets its contract: the part is filled with zeros. Assumes nothing.
use Prim.Native.Nat.{ℕ, zero, suc, ◌-◌}
use mathlib.Core.Path.{◌≡◌, refl, sym, ap, ◌∙◌}
use native.Mathlib.Omega.{arith}
use mathlib.Core.List.{List, ◌∷◌, ◌++◌}
use lib.ListN.{length, take, drop, replicate}
use Rattle.words.specs.Lists.{part_length}
use Rattle.words.specs.Laying.{zeros, zeros-long}
use Rattle.posting.proofs.clear.Goals as goal

zeros-are : (n : ℕ) → replicate n 0 ≡ zeros n
zeros-are zero = refl
zeros-are (suc n) = ap (λ (z : List ℕ). 0 ∷ z) (zeros-are n)

pub returns : goal.returns
returns c =
    let state = c.args.state.now in
    let start = c.args.start in
    let size = c.args.end - start in
    let many : length (take size (drop start state)) ≡ size = part_length start size state (omega (arith, c.requires)) in
    let filled : c.fill.new.self ≡ zeros size = c.fill.ensures.after (λ y e. e) ∙ ap (λ (n : ℕ). replicate n 0) many ∙ zeros-are size in
    λ i. take start state ++ (filled i ++ drop (sym (zeros-long size) i) (drop start state))
