-- `holding::messages_fit` meets its contract. The invariant: the messages from k on fit exactly if all do. Assumes nothing.
use Prim.Native.Nat.{◌-◌}
use mathlib.Core.Path.{◌≡◌}
use Rattle.holding.specs.WholeLaws.{messages_from}
use Rattle.holding.proofs.messages_fit.Given as goal

abbrev pub invariant-loop-k : goal.invariant-loop-k
invariant-loop-k l = messages_from l.at l.mem l.k (l.count - l.k) ≡ messages_from l.at l.mem 0 l.count
