-- `copying::lay_down` meets its contract: the words of the messages, copied, are the messages laid down. Assumes nothing.
use Prim.Native.Nat.{◌+◌, ◌*◌, ◌≤◌}
use mathlib.Core.Path.{◌∙◌}
use native.Mathlib.Omega.{arith}
use lib.ListN.{length}
use Rattle.copying.specs.CopiedLaws.{laid-copied}
use Rattle.copying.proofs.lay_down.Goals as goal

pub returns : goal.returns
returns c =
    let a = c.args in
    let room : a.active + a.count * 6 ≤ length a.mem.now = omega (arith, c.requires.0, c.requires.1) in
    c.copy.ensures ∙ laid-copied a.active a.mem.now a.count a.rows.now room c.requires.3
