-- `posting::lay_anew` meets its contract. Assumes nothing.
use Prim.Native.Nat.{◌*◌}
use native.Mathlib.Omega.{arith}
use lib.ListN.{take}
use Rattle.posting.specs.Laying.{front_words}
use Rattle.posting.specs.LayingLaws.{laid_more}
use Rattle.posting.specs.WholeLaws.{front-room}
use borrow.Author.Rules.{rules}
use Rattle.posting.proofs.lay_anew.Goals as goal

pub lay_words-requires : goal.lay_words-requires
lay_words-requires c =
    let a = c.args in
    let room = front-room a.models.now a.connectors.now a.couplings.now a.active a.clock a.place a.state.now c.requires.0 in
    (search rules, omega (arith, c.lay-end.ensures.ends, c.lay-end.auto.state, c.requires.1))

pub returns : goal.returns
returns c =
    let a = c.args in
    let front = front_words a.models.now a.connectors.now a.couplings.now a.active a.clock a.place in
    laid_more 0 c.lay-end.result front (take (a.active * 6) a.messages.now) a.state.now c.lay-end.new.state c.lay_words.new.state (omega arith) c.lay-end.ensures.lays (omega (arith, c.lay-end.ensures.ends)) c.lay_words.ensures
