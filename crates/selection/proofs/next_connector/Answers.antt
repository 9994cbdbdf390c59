-- `selection::next_connector` meets its contract. The loop: each connector from where it began to before `looked` has been looked at once, and what is left of the search is the whole. Assumes nothing.
use mathlib.Core.Path.{refl}
use native.Mathlib.Omega.{arith}
use Rattle.selection.specs.Looking.{looking-start, looking-end, looking-on, looking-found}
use Rattle.selection.specs.SelectingLaws.{connector-seen}
use Rattle.selection.proofs.next_connector.Goals as goal

pub returns-then-in_use-looked : goal.returns-then-in_use-looked
returns-then-in_use-looked c =
    looking-end _ _ _ _ c.args.looked.now (looking-start _ _ _ _) c.if-in_use-looked.true

pub loop-start-init : goal.loop-start-init
loop-start-init c =
    (refl, refl, refl, looking-start _ _ _ _)

pub look_at-requires : goal.look_at-requires
look_at-requires c =
    omega arith

pub returns-in-Some : goal.returns-in-Some
returns-in-Some c =
    let a = c.args in
    let l = c.loop-start in
    let sees = connector-seen a.connectors.now a.source a.port l.looked l.start l.invariant.2 _ c.look_at.ensures.sees in
    looking-found _ _ _ _ l.looked l.invariant.3 (omega (arith, c.loop-start-test.true)) _ sees _ c.look_at.ensures.once _ c.in-Some.is

pub loop-start-smaller : goal.loop-start-smaller
loop-start-smaller c =
    omega (arith, c.loop-start-test.true)

pub loop-start-preserved : goal.loop-start-preserved
loop-start-preserved c =
    let a = c.args in
    let l = c.loop-start in
    let sees = connector-seen a.connectors.now a.source a.port l.looked l.start l.invariant.2 _ c.look_at.ensures.sees in
    (l.invariant.0, l.invariant.1, omega (arith, c.look_at.ensures.once), looking-on _ _ _ _ l.looked l.invariant.3 (omega (arith, c.loop-start-test.true)) _ sees _ c.look_at.ensures.once c.in-None.is)

pub returns : goal.returns
returns c =
    let l = c.loop-start in
    looking-end _ _ _ _ l.looked l.invariant.3 (omega (arith, c.loop-start-test.false))
