-- `queue_rows::put_out` meets its contract. The loop's invariant: `done` words are written, and the rest is as it was. Assumes nothing.
use mathlib.Core.Path.{◌≡◌, ◌∙◌}
use Prim.Native.Nat.{◌+◌, ◌<◌}
use native.Mathlib.Omega.{arith}
use Rattle.memory.specs.Words.{word_at}
use Rattle.queue_rows.specs.RowLaws.{put-none, put-more, put-content}
use borrow.Author.Rules.{rules}
use Rattle.queue_rows.proofs.put_out.Goals as goal

pub loop-done-init : goal.loop-done-init
loop-done-init c = (search rules, put-none c.args.begin c.args.at c.args.port c.args.mem.now c.requires.1 c.requires.2, search rules)

pub overflow_add-mem-in-loop-done : goal.overflow_add-mem-in-loop-done
overflow_add-mem-in-loop-done c =
    let a = c.args in
    let p = c.requires in
    let l = c.loop-done in
    let h = put-content a.begin a.at a.port a.mem.now p.1 p.2 l.done a.gone (omega arith) p.0 p.3 in
    let g : word_at l.mem (a.begin + l.done) < 4294967296 = rw l.invariant.1 h in
    record { fits = omega arith }

pub loop-done-preserved : goal.loop-done-preserved
loop-done-preserved c =
    let a = c.args in
    let p = c.requires in
    let l = c.loop-done in
    let few : l.done < 64 = omega arith in
    (search rules, rw l.invariant.1 (put-more a.begin a.at a.port a.mem.now p.1 p.2 l.done few), search rules)

pub returns : goal.returns
returns c =
    let a = c.args in
    let l = c.loop-done in
    let all : l.done ≡ a.gone = omega arith in
    l.invariant.1 ∙ rw all
