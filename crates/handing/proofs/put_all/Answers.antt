-- `handing::put_all` meets its contract. The loop: what is left to put out, after what stands there, is what was to be put out. Assumes nothing.
use Prim.Native.Nat.{ℕ}
use native.Mathlib.Omega.{arith}
use lib.ListN.{length}
use Rattle.rules.specs.Base.{done}
use Rattle.selection.specs.Selected.{sweep-bounds}
use Rattle.lookup.specs.Inside.{table_in}
use Rattle.lookup.specs.InsideLaws.{sizes-in, coupling-fits}
use Rattle.handing.proofs.Putting.{is_out, found-out, put-start, put_on, put_full, put-none}
use Rattle.handing.proofs.put_all.Goals as goal

pub loop-coupling-init : goal.loop-coupling-init
loop-coupling-init c =
    let a = c.args in
    let p = c.requires in
    let s = a.state.now in
    put-start s a.owner a.source a.port a.content a.at a.count a.mem.now p.2

pub returns-clause-puts : goal.returns-clause-puts
returns-clause-puts c =
    let loop = c.loop-coupling in
    let a = c.args in
    let p = c.requires in
    let s = a.state.now in
    put-none s a.owner a.source a.port a.content a.at a.count a.mem.now p.0 p.2 p.1 loop.from loop.held loop.mem loop.invariant (found-out s a.owner a.source a.port a.content a.at a.count a.mem.now loop.from _ _ c.next_output.ensures c.in_default.is)

pub returns-then-held-eq256-clause-puts : goal.returns-then-held-eq256-clause-puts
returns-then-held-eq256-clause-puts c =
    let loop = c.loop-coupling in
    let a = c.args in
    let p = c.requires in
    let s = a.state.now in
    let j = c.in-Some.coupling in
    let found = found-out s a.owner a.source a.port a.content a.at a.count a.mem.now loop.from _ _ c.next_output.ensures c.in-Some.is in
    put_full s a.owner a.source a.port a.content a.at a.count a.mem.now p.0 p.2 p.1 loop.from loop.held loop.mem loop.invariant j found c.if-held-eq256.true

pub overflow_mul-word : goal.overflow_mul-word
overflow_mul-word c =
    let loop = c.loop-coupling in
    let a = c.args in
    let p = c.requires in
    let s = a.state.now in
    let j = c.in-Some.coupling in
    let found = found-out s a.owner a.source a.port a.content a.at a.count a.mem.now loop.from _ _ c.next_output.ensures c.in-Some.is in
    let bounds = sweep-bounds {S = ℕ} (λ k s. done s) (is_out s a.owner a.source a.port a.content a.at a.count a.mem.now) loop.from (length (table_in s).couplings) 0 j found in
    let fits = coupling-fits s p.0 j bounds.1 in
    omega (arith, fits.1, c.coupling_target-to.ensures.1)

pub overflow_add-word : goal.overflow_add-word
overflow_add-word c =
    let loop = c.loop-coupling in
    let a = c.args in
    let p = c.requires in
    let s = a.state.now in
    let j = c.in-Some.coupling in
    let found = found-out s a.owner a.source a.port a.content a.at a.count a.mem.now loop.from _ _ c.next_output.ensures c.in-Some.is in
    let bounds = sweep-bounds {S = ℕ} (λ k s. done s) (is_out s a.owner a.source a.port a.content a.at a.count a.mem.now) loop.from (length (table_in s).couplings) 0 j found in
    let fits = coupling-fits s p.0 j bounds.1 in
    omega (arith, fits.1, c.coupling_target-to.ensures.1)

pub overflow_add-mem : goal.overflow_add-mem
overflow_add-mem c =
    let loop = c.loop-coupling in
    let p = c.requires in
    omega (arith, p.1, loop.invariant.few, loop.invariant.beside.long)

pub bounds-mem-at : goal.bounds-mem-at
bounds-mem-at c =
    let loop = c.loop-coupling in
    let p = c.requires in
    omega (arith, p.1, loop.invariant.few, loop.invariant.beside.long, c.if-held-eq256.false)

pub overflow_add-held : goal.overflow_add-held
overflow_add-held c = omega (arith, c.loop-coupling.invariant.few)

pub overflow_add-from : goal.overflow_add-from
overflow_add-from c =
    let loop = c.loop-coupling in
    let a = c.args in
    let p = c.requires in
    let s = a.state.now in
    let j = c.in-Some.coupling in
    let found = found-out s a.owner a.source a.port a.content a.at a.count a.mem.now loop.from _ _ c.next_output.ensures c.in-Some.is in
    let bounds = sweep-bounds {S = ℕ} (λ k s. done s) (is_out s a.owner a.source a.port a.content a.at a.count a.mem.now) loop.from (length (table_in s).couplings) 0 j found in
    omega (arith, bounds.1, (sizes-in s p.0).2)

pub loop-coupling-smaller : goal.loop-coupling-smaller
loop-coupling-smaller c =
    let loop = c.loop-coupling in
    let a = c.args in
    let s = a.state.now in
    let j = c.in-Some.coupling in
    let found = found-out s a.owner a.source a.port a.content a.at a.count a.mem.now loop.from _ _ c.next_output.ensures c.in-Some.is in
    let bounds = sweep-bounds {S = ℕ} (λ k s. done s) (is_out s a.owner a.source a.port a.content a.at a.count a.mem.now) loop.from (length (table_in s).couplings) 0 j found in
    omega (arith, bounds.0, bounds.1)

pub loop-coupling-preserved : goal.loop-coupling-preserved
loop-coupling-preserved c =
    let loop = c.loop-coupling in
    let a = c.args in
    let p = c.requires in
    let s = a.state.now in
    let j = c.in-Some.coupling in
    let found = found-out s a.owner a.source a.port a.content a.at a.count a.mem.now loop.from _ _ c.next_output.ensures c.in-Some.is in
    put_on s a.owner a.source a.port a.content a.at a.count a.mem.now p.0 p.2 p.1 loop.from loop.held loop.mem loop.invariant j found _ c.coupling_target-to.ensures.1 (omega (arith, c.ranges.content)) (let f = loop.invariant.few in let n = c.if-held-eq256.false in omega arith)
