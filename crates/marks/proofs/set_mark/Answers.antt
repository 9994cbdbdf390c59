-- `marks::set_mark` meets its contract: each way out is one of a mark's four answers. Assumes nothing.
use Rattle.std.proofs.Common.{◌≡◌, ◌+◌, ◌<◌, ◌≤◌, true, length, sym, ap, ◌∙◌, add-one, arith}
use Rattle.words.specs.Search.{first_from}
use Rattle.words.specs.SearchLaws.{first-at}
use Rattle.std.proofs.Common.{Ok}
use Rattle.marks.specs.Jobs.{whole_in}
use Rattle.marks.specs.Marking.{with_name, mark_at}
use Rattle.marks.specs.MarkingLaws.{whole_says, marked-short, marked-at, marked-full, marked-new}
use Rattle.marks.specs.SweepLaws.{begun}
use Rattle.marks.specs.Sweeps.{is_named_at}
use Rattle.marks.proofs.set_mark.Goals as goal

pub returns-then-not-whole : goal.returns-then-not-whole
returns-then-not-whole c =
    sym (marked-short _ _ _ _ _ (sym c.whole.ensures ∙ c.if-not-whole.true))

pub find-requires : goal.find-requires
find-requires c =
    let is_whole : whole_in c.args.held c.args.words.now ≡ true = sym c.whole.ensures ∙ c.if-not-whole.false in
    let bounds : (c.args.held ≤ 64) × (192 ≤ length c.args.words.now) = let a = c.args in whole_says a.held a.words.now (is_whole) in
    omega (arith, bounds.0, bounds.1)

pub put_mark-requires : goal.put_mark-requires
put_mark-requires c =
    let is_whole : whole_in c.args.held c.args.words.now ≡ true = sym c.whole.ensures ∙ c.if-not-whole.false in
    let bounds : (c.args.held ≤ 64) × (192 ≤ length c.args.words.now) = let a = c.args in whole_says a.held a.words.now (is_whole) in
    let seen : c.find.result ≡ first_from (is_named_at c.args.words.now c.args.name) 0 c.args.held = let a = c.args in c.find.ensures ∙ begun (first_from (is_named_at a.words.now a.name) 0) a.held in
    let l = bounds in
    let k = c.in-Some.k in
    let a = first-at _ 0 c.args.held k (sym (seen) ∙ c.in-Some.is) in
    let h : k < 64 = omega (arith, l.0, a.1) in
    (h, l.1)

pub returns-in-Some : goal.returns-in-Some
returns-in-Some c =
    let is_whole : whole_in c.args.held c.args.words.now ≡ true = sym c.whole.ensures ∙ c.if-not-whole.false in
    let seen : c.find.result ≡ first_from (is_named_at c.args.words.now c.args.name) 0 c.args.held = let a = c.args in c.find.ensures ∙ begun (first_from (is_named_at a.words.now a.name) 0) a.held in
    let a = c.args in
    ap (λ l. (Ok a.held, l)) c.put_mark.ensures
    ∙ sym (marked-at a.mark a.held a.name a.clock a.words.now (is_whole) _ (sym (seen) ∙ c.in-Some.is))

pub returns-then-held-eq64 : goal.returns-then-held-eq64
returns-then-held-eq64 c =
    let is_whole : whole_in c.args.held c.args.words.now ≡ true = sym c.whole.ensures ∙ c.if-not-whole.false in
    let bounds : (c.args.held ≤ 64) × (192 ≤ length c.args.words.now) = let a = c.args in whole_says a.held a.words.now (is_whole) in
    let seen : c.find.result ≡ first_from (is_named_at c.args.words.now c.args.name) 0 c.args.held = let a = c.args in c.find.ensures ∙ begun (first_from (is_named_at a.words.now a.name) 0) a.held in
    let a = c.args in
    let full : a.held ≡ 64 = omega (arith, bounds.0, c.if-held-eq64.true) in
    sym (marked-full a.mark a.held a.name a.clock a.words.now (is_whole) (sym (seen) ∙ c.in_default.is) full)

pub put_name-requires : goal.put_name-requires
put_name-requires c =
    let is_whole : whole_in c.args.held c.args.words.now ≡ true = sym c.whole.ensures ∙ c.if-not-whole.false in
    let bounds : (c.args.held ≤ 64) × (192 ≤ length c.args.words.now) = let a = c.args in whole_says a.held a.words.now (is_whole) in
    let l = bounds in
    (omega (arith, l.0), l.1)

pub put_mark-requires-2 : goal.put_mark-requires-2
put_mark-requires-2 c =
    let is_whole : whole_in c.args.held c.args.words.now ≡ true = sym c.whole.ensures ∙ c.if-not-whole.false in
    let bounds : (c.args.held ≤ 64) × (192 ≤ length c.args.words.now) = let a = c.args in whole_says a.held a.words.now (is_whole) in
    let l = bounds in
    (omega (arith, l.0, c.if-held-eq64.false), omega (arith, l.1, c.put_name.auto.words))

pub overflow_add-result : goal.overflow_add-result
overflow_add-result c =
    let is_whole : whole_in c.args.held c.args.words.now ≡ true = sym c.whole.ensures ∙ c.if-not-whole.false in
    let bounds : (c.args.held ≤ 64) × (192 ≤ length c.args.words.now) = let a = c.args in whole_says a.held a.words.now (is_whole) in
    omega (arith, bounds.0)

pub returns : goal.returns
returns c =
    let is_whole : whole_in c.args.held c.args.words.now ≡ true = sym c.whole.ensures ∙ c.if-not-whole.false in
    let seen : c.find.result ≡ first_from (is_named_at c.args.words.now c.args.name) 0 c.args.held = let a = c.args in c.find.ensures ∙ begun (first_from (is_named_at a.words.now a.name) 0) a.held in
    let a = c.args in
    ap (λ l. (Ok (a.held + 1), l)) (c.put_mark-2.ensures ∙ ap (mark_at a.mark a.clock a.held) c.put_name.ensures)
    ∙ ap (λ h. (Ok h, mark_at a.mark a.clock a.held (with_name a.held a.name a.words.now))) (add-one a.held)
    ∙ sym (marked-new a.mark a.held a.name a.clock a.words.now (is_whole) (sym (seen) ∙ c.in_default.is) c.if-held-eq64.false)
