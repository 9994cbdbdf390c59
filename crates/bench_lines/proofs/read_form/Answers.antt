-- `bench_lines::read_form` meets its contract. The loop's invariant: the fields from here on give what the whole form gives. Assumes nothing.
use Rattle.std.proofs.Common.{◌≡◌, ◌+◌, ◌*◌, [], length, drop, refl, sym, ap, ◌∙◌, arith, rules, drop_of_length-le}
use Rattle.std.proofs.lemmas.Result.{err_from_is_err_and}
use Rattle.bench_lines.specs.Forms.{fields_in, field_coded}
use Rattle.bench_lines.specs.Reading.{course_of, read_field, read_fields}
use Rattle.bench_lines.specs.ReadingLaws.{field_next, fields-on, fields-fail}
use Rattle.bench_lines.proofs.read_form.Goals as goal

pub loop-k-init : goal.loop-k-init
loop-k-init c = (c.requires, refl)

pub returns-in_err-progress : goal.returns-in_err-progress
returns-in_err-progress c =
    let line = c.args.line.now in
    let l = c.loop-k in
    let p = l.progress in
    let form = c.form_of-form.result in
    let whole : length form ≡ 32 = search rules in
    let next = field_next form l.k (omega arith) in
    let read = c.read_field.ensures.1 ∙ ap (λ d. read_field line d p.or p.at p.cells) c.field_in.ensures in
    let fails = fields-fail line (field_coded form l.k) (fields_in (drop ((l.k + 1) * 4) form)) p.or p.at p.cells c.read_field.result read _ c.in_err-progress.was in
    let err = err_from_is_err_and c.from_residual.result c.from_residual.ensures.1 in
    rw (err.1, err.2) (c.in_err-progress.ensures.0, sym (ap course_of c.in_err-progress.was) ∙ fails ∙ ap (λ fs. read_fields line fs p.or p.at p.cells) (sym next) ∙ l.invariant.1 ∙ rw (c.form_of-form.ensures, c.start_of.ensures))

pub loop-k-preserved : goal.loop-k-preserved
loop-k-preserved c =
    let line = c.args.line.now in
    let l = c.loop-k in
    let p = l.progress in
    let form = c.form_of-form.result in
    let whole : length form ≡ 32 = search rules in
    let next = field_next form l.k (omega arith) in
    let read = c.read_field.ensures.1 ∙ ap (λ d. read_field line d p.or p.at p.cells) c.field_in.ensures in
    let goes = fields-on line (field_coded form l.k) (fields_in (drop ((l.k + 1) * 4) form)) p.or p.at p.cells c.read_field.result read _ c.in_ok-progress.was in
    (c.in_ok-progress.ensures.0, sym (ap (λ fs. read_fields line fs p.or p.at p.cells) next ∙ goes) ∙ l.invariant.1)

pub returns : goal.returns
returns c =
    let l = c.loop-k in
    let form = c.form_of-form.result in
    let whole : length form ≡ 32 = search rules in
    let done : drop (l.k * 4) form ≡ [] = drop_of_length-le form {i = l.k * 4} (omega arith) in
    (l.invariant.0, (rw done at l.invariant.1) ∙ rw (c.form_of-form.ensures, c.start_of.ensures))
