-- `bench_lines::read_form` meets its contract. The loop's invariant: the fields from here on give what the whole form gives. Assumes nothing.
use Rattle.std.specs.Prelude.{◌≡◌, ◌*◌, ◌≤◌, length, drop}
use Rattle.bench_lines.specs.Forms.{fields_in}
use Rattle.bench_lines.specs.Reading.{read_fields}
use Rattle.bench_lines.proofs.read_form.Given as goal

abbrev pub invariant-loop-k : goal.invariant-loop-k
invariant-loop-k l =
    let p = l.progress in
    let q = l.initial.progress in
    (p.at ≤ length l.line) × (read_fields l.line (fields_in (drop (l.k * 4) l.form)) p.or p.at p.cells ≡ read_fields l.line (fields_in l.form) q.or q.at q.cells)
