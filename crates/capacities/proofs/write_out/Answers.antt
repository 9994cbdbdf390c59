-- `capacities::write_out` meets its contract. The invariant: what is written and the migration of the rest are the migration of all, and so are the counts. Assumes nothing.
use Prim.Native.Nat.{ℕ, ◌+◌, ◌*◌, ◌≤◌}
use mathlib.Core.Path.{◌≡◌, refl, sym, ap, ◌∙◌, subst}
use mathlib.Core.List.{List, ◌++◌}
use native.Mathlib.Omega.{arith}
use lib.ListN.{length, take, drop, length-drop, take-append-drop}
use Rattle.rules.specs.Layout.{omitted_in}
use Rattle.capacities.specs.Migration.{row_written_out, written_out}
use Rattle.memory.specs.Words.{replaced}
use Rattle.memory.specs.Places.{lent-own, put_back, replaced-length}
use Rattle.capacities.specs.Parts.{replaced-behind}
use Rattle.capacities.specs.Rows.{counted_of, counted-on, counted-one, counted-short, written-short, row-is-long, whole_same}
use Rattle.capacities.proofs.write_out.Goals as goal

pub loop-row-preserved : goal.loop-row-preserved
loop-row-preserved c =
    let l = c.loop-row in
    let start : ℕ = 10 * l.row in
    let models = l.models in
    let row = c.write_row-count.new.cells in
    let first = c.args.models.now in
    let room : start + 10 ≤ length models = omega (arith, l.invariant.0, c.loop-row-test.true) in
    let lent = lent-own start 10 models in
    let counts : c.write_row-count.result ≡ counted_of (take 10 (drop start models)) = c.write_row-count.ensures.counts ∙ ap counted_of lent in
    let writes : row ≡ row_written_out (take 10 (drop start models)) = c.write_row-count.ensures.writes ∙ ap row_written_out lent in
    let one = counted-one (take 10 (drop start models)) in
    let next : start + 10 ≡ 10 * (l.row + 1) = omega arith in
    let ten = row-is-long start models row room writes in
    subst
    (λ (z : List ℕ). (length z ≡ length first)
    × (l.count + c.write_row-count.result ≤ l.row + 1)
    × (l.count + c.write_row-count.result + omitted_in (drop (10 * (l.row + 1)) z) ≡ omitted_in first)
    × (take (10 * (l.row + 1)) z ++ written_out (drop (10 * (l.row + 1)) z) ≡ written_out first))
    (sym (put_back start 10 models row)) (
      replaced-length start 10 row models room ten ∙ l.invariant.0,
      omega arith,
      ap (λ (z : List ℕ). l.count + c.write_row-count.result + omitted_in z) (replaced-behind start 10 row models room ten (10 * (l.row + 1)) (omega arith) ∙ ap (λ (n : ℕ). drop n models) (sym next))
          ∙ counted-on start l.count c.write_row-count.result (omitted_in first) models (take 10 (drop start models)) refl counts l.invariant.2,
      ap (λ (n : ℕ). take n (replaced start 10 row models) ++ written_out (drop n (replaced start 10 row models))) (sym next) ∙ whole_same start models row room writes ∙ l.invariant.3,
    )

pub returns-clause-counts : goal.returns-clause-counts
returns-clause-counts c =
    let l = c.loop-row in
    let left = length-drop (10 * l.row) l.models in
    let none = counted-short (drop (10 * l.row) l.models) (omega (arith, l.invariant.0, c.loop-row-test.false)) in
    omega (arith, none, l.invariant.2)

pub returns-clause-writes : goal.returns-clause-writes
returns-clause-writes c =
    let l = c.loop-row in
    let left = length-drop (10 * l.row) l.models in
    let short = written-short (drop (10 * l.row) l.models) (omega (arith, l.invariant.0, c.loop-row-test.false)) in
    sym (take-append-drop (10 * l.row) l.models) ∙ ap (λ (z : List ℕ). take (10 * l.row) l.models ++ z) (sym short) ∙ l.invariant.3
