-- `marks::fits_at` meets its contract: each way out is one of the tests. Assumes nothing.
use Rattle.std.proofs.Common.{◌≡◌, true, false, ◌+◌, leb, get_or, sym, ◌∙◌, arith}
use borrow.Author.Tests.{lt-leb}
use Rattle.marks.specs.Jobs.{mark_fits}
use Rattle.marks.specs.SweepLaws.{content-low, content-high, none-found}
use Rattle.marks.specs.Sweeps.{fit_at}
use Rattle.marks.proofs.fits_at.Goals as goal
use Rattle.marks.proofs.fits_at.Goals.{then-name-le4294967295, else-name-le4294967295, then-is_mark, else-is_mark}

pub returns-then-is_mark-2 : goal.returns-then-is_mark-2
unfolding fit_at
returns-then-is_mark-2 c =
    let words = c.args.words.now in
    let k = c.args.k in
    elim c.if-is_mark.branch [
      | then-is_mark v ↦ elim c.if-name-le4294967295.branch [
        | then-name-le4294967295 w ↦
            let start : mark_fits (get_or words (64 + k) 0) ≡ true = cc in
            let stop : mark_fits (get_or words (128 + k) 0) ≡ true = cc in
            rw (content-low _ w.if-name-le4294967295.true, start, stop, sym c.find.ensures) (none-found _ _ c.is_none.ensures)
        | else-name-le4294967295 w ↦
            let low : leb (get_or words k 0) 4294967295 ≡ false = lt-leb (get_or words k 0) 4294967295 w.if-name-le4294967295.false in
            absurd (let z : ⊥ = cc in z)
      ]
      | else-is_mark v ↦ absurd (let z : ⊥ = cc in z)
    ]

pub returns-else-is_mark-2 : goal.returns-else-is_mark-2
unfolding fit_at
returns-else-is_mark-2 c =
    let words = c.args.words.now in
    let k = c.args.k in
    elim c.if-is_mark.branch [
      | then-is_mark v ↦ elim c.if-name-le4294967295.branch [
        | then-name-le4294967295 w ↦
            let start : mark_fits (get_or words (64 + k) 0) ≡ true = cc in
            let stop : mark_fits (get_or words (128 + k) 0) ≡ false = cc in
            c.if-is_mark-2.false ∙ sym (rw (content-low _ w.if-name-le4294967295.true, start, stop))
        | else-name-le4294967295 w ↦ c.if-is_mark-2.false ∙ sym (rw (content-high (get_or words k 0) (omega arith)))
      ]
      | else-is_mark v ↦ elim c.if-name-le4294967295.branch [
        | then-name-le4294967295 w ↦
            let start : mark_fits (get_or words (64 + k) 0) ≡ false = cc in
            c.if-is_mark-2.false ∙ sym (rw (content-low _ w.if-name-le4294967295.true, start))
        | else-name-le4294967295 w ↦ c.if-is_mark-2.false ∙ sym (rw (content-high (get_or words k 0) (omega arith)))
      ]
    ]
