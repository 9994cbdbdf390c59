-- How many words of its own a row has, by the kind that a reader names; and where the last row's end. Assumes nothing.
use Rattle.std.specs.Prelude.{ℕ, zero, suc, ◌+◌, ◌<◌, ◌≡◌, refl, List, [], ◌∷◌, length, get_or}
use Rattle.std.proofs.Common.{sym, ap, ◌∙◌, arith}
use Rattle.rules.specs.Table as Table
use Rattle.rules.specs.Table.{Table, no_row, kind_at}
use Rattle.table.specs.declared.Kind.{Kind}
use Rattle.table.specs.declared.Kind.TheVariants as kind
use Rattle.table.specs.Readers.{named}
use Rattle.memory.specs.Words.{width_of}
use Rattle.views.specs.World.{widths_of, begin_of, end_of}

-- the width of a kind by its name
abbrev width_named : Kind → ℕ
width_named (kind.Processor p) = 64
width_named (kind.Batcher b) = 64
width_named (kind.Stopwatch w) = 192
width_named kind.Coupled = 64

width-named : (k : Table.Kind) → width_named (named k) ≡ width_of k
width-named (Table.processor p) = refl
width-named (Table.batcher b) = refl
width-named (Table.stopwatch w) = refl
width-named Table.coupled = refl

pub width_read : (k : Table.Kind) (read known : Kind) → read ≡ named k → read ≡ known → width_named known ≡ width_of k
width_read k read known e f = ap width_named (sym f ∙ e) ∙ width-named k

-- ---- the last row's own words end where all do
pub widths-next : (rows : List Table.Row) (i : ℕ) → i < length rows → widths_of rows (suc i) ≡ widths_of rows i + width_of (get_or rows i no_row).kind
widths-next [] i l = absurd (omega arith)
widths-next (r ∷ rs) zero l = omega arith
widths-next (r ∷ rs) (suc i) l = let h = widths-next rs i (omega arith) in omega arith

pub end-last : (t : Table) (i : ℕ) → suc i ≡ length t.rows → begin_of t i + width_of (kind_at t i) ≡ end_of t
end-last t i e = let h = widths-next t.rows i (omega arith) in let w = ap (widths_of t.rows) e in omega arith

-- without rows there are only the words before all heads
pub end_none : (t : Table) → length t.rows ≡ 0 → end_of t ≡ 3
end_none t e = let w = ap (widths_of t.rows) e in omega arith
