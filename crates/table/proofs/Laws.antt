-- The bounds of a cell, tests on ports, and lists of tests, said in the code's terms. Assumes nothing.
use Prim.Native.Nat.{ℕ, zero, suc, ◌+◌, ◌-◌, ◌*◌, ◌/◌, ◌≤◌, ◌<◌}
use mathlib.Core.Path.{◌≡◌}
use mathlib.Core.Bool.{Bool, true, false}
use mathlib.Core.List.{List}
use native.Mathlib.Nat.{suc-mul}
use native.Mathlib.Numerals.{add-one}
use native.Mathlib.Omega.{arith}
use borrow.Author.Tests.{lt-ltb}
use Rattle.std.specs.Int.{div_ceil}
use Rattle.std.proofs.lemmas.Grind.{div_ceil_times}
use Rattle.std.proofs.Common.{le_antisymm}
use Rattle.std.proofs.Math.Decide.{dec_le}
use lib.ListN.{length}
use Rattle.rules.specs.Sizes.{is_port}
use Rattle.rules.specs.Base.{some_of}
use Rattle.rules.specs.Table as Table
use Rattle.rules.specs.Layout.{cell}
use Rattle.table.specs.declared.Part.{Part}
use Rattle.table.specs.declared.Part.TheVariants.{Models, Connectors, Couplings}
use Rattle.table.specs.Readers.{row_of}
use Rattle.table.specs.Rows.{count_of, row-whole, rows_fit}
use Rattle.table.specs.Earlier.{coupled-id-is, row-joins-is}
use Rattle.table.specs.Readings.{processor-fits}
use Rattle.table.specs.Searched.{has-row}
use Rattle.table.specs.Agrees.{fits-length}
use Rattle.table.specs.Judged.{judged-is, large-models, large-connectors, large-couplings}
use Rattle.table.specs.Judging.{row_in, earlier_in, cells_fit, row_fits, width_of}

-- ---- ports
pub port-fits : (n : ℕ) → n ≤ 65535 → is_port n ≡ true
port-fits n h = lt-ltb n 65536 (omega arith)

-- ---- cells from `at` to before `end`
module _ (row : List ℕ) (at end : ℕ) where
  -- the cell `at` is not beyond its width
  pub cells-next : {w : ℕ} → at < end → w ≡ cell row at → w ≤ 65535 → cells_fit row at end ≡ cells_fit row (at + 1) end
  unfolding cells_fit
  cells-next h e fits = let m : end - at ≡ suc (end - suc at) = omega arith in rw (m, port-fits (cell row at) (rw e at fits), add-one)

-- ---- a search backwards through the rows before `k`
module _ (test : Table.Row → Bool) (models : List ℕ) where
  pub before-skip : (k : ℕ) → 0 < k → test (row_in models (k - 1)) ≡ false → some_of test (earlier_in models k) ≡ some_of test (earlier_in models (k - 1))
  before-skip zero h e = absurd (omega arith)
  before-skip (suc k) h e = let p : suc k - 1 ≡ k = omega arith in rw (rw p at e, p)

-- ---- a row that keeps its own rules is whole
pub fits_whole : (models : List ℕ) (row : ℕ) → row_fits (row_of 10 models row) ≡ true → row ≤ length models / 10
fits_whole models row e = let w = (row-whole 10 (omega arith) models row).0 (fits-length (row_of 10 models row) e) in omega arith

-- ---- the rows of a part
pub width-wide : (part : Part) → (0 < width_of part) × (width_of part ≤ 10)
width-wide Models = (omega arith, omega arith)
width-wide Connectors = (omega arith, omega arith)
width-wide Couplings = (omega arith, omega arith)

-- the rows of a part are as many as its words fill, a row cut short counted
pub count-ceil : (part : Part) (slice : List ℕ) {width : ℕ} → width ≡ width_of part → div_ceil (length slice) width ≡ count_of (width_of part) slice
count-ceil part slice w = rw w (let d = div_ceil_times (length slice) (width_of part) wide in go (div_ceil (length slice) (width_of part)) d.0 d.1)
  where
    wide : 0 < width_of part
    wide = (width-wide part).0

    go : (rows : ℕ) → length slice ≤ rows * width_of part → rows * width_of part < length slice + width_of part → rows ≡ count_of (width_of part) slice
    go zero l u = le_antisymm (omega arith) ((rows_fit (width_of part) wide slice zero).1 l)
    go (suc rows) l u = elim (dec_le (count_of (width_of part) slice) rows) [
      | yes few ↦
          let m = suc-mul rows (width_of part) in
          let f = (rows_fit (width_of part) wide slice rows).0 few in
          absurd (omega arith)
      | no more ↦ le_antisymm (omega arith) ((rows_fit (width_of part) wide slice (suc rows)).1 l)
    ]

-- ---- laws that whole functions are proved with
pub ruleset coupled_ids = (coupled-id-is)

pub ruleset joining = (row-joins-is, coupled-id-is)

pub ruleset verdicts = (judged-is, large-models, large-connectors, large-couplings)

pub ruleset processors = (processor-fits)

pub ruleset searching = (before-skip)

pub ruleset cells = (cells-next)

pub ruleset rows_found = (has-row)
