-- What the laws of reading a trace speak of: the blocks of a file from one to another, how many rows they have, and the three ways in which a reading of them ends. Assumes nothing.
use Prim.Native.Nat.{ℕ, suc, ◌+◌, ◌-◌, ◌≤◌, ◌<◌}
use Rattle.std.specs.Prelude.{◌≡◌, not, T}
use Rattle.std.proofs.Math.Path.{ap}
use Rattle.std.proofs.Common.{◌∙◌}
use mathlib.Core.List.{List, [], ◌∷◌, ◌++◌, map}
use native.Mathlib.Omega.{arith}
use Rattle.rules.specs.Base.{from}
use Rattle.trace_blocks.specs.declared.BlockKind.{BlockKind}
use Rattle.trace_blocks.specs.Blocks.{sum, count_in, rows_in}
use Rattle.trace_blocks.specs.WordLaws.{sum-append, from_parts}
use Rattle.trace_files.specs.Files.{joined, block_at, is_good}

-- ---- the blocks of a file from `start` to before `stop`: how many rows they say that they have, their rows, and that they are good
abbrev pub count_to : (file : List ℕ) → (start stop : ℕ) → ℕ
count_to file start stop = sum (map (λ i. count_in (block_at file i)) (from start (stop - start)))

abbrev pub rows_to : BlockKind → (file : List ℕ) → (start stop : ℕ) → List ℕ
rows_to kind file start stop = joined (map (λ i. rows_in kind (block_at file i)) (from start (stop - start)))

abbrev pub GoodTo : BlockKind → (file : List ℕ) → (start stop : ℕ) → Type 0
GoodTo kind file start stop = (i : ℕ) → start ≤ i → i < stop → T (is_good kind file i)

pub from_next : (start stop : ℕ) → start < stop → from start (stop - start) ≡ start ∷ from (suc start) (stop - suc start)
from_next start stop l = let e : stop - start ≡ suc (stop - suc start) = omega arith in ap (from start) e

pub from-none : (start stop : ℕ) → stop ≤ start → from start (stop - start) ≡ []
from-none start stop l = let e : stop - start ≡ 0 = omega arith in ap (from start) e

pub map-to : {A : Type 0} (f : ℕ → A) (start i stop : ℕ) → start ≤ i → i ≤ stop → map f (from start (stop - start)) ≡ map f (from start (i - start)) ++ map f (from i (stop - i))
map-to {A} f start i stop a b =
    let e : stop - start ≡ (i - start) + (stop - i) = omega arith in
    let g : start + (i - start) ≡ i = omega arith in
    ap (λ (n : ℕ). map f (from start n)) e ∙ from_parts f start (i - start) (stop - i) ∙ ap (λ (k : ℕ). map f (from start (i - start)) ++ map f (from k (stop - i))) g

pub count-both : (file : List ℕ) (start i stop : ℕ) → start ≤ i → i ≤ stop → count_to file start stop ≡ count_to file start i + count_to file i stop
count-both file start i stop a b =
    let count : ℕ → ℕ = λ k. count_in (block_at file k) in
    ap sum (map-to count start i stop a b) ∙ sum-append (map count (from start (i - start))) (map count (from i (stop - i)))

-- ---- the three ways in which a reading of these blocks ends
-- all are good, and their rows fit
pub record Whole (kind : BlockKind) (file : List ℕ) (start stop room : ℕ) (rows : List ℕ) : Type 0 where
  pub goods : GoodTo kind file start stop
  pub fits : count_to file start stop ≤ room
  pub these : rows ≡ rows_to kind file start stop

-- block i is the first that is bad, and the rows before it fit
pub record FirstBad (kind : BlockKind) (file : List ℕ) (start stop room i : ℕ) : Type 0 where
  pub behind : start ≤ i
  pub inside : i < stop
  pub goods : GoodTo kind file start i
  pub fits : count_to file start i ≤ room
  pub bad : T (not (is_good kind file i))

-- the blocks up to i, and i too, are good, and its rows are the first that do not fit
pub record FirstFull (kind : BlockKind) (file : List ℕ) (start stop room i : ℕ) : Type 0 where
  pub behind : start ≤ i
  pub inside : i < stop
  pub goods : GoodTo kind file start (suc i)
  pub fits : count_to file start i ≤ room
  pub over : room < count_to file start (suc i)
