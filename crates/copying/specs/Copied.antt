-- Words copied from one slice to the start of another. Definitions only. Assumes nothing.
use Rattle.std.specs.Prelude.{ℕ, List, ◌++◌, take, drop}

-- n words of src, from `start` on, at the start of dst; all beyond stays as it was
abbrev pub copied : ℕ → ℕ → List ℕ → List ℕ → List ℕ
copied start n src dst = take n (drop start src) ++ drop n dst
