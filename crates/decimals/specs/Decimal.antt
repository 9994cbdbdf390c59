-- The clock in decimal: "at most six places after the point, rounded to nearest". Definitions only. Assumes nothing.
use Rattle.std.specs.Prelude.{ℕ, ◌*◌, ◌/◌, ◌%◌, cond, Float}
use Rattle.std.specs.Float.Ieee.Nearest.{closest}
use Rattle.std.specs.Float.Ieee.Positive.{num, den}
use Rattle.times.specs.Time.{is_time}
use Rattle.decimals.specs.declared.Micros.{Micros}

-- "at most six places after the point": how many of the last place are 1
abbrev pub million : ℕ
million = 1000000

-- "rounded to nearest": the whole number nearest to a / d, and of two that are equally near the even one
abbrev pub nearest : ℕ → ℕ → ℕ
nearest a d = closest a d

-- the millionths in a finite value, which is the fraction num x / den x
unfoldable pub millionths : Float → ℕ
millionths x = nearest (num x * million) (den x)

-- what stands before the point, and the six places after it
abbrev pub placed : ℕ → Micros
placed n = record { whole = n / million; micros = n % million }

-- of a time. What is no time is 0
unfoldable pub micros_of : Float → Micros
micros_of x = placed (cond (is_time x) (millionths x) 0)
