-- What a time and a timer are. Definitions only. Assumes nothing.
use Rattle.std.specs.Prelude.{Bool, false, not, ◌&&◌, ◌||◌, cond, pos, Float}
use Rattle.std.specs.Float.{nan, inf, fin, binary64}
use Rattle.std.specs.Float.Ieee.{fits, le, lt}

-- "with its sign bit clear". -0 has it set, and a NaN is not counted
abbrev pub clear : Float → Bool
clear nan = false
clear (inf s) = not s
clear (fin s m e) = not s

-- "infinite": +infinity
abbrev pub is_never : Float → Bool
is_never nan = false
is_never (inf s) = not s
is_never (fin s m e) = false

-- "timer 0": +0
abbrev pub instant : Float
instant = fin false 0 (pos 0)

-- "timer infinite"
abbrev pub never : Float
never = inf false

-- "a value of at most 2^60"
abbrev pub latest : Float
latest = fin false 1 (pos 60)

-- "A time is an f64 with its sign bit clear and a value of at most 2^60."
unfoldable pub is_time : Float → Bool
is_time x = fits binary64 x && clear x && le x latest

-- "each timer is a time or infinite"
unfoldable pub is_timer : Float → Bool
is_timer x = is_time x || is_never x

-- "the least timer": the smaller of two, and the first where they are equal
unfoldable pub least_of : Float → Float → Float
least_of a b = cond (lt b a) b a
