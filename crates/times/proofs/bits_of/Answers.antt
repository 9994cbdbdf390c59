-- `times::bits_of` meets its contract: only a NaN differs from itself, and its bits are the ones that `to_bits` writes. Assumes nothing.
use mathlib.Core.Path.{◌≡◌, refl, sym, ap, ◌∙◌, subst}
use mathlib.Core.Bool.{false, not}
use lib.Dec.{T}
use lib.Ieee.{Float, nan, inf, fin, binary64, is_nan, ne, to_bits}
use lib.Ieee.Compare.{differs_from_itself}
use Rattle.times.proofs.bits_of.Goals as goal

nan-bits : to_bits binary64 nan ≡ 0x7FF8_0000_0000_0000
unfolding to_bits
nan-bits = refl

-- a value that does not differ from itself is no NaN
no_nan : (x : Float) → ne x x ≡ false → T (not (is_nan x))
unfolding ne is_nan
no_nan nan e = subst T e tt
no_nan (inf s) e = tt
no_nan (fin s m d) e = tt

pub returns-then-x : goal.returns-then-x
returns-then-x c = sym (ap (to_bits binary64) (differs_from_itself c.args.x (subst T (sym c.if-x.true) tt)) ∙ nan-bits)

pub float_to_bits-result : goal.float_to_bits-result
float_to_bits-result c = no_nan c.args.x c.if-x.false
