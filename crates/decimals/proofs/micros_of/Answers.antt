-- `decimals::micros_of` meets its contract: the bits of a time are its own. Assumes nothing.
use mathlib.Core.Path.{◌≡◌, sym, ◌∙◌, subst}
use mathlib.Core.Bool.{Bool, true}
use lib.Dec.{T}
use lib.Ieee.{Float}
use Rattle.times.specs.Time.{is_time}
use Rattle.decimals.specs.Laws.{of_none}
use Rattle.decimals.proofs.Fields.{bits-within, by_bits}
use Rattle.decimals.proofs.micros_of.Goals as goal

time : (x : Float) (r : Bool) → r ≡ is_time x → r ≡ true → T (is_time x)
time x r q t = subst T (sym (sym q ∙ t)) tt

pub returns-then-not-is_time : goal.returns-then-not-is_time
returns-then-not-is_time c = sym (of_none c.args.time (sym c.is_time.ensures ∙ c.if-not-is_time.true))

pub of_bits-requires : goal.of_bits-requires
of_bits-requires c =
    let x = c.args.time in
    bits-within x c.bits_of.result (subst T (sym c.well_formed.0.1) tt) (time x c.is_time.result c.is_time.ensures c.if-not-is_time.false) c.bits_of.ensures

pub returns : goal.returns
returns c =
    let x = c.args.time in
    c.of_bits.ensures ∙ by_bits x c.bits_of.result (subst T (sym c.well_formed.0.1) tt) (time x c.is_time.result c.is_time.ensures c.if-not-is_time.false) c.bits_of.ensures
