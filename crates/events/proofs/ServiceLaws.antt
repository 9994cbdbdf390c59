-- The service list, read at a place. Assumes nothing.
use mathlib.Core.Path.{◌≡◌, refl}
use mathlib.Core.Bool.{true, false}
use mathlib.Core.List.{List, [], ◌∷◌}
use Prim.Native.Nat.{ℕ, zero, suc, ◌+◌, ◌≤◌, ◌<◌}
use native.Mathlib.Omega.{arith}
use lib.ListN.{length, get_or}
use lib.Ieee.{Float, nan}
use borrow.Author.Tests.{le-leb, lt-leb}
use Rattle.times.specs.Time.{instant, is_time}
use Rattle.rules.specs.declared.Refusal.TheVariants.{NoServiceTime, BadTime}
use Rattle.rules.specs.Base.{refused, done}
use Rattle.rules.specs.Models.{service}

-- within a list it does not matter what stands past its end
any-default : (l : List Float) (i : ℕ) (d e : Float) → i < length l → get_or l i d ≡ get_or l i e
any-default [] i d e h = absurd (omega arith)
any-default (x ∷ xs) zero d e h = refl
any-default (x ∷ xs) (suc i) d e h = any-default xs i d e (let k : suc i < suc (length xs) = h in omega arith)

module _ (services : List Float) (place : ℕ) where
  pub past_the_end : length services ≤ place → refused NoServiceTime ≡ service services place
  unfolding service
  past_the_end h = rw (le-leb _ _ h)

  module _ (h : place < length services) where
    same : get_or services place nan ≡ get_or services place instant
    same = any-default services place nan instant h

    pub a-time : is_time (get_or services place nan) ≡ true → done (get_or services place nan, place + 1) ≡ service services place
    unfolding service
    a-time t =
        let u : is_time (get_or services place instant) ≡ true = rw same at t in
        rw (lt-leb _ _ h, u, same)

    pub no-time : is_time (get_or services place nan) ≡ false → refused BadTime ≡ service services place
    unfolding service
    no-time t =
        let u : is_time (get_or services place instant) ≡ false = rw same at t in
        rw (lt-leb _ _ h, u)
