-- The least of all rows' own timers, taken from the front. Assumes nothing.
use Rattle.std.specs.Prelude.{ℕ, zero, suc, ◌+◌, ◌-◌, ◌≤◌, ◌<◌, ◌≡◌, refl, Bool, true, false, List, map, length, T, Float, if◌then◌else◌}
use Rattle.std.proofs.Common.{sym, ap, ◌∙◌, arith}
use Rattle.std.proofs.lemmas.Simd.{map-map}
use Rattle.std.proofs.Math.Nat.{sub-zero}
use Rattle.std.specs.Float.{binary64}
use Rattle.std.specs.Float.Ieee.{of_bits, lt}
use Rattle.times.specs.Time.{never, is_timer, least_of}
use Rattle.times.proofs.Laws as law
use Rattle.rules.specs.Base.{from}
use Rattle.rules.specs.Table.{Table, kind_at}
use Rattle.rules.specs.Step.{least, least_timer}
use Rattle.rules.proofs.Least.{own_timer, least-is, fitted-fits}
use Rattle.rules.specs.Depth.{passed-again}
use Rattle.memory.specs.Words.{timer_in, held_in}
use Rattle.lookup.specs.Inside.{Inside, table_in, posted_in}
use Rattle.views.specs.World.{begin_of, state_of, states_in, Ready}
use Rattle.views.proofs.WorldLayout.{row_of}
use Rattle.views.proofs.Timers.{own-timer}
use Rattle.views.proofs.Parked.{counts, own-counts}

-- ---- a timer that never runs out changes no least
last-never : (x : Float) → T (is_timer x) → least_of x never ≡ x
last-never x t = sym (law.least-unique x never x t law.never-timer t (law.timers-reflexive x t) (law.timers-never x t) (law.least-le-first x never t law.never-timer))

first-never : (x : Float) → T (is_timer x) → least_of never x ≡ x
first-never x t = law.least-swaps never x law.never-timer t ∙ last-never x t

-- the first stays the least where the second is not below it, and gives way where it is
first-stays : (x y : Float) → lt y x ≡ false → least_of x y ≡ x
unfolding least_of
first-stays x y above = rw above

second-wins : (x y : Float) → lt y x ≡ true → least_of x y ≡ y
unfolding least_of
second-wins x y below = rw below

-- the own timer of a row, and the least of those from `row` to before `end`
abbrev pub own : Table → List ℕ → ℕ → Float
own t mem i = own_timer (state_of t mem i)

abbrev pub least_from : Table → List ℕ → ℕ → ℕ → Float
least_from t mem row end = least (map (own t mem) (from row (end - row)))

timers-from : (f : ℕ → Float) (row n : ℕ) → ((i : ℕ) → i < row + n → T (is_timer (f i))) → T (is_timer (least (map f (from row n))))
timers-from f row zero h = law.never-timer
timers-from f row (suc n) h = law.least-timer (f row) (least (map f (from (suc row) n))) (h row (omega arith)) (timers-from f (suc row) n (λ i l. h i (omega arith)))

module _ (t : Table) (mem : List ℕ) (ready : Ready t mem) (end : ℕ) (whole : end ≡ length t.rows) where
  owned : (i : ℕ) → i < end → T (is_timer (own t mem i))
  owned i l = own-timer t mem i (omega arith) ready

  from-timer : (row : ℕ) → row < end → T (is_timer (least_from t mem (row + 1) end))
  from-timer row l = timers-from (own t mem) (row + 1) (end - (row + 1)) (λ i m. owned i (omega arith))

  from_next : (row : ℕ) → row < end → least_from t mem row end ≡ least_of (own t mem row) (least_from t mem (row + 1) end)
  from_next row l =
      let e : end - row ≡ suc (end - (row + 1)) = omega arith in
      let n : suc row ≡ row + 1 = omega arith in
      ap (λ (k : ℕ). least (map (own t mem) (from row k))) e ∙ ap (λ (k : ℕ). least_of (own t mem row) (least (map (own t mem) (from k (end - (row + 1)))))) n

  -- a row's own timer joins the least so far; one that never runs out leaves it
  join-own : (row : ℕ) → row < end → (x : Float) → T (is_timer x) → least_of (least_of x (own t mem row)) (least_from t mem (row + 1) end) ≡ least_of x (least_from t mem row end)
  join-own row l x h = law.least-groups x (own t mem row) (least_from t mem (row + 1) end) h (owned row l) (from-timer row l) ∙ ap (least_of x) (sym (from_next row l))

  join-never : (row : ℕ) → row < end → own t mem row ≡ never → least_from t mem (row + 1) end ≡ least_from t mem row end
  join-never row l e =
      sym (first-never (least_from t mem (row + 1) end) (from-timer row l))
      ∙ ap (λ (x : Float). least_of x (least_from t mem (row + 1) end)) (sym e)
      ∙ sym (from_next row l)

  abbrev word : ℕ → Float
  word row = of_bits binary64 (timer_in mem row)

  abbrev counting : ℕ → Bool
  counting row = counts (kind_at t row) (held_in mem row)

  own_is : (row : ℕ) → row < end → (b : Bool) → counting row ≡ b → own t mem row ≡ (if b then word row else never)
  own_is row l b e = own-counts (kind_at t row) (begin_of t row) mem row (row_of t mem row (omega arith) ready) ∙ ap (λ (z : Bool). if z then word row else never) e

  -- a row that counts, with its timer below the least so far, gives the least so far
  pub counts-here : (row : ℕ) → row < end → counting row ≡ true → own t mem row ≡ word row
  counts-here row l c = own_is row l true c

  pub join-below : (row : ℕ) → row < end → (x : Float) → T (is_timer x) → counting row ≡ true → lt (word row) x ≡ true → least_of (word row) (least_from t mem (row + 1) end) ≡ least_of x (least_from t mem row end)
  join-below row l x h c below =
      ap (λ (z : Float). least_of z (least_from t mem (row + 1) end)) (sym (second-wins x (word row) below) ∙ ap (least_of x) (sym (counts-here row l c)))
      ∙ join-own row l x h

  -- a row that does not count leaves it
  pub join-uncounted : (row : ℕ) → row < end → (x : Float) → counting row ≡ false → least_of x (least_from t mem (row + 1) end) ≡ least_of x (least_from t mem row end)
  join-uncounted row l x c = ap (least_of x) (join-never row l (own_is row l false c))

  -- and so does one whose timer is not below it, whether it counts or not
  pub join-over : (row : ℕ) → row < end → (x : Float) → T (is_timer x) → lt (word row) x ≡ false → least_of x (least_from t mem (row + 1) end) ≡ least_of x (least_from t mem row end)
  join-over row l x h above = by (counting row) refl
    where
      by : (b : Bool) → counting row ≡ b → least_of x (least_from t mem (row + 1) end) ≡ least_of x (least_from t mem row end)
      by true c = ap (λ (z : Float). least_of z (least_from t mem (row + 1) end)) (sym (ap (least_of x) (counts-here row l c) ∙ first-stays x (word row) above)) ∙ join-own row l x h
      by false c = join-uncounted row l x c

  -- none are left
  pub join-end : (row : ℕ) → end ≤ row → (x : Float) → T (is_timer x) → least_of x (least_from t mem row end) ≡ x
  join-end row l x h = let e : end - row ≡ 0 = omega arith in ap (λ (k : ℕ). least_of x (least (map (own t mem) (from row k)))) e ∙ last-never x h

pub join-start : (state mem : List ℕ) → Inside state → Ready (table_in state) mem → (end : ℕ) → end ≡ length (table_in state).rows
    → least_of never (least_from (table_in state) mem 0 end) ≡ least_timer (table_in state) (states_in (table_in state) mem)
join-start state mem inside ready end whole =
    let t = table_in state in
    first-never (least_from t mem 0 end) (timers-from (own t mem) 0 (end - 0) (λ i l. owned t mem ready end whole i (omega arith)))
    ∙ ap (λ (k : ℕ). least (map (own t mem) (from 0 k))) (sub-zero end ∙ whole)
    ∙ ap least (sym (map-map own_timer (state_of t mem) (from 0 (length t.rows))))
    ∙ sym (least-is t (states_in t mem) (passed-again (posted_in state) t inside.passes) (fitted-fits t (states_in t mem) ready.good.0))
