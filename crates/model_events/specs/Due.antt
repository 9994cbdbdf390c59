-- When a model is due: an atom by its own timer, a Coupled with a message parked in it or a component that is due. Assumes nothing.
use Rattle.std.specs.Prelude.{ℕ, suc, ◌+◌, ◌-◌, ◌≤◌, ◌≡◌, refl, Bool, true, false, List, [], ◌∷◌, map, T, Float, if◌then◌else◌, None, Some}
use Rattle.std.proofs.Common.{sym, ◌∙◌, subst, inl, inr, true≢false, arith, add-one}
use Rattle.std.proofs.Math.Path.{ap}
use Rattle.std.specs.Float.Ieee.{eq, le}
use Rattle.times.specs.Time.{instant, never, is_timer, least_of}
use Rattle.times.specs.Order.{same_test}
use Rattle.times.proofs.Laws.{timers-zero, timers-instant, timers-antisymmetric, least-is-one, least-timer, least-le-first, least-le-second, never-timer, time-timer, instant-time}
use Rattle.rules.specs.Base.{some_of, those, from}
use Rattle.rules.specs.Table.{Kind, processor, batcher, stopwatch, coupled, Table, id_at, kind_at, components, is_coupled}
use Rattle.rules.specs.Simulation.{State, of_processor, of_batcher, of_stopwatch, of_coupled, state_at}
use Rattle.rules.specs.Step.{least, timer_in, timer, due}
use Rattle.rules.specs.Valid.{state_fits}
use Rattle.rules.specs.Ends.{or_l, or_r, or_split, All, nil, ◌&◌, all_any}
use Rattle.rules.specs.Depth.{Fine}
use Rattle.rules.proofs.Least as Least
use Rattle.rules.proofs.Least.{Fitted, own_timer, at-timer}
use Rattle.words.specs.Search.{first_from}
use Rattle.words.specs.SearchLaws.{first-at, first-nothing, search-end}

-- ---- the least of some timers is 0 where one of them is
zero_is : (a : Float) → T (is_timer a) → a ≡ instant → T (eq a instant)
zero_is a t e = (timers-zero a t).1 e

at_zero : (a b : Float) → T (is_timer a) → T (is_timer b) → T (eq (least_of a b) instant) → T (if eq a instant then true else eq b instant)
at_zero a b p q h = elim (least-is-one a b) [
  | inl e ↦ or_l (eq a instant) (eq b instant) (zero_is a p (sym e ∙ z))
  | inr e ↦ or_r (eq a instant) (eq b instant) (zero_is b q (sym e ∙ z))
]
  where
    z : least_of a b ≡ instant
    z = (timers-zero (least_of a b) (least-timer a b p q)).0 h

-- what is at most a timer that is 0 is 0
below-zero : (x a : Float) → T (is_timer x) → T (is_timer a) → T (le x a) → T (eq a instant) → T (eq x instant)
below-zero x a p q l h =
    let z = (timers-zero a q).0 h in
    zero_is x p (timers-antisymmetric x instant p (time-timer instant instant-time) (subst (λ (y : Float). T (le x y)) z l) (timers-instant x p))

least_zero : (a b : Float) → T (is_timer a) → T (is_timer b) → eq (least_of a b) instant ≡ (if eq a instant then true else eq b instant)
least_zero a b p q = same_test (eq (least_of a b) instant) (if eq a instant then true else eq b instant) (at_zero a b p q) (λ h. elim (or_split (eq a instant) (eq b instant) h) [
  | inl e ↦ below-zero (least_of a b) a (least-timer a b p q) p (least-le-first a b p q) e
  | inr e ↦ below-zero (least_of a b) b (least-timer a b p q) q (least-le-second a b p q) e
])

never-zero : eq never instant ≡ false
never-zero = same_test (eq never instant) false (λ h. let z = (timers-zero never never-timer).0 h in let y : ◌≡◌ {A = ℕ} 0 1 = cc in absurd (omega arith)) (λ h. absurd h)

least-some : (f : ℕ → Float) (xs : List ℕ) → All (λ x. T (is_timer (f x))) xs → eq (least (map f xs)) instant ≡ some_of (λ x. eq (f x) instant) xs
least-some f [] nil = never-zero
least-some f (x ∷ xs) (h & p) =
    least_zero (f x) (least (map f xs)) h (Least.least-timer f p)
    ∙ ap (λ (b : Bool). if eq (f x) instant then true else b) (least-some f xs p)

-- ---- an atom is due by its own timer
own-timer : (s : State) (inside : Float) (k : Kind) → is_coupled k ≡ false → T (state_fits k s) → timer_in s inside ≡ own_timer s
own-timer (of_processor s) inside k e h = refl
own-timer (of_batcher s) inside k e h = refl
own-timer (of_stopwatch s) inside k e h = refl
own-timer (of_coupled s) inside (processor p) e h = absurd h
own-timer (of_coupled s) inside (batcher p) e h = absurd h
own-timer (of_coupled s) inside (stopwatch p) e h = absurd h
own-timer (of_coupled s) inside coupled e h = absurd (true≢false e)

module _ (t : Table) (ok : Fine t) (states : List State) (g : Fitted t states) where
  pub due-atom : (depth i : ℕ) → is_coupled (kind_at t i) ≡ false → due t (suc depth) states i ≡ eq (own_timer (state_at states i)) instant
  unfolding timer
  due-atom depth i e = ap (λ (x : Float). eq x instant) (own-timer (state_at states i) (least (map (timer t depth states) (components t (id_at t i)))) (kind_at t i) e (g.fit i))

  -- a Coupled with nothing parked in it is due where a component is
  pub due-coupled : (depth i : ℕ) → state_at states i ≡ of_coupled [] → due t (suc depth) states i ≡ some_of (due t depth states) (components t (id_at t i))
  unfolding timer
  due-coupled depth i e =
      ap (λ (s : State). eq (timer_in s (least (map (timer t depth states) (components t (id_at t i))))) instant) e
      ∙ least-some (timer t depth states) (components t (id_at t i)) (all_any (components t (id_at t i)) (at-timer t ok states g depth))

  pub due-none : (i : ℕ) → due t 0 states i ≡ false
  unfolding timer
  due-none i = never-zero

-- ---- whether some one is, among those that a search finds
module _ (f test : ℕ → Bool) (row end : ℕ) where
  pub some-on : (j : ℕ) → first_from test row (end - row) ≡ Some j → some_of f (those test (from row (end - row))) ≡ (if f j then true else some_of f (those test (from (j + 1) (end - (j + 1)))))
  some-on j h =
      let first = first-at test row (end - row) j h in
      let left : row + (end - row) - suc j ≡ end - suc j = omega arith in
      ap (some_of f) first.3 ∙ rw (left, add-one)

  pub some-none : first_from test row (end - row) ≡ None → some_of f (those test (from row (end - row))) ≡ false
  some-none h = ap (some_of f) (first-nothing test row (end - row) h)

  pub some_end : end ≤ row → some_of f (those test (from row (end - row))) ≡ false
  some_end past = some-none (search-end test row end past)
