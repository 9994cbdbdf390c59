-- "the least timer": for a table that passes intake and states that fit, the least of the parentless models' timers is the least of all rows' own timers. So it is a timer, and at most each row's own. Assumes nothing.
use Prim.Native.Nat.{ℕ, zero, suc, ◌+◌, ◌≤◌, ◌<◌}
use Rattle.std.specs.Prelude.{◌≡◌, refl, ◌⊎◌, Bool, true, false, List, [], ◌∷◌, map, length, get_or, Float, if◌then◌else◌}
use Rattle.std.proofs.Common.{sym, ◌∙◌, subst, inl, inr, arith, eq-or-lt_of_le}
use Rattle.std.proofs.Math.Path.{ap}
use Rattle.std.proofs.Math.Dec.{T}
use Rattle.std.specs.Float.Ieee.{le, eq}
use Rattle.times.specs.Time.{instant, never, is_timer, least_of}
use Rattle.times.proofs.Laws as law
use Rattle.rules.specs.Base.{those, from}
use Rattle.rules.specs.Table.{Kind, coupled, Row, Table, no_row, row_at, id_at, kind_at, is_parent, is_parentless, parentless, components}
use Rattle.rules.specs.Intake.{passes_intake}
use Rattle.rules.specs.Simulation.{Parked, State, of_processor, of_batcher, of_stopwatch, of_coupled, state_at}
use Rattle.rules.specs.Step.{least, timer_in, timer, due, levels, least_timer}
use Rattle.rules.specs.Valid.{state_fits, states_fit}
use Rattle.rules.specs.Ends.{if-both, if-both-i, All, nil, ◌&◌, all_any}
use Rattle.rules.specs.Decides.{tells, passes, timer-decides, StateKeeps, of-processor, of-batcher, of-stopwatch, of-coupled, state-decides}
use Rattle.rules.specs.Depth.{Fine, fine, by-parent}

-- ---- states that fit their rows. Past the last row both the kind and the state are a Coupled's, with nothing parked.
pub record Fitted (t : Table) (states : List State) : Type 0 where
  pub same : length states ≡ length t.rows
  pub fit : (i : ℕ) → T (state_fits (kind_at t i) (state_at states i))

pub fitted : (t : Table) (states : List State) → T (states_fit t.rows states) → Fitted t states
fitted t states h = let z = go t.rows states h in record { same = z.0; fit = z.1 }
  where
    next : (r : Row) (rs : List Row) (s : State) (ss : List State) → T (state_fits r.kind s) → ((i : ℕ) → T (state_fits (get_or rs i no_row).kind (state_at ss i)))
        → (i : ℕ) → T (state_fits (get_or (r ∷ rs) i no_row).kind (state_at (s ∷ ss) i))
    next r rs s ss f g zero = f
    next r rs s ss f g (suc i) = g i

    go : (rows : List Row) (states : List State) → T (states_fit rows states) → (length states ≡ length rows) × ((i : ℕ) → T (state_fits (get_or rows i no_row).kind (state_at states i)))
    go [] [] h = (refl, λ i. tt)
    go [] (s ∷ ss) h = absurd h
    go (r ∷ rs) [] h = absurd h
    go (r ∷ rs) (s ∷ ss) h =
        let both = if-both (state_fits r.kind s) (states_fit rs ss) h in
        let rest = go rs ss both.1 in
        (ap suc rest.0, next r rs s ss both.0 rest.1)

pub fitted-fits : (t : Table) (states : List State) → Fitted t states → T (states_fit t.rows states)
fitted-fits t states g = go t.rows states g.same g.fit
  where
    go : (rows : List Row) (states : List State) → length states ≡ length rows → ((i : ℕ) → T (state_fits (get_or rows i no_row).kind (state_at states i))) → T (states_fit rows states)
    go [] [] e h = tt
    go [] (s ∷ ss) e h = absurd (omega arith)
    go (r ∷ rs) [] e h = absurd (omega arith)
    go (r ∷ rs) (s ∷ ss) e h = if-both-i (state_fits r.kind s) (states_fit rs ss) (h 0) (go rs ss (omega arith) (λ i. h (suc i)))

-- ---- a row's own timer: an atom's; a Coupled's is 0 while a message is parked in it, and else infinite
abbrev pub own_timer : State → Float
own_timer s = timer_in s never

-- at most every row's own timer
abbrev pub Below : Float → List State → Type 0
Below a states = (i : ℕ) → T (le a (own_timer (state_at states i)))

zero-timer : T (is_timer instant)
zero-timer = law.time-timer instant law.instant-time

pub fits-timer : (k : Kind) (s : State) → T (state_fits k s) → T (is_timer (own_timer s))
fits-timer k s h = go (tells (state-decides k s) h)
  where
    go : {k : Kind} {s : State} → StateKeeps k s → T (is_timer (own_timer s))
    go (of-processor {s = s} h) = passes (timer-decides s.timer) h.timer
    go (of-batcher {s = s} h) = passes (timer-decides s.timer) h.timer
    go (of-stopwatch {s = s} h) = passes (timer-decides s.timer) h.timer
    go (of-coupled {parked = []} h) = law.never-timer
    go (of-coupled {parked = m ∷ parked} h) = zero-timer

timer_in-either : (P : Float → Type 0) (s : State) (inside : Float) → P (own_timer s) → P inside → P (timer_in s inside)
timer_in-either P (of_processor s) inside h k = h
timer_in-either P (of_batcher s) inside h k = h
timer_in-either P (of_stopwatch s) inside h k = h
timer_in-either P (of_coupled []) inside h k = k
timer_in-either P (of_coupled (m ∷ parked)) inside h k = h

timer_in-own : (a : Float) (s : State) (inside : Float) → T (is_timer a) → T (le a (timer_in s inside)) → T (le a (own_timer s))
timer_in-own a (of_processor s) inside t h = h
timer_in-own a (of_batcher s) inside t h = h
timer_in-own a (of_stopwatch s) inside t h = h
timer_in-own a (of_coupled []) inside t h = law.timers-never a t
timer_in-own a (of_coupled (m ∷ parked)) inside t h = h

-- what is at most a Coupled's timer is at most that of what is inside
timer_in-inside : (a : Float) (s : State) (inside : Float) → T (is_timer a) → T (is_timer inside) → T (state_fits coupled s) → T (le a (timer_in s inside)) → T (le a inside)
timer_in-inside a (of_processor s) inside t u f h = absurd f
timer_in-inside a (of_batcher s) inside t u f h = absurd f
timer_in-inside a (of_stopwatch s) inside t u f h = absurd f
timer_in-inside a (of_coupled []) inside t u f h = h
timer_in-inside a (of_coupled (m ∷ parked)) inside t u f h = law.timers-transitive a instant inside t zero-timer u h (law.timers-instant inside u)

-- a Coupled's timer is 0 where that of what is inside is
timer_in-zero : (s : State) → T (state_fits coupled s) → timer_in s instant ≡ instant
timer_in-zero (of_processor s) f = absurd f
timer_in-zero (of_batcher s) f = absurd f
timer_in-zero (of_stopwatch s) f = absurd f
timer_in-zero (of_coupled []) f = refl
timer_in-zero (of_coupled (m ∷ parked)) f = refl

-- ---- the least of a list: a timer, at most each, and the greatest such
module _ {A : Type 0} (f : A → Float) where
  pub least-timer : {xs : List A} → All (λ x. T (is_timer (f x))) xs → T (is_timer (least (map f xs)))
  least-timer nil = law.never-timer
  least-timer (◌&◌ {x = x} {xs = xs} h p) = law.least-timer (f x) (least (map f xs)) h (least-timer p)

  least-lowest : {xs : List A} → All (λ x. T (is_timer (f x))) xs → All (λ x. T (le (least (map f xs)) (f x))) xs
  least-lowest nil = nil
  least-lowest (◌&◌ {x = x} {xs = xs} h p) = law.least-le-first (f x) rest h (least-timer p) & lower p (least-lowest p)
    where
      rest : Float
      rest = least (map f xs)

      lower : {ys : List A} → All (λ y. T (is_timer (f y))) ys → All (λ y. T (le rest (f y))) ys → All (λ y. T (le (least_of (f x) rest) (f y))) ys
      lower nil nil = nil
      lower (◌&◌ {x = y} t q) (k & r) =
          law.timers-transitive (least_of (f x) rest) rest (f y) (law.least-timer (f x) rest h (least-timer p)) (least-timer p) t (law.least-le-second (f x) rest h (least-timer p)) k & lower q r

  least-highest : (a : Float) → T (is_timer a) → {xs : List A} → All (λ x. T (le a (f x))) xs → T (le a (least (map f xs)))
  least-highest a t nil = law.timers-never a t
  least-highest a t (◌&◌ {x = x} {xs = xs} h p) = law.least-greatest (f x) (least (map f xs)) a h (least-highest a t p)

-- ---- every element, by index
every-index : {P : State → Type 0} (states : List State) → ((i : ℕ) → i < length states → P (state_at states i)) → All P states
every-index [] h = nil
every-index (s ∷ ss) h = h 0 (omega arith) & every-index ss (λ i l. h (suc i) (omega arith))

at-index : {P : State → Type 0} {states : List State} → All P states → P (of_coupled []) → (i : ℕ) → P (state_at states i)
at-index nil d i = d
at-index (h & p) d zero = h
at-index (h & p) d (suc i) = at-index p d i

-- an index in range that passes the test is among those
pub among : {P : ℕ → Type 0} (test : ℕ → Bool) (j k : ℕ) → All P (those test (from j k)) → (i : ℕ) → j ≤ i → i < j + k → T (test i) → P i
among test j zero p i l m t = absurd (omega arith)
among {P} test j (suc k) p i l m t = go (eq-or-lt_of_le l) (test j) refl p (λ q n. among test (suc j) k q i n (omega arith) t)
  where
    go : (j ≡ i) ⊎ (suc j ≤ i) → (b : Bool) → test j ≡ b → All P (if b then j ∷ those test (from (suc j) k) else those test (from (suc j) k)) → (All P (those test (from (suc j) k)) → suc j ≤ i → P i) → P i
    go (inl e) true q (h & p) rec = subst P e h
    go (inl e) false q p rec = absurd (subst T q (subst (λ (z : ℕ). T (test z)) (sym e) t))
    go (inr n) true q (h & p) rec = rec p n
    go (inr n) false q p rec = rec p n

module _ (t : Table) (ok : Fine t) (states : List State) (g : Fitted t states) where
  abbrev at : ℕ → ℕ → Float
  at d i = timer t d states i

  abbrev inside : ℕ → ℕ → Float
  inside d i = least (map (at d) (components t (id_at t i)))

  owned : (i : ℕ) → T (is_timer (own_timer (state_at states i)))
  owned i = fits-timer (kind_at t i) (state_at states i) (g.fit i)

  pub at-timer : (d i : ℕ) → T (is_timer (at d i))
  unfolding timer
  at-timer zero i = law.never-timer
  at-timer (suc d) i = timer_in-either (λ x. T (is_timer x)) (state_at states i) (inside d i) (owned i) (least-timer (at d) (all_any (components t (id_at t i)) (at-timer d)))

  pub inside-timer : (d i : ℕ) → T (is_timer (inside d i))
  inside-timer d i = least-timer (at d) (all_any (components t (id_at t i)) (at-timer d))

  pub least-is-timer : T (is_timer (least_timer t states))
  least-is-timer = least-timer (at levels) (all_any (parentless t) (at-timer levels))

  -- from a Coupled to its components, and from a row's timer to its own
  into : (d i j : ℕ) → j < length t.rows → kind_at t i ≡ coupled → T (is_parent (id_at t i) (row_at t j).parent) → T (le (least_timer t states) (at (suc d) i)) → T (le (least_timer t states) (at d j))
  unfolding timer
  into d i j l e s h =
      law.timers-transitive (least_timer t states) (inside d i) (at d j) least-is-timer (inside-timer d i) (at-timer d j)
      (timer_in-inside (least_timer t states) (state_at states i) (inside d i) least-is-timer (inside-timer d i) (subst (λ (k : Kind). T (state_fits k (state_at states i))) e (g.fit i)) h)
      (among (λ j. is_parent (id_at t i) (row_at t j).parent) 0 (length t.rows) (least-lowest (at d) (all_any (components t (id_at t i)) (at-timer d))) j (omega arith) (omega arith) s)

  own : (d i : ℕ) → T (le (least_timer t states) (at (suc d) i)) → T (le (least_timer t states) (own_timer (state_at states i)))
  unfolding timer
  own d i h = timer_in-own (least_timer t states) (state_at states i) (inside d i) least-is-timer h

  all_above : All (λ s. T (le (least_timer t states) (own_timer s))) states
  all_above =
      every-index states
      (λ i l. let r = by-parent t ok (λ d j. T (le (least_timer t states) (at d j))) top into i (let q = g.same in omega arith) in own r.0 i r.1)
    where
      top : (i : ℕ) → i < length t.rows → T (is_parentless (row_at t i).parent) → T (le (least_timer t states) (at levels i))
      top i l r =
          among (λ i. is_parentless (row_at t i).parent) 0 (length t.rows) (least-lowest (at levels) (all_any (parentless t) (at-timer levels))) i (omega arith) (omega arith) r

  pub least-below : Below (least_timer t states) states
  least-below = at-index all_above (law.timers-never (least_timer t states) least-is-timer)

  -- all rows' own least is at most any row's timer
  all-owned : All (λ s. T (is_timer (own_timer s))) states
  all-owned = every-index states (λ i l. owned i)

  below_all : (d i : ℕ) → T (le (least (map own_timer states)) (at d i))
  unfolding timer
  below_all zero i = law.timers-never (least (map own_timer states)) (least-timer own_timer all-owned)
  below_all (suc d) i =
      let O = least (map own_timer states) in
      let O-timer = least-timer own_timer all-owned in
      timer_in-either (λ x. T (le O x)) (state_at states i) (inside d i) (at-index {P = λ s. T (le O (own_timer s))} (least-lowest own_timer all-owned) (law.timers-never O O-timer) i)
      (least-highest (at d) O O-timer (all_any (components t (id_at t i)) (below_all d)))

  own-least : least_timer t states ≡ least (map own_timer states)
  own-least =
      law.timers-antisymmetric (least_timer t states) (least (map own_timer states)) least-is-timer (least-timer own_timer all-owned)
      (least-highest own_timer (least_timer t states) least-is-timer all_above)
      (least-highest (at levels) (least (map own_timer states)) (least-timer own_timer all-owned) (all_any (parentless t) (below_all levels)))

  -- ---- a Coupled is due with a message parked in it, and where a component is
  pub due-parked : (d i : ℕ) (m : Parked) (parked : List Parked) → state_at states i ≡ of_coupled (m ∷ parked) → due t (suc d) states i ≡ true
  unfolding timer eq
  due-parked d i m parked e = ap (λ (s : State). eq (timer_in s (inside d i)) instant) e

  pub due-component : (d i j : ℕ) → j < length t.rows → kind_at t i ≡ coupled → T (is_parent (id_at t i) (row_at t j).parent) → T (due t d states j) → T (due t (suc d) states i)
  unfolding timer
  due-component d i j l e s h =
      (law.timers-zero (at (suc d) i) (at-timer (suc d) i)).1
      (ap (timer_in (state_at states i)) none ∙ timer_in-zero (state_at states i) (subst (λ (k : Kind). T (state_fits k (state_at states i))) e (g.fit i)))
    where
      below : T (le (inside d i) (at d j))
      below = among (λ j. is_parent (id_at t i) (row_at t j).parent) 0 (length t.rows) (least-lowest (at d) (all_any (components t (id_at t i)) (at-timer d))) j (omega arith) (omega arith) s

      none : inside d i ≡ instant
      none =
          law.timers-antisymmetric (inside d i) instant (inside-timer d i) zero-timer
          (subst (λ (x : Float). T (le (inside d i) x)) ((law.timers-zero (at d j) (at-timer d j)).0 h) below)
          (law.timers-instant (inside d i) (inside-timer d i))

-- ---- the advance of a step without messages is the least of all rows' own timers
pub least-is : (t : Table) (states : List State) → T (passes_intake t) → T (states_fit t.rows states) → least_timer t states ≡ least (map own_timer states)
least-is t states p f = own-least t (fine t p) states (fitted t states f)
