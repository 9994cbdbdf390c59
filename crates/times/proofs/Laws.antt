-- The laws of times and timers: the order, the least of two, what is left of a timer after an advance, and the clock after one. Assumes nothing.
use Rattle.std.specs.Prelude.{◌≡◌, refl, ◌⊎◌, ◌↔◌, Bool, true, false, not, ◌&&◌, cond, pos, T, Float}
use Rattle.std.proofs.Common.{sym, ap, ◌∙◌, subst, inl, inr, le_trans, le_of_eq, add_comm, zero-mul, mul_comm, mul-pos, T_not}
use Prim.Native.Nat.{ℕ, ◌-◌, ◌*◌}
use Rattle.std.proofs.Math.Nat.{sub_self}
use Rattle.std.specs.Float.{inf, nan, fin, binary64}
use Rattle.std.specs.Float.Ieee.{up, down, add, sub, fits, is_nan, lt, le, eq}
use Rattle.std.specs.Float.Ieee.Fits.{down_pos, and_i, and_l, and_r, sub-fits, inf-fits}
use Rattle.times.specs.Time.{clear, is_never, instant, never, latest, is_time, is_timer, least_of}
use Rattle.times.specs.Order.{or_split, or_l, or_r, Clear, endless, number, view, clear-no-nan, Number, at, uncross, le-endless, reflexive, transitive, antisymmetric, lt_not_le, lt-le, lt-or-le, eq-same, eq_self}
use Rattle.times.specs.Rounded.{differences, sums, sub-opens, add-opens, sub-endless, run-clear, run-mono, run-instant, sub_anti, round-at}
use Rattle.times.specs.Apart.{no_zero}

-- ---- what a time and a timer are

-- "A time is an f64 with its sign bit clear and a value of at most 2^60": the three parts
pub time-decides : (x : Float) → T (is_time x) ↔ (T (fits binary64 x) × T (clear x) × T (le x latest))
unfolding is_time
time-decides x = (
  λ t. let fc = and_l (fits binary64 x && clear x) (le x latest) t in
      (and_l (fits binary64 x) (clear x) fc, and_r (fits binary64 x) (clear x) fc, and_r (fits binary64 x && clear x) (le x latest) t),
  λ h. and_i (fits binary64 x && clear x) (le x latest) (and_i (fits binary64 x) (clear x) h.0 h.1) h.2,
)

-- "A time is an f64"
pub time-fits : (x : Float) → T (is_time x) → T (fits binary64 x)
time-fits x t = ((time-decides x).0 t).0

-- "each timer is a time or infinite": a time is one, +infinity is one, and no other value is
pub time-timer : (x : Float) → T (is_time x) → T (is_timer x)
unfolding is_timer
time-timer x t = or_l (is_time x) (is_never x) t

pub never-timer : T (is_timer never)
unfolding is_timer
never-timer = or_r (is_time never) true tt

pub never-is : (x : Float) → T (is_never x) → x ≡ never
never-is nan u = elim u [ ]
never-is (inf true) u = elim u [ ]
never-is (inf false) u = refl
never-is (fin _ _ _) u = elim u [ ]

pub timer-split : (x : Float) → T (is_timer x) → T (is_time x) ⊎ (x ≡ never)
unfolding is_timer
timer-split x t = elim (or_split (is_time x) (is_never x) t) [ inl u ↦ inl u | inr u ↦ inr (never-is x u) ]

-- what a time has, and +infinity has, a timer has
timer-has : (P : Float → Type 0) → ((x : Float) → T (is_time x) → P x) → P never → (x : Float) → T (is_timer x) → P x
timer-has P p n x t = elim (timer-split x t) [ inl u ↦ p x u | inr e ↦ subst P (sym e) n ]

-- a timer is an f64
pub timer-fits : (x : Float) → T (is_timer x) → T (fits binary64 x)
timer-fits = timer-has (λ x. T (fits binary64 x)) time-fits (inf-fits binary64 false)

-- with its sign bit clear
pub timer-clear : (x : Float) → T (is_timer x) → T (clear x)
timer-clear = timer-has (λ x. T (clear x)) (λ x t. ((time-decides x).0 t).1) tt

timer-view : (x : Float) → T (is_timer x) → Clear x
timer-view x t = view x (timer-clear x t)

never-past : T (le never latest) → ⊥
unfolding le
never-past h = h

-- a time is finite
pub time-number : (x : Float) → T (is_time x) → Number x
time-number x t = go x (timer-view x (time-timer x t)) ((time-decides x).0 t).2
  where
    go : (x : Float) → Clear x → T (le x latest) → Number x
    go x endless h = absurd (never-past h)
    go x (number m e) h = at m e

-- the first time is 0, and the last 2^60
pub instant-time : T (is_time instant)
unfolding is_time fits le
instant-time = tt

pub latest-time : T (is_time latest)
unfolding is_time fits le
latest-time = tt

-- ---- the order

-- "timers are totally ordered": each is at most itself
pub timers-reflexive : (x : Float) → T (is_timer x) → T (le x x)
timers-reflexive x p = reflexive x (timer-view x p)

-- "timers are totally ordered": of two, one is at most the other
pub timers-total : (x y : Float) → T (is_timer x) → T (is_timer y) → T (le x y) ⊎ T (le y x)
timers-total x y p q = elim (lt-or-le x y (timer-view x p) (timer-view y q)) [ inl h ↦ inl (lt-le x y h) | inr h ↦ inr h ]

-- "timers are totally ordered": at most one that is at most a third is at most the third
pub timers-transitive : (x y z : Float) → T (is_timer x) → T (is_timer y) → T (is_timer z) → T (le x y) → T (le y z) → T (le x z)
timers-transitive x y z p q r h k = transitive x y z (timer-view x p) (timer-view y q) (timer-view z r) h k

-- "timers are totally ordered": two that are at most each other are one
pub timers-antisymmetric : (x y : Float) → T (is_timer x) → T (is_timer y) → T (le x y) → T (le y x) → x ≡ y
timers-antisymmetric x y p q h k = antisymmetric binary64 x y (timer-view x p) (timer-view y q) (timer-fits x p) (timer-fits y q) h k

-- "timers are totally ordered": less is at most the other way round, refused
pub timers-lt : (x y : Float) → T (is_timer x) → T (is_timer y) → lt x y ≡ not (le y x)
timers-lt x y p q = lt_not_le x y (timer-view x p) (timer-view y q)

-- "equal as numbers exactly when equal as values"
pub timers-eq : (x y : Float) → T (is_timer x) → T (is_timer y) → T (eq x y) ↔ (x ≡ y)
timers-eq x y p q = (
  λ h. eq-same binary64 x y (timer-view x p) (timer-view y q) (timer-fits x p) (timer-fits y q) h,
  λ e. subst (λ (z : Float). T (eq x z)) e (eq_self x (timer-view x p)),
)

-- "equal as numbers exactly when equal as values", with 0
pub timers-zero : (x : Float) → T (is_timer x) → T (eq x instant) ↔ (x ≡ instant)
timers-zero x p = timers-eq x instant p (time-timer instant instant-time)

-- 0 is the first timer, and +infinity the last
pub timers-instant : (x : Float) → T (is_timer x) → T (le instant x)
timers-instant x p = go x (timer-view x p)
  where
    go : (x : Float) → Clear x → T (le instant x)
    go x endless = le-endless instant (number 0 (pos 0))
    go x (number m e) = uncross 0 (pos 0) m e (le_trans (le_of_eq (ap (λ (z : ℕ). z * down e) (zero-mul 1) ∙ zero-mul (down e))) Prim.Native.Nat.zero-le)

pub timers-never : (x : Float) → T (is_timer x) → T (le x never)
timers-never x p = le-endless x (timer-view x p)

-- ---- the least of two
least-case : (a b : Float) (P : Float → Type 0) → (T (lt b a) → P b) → (T (not (lt b a)) → P a) → P (least_of a b)
unfolding least_of
least-case a b P y n = go (lt b a) y n
  where
    go : (t : Bool) → (T t → P b) → (T (not t) → P a) → P (cond t b a)
    go true y n = y tt
    go false y n = n tt

-- "the least is one of the two"
pub least-is-one : (a b : Float) → (least_of a b ≡ a) ⊎ (least_of a b ≡ b)
least-is-one a b = least-case a b (λ r. (r ≡ a) ⊎ (r ≡ b)) (λ _. inr refl) (λ _. inl refl)

-- so it is a timer
pub least-timer : (a b : Float) → T (is_timer a) → T (is_timer b) → T (is_timer (least_of a b))
least-timer a b p q = least-case a b (λ r. T (is_timer r)) (λ _. q) (λ _. p)

-- "the least is .. at most both"
pub least-le-first : (a b : Float) → T (is_timer a) → T (is_timer b) → T (le (least_of a b) a)
least-le-first a b p q = least-case a b (λ r. T (le r a)) (lt-le b a) (λ _. timers-reflexive a p)

pub least-le-second : (a b : Float) → T (is_timer a) → T (is_timer b) → T (le (least_of a b) b)
least-le-second a b p q =
    least-case a b (λ r. T (le r b)) (λ _. timers-reflexive b q)
    (λ n. elim (lt-or-le b a (timer-view b q) (timer-view a p)) [ inl h ↦ absurd (T_not (lt b a) n h) | inr h ↦ h ])

-- what is at most both is at most the least
pub least-greatest : (a b x : Float) → T (le x a) → T (le x b) → T (le x (least_of a b))
least-greatest a b x h k = least-case a b (λ r. T (le x r)) (λ _. k) (λ _. h)

-- the least is the only timer that is at most both and that the least is at most
pub least-unique : (a b r : Float) → T (is_timer a) → T (is_timer b) → T (is_timer r) → T (le r a) → T (le r b) → T (le (least_of a b) r) → r ≡ least_of a b
least-unique a b r p q w h k l = timers-antisymmetric r (least_of a b) w (least-timer a b p q) (least-greatest a b r h k) l

-- the order in which timers are compared does not matter
pub least-swaps : (a b : Float) → T (is_timer a) → T (is_timer b) → least_of a b ≡ least_of b a
least-swaps a b p q =
    least-unique b a (least_of a b) q p (least-timer a b p q) (least-le-second a b p q) (least-le-first a b p q)
    (least-greatest a b (least_of b a) (least-le-second b a q p) (least-le-first b a q p))

pub least-groups : (a b c : Float) → T (is_timer a) → T (is_timer b) → T (is_timer c) → least_of (least_of a b) c ≡ least_of a (least_of b c)
least-groups a b c p q w =
    let ab = least_of a b in
    let bc = least_of b c in
    let P = least-timer a b p q in
    let Q = least-timer b c q w in
    let l = least_of ab c in
    let r = least_of a bc in
    let L = least-timer ab c P w in
    let R = least-timer a bc p Q in
    let l-ab = least-le-first ab c P w in
    let r-bc = least-le-second a bc p Q in
    least-unique a bc l p Q L
    (timers-transitive l ab a L P p l-ab (least-le-first a b p q))
    (least-greatest b c l (timers-transitive l ab b L P q l-ab (least-le-second a b p q)) (least-le-second ab c P w))
    (least-greatest ab c r
    (least-greatest a b r (least-le-first a bc p Q) (timers-transitive r bc b R Q q r-bc (least-le-first b c q w)))
    (timers-transitive r bc c R Q w r-bc (least-le-second b c q w)))

-- ---- "for an advance at most the timer, the difference is ..": t - a for a timer t and a time a
never-stays : (a : Float) → T (is_time a) → sub binary64 never a ≡ never
never-stays a q = go a (time-number a q)
  where
    go : (y : Float) → Number y → sub binary64 never y ≡ never
    go y (at n d) = sub-endless n d

never-no-time : T (is_time never) → ⊥
never-no-time t = never-past ((time-decides never).0 t).2

-- what is at most a time
time-below : (x y : Float) → T (fits binary64 x) → T (clear x) → T (is_time y) → T (le x y) → T (is_time x)
time-below x y f c t h =
    (time-decides x).1 (f, c, transitive x y latest (view x c) (timer-view y (time-timer y t)) (view latest tt) h ((time-decides y).0 t).2)

-- "less 0 changes nothing"
pub after-instant : (t : Float) → T (is_timer t) → sub binary64 t instant ≡ t
after-instant =
    timer-has (λ t. sub binary64 t instant ≡ t) (λ t u. run-instant differences (time-number t u) (time-fits t u) (timers-instant t (time-timer t u)))
    (never-stays instant instant-time)

-- "monotone": a larger advance leaves no more
pub after-anti : (t a b : Float) → T (is_timer t) → T (is_time a) → T (is_time b) → T (le a b) → T (le b t) → T (le (sub binary64 t b) (sub binary64 t a))
after-anti t a b p q w h =
    timer-has (λ t. T (le b t) → T (le (sub binary64 t b) (sub binary64 t a)))
    (λ t u k. sub_anti (time-number t u) (time-number a q) (time-number b w) h k (timers-transitive a b t (time-timer a q) (time-timer b w) (time-timer t u) h k))
    (λ k. rw (never-stays a q, never-stays b w) (reflexive never endless))
    t p

-- "at most the timer"
pub after-le : (t a : Float) → T (is_timer t) → T (is_time a) → T (le a t) → T (le (sub binary64 t a) t)
after-le t a p q h =
    subst (λ (z : Float). T (le (sub binary64 t a) z)) (after-instant t p) (after-anti t instant a p instant-time q (timers-instant a (time-timer a q)) h)

-- "a timer": of a time, a time
pub after-time : (t a : Float) → T (is_time t) → T (is_time a) → T (le a t) → T (is_time (sub binary64 t a))
after-time t a p q h =
    time-below (sub binary64 t a) t (sub-fits binary64 t a) (run-clear differences (time-number t p) (time-number a q) h) p (after-le t a (time-timer t p) q h)

-- "a timer"
pub after-timer : (t a : Float) → T (is_timer t) → T (is_time a) → T (le a t) → T (is_timer (sub binary64 t a))
after-timer t a p q =
    timer-has (λ t. T (le a t) → T (is_timer (sub binary64 t a))) (λ t u h. time-timer (sub binary64 t a) (after-time t a u q h)) (λ h. rw (never-stays a q) never-timer) t p

-- "0 exactly when they are equal"
pub after-zero : (t a : Float) → T (is_timer t) → T (is_time a) → T (le a t) → (sub binary64 t a ≡ instant) ↔ (t ≡ a)
after-zero t a p q h = (
  λ e. elim (timer-split t p) [
    | inl u ↦ elim (lt-or-le a t (timer-view a (time-timer a q)) (timer-view t p)) [
      | inl l ↦ absurd (no_zero (time-number t u) (time-number a q) (time-fits t u) (time-fits a q) l e)
      | inr l ↦ timers-antisymmetric t a p (time-timer a q) l h
    ]
    | inr d ↦ absurd (never-no-time (subst (λ (z : Float). T (is_time z)) (sym e ∙ ap (λ (z : Float). sub binary64 z a) d ∙ never-stays a q) instant-time))
  ],
  λ e. ap (λ (z : Float). sub binary64 z a) e ∙ self a (time-number a q) (timers-reflexive a (time-timer a q)),
)
  where
    self : (y : Float) → Number y → T (le y y) → sub binary64 y y ≡ instant
    self y (at n d) h =
        let A = n * up d * down d in
        sub-opens n d n d h
        ∙ round-at binary64 0 (pos 0) (A - A) (down d * down d) (time-fits instant instant-time) (mul-pos (down_pos d) (down_pos d)) (simp (sub_self, zero-mul))

-- "infinite exactly when the timer is"
pub after_never : (t a : Float) → T (is_timer t) → T (is_time a) → T (le a t) → (sub binary64 t a ≡ never) ↔ (t ≡ never)
after_never t a p q h = (
  λ e. elim (timer-split t p) [ inl u ↦ absurd (never-no-time (subst (λ (z : Float). T (is_time z)) e (after-time t a u q h))) | inr d ↦ d ],
  λ d. ap (λ (z : Float). sub binary64 z a) d ∙ never-stays a q,
)

-- "monotone": a later timer keeps no less
pub after-mono : (t t' a : Float) → T (is_timer t) → T (is_timer t') → T (is_time a) → T (le a t) → T (le t t') → T (le (sub binary64 t a) (sub binary64 t' a))
after-mono t t' a p p' q h k =
    timer-has (λ t'. T (le t t') → T (le (sub binary64 t a) (sub binary64 t' a)))
    (λ t' u k. let w = time-below t t' (timer-fits t p) (timer-clear t p) u k in
    run-mono differences (time-number t w) (time-number t' u) (time-number a q) h (timers-transitive a t t' (time-timer a q) p (time-timer t' u) h k) k)
    (λ k. rw (never-stays a q) (timers-never (sub binary64 t a) (after-timer t a p q h)))
    t' p' k

-- ---- the clock: c + a for times c and a
-- the clock and the advance may change places
pub later-swaps : (c a : Float) → T (is_time c) → T (is_time a) → add binary64 c a ≡ add binary64 a c
later-swaps c a p q = go c a (time-number c p) (time-number a q)
  where
    go : (x y : Float) → Number x → Number y → add binary64 x y ≡ add binary64 y x
    go x y (at m e) (at n d) = rw (add-opens m e n d, add-opens n d m e, add_comm (m * up e * down d) (n * up d * down e), mul_comm (down e) (down d))

-- "monotone": a later clock stays no earlier
pub later-mono : (c c' a : Float) → T (is_time c) → T (is_time c') → T (is_time a) → T (le c c') → T (le (add binary64 c a) (add binary64 c' a))
later-mono c c' a p p' q k = run-mono sums (time-number c p) (time-number c' p') (time-number a q) tt tt k

-- an advance of 0 changes nothing
pub later-instant : (c : Float) → T (is_time c) → add binary64 c instant ≡ c
later-instant c p = run-instant sums (time-number c p) (time-fits c p) tt

-- "the clock never goes back"
pub later-ge : (c a : Float) → T (is_time c) → T (is_time a) → T (le c (add binary64 c a))
later-ge c a p q =
    subst (λ (z : Float). T (le c z)) (later-swaps a c q p)
    (subst (λ (z : Float). T (le z (add binary64 a c))) (later-swaps instant c instant-time p ∙ later-instant c p)
    (later-mono instant a c instant-time q p (timers-instant a (time-timer a q))))

-- "and is never NaN": the new clock is a number or +infinity
pub later-no-nan : (c a : Float) → T (is_time c) → T (is_time a) → T (not (is_nan (add binary64 c a)))
later-no-nan c a p q = clear-no-nan (add binary64 c a) (run-clear sums (time-number c p) (time-number a q) tt)
