-- The tools of the proofs: tests taken apart, what holds of every element, and what holds of an outcome. `Ends B Q o` says that a refusal in o keeps B, and that what was done keeps Q; one law for each word of `Base`. Assumes nothing.
use Rattle.std.specs.Prelude.{ℕ, ◌≤◌, ◌≡◌, refl, ◌⊎◌, Bool, true, false, not, List, [], ◌∷◌, ◌++◌, map, length, T, leb, if◌then◌else◌, Option, None, Some}
use Rattle.std.proofs.Common.{subst, inl, inr, arith, leb→le}
use Rattle.rules.specs.declared.Refusal.{Refusal}
use Rattle.rules.specs.Base.{Outcome, refused, done, ◌>>=◌, each, those, chosen, every, hold, at_most}

-- ---- tests: both, one or the other, and not
pub if-both : (a b : Bool) → T (if a then b else false) → T a × T b
if-both true b t = (tt, t)
if-both false b t = absurd t

pub if-both-i : (a b : Bool) → T a → T b → T (if a then b else false)
if-both-i true b t u = u
if-both-i false b t u = t

pub or_l : (a b : Bool) → T a → T (if a then true else b)
or_l true b t = tt
or_l false b t = absurd t

pub or_r : (a b : Bool) → T b → T (if a then true else b)
or_r true b t = tt
or_r false b t = t

pub or_split : (a b : Bool) → T (if a then true else b) → T a ⊎ T b
or_split true b t = inl tt
or_split false b t = inr t

pub not-or : (a b : Bool) → T (not (if a then true else b)) → T (not a) × T (not b)
not-or true b t = absurd t
not-or false b t = (tt, t)

pub not-or-i : (a b : Bool) → T (not a) → T (not b) → T (not (if a then true else b))
not-or-i true b t u = t
not-or-i false b t u = u

pub but-not : (a b : Bool) → T (if a then false else b) → T (not a) × T b
but-not true b t = absurd t
but-not false b t = (tt, t)

pub but-not-i : (a b : Bool) → T (not a) → T b → T (if a then false else b)
but-not-i true b t u = t
but-not-i false b t u = u

pub two-not : (b : Bool) → T (not (not b)) → T b
two-not true t = tt
two-not false t = t

pub no-some : {A : Type 0} {x : A} → None ≡ Some x → ⊥
no-some e = let n : ◌≡◌ {A = ℕ} 0 1 = cc in omega arith

-- ---- every element
infixr 20 ◌&◌
pub data All {A : Type 0} (P : A → Type 0) : List A → Type 0 where
  nil : All P []
  ◌&◌ : {x : A} {xs : List A} → P x → All P xs → All P (x ∷ xs)

pub all-imp : {A : Type 0} {P R : A → Type 0} {xs : List A} → ((x : A) → P x → R x) → All P xs → All R xs
all-imp f nil = nil
all-imp f (◌&◌ {x = x} h p) = f x h & all-imp f p

-- x is one of a list
pub data Among {A : Type 0} (x : A) : List A → Type 0 where
  first : {xs : List A} → Among x (x ∷ xs)
  later : {y : A} {xs : List A} → Among x xs → Among x (y ∷ xs)

pub among-those : {A : Type 0} (test : A → Bool) (x : A) {xs : List A} → Among x xs → T (test x) → Among x (those test xs)
among-those test x (first {xs = xs}) t = go (test x) t
  where
    go : (b : Bool) → T b → Among x (if b then x ∷ those test xs else those test xs)
    go true t = first
    go false t = absurd t
among-those test x (later {y = y} {xs = xs} m) t = go (test y) (among-those test x m t)
  where
    go : (b : Bool) → Among x (those test xs) → Among x (if b then y ∷ those test xs else those test xs)
    go true n = later n
    go false n = n

pub all_any : {A : Type 0} {P : A → Type 0} (xs : List A) → ((x : A) → P x) → All P xs
all_any [] f = nil
all_any (x ∷ xs) f = f x & all_any xs f

pub all_append : {A : Type 0} {P : A → Type 0} {xs ys : List A} → All P xs → All P ys → All P (xs ++ ys)
all_append nil q = q
all_append (h & p) q = h & all_append p q

pub all_map : {A C : Type 0} {P : A → Type 0} {R : C → Type 0} (f : A → C) {xs : List A} → All P xs → ((x : A) → P x → R (f x)) → All R (map f xs)
all_map f nil k = nil
all_map f (◌&◌ {x = x} h p) k = k x h & all_map f p k

-- those of a list that has P have P, and each passes the test
pub all-those : {A : Type 0} {P R : A → Type 0} (test : A → Bool) {xs : List A} → All P xs → ((x : A) → P x → T (test x) → R x) → All R (those test xs)
all-those test nil k = nil
all-those {R = R} test (◌&◌ {x = x} {xs = xs} h p) k = go (test x) (k x h) (all-those test p k)
  where
    go : (b : Bool) → (T b → R x) → All R (those test xs) → All R (if b then x ∷ those test xs else those test xs)
    go true f q = f tt & q
    go false f q = q

-- what is made of each
pub all-chosen : {A C : Type 0} {P : A → Type 0} {R : C → Type 0} (choose : A → Option C) {xs : List A} → All P xs → ((x : A) (y : C) → P x → choose x ≡ Some y → R y) → All R (chosen choose xs)
all-chosen choose nil k = nil
all-chosen {C = C} {R = R} choose (◌&◌ {x = x} h p) k = go (choose x) (λ y e. k x y h e) (all-chosen choose p k)
  where
    go : (o : Option C) {ys : List C} → ((y : C) → o ≡ Some y → R y) → All R ys → All R (elim o [ None ↦ ys | Some y ↦ y ∷ ys ])
    go None k q = q
    go (Some y) k q = k y refl & q

pub every-all : {A : Type 0} (test : A → Bool) (xs : List A) → T (every test xs) → All (λ x. T (test x)) xs
every-all test [] t = nil
every-all test (x ∷ xs) t = let z = if-both (test x) (every test xs) t in z.0 & every-all test xs z.1

pub all-every : {A : Type 0} (test : A → Bool) {xs : List A} → All (λ x. T (test x)) xs → T (every test xs)
all-every test nil = tt
all-every test (◌&◌ {x = x} {xs = xs} h p) = if-both-i (test x) (every test xs) h (all-every test p)

-- ---- a list of tests, and one alone
pub one : (b : Bool) → (if b then true else false) ≡ b
one true = refl
one false = refl

pub parts : (bs : List Bool) → T (hold bs) → All T bs
parts [] t = nil
parts (b ∷ bs) t = let z = if-both b (hold bs) t in z.0 & parts bs z.1

pub whole_of : {bs : List Bool} → All T bs → T (hold bs)
whole_of nil = tt
whole_of (◌&◌ {x = b} {xs = bs} h p) = if-both-i b (hold bs) h (whole_of p)

-- ---- outcomes
pub data Ends {A : Type 0} (B : Refusal → Type 0) (Q : A → Type 0) : Outcome A → Type 0 where
  stops : {r : Refusal} → B r → Ends B Q (refused r)
  goes : {a : A} → Q a → Ends B Q (done a)

pub ends-if : {A : Type 0} {B : Refusal → Type 0} {Q : A → Type 0} (b : Bool) {x y : Outcome A} → (T b → Ends B Q x) → (T (not b) → Ends B Q y) → Ends B Q (if b then x else y)
ends-if true p q = p tt
ends-if false p q = q tt

pub ends-bind : {A C : Type 0} {B : Refusal → Type 0} {R : C → Type 0} {Q : A → Type 0} {o : Outcome A} (next : A → Outcome C)
    → Ends B Q o → ((a : A) → Q a → Ends B R (next a)) → Ends B R (o >>= next)
ends-bind next (stops b) k = stops b
ends-bind next (goes {a = a} h) k = k a h

pub ends-map : {A : Type 0} {B C : Refusal → Type 0} {Q R : A → Type 0} {o : Outcome A} → Ends B Q o → ((r : Refusal) → B r → C r) → ((a : A) → Q a → R a) → Ends C R o
ends-map (stops {r = r} b) f k = stops (f r b)
ends-map (goes {a = a} h) f k = goes (k a h)

-- two laws of one outcome
pub ends-both : {A : Type 0} {B C : Refusal → Type 0} {Q R : A → Type 0} {o : Outcome A} → Ends B Q o → Ends C R o → Ends B (λ a. Q a × R a) o
ends-both (stops b) y = stops b
ends-both (goes h) (goes k) = goes (h, k)

pub ends-refused : {A : Type 0} {B : Refusal → Type 0} {Q : A → Type 0} {o : Outcome A} {r : Refusal} → Ends B Q o → o ≡ refused r → B r
ends-refused {A = A} {B = B} {Q = Q} {r = r} h e = go (subst (λ (z : Outcome A). Ends B Q z) e h)
  where
    go : Ends B Q (refused r) → B r
    go (stops b) = b

-- what was done in an outcome that is known
pub ends-done : {A : Type 0} {B : Refusal → Type 0} {Q : A → Type 0} {o : Outcome A} {a : A} → Ends B Q o → o ≡ done a → Q a
ends-done {A} {B} {Q} {a = a} h e = go (subst (λ (z : Outcome A). Ends B Q z) e h)
  where
    go : Ends B Q (done a) → Q a
    go (goes q) = q

pub ends-known : {A : Type 0} {B : Refusal → Type 0} {Q : A → Type 0} {o : Outcome A} → Ends B Q o → Ends B (λ a. o ≡ done a) o
ends-known (stops b) = stops b
ends-known (goes h) = goes refl

-- nothing is asked of an outcome, nor of a refusal
abbrev pub Whatever : {A : Type 0} → A → Type 0
Whatever x = Unit {0}

pub ends-whatever : {A : Type 0} (o : Outcome A) → Ends Whatever Whatever o
ends-whatever (refused r) = stops tt
ends-whatever (done a) = goes tt

-- a sweep keeps what each visit keeps
pub ends-each : {A S : Type 0} {B : Refusal → Type 0} {K : S → Type 0} {P : A → Type 0} (visit : A → S → Outcome S) {xs : List A} (s : S)
    → All P xs → ((x : A) (s : S) → P x → K s → Ends B K (visit x s)) → K s → Ends B K (each visit xs s)
ends-each visit s nil k h = goes h
ends-each visit s (◌&◌ {x = x} {xs = xs} g p) k h = ends-bind (each visit xs) (k x s g h) (λ s₁ h₁. ends-each visit s₁ p k h₁)

pub ends-most : {A : Type 0} {B : Refusal → Type 0} (most : ℕ) (r : Refusal) (xs : List A) → B r → Ends B (λ ys. (ys ≡ xs) × (length ys ≤ most)) (at_most most r xs)
ends-most most r xs b = ends-if (leb (length xs) most) (λ t. goes (refl, leb→le (length xs) most t)) (λ t. stops b)
