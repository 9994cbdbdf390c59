-- What words with a point read as, by their digits; words without one read as they did before there were any. Assumes nothing.
use Rattle.std.specs.Prelude.{◌≡◌, refl, ℕ, zero, suc, ◌+◌, ◌-◌, ◌*◌, ◌^◌, ◌≤◌, ◌<◌, Bool, true, false, not, ◌&&◌, List, [], ◌∷◌, ◌++◌, length, get_or, take, drop, replicate, T, ltb, leb, eqb, pos, Float, if◌then◌else◌, Option, Some, None}
use Rattle.std.proofs.Common.{sym, ap, ap₂, ◌∙◌, subst, le_trans, lt_of_lt_of_le, le_of_eq, mul-le-mul_right, mul_assoc, mul-one, add-zero, add-one, arith, lt-ltb, le-ltb, le-leb, ltb-true, leb-true, eqb-true, ne_eqb, length-append, length-drop, take-append-drop, take_at, drop-cons, pow_pos}
use Rattle.std.proofs.Math.Nat.{pow-succ'}
use Rattle.std.proofs.lemmas.Bool.{false≢true}
use Rattle.std.proofs.lemmas.List.{length-replicate}
use Rattle.std.proofs.Math.Seq.{drop-append-add}
use Rattle.std.specs.Float.{nan, inf, fin, binary64}
use Rattle.std.specs.Float.Ieee.{round, le, of_int, of_bits, to_bits}
use Rattle.std.specs.Float.Ieee.Fits.{round-fits}
use Rattle.std.specs.Float.Ieee.Bits.{of_bits-to_bits}
use Rattle.std.specs.Float.Ieee.Order.{round_mono}
use Rattle.std.specs.Float.Ieee.Scale.{finite, round_same, round_val, round_under}
use Rattle.times.specs.Time.{instant, latest, clear, is_time}
use Rattle.times.specs.Order as Order
use Rattle.times.specs.Rounded.{round-at}
use Rattle.times.proofs.Laws.{time-decides, time-fits, instant-time, latest-time}
use Rattle.times.proofs.Whole.{tick, tick-time}
use Rattle.bench_words.specs.Texts.{is_dot, text_span}
use Rattle.bench_words.specs.Numbers.{digit_of, numeral, number_of, has_bits, has_point, ticks, over_tens, nines, decimal_of, time_of}
use Rattle.bench_words.specs.NumbersLaws.{number-some, number-most, time-bits, time-decimal, time-whole}
use Rattle.bench_words.specs.DecimalLaws.{tens-most, tens-pos, decimal-is}

-- ---- decimal digits, and the number that they make behind `value`
pub data Digits : List ℕ → Type 0 where
  none : Digits []
  more : {b : ℕ} {bs : List ℕ} → 48 ≤ b → b ≤ 57 → Digits bs → Digits (b ∷ bs)

abbrev pub made : ℕ → List ℕ → ℕ
made value [] = value
made value (b ∷ bs) = made (value * 10 + (b - 48)) bs

digit-is : (b : ℕ) → 48 ≤ b → b ≤ 57 → digit_of b ≡ b - 48
unfolding digit_of
digit-is b h k = simp (le-leb 48 b h, le-leb b 57 k)

-- a digit below ten is one of these
digit-back : (b : ℕ) → digit_of b < 10 → (48 ≤ b) × (b ≤ 57)
unfolding digit_of
digit-back b = go (leb 48 b) (leb b 57) (leb 65 b && leb b 70) (leb 97 b && leb b 102) (leb-true 48 b) (leb-true b 57)
  where
    go : (t u v w : Bool) → (t ≡ true → 48 ≤ b) → (u ≡ true → b ≤ 57) → (if t && u then b - 48 else if v then b - 65 + 10 else if w then b - 97 + 10 else 16) < 10 → (48 ≤ b) × (b ≤ 57)
    go true true v w h k l = (h refl, k refl)
    go true false true w h k l = absurd (omega arith)
    go true false false true h k l = absurd (omega arith)
    go true false false false h k l = absurd (omega arith)
    go false u true w h k l = absurd (omega arith)
    go false u false true h k l = absurd (omega arith)
    go false u false false h k l = absurd (omega arith)

made-joined : (value : ℕ) (xs ys : List ℕ) → made value (xs ++ ys) ≡ made (made value xs) ys
made-joined value [] ys = refl
made-joined value (x ∷ xs) ys = made-joined (value * 10 + (x - 48)) xs ys

made-split : (value : ℕ) (bs : List ℕ) → made value bs ≡ value * 10 ^ length bs + made 0 bs
made-split value [] = omega arith
made-split value (b ∷ bs) =
    let d = b - 48 in
    made-split (value * 10 + d) bs ∙ opened value d (10 ^ length bs) (made 0 bs) ∙ ap₂ (λ (p m : ℕ). value * p + m) (sym (pow-succ' 10 (length bs))) (sym (made-split (0 + d) bs))
  where
    opened : (v d p m : ℕ) → (v * 10 + d) * p + m ≡ v * (10 * p) + ((0 + d) * p + m)
    opened v d p m = omega arith

made-least : (value : ℕ) (bs : List ℕ) → value ≤ made value bs
made-least value [] = omega arith
made-least value (b ∷ bs) = omega (arith, made-least (value * 10 + (b - 48)) bs)

made-most : (value : ℕ) {bs : List ℕ} → Digits bs → made value bs < (value + 1) * 10 ^ length bs
made-most value none = omega arith
made-most value (more {b} {bs} h k ds) =
    lt_of_lt_of_le (made-most (value * 10 + (b - 48)) ds)
    (le_trans (mul-le-mul_right (10 ^ length bs) (next value b k)) (le_of_eq (mul_assoc (value + 1) 10 (10 ^ length bs) ∙ ap (λ (p : ℕ). (value + 1) * p) (sym (pow-succ' 10 (length bs))))))
  where
    next : (v b : ℕ) → b ≤ 57 → v * 10 + (b - 48) + 1 ≤ (v + 1) * 10
    next v b k = omega arith

digits-joined : {xs ys : List ℕ} → Digits xs → Digits ys → Digits (xs ++ ys)
digits-joined none ds = ds
digits-joined (more h k es) ds = more h k (digits-joined es ds)

digits-parted : (xs ys : List ℕ) → Digits (xs ++ ys) → Digits xs × Digits ys
digits-parted [] ys ds = (none, ds)
digits-parted (x ∷ xs) ys (more h k ds) = let rest = digits-parted xs ys ds in (more h k rest.0, rest.1)

numeral-made : (most value : ℕ) {bs : List ℕ} → Digits bs → made value bs ≤ most → numeral 10 most value bs ≡ Some (made value bs)
unfolding numeral
numeral-made most value none h = refl
numeral-made most value (more {b} {bs} p q ds) h =
    simp (digit-is b p q, lt-ltb (b - 48) 10 (omega arith), le-leb (value * 10 + (b - 48)) most (le_trans (made-least (value * 10 + (b - 48)) bs) h))
    (numeral-made most (value * 10 + (b - 48)) ds h)

numeral-digits : (most value : ℕ) (bs : List ℕ) (n : ℕ) → numeral 10 most value bs ≡ Some n → Digits bs
unfolding numeral
numeral-digits most value [] n e = none
numeral-digits most value (b ∷ bs) n e =
    go (ltb (digit_of b) 10) (leb (value * 10 + digit_of b) most) (ltb-true (digit_of b) 10) (numeral-digits most (value * 10 + digit_of b) bs n) e
  where
    go : (t u : Bool) → (t ≡ true → digit_of b < 10) → (numeral 10 most (value * 10 + digit_of b) bs ≡ Some n → Digits bs)
        → (if t && u then numeral 10 most (value * 10 + digit_of b) bs else None) ≡ Some n → Digits (b ∷ bs)
    go true true h rest e = let d = digit-back b (h refl) in more d.0 d.1 (rest e)
    go true false h rest e = let z : ◌≡◌ {A = ℕ} 0 1 = cc in absurd (omega arith)
    go false u h rest e = let z : ◌≡◌ {A = ℕ} 0 1 = cc in absurd (omega arith)

-- ---- points
-- digits have none: the first one comes behind them, or never
span-behind : {xs : List ℕ} (ys : List ℕ) → Digits xs → text_span (xs ++ 46 ∷ ys) ≡ length xs
span-behind ys none = refl
span-behind ys (more {b} {bs} h k ds) = rw (ne_eqb b 46 (λ e. omega arith), span-behind ys ds)

span-whole : {xs : List ℕ} → Digits xs → text_span xs ≡ length xs
span-whole none = refl
span-whole (more {b} {bs} h k ds) = rw (ne_eqb b 46 (λ e. omega arith), span-whole ds)

span-at : (word : List ℕ) → text_span word < length word → get_or word (text_span word) 0 ≡ 46
span-at [] h = absurd (omega arith)
span-at (b ∷ bs) h = go (is_dot b) (eqb-true b 46) (span-at bs) h
  where
    go : (t : Bool) → (t ≡ true → b ≡ 46) → (text_span bs < length bs → get_or bs (text_span bs) 0 ≡ 46) → (if not t then suc (text_span bs) else 0) < suc (length bs) → get_or (b ∷ bs) (if not t then suc (text_span bs) else 0) 0 ≡ 46
    go true e rest h = e refl
    go false e rest h = rest (omega arith)

-- a point is no digit in any base
pointed-not : (base most value : ℕ) (bs : List ℕ) → base ≤ 16 → text_span bs < length bs → numeral base most value bs ≡ None
unfolding numeral digit_of
pointed-not base most value [] k h = absurd (omega arith)
pointed-not base most value (b ∷ bs) k h = go (is_dot b) (eqb-true b 46) (pointed-not base most (value * base + digit_of b) bs k) h
  where
    not-either : (t : Bool) → ◌≡◌ {A = Option ℕ} (if t then None else None) None
    not-either true = refl
    not-either false = refl

    go : (t : Bool) → (t ≡ true → b ≡ 46) → (text_span bs < length bs → numeral base most (value * base + digit_of b) bs ≡ None)
        → (if not t then suc (text_span bs) else 0) < suc (length bs) → numeral base most value (b ∷ bs) ≡ None
    go true e rest h = rw (e refl, le-ltb 16 base k)
    go false e rest h = rw (rest (omega arith)) (not-either (ltb (digit_of b) base && leb (value * base + digit_of b) most))

-- ---- what is read
-- "digits, a point, digits; up to 15 digits in all"
pub record Shaped (before behind : List ℕ) : Type 0 where
  pub digits-before : Digits before
  pub digits-behind : Digits behind
  pub some-before : 0 < length before
  pub some-behind : 0 < length behind
  pub few : length before + length behind ≤ 15

abbrev pub pointed : List ℕ → List ℕ → List ℕ
pointed before behind = before ++ 46 ∷ behind

-- the bits of n over 10 ^ k, rounded once
abbrev pub rounded : ℕ → ℕ → ℕ
rounded n k = to_bits binary64 (round binary64 false n (10 ^ k))

short-bits : (word : List ℕ) → length word < 18 → has_bits word ≡ false
unfolding has_bits
short-bits word h = rw (ne_eqb (length word) 18 (λ e. omega arith))

digits-few : (bs : List ℕ) → Digits bs → length bs ≤ 15 → made 0 bs ≤ nines
digits-few bs ds h = omega (arith, made-most 0 ds, tens-most (length bs) h)

-- digits, a point, digits are the number before the point and the part behind it
pub decimal-reads : (before behind : List ℕ) → Shaped before behind → time_of (pointed before behind) ≡ Some (rounded (made 0 before * 10 ^ length behind + made 0 behind) (length behind))
decimal-reads before behind s =
    let word = pointed before behind in
    let p = length before in
    let k = length behind in
    let long : length word ≡ p + suc k = length-append before (46 ∷ behind) in
    let at : p ≡ text_span word = sym (span-behind behind s.digits-before) in
    let all = digits-joined s.digits-before s.digits-behind in
    let few : length (before ++ behind) ≤ 15 = omega (arith, length-append before behind, s.few) in
    let parts : take p word ++ drop (suc p) word ≡ before ++ behind = ap₂ ◌++◌ (take_at before (46 ∷ behind) p refl) (rw (add-one p) at (drop-append-add before (46 ∷ behind) 1)) in
    time-decimal word (short-bits word (omega (arith, s.few))) (lt-ltb (text_span word) (length word) (omega arith))
    ∙ decimal-is word p k at (omega arith) (omega arith) s.some-before s.some-behind (omega (arith, s.few))
    ∙ ap (λ (bs : List ℕ). over_tens k (numeral 10 nines 0 bs)) parts
    ∙ ap (over_tens k) (numeral-made nines 0 all (digits-few (before ++ behind) all few))
    ∙ ap (λ (n : ℕ). Some (rounded n k)) (made-joined 0 before behind ∙ made-split (made 0 before) behind)

-- ---- and nothing else with a point is read
taken : (t : Bool) (x : Option ℕ) (b : ℕ) → (if t then x else None) ≡ Some b → (t ≡ true) × (x ≡ Some b)
taken true x b e = (refl, e)
taken false x b e = let z : ◌≡◌ {A = ℕ} 0 1 = cc in absurd (omega arith)

all_true : (t u v : Bool) → t && u && v ≡ true → (t ≡ true) × (u ≡ true) × (v ≡ true)
all_true true true true e = (refl, refl, refl)
all_true true true false e = absurd (false≢true e)
all_true true false v e = absurd (false≢true e)
all_true false u v e = absurd (false≢true e)

over-is : (k : ℕ) (x : Option ℕ) (b : ℕ) → over_tens k x ≡ Some b → (n : ℕ) × (x ≡ Some n)
over-is k (Some n) b e = (n, refl)
over-is k None b e = let z : ◌≡◌ {A = ℕ} 0 1 = cc in absurd (omega arith)

-- the word's parts
pub record Parted (word : List ℕ) : Type 0 where
  pub before : List ℕ
  pub behind : List ℕ
  pub is : word ≡ pointed before behind
  pub shaped : Shaped before behind

decimal-parted : (word : List ℕ) (b : ℕ) → decimal_of word ≡ Some b → Parted word
unfolding decimal_of
decimal-parted word b e =
    let p = text_span word in
    let before = take p word in
    let behind = drop (suc p) word in
    let x = over_tens (length behind) (number_of nines (before ++ behind)) in
    let t = taken (ltb 0 (length before) && ltb 0 (length behind) && leb (length before + length behind) 15) x b e in
    let w = all_true (ltb 0 (length before)) (ltb 0 (length behind)) (leb (length before + length behind) 15) t.0 in
    let some : 0 < length behind = ltb-true 0 (length behind) w.1 in
    let inside : p < length word = omega (arith, length-drop (suc p) word) in
    let n = over-is (length behind) (number_of nines (before ++ behind)) b t.1 in
    let ds = digits-parted before behind (numeral-digits nines 0 (before ++ behind) n.0 (sym (number-some nines (before ++ behind) (λ none. omega (arith, length-append before behind))) ∙ n.1)) in
    record {
      before = before;
      behind = behind;
      is = sym (take-append-drop p word) ∙ ap (λ (l : List ℕ). before ++ l) (drop-cons word p 0 inside ∙ ap (λ (d : ℕ). d ∷ behind) (span-at word inside));
      shaped = record {
        digits-before = ds.0;
        digits-behind = ds.1;
        some-before = ltb-true 0 (length before) w.0;
        some-behind = some;
        few = leb-true (length before + length behind) 15 w.2;
      };
    }

-- the point of a word that is `0x` and 16 bytes stands among the 16
bits-point : (word : List ℕ) → has_bits word ≡ true → text_span word < length word → text_span (drop 2 word) < length (drop 2 word)
unfolding has_bits
bits-point [] e h = absurd (omega arith)
bits-point (a ∷ []) e h = absurd (false≢true e)
bits-point (a ∷ b ∷ rest) e h =
    let w = all_true (eqb (suc (suc (length rest))) 18) (eqb a 48) (eqb b 120) e in
    within (eqb-true a 48 w.1) (eqb-true b 120 w.2) h
  where
    within : a ≡ 48 → b ≡ 120 → text_span (a ∷ b ∷ rest) < suc (suc (length rest)) → text_span rest < length rest
    within p q h = omega (arith, rw (p, q) at h)

bits-pointed : (word : List ℕ) → has_bits word ≡ true → has_point word ≡ true → time_of word ≡ None
bits-pointed word e p = time-bits word e ∙ pointed-not 16 0xFFFF_FFFF_FFFF_FFFF 0 (drop 2 word) (omega arith) (bits-point word e (ltb-true (text_span word) (length word) p))

pub only-decimals : (word : List ℕ) (b : ℕ) → has_point word ≡ true → time_of word ≡ Some b → Parted word
only-decimals word b p e = go (has_bits word) refl
  where
    go : (t : Bool) → has_bits word ≡ t → Parted word
    go true h = let no = bits-pointed word h p in let z : ◌≡◌ {A = ℕ} 0 1 = cc in absurd (omega arith)
    go false h = decimal-parted word b (sym (time-decimal word h p) ∙ e)

-- ---- words without a point, and all that was read before there were decimal numbers, read as they did
abbrev pub earlier : List ℕ → Option ℕ
earlier word = if has_bits word then numeral 16 0xFFFF_FFFF_FFFF_FFFF 0 (drop 2 word) else ticks (number_of 0x20_0000_0000_0000 word)

pub without-point : (word : List ℕ) → has_point word ≡ false → time_of word ≡ earlier word
unfolding time_of
without-point word p = rw p

whole-pointed : (word : List ℕ) → has_point word ≡ true → number_of 0x20_0000_0000_0000 word ≡ None
whole-pointed word p =
    let h = ltb-true (text_span word) (length word) p in
    number-some 0x20_0000_0000_0000 word (λ e. omega arith) ∙ pointed-not 10 0x20_0000_0000_0000 0 word (omega arith) h

pub earlier-kept : (word : List ℕ) (b : ℕ) → earlier word ≡ Some b → time_of word ≡ Some b
unfolding time_of
earlier-kept word b e = go (has_bits word) (has_point word) refl e
  where
    go : (t u : Bool) → has_point word ≡ u → (if t then numeral 16 0xFFFF_FFFF_FFFF_FFFF 0 (drop 2 word) else ticks (number_of 0x20_0000_0000_0000 word)) ≡ Some b
        → (if t then numeral 16 0xFFFF_FFFF_FFFF_FFFF 0 (drop 2 word) else if u then decimal_of word else ticks (number_of 0x20_0000_0000_0000 word)) ≡ Some b
    go true u p e = e
    go false true p e = let no = ap ticks (whole-pointed word p) in let z : ◌≡◌ {A = ℕ} 0 1 = cc in absurd (omega arith)
    go false false p e = e

-- ---- a decimal number is a time
finite-between : (x : Float) → T (le instant x) → T (le x latest) → T (finite x)
unfolding le
finite-between nan l h = h
finite-between (inf true) l h = l
finite-between (inf false) l h = h
finite-between (fin s m e) l h = tt

is-clear : {a c : ℕ} {x : Float} → Order.Is a c x → T (clear x)
is-clear (Order.is m e v) = tt

round-time : (n p : ℕ) → 0 < p → n ≤ 2 ^ 60 → T (is_time (round binary64 false n p))
round-time n p P h =
    let x = round binary64 false n p in
    let low : T (le instant x) = subst (λ (z : Float). T (le z x)) (round-at binary64 0 (pos 0) 0 1 (time-fits instant instant-time) (pow_pos 0) refl) (round_mono binary64 0 1 n p (pow_pos 0) P (omega arith)) in
    let high : T (le x latest) = subst (λ (z : Float). T (le x z)) (round-at binary64 1 (pos 60) (2 ^ 60) 1 (time-fits latest latest-time) (pow_pos 0) refl) (round_mono binary64 n p (2 ^ 60) 1 P (pow_pos 0) (omega arith)) in
    let value = Order.value x _ _ (round_val binary64 n p (round_under binary64 n p (finite-between x low high))) in
    (time-decides x).1 (round-fits binary64 false n p, is-clear value, high)

bits-time : (x : Float) → T (is_time x) → T (is_time (of_bits binary64 (to_bits binary64 x)))
bits-time x t = subst (λ (y : Float). T (is_time y)) (sym (of_bits-to_bits binary64 x (time-fits x t))) t

-- what is written in digits is always a time; what is written in bits need not be
pub read-time : (word : List ℕ) (b : ℕ) → has_bits word ≡ false → time_of word ≡ Some b → T (is_time (of_bits binary64 b))
read-time word b h e = go (has_point word) refl
  where
    decimal : Parted word → T (is_time (of_bits binary64 b))
    decimal w =
        let s = w.shaped in
        let n = made 0 w.before * 10 ^ length w.behind + made 0 w.behind in
        let k = length w.behind in
        let r = ap time_of w.is ∙ decimal-reads w.before w.behind s in
        let same : rounded n k ≡ b = cc in
        let few = digits-few (w.before ++ w.behind) (digits-joined s.digits-before s.digits-behind) (omega (arith, length-append w.before w.behind, s.few)) in
        let most : n ≤ nines = omega (arith, made-joined 0 w.before w.behind, made-split (made 0 w.before) w.behind) in
        subst (λ (z : ℕ). T (is_time (of_bits binary64 z))) same (bits-time (round binary64 false n (10 ^ k)) (round-time n (10 ^ k) (tens-pos k) (omega arith)))

    whole : (x : Option ℕ) → number_of 0x20_0000_0000_0000 word ≡ x → ticks x ≡ Some b → T (is_time (of_bits binary64 b))
    whole (Some n) f e =
        let same : to_bits binary64 (tick n) ≡ b = cc in
        subst (λ (z : ℕ). T (is_time (of_bits binary64 z))) same (bits-time (tick n) (tick-time n (number-most 0x20_0000_0000_0000 word n f)))
    whole None f e = let z : ◌≡◌ {A = ℕ} 0 1 = cc in absurd (omega arith)

    go : (t : Bool) → has_point word ≡ t → T (is_time (of_bits binary64 b))
    go true p = decimal (only-decimals word b p e)
    go false p = whole (number_of 0x20_0000_0000_0000 word) refl (sym (time-whole word h p) ∙ e)

-- ---- zeros change nothing: before the number, behind its last digit, and alone behind the point
pub zero-before : (before behind : List ℕ) → Shaped before behind → length before + length behind < 15 → time_of (pointed (48 ∷ before) behind) ≡ time_of (pointed before behind)
zero-before before behind s h =
    let longer : Shaped (48 ∷ before) behind = record {
      digits-before = more {b = 48} (omega arith) (omega arith) s.digits-before;
      digits-behind = s.digits-behind;
      some-before = omega arith;
      some-behind = s.some-behind;
      few = omega arith;
    } in
    decimal-reads (48 ∷ before) behind longer ∙ sym (decimal-reads before behind s)

pub zero-behind : (before behind : List ℕ) → Shaped before behind → length before + length behind < 15 → time_of (pointed before (behind ++ 48 ∷ [])) ≡ time_of (pointed before behind)
zero-behind before behind s h =
    let k = length behind in
    let one : length (behind ++ 48 ∷ []) ≡ suc k = length-append behind (48 ∷ []) ∙ add-one k in
    let longer : Shaped before (behind ++ 48 ∷ []) = record {
      digits-before = s.digits-before;
      digits-behind = digits-joined s.digits-behind (more {b = 48} (omega arith) (omega arith) none);
      some-before = s.some-before;
      some-behind = omega arith;
      few = omega arith;
    } in
    decimal-reads before (behind ++ 48 ∷ []) longer
    ∙ ap₂ (λ (l m : ℕ). Some (rounded (made 0 before * 10 ^ l + m) l)) one (made-joined 0 behind (48 ∷ []))
    ∙ ap (λ (x : Float). Some (to_bits binary64 x)) (round_same binary64 false (made 0 before * 10 ^ suc k + (made 0 behind * 10 + 0)) (10 ^ suc k) (made 0 before * 10 ^ k + made 0 behind) (10 ^ k) (tens-pos (suc k)) (tens-pos k)
    (ap (λ (t : ℕ). (made 0 before * t + (made 0 behind * 10 + 0)) * 10 ^ k) (pow-succ' 10 k) ∙ tenfold (made 0 before) (made 0 behind) (10 ^ k) ∙ ap (λ (t : ℕ). (made 0 before * 10 ^ k + made 0 behind) * t) (sym (pow-succ' 10 k))))
    ∙ sym (decimal-reads before behind s)
  where
    tenfold : (a m p : ℕ) → (a * (10 * p) + (m * 10 + 0)) * p ≡ (a * p + m) * (10 * p)
    tenfold a m p = omega arith

digits-zeros : (k : ℕ) → Digits (replicate k 48)
digits-zeros zero = none
digits-zeros (suc k) = more {b = 48} (omega arith) (omega arith) (digits-zeros k)

made-zeros : (k : ℕ) → made 0 (replicate k 48) ≡ 0
made-zeros zero = refl
made-zeros (suc k) = made-zeros k

pub whole-zeros : (before : List ℕ) (k : ℕ) → Digits before → 0 < length before → length before + suc k ≤ 15 → time_of (pointed before (replicate (suc k) 48)) ≡ time_of before
unfolding of_int
whole-zeros before k ds some h =
    let l = suc k in
    let n = made 0 before in
    let long = length-replicate {A = ℕ} l 48 in
    let shaped : Shaped before (replicate l 48) = record {
      digits-before = ds;
      digits-behind = digits-zeros l;
      some-before = some;
      some-behind = omega arith;
      few = omega arith;
    } in
    decimal-reads before (replicate l 48) shaped
    ∙ ap₂ (λ (z m : ℕ). Some (rounded (n * 10 ^ z + m) z)) long (made-zeros l)
    ∙ ap (λ (x : Float). Some (to_bits binary64 x)) (round_same binary64 false (n * 10 ^ l + 0) (10 ^ l) n 1 (tens-pos l) (pow_pos 0) (simp (mul-one, add-zero)))
    ∙ sym (time-whole before (short-bits before (omega arith)) (le-ltb (text_span before) (length before) (omega (arith, span-whole ds))) ∙ ap ticks (number-some 0x20_0000_0000_0000 before (λ e. omega arith) ∙ numeral-made 0x20_0000_0000_0000 0 ds (omega (arith, digits-few before ds (omega arith)))))
