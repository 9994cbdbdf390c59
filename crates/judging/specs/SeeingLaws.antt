-- The judge says `Ok` exactly where the words are those that were told. Assumes nothing.
use Rattle.std.specs.Prelude.{ℕ, suc, ◌+◌, ◌-◌, ◌≤◌, ◌<◌, ◌≡◌, refl, Bool, true, false, List, [], ◌∷◌, eqb, ltb, length, get_or, take, drop, if◌then◌else◌, Ok, Err}
use Rattle.std.proofs.Common.{sym, ap, ◌∙◌, add-one, arith, length-drop, take_all, length-take-le}
use borrow.Author.Tests.{eq-eqb, ne_eqb, eqb-true, eqb-false, ltb-false, lt-ltb, le-ltb}
use Rattle.std.proofs.Math.ListN.{drop_of_length-le}
use Rattle.std.proofs.Math.Seq.{drop-cons}
use Rattle.judging.specs.declared.Differs.TheVariants.{Answer, State, Wrong}
use Rattle.judging.specs.Seeing.{Seen, alike, untouched, pick, answer_seen, state_seen}

-- ---- the steps of a comparison
module _ (xs ys : List ℕ) (at : ℕ) where
  pub alike-ends : length xs ≤ at → alike (drop at xs) (drop at ys) ≡ 0
  alike-ends h = rw (drop_of_length-le xs h)

  module _ (h : at < length xs) where
    pub alike-short : length ys ≤ at → alike (drop at xs) (drop at ys) ≡ 0
    alike-short k = rw (drop-cons xs at 0 h, drop_of_length-le ys k)

    module _ (k : at < length ys) where
      pub alike-stops : (get_or xs at 0 ≡ get_or ys at 0 → ⊥) → alike (drop at xs) (drop at ys) ≡ 0
      alike-stops differ = rw (drop-cons xs at 0 h, drop-cons ys at 0 k, ne_eqb _ _ differ)

      pub alike-more : get_or xs at 0 ≡ get_or ys at 0 → alike (drop at xs) (drop at ys) ≡ suc (alike (drop (at + 1) xs) (drop (at + 1) ys))
      alike-more e = rw (drop-cons xs at 0 h, drop-cons ys at 0 k, eq-eqb _ _ e, add-one) (omega arith)

-- ---- the steps of the search for a word that was written
module _ (xs : List ℕ) (at : ℕ) where
  pub untouched-ends : length xs ≤ at → untouched (drop at xs) ≡ true
  untouched-ends h = rw (drop_of_length-le xs h)

  module _ (h : at < length xs) where
    pub untouched-not : (get_or xs at 0 ≡ 11936128518282651045 → ⊥) → untouched (drop at xs) ≡ false
    untouched-not differs = rw (drop-cons xs at 0 h, ne_eqb _ _ differs)

    pub untouched-more : get_or xs at 0 ≡ 11936128518282651045 → untouched (drop at xs) ≡ untouched (drop (at + 1) xs)
    untouched-more e = rw (drop-cons xs at 0 h, eq-eqb _ _ e, add-one)

-- ---- what is seen, by what the tests say. A part from 0 on is as long as its end says
from-none : (n : ℕ) → n - 0 ≡ n
from-none n = omega arith

module _ (words : List ℕ) (count : ℕ) (said : List ℕ) (some : count ≡ 0 → ⊥) where
  pub seen-short : length words < count → Err Wrong ≡ answer_seen words count said
  seen-short h = rw (ne_eqb _ _ some, lt-ltb _ _ h)

  module _ (h : count ≤ length words) (place : ℕ) (e : place ≡ alike (take (count - 0) words) said) where
    told : place ≡ alike (take count words) said
    told = e ∙ ap (λ (n : ℕ). alike (take n words) said) (from-none count)

    pub seen-differs : place < count → Err (Answer place) ≡ answer_seen words count said
    seen-differs k = rw (sym told, ne_eqb _ _ some, le-ltb _ _ h, lt-ltb _ _ k)

    module _ (k : count ≤ place) where
      -- a part to the end is all that is left
      rest : (t : Bool) → untouched (take (length words - count) (drop count words)) ≡ t → untouched (drop count words) ≡ t
      rest t u = sym (ap untouched (take_all (length words - count) (drop count words) (omega (arith, length-drop count words)))) ∙ u

      pub seen-written : untouched (take (length words - count) (drop count words)) ≡ false → Err (Answer count) ≡ answer_seen words count said
      seen-written u = rw (sym told, ne_eqb _ _ some, le-ltb _ _ h, le-ltb _ _ k, rest _ u)

      pub seen_same : untouched (take (length words - count) (drop count words)) ≡ true → Ok tt ≡ answer_seen words count said
      seen_same u = rw (sym told, ne_eqb _ _ some, le-ltb _ _ h, le-ltb _ _ k, rest _ u)

module _ (words told : List ℕ) (place : ℕ) (e : place ≡ alike words told) where
  pub state-differs : place < length words → Err (State place) ≡ state_seen words told
  state-differs k = rw (sym e, lt-ltb _ _ k)

  pub state-same : length words ≤ place → Ok tt ≡ state_seen words told
  state-same k = rw (sym e, le-ltb _ _ k)

-- ---- what `Ok` says
alike-step : (x y : ℕ) (xs ys : List ℕ) (t : Bool) → eqb x y ≡ t → suc (length xs) ≤ (if t then 1 + alike xs ys else 0)
    → (length xs ≤ alike xs ys → take (length xs) ys ≡ xs) → ◌≡◌ {A = List ℕ} (y ∷ take (length xs) ys) (x ∷ xs)
alike-step x y xs ys true e h rest = let same : x ≡ y = eqb-true x y e in let more : take (length xs) ys ≡ xs = rest (omega arith) in cc
alike-step x y xs ys false e h rest = absurd (omega arith)

-- words that are alike to their end are the others' first
pub alike_all : (xs ys : List ℕ) → length xs ≤ alike xs ys → take (length xs) ys ≡ xs
alike_all [] ys h = refl
alike_all (x ∷ xs) [] h = absurd (omega arith)
alike_all (x ∷ xs) (y ∷ ys) h = alike-step x y xs ys (eqb x y) refl h (alike_all xs ys)

alike-own-step : (x y : ℕ) (xs ys : List ℕ) → ◌≡◌ {A = List ℕ} (y ∷ take (length xs) ys) (x ∷ xs)
    → (take (length xs) ys ≡ xs → length xs ≤ alike xs ys) → suc (length xs) ≤ (if eqb x y then 1 + alike xs ys else 0)
alike-own-step x y xs ys e rest =
    let same : x ≡ y = cc in let more : take (length xs) ys ≡ xs = cc in
    let less : length xs ≤ alike xs ys = rest more in rw (eq-eqb x y same) (omega arith)

pub alike-own : (xs ys : List ℕ) → take (length xs) ys ≡ xs → length xs ≤ alike xs ys
alike-own [] ys e = omega arith
alike-own (x ∷ xs) [] e = let z : ◌≡◌ {A = ℕ} 0 1 = cc in absurd (omega arith)
alike-own (x ∷ xs) (y ∷ ys) e = alike-own-step x y xs ys e (alike-own xs ys)

-- some words, as many as there are, with what was told for each, and nothing written behind them
pub record Told (words : List ℕ) (count : ℕ) (said : List ℕ) : Type 0 where
  pub some : count ≡ 0 → ⊥
  pub room : count ≤ length words
  pub same : take count said ≡ take count words
  pub kept : untouched (drop count words) ≡ true

pick-wrong : (t : Bool) (a : Seen) → pick t (Err Wrong) a ≡ Ok tt → (t ≡ false) × (a ≡ Ok tt)
pick-wrong true a e = let z : ◌≡◌ {A = ℕ} 0 1 = cc in absurd (omega arith)
pick-wrong false a e = (refl, e)

pick-answer : (t : Bool) (place : ℕ) (a : Seen) → pick t (Err (Answer place)) a ≡ Ok tt → (t ≡ false) × (a ≡ Ok tt)
pick-answer true place a e = let z : ◌≡◌ {A = ℕ} 0 1 = cc in absurd (omega arith)
pick-answer false place a e = (refl, e)

pick_same : (t : Bool) (place : ℕ) → pick t (Ok tt) (Err (Answer place)) ≡ Ok tt → t ≡ true
pick_same true place e = refl
pick_same false place e = let z : ◌≡◌ {A = ℕ} 0 1 = cc in absurd (omega arith)

-- an answer is called the same exactly where it is what was told
module _ (words : List ℕ) (count : ℕ) (said : List ℕ) where
  pub same-told : answer_seen words count said ≡ Ok tt → Told words count said
  same-told e =
      let one = pick-wrong (eqb count 0) _ e in
      let two = pick-wrong (ltb (length words) count) _ one.1 in
      let three = pick-answer (ltb (alike (take count words) said) count) _ _ two.1 in
      let room : count ≤ length words = ltb-false _ _ two.0 in
      let long : length (take count words) ≡ count = length-take-le count words room in
      let all : count ≤ alike (take count words) said = ltb-false _ _ three.0 in
      record { some = eqb-false _ _ one.0; room = room; same = ap (λ (n : ℕ). take n said) (sym long) ∙ alike_all (take count words) said (omega arith); kept = pick_same _ _ three.1 }

  pub told_same : Told words count said → answer_seen words count said ≡ Ok tt
  told_same h =
      let room = h.room in
      let long : length (take count words) ≡ count = length-take-le count words room in
      let told' : take (length (take count words)) said ≡ take count words = ap (λ (n : ℕ). take n said) long ∙ h.same in
      let own = alike-own (take count words) said told' in
      let all : count ≤ alike (take count words) said = omega arith in
      rw (ne_eqb _ _ h.some, le-ltb _ _ room, le-ltb _ _ all, h.kept)

pick-state : (t : Bool) (place : ℕ) → pick t (Err (State place)) (Ok tt) ≡ Ok tt → t ≡ false
pick-state true place e = let z : ◌≡◌ {A = ℕ} 0 1 = cc in absurd (omega arith)
pick-state false place e = refl

-- a state is called the same exactly where what was told begins with it
module _ (words told : List ℕ) where
  pub state-told : state_seen words told ≡ Ok tt → take (length words) told ≡ words
  state-told e = alike_all words told (ltb-false _ _ (pick-state _ _ e))

  pub told-state : take (length words) told ≡ words → state_seen words told ≡ Ok tt
  told-state e = rw (le-ltb _ _ (alike-own words told e))
