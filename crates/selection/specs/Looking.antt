-- A search that looks at one place after another: what it finds, and that searches which go on from each other's end look at each place once. Assumes nothing.
use Rattle.std.specs.Prelude.{ℕ, zero, suc, ◌+◌, ◌-◌, ◌≤◌, ◌<◌, ◌≡◌, refl, Bool, true, false, List, [], ◌∷◌, ◌++◌, length, if◌then◌else◌, None, Option, Some}
use Rattle.std.proofs.Common.{sym, ap, ◌∙◌, add-zero, zero-add, add-one, arith}
use Rattle.rules.specs.Base.{from}
use Rattle.words.specs.Search.{first_from}
use Rattle.words.specs.SearchLaws.{search-end, search-hit, search-skip, found-not}
use Rattle.selection.specs.declared.Target.{Target}
use Rattle.selection.specs.declared.Link.{Link}
use Rattle.selection.specs.Selecting.{seen_of, link_of, looks, Finds}

-- ---- what one look shows
seen-to : (t : Bool) (x to : Target) → seen_of t x ≡ Some to → (t ≡ true) × (to ≡ x)
seen-to true x to h = (refl, cc)
seen-to false x to h = absurd (let z : ◌≡◌ {A = ℕ} 0 1 = cc in omega arith)

seen_other : (t : Bool) (x : Target) → seen_of t x ≡ None → t ≡ false
seen_other true x h = absurd (let z : ◌≡◌ {A = ℕ} 0 1 = cc in omega arith)
seen_other false x h = refl

-- ---- the places looked at
module _ (test : ℕ → Bool) where
  looks-hit : (at count : ℕ) → at < count → test at ≡ true → length (looks test at (count - at)) ≡ 1
  looks-hit at count below passes = let left : count - at ≡ suc (count - (at + 1)) = omega arith in rw (left, passes)

  looks-skip : (at count : ℕ) → at < count → test at ≡ false → at + length (looks test at (count - at)) ≡ at + 1 + length (looks test (at + 1) (count - (at + 1)))
  looks-skip at count below fails = let left : count - at ≡ suc (count - (at + 1)) = omega arith in rw (left, fails, add-one) (omega arith)

  looks-end : (at count : ℕ) → count ≤ at → at + length (looks test at (count - at)) ≡ at
  looks-end at count past = let left : count - at ≡ 0 = omega arith in rw (left, add-zero)

  -- one after the other
  looks-are : (k n : ℕ) → looks test k n ≡ from k (length (looks test k n))
  looks-are k zero = refl
  looks-are k (suc n) = by (test k) (looks-are (suc k) n)
    where
      by : (t : Bool) → looks test (suc k) n ≡ from (suc k) (length (looks test (suc k) n))
          → k ∷ (if t then [] else looks test (suc k) n) ≡ k ∷ from (suc k) (length (if t then [] else looks test (suc k) n))
      by true later = refl
      by false later = ap (λ (l : List ℕ). k ∷ l) later

  -- all, where none passes
  looks-all : (k n : ℕ) → first_from test k n ≡ None → length (looks test k n) ≡ n
  looks-all k zero h = refl
  looks-all k (suc n) h = by (test k) h (looks-all (suc k) n)
    where
      by : (t : Bool) → (if t then Some k else first_from test (suc k) n) ≡ None → (first_from test (suc k) n ≡ None → length (looks test (suc k) n) ≡ n)
          → suc (length (if t then [] else looks test (suc k) n)) ≡ suc n
      by true h later = absurd (found-not k h)
      by false h later = ap suc (later h)

  -- up to the one that is found
  looks-at : (k n j : ℕ) → first_from test k n ≡ Some j → k + length (looks test k n) ≡ j + 1
  looks-at k zero j h = absurd (found-not j (sym h))
  looks-at k (suc n) j h = by (test k) h (looks-at (suc k) n j)
    where
      by : (t : Bool) → (if t then Some k else first_from test (suc k) n) ≡ Some j → (first_from test (suc k) n ≡ Some j → suc k + length (looks test (suc k) n) ≡ j + 1)
          → k + suc (length (if t then [] else looks test (suc k) n)) ≡ j + 1
      by true h later = let same : k ≡ j = cc in omega arith
      by false h later = let l = later h in omega arith

-- ---- searches one after another, each from where the one before has ended, and the places that they look at
pub data Walked (test : ℕ → Bool) (count : ℕ) : ℕ → List ℕ → Type 0 where
  begun : Walked test count 0 []
  searched : {looked : ℕ} {places : List ℕ} → Walked test count looked places → Walked test count (looked + length (looks test looked (count - looked))) (places ++ looks test looked (count - looked))

joined : (k m n : ℕ) → from k (m + n) ≡ from k m ++ from (k + m) n
joined k zero n = rw (zero-add, add-zero)
joined k (suc m) n =
    let e : suc k + m ≡ k + suc m = omega arith in
    let more : suc m + n ≡ suc (m + n) = omega arith in
    rw more (ap (λ (l : List ℕ). k ∷ l) (joined (suc k) m n ∙ rw e))

-- each place before `looked` once, in order, and no other
pub looked-once : {test : ℕ → Bool} {count looked : ℕ} {places : List ℕ} → Walked test count looked places → places ≡ from 0 looked
looked-once begun = refl
looked-once {test} {count} (searched {looked} walked) =
    let seen = looks test looked (count - looked) in
    (λ i. looked-once walked i ++ looks-are test looked (count - looked) i)
    ∙ ap (λ (k : ℕ). from 0 looked ++ from k (length seen)) (sym (zero-add looked))
    ∙ sym (joined 0 looked (length seen))

-- ---- a search that began at `start` and has come to `at`
module _ (test : ℕ → Bool) (lead : ℕ → Target) (count start : ℕ) where
  -- what is left of it is the whole
  pub record Looking (at : ℕ) : Type 0 where
    pub left : first_from test at (count - at) ≡ first_from test start (count - start)
    pub once : at + length (looks test at (count - at)) ≡ start + length (looks test start (count - start))

  pub looking-start : Looking start
  looking-start = record { left = refl; once = refl }

  module _ (at : ℕ) (so_far : Looking at) where
    pub looking-end : count ≤ at → Finds test lead count start None at
    looking-end past = record {
      is = ap (link_of lead) (sym (search-end test at count past) ∙ so_far.left);
      once = sym (looks-end test at count past) ∙ so_far.once;
    }

    -- one place more has been looked at
    module _ (below : at < count) (seen : Option Target) (sees : seen ≡ seen_of (test at) (lead at)) (after : ℕ) (one : after ≡ at + 1) where
      pub looking-on : seen ≡ None → Looking after
      looking-on other =
          let fails = seen_other (test at) (lead at) (sym sees ∙ other) in
          rw one
          record { left = sym (search-skip test at count below fails) ∙ so_far.left; once = sym (looks-skip test at count below fails) ∙ so_far.once }

      pub looking-found : (to : Target) → seen ≡ Some to → Finds test lead count start (Some (record { place = at; target = to })) after
      looking-found to found =
          let passes = seen-to (test at) (lead at) to (sym sees ∙ found) in
          record {
            is = ap (λ (t : Target). Some (record { place = at; target = t })) passes.1 ∙ ap (link_of lead) (sym (search-hit test at count below passes.0) ∙ so_far.left);
            once = one ∙ ap (λ (n : ℕ). at + n) (sym (looks-hit test at count below passes.0)) ∙ so_far.once;
          }

-- ---- what a caller learns from a search
module _ (test : ℕ → Bool) (lead : ℕ → Target) (count looked : ℕ) (r : Option Link) (after : ℕ) (finds : Finds test lead count looked r after) where
  pub finds-none : r ≡ None → first_from test looked (count - looked) ≡ None
  finds-none h = by (first_from test looked (count - looked)) (sym h ∙ finds.is)
    where
      by : (f : Option ℕ) → None ≡ link_of lead f → f ≡ None
      by (Some k) e = absurd (let z : ◌≡◌ {A = ℕ} 0 1 = cc in omega arith)
      by None e = refl

  -- then all have been looked at
  pub finds-all : looked ≤ count → r ≡ None → after ≡ count
  finds-all within none = finds.once ∙ rw (looks-all test looked (count - looked) (finds-none none)) (omega arith)

  pub finds-at : (j : ℕ) (to : Target) → r ≡ Some (record { place = j; target = to }) → (first_from test looked (count - looked) ≡ Some j) × (to ≡ lead j) × (after ≡ j + 1)
  finds-at j to h =
      let found = by (first_from test looked (count - looked)) (sym h ∙ finds.is) in
      (found.0, found.1, finds.once ∙ looks-at test looked (count - looked) j found.0)
    where
      by : (f : Option ℕ) → Some (record { place = j; target = to }) ≡ link_of lead f → (f ≡ Some j) × (to ≡ lead j)
      by (Some k) e =
          let link : ◌≡◌ {A = Link} (record { place = j; target = to }) (record { place = k; target = lead k }) = cc in
          let same = ap (λ (l : Link). l.place) link in
          (ap Some (sym same), ap (λ (l : Link). l.target) link ∙ ap lead (sym same))
      by None e = absurd (let z : ◌≡◌ {A = ℕ} 0 1 = cc in omega arith)
