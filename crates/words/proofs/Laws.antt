-- The steps of the loop that moves words up, and that what it leaves and what is cleared are together `moved_up`. Assumes nothing.
use Prim.Native.Nat.{ℕ, zero, suc, ◌+◌, ◌-◌, ◌≤◌, ◌<◌}
use mathlib.Core.Path.{◌≡◌, refl, sym, ap, ◌∙◌}
use mathlib.Core.List.{List, [], ◌∷◌, ◌++◌, append_assoc}
use native.Mathlib.Omega.{arith}
use native.Mathlib.Nat.{zero-sub, zero-add, add_comm, sub-zero, suc-sub-suc}
use native.Mathlib.Numerals.{add-one}
use lib.ListN.{length, replicate, get_or, set, take, drop, length-append, length-map, length-take, length-drop, drop_of_length-le}
use lib.Seq.{take_at, drop_at, take-length, drop-length, drop-drop, paste-suc, length-take-le, length-slice, take-nil, take_all, get_or-append-add, get_or-drop}
use Rattle.words.specs.Queue.{cleared, moved_up}
use Rattle.std.proofs.Common.{inl, inr}
use Rattle.std.proofs.lemmas.Bool.{cases_lt}
use Prim.Native.Nat.{min}
use borrow.Rule.Slice.PartMut.{put_mid}
use Rattle.std.proofs.lemmas.Slice.{put_mid-paste}
use Rattle.std.proofs.lemmas.List.Edits.{paste_all}
use Rattle.std.proofs.Math.Nat.{min-eq_left, min-eq_right}

-- ---- the words from `gone` on, of which `place` have moved to the front
abbrev pub moved : ℕ → ℕ → List ℕ → List ℕ
moved gone place l = take place (drop gone l) ++ drop place l

module _ (gone place : ℕ) (l : List ℕ) (h : place + gone < length l) where
  -- the word that moves next is where it was
  pub moved-next : get_or (moved gone place l) (place + gone) 0 ≡ get_or (drop gone l) place 0
  moved-next =
      let front : length (take place (drop gone l)) ≡ place = length-take-le place (drop gone l) (rw (length-drop gone l) (omega arith)) in
      let at : place + gone ≡ length (take place (drop gone l)) + gone = omega arith in
      rw (at, get_or-append-add, get_or-drop place l gone 0, get_or-drop gone l place 0, add_comm place gone)

  -- one word more
  pub moved_more : set (moved gone place l) place (get_or (moved gone place l) (place + gone) 0) ≡ moved gone (place + 1) l
  moved_more =
      let in-l : 0 + place < length l = omega arith in
      let in_rest : place < length (drop gone l) = rw (length-drop gone l) (omega arith) in
      rw (moved-next, add-one) (simp zero-add at (paste-suc l 0 (drop gone l) place 0 in-l in_rest))

drop-take : (gone end : ℕ) (l : List ℕ) → take (end - gone) (drop gone l) ≡ drop gone (take end l)
drop-take zero end l = rw sub-zero
drop-take (suc gone) zero l = rw zero-sub
drop-take (suc gone) (suc end) [] = take-nil (suc end - suc gone)
drop-take (suc gone) (suc end) (x ∷ xs) = rw suc-sub-suc (drop-take gone end xs)

-- all have moved
pub moved_all : (gone end : ℕ) (l : List ℕ) → moved gone (end - gone) l ≡ drop gone (take end l) ++ drop (end - gone) l
moved_all gone end l = rw (drop-take gone end l)

-- the places from `start` to before `place` are cleared
abbrev pub cleared_to : ℕ → ℕ → List ℕ → List ℕ
cleared_to start place l = take start l ++ cleared (drop start (take place l)) ++ drop place l

-- ---- the two together
cleared-zeros : (l : List ℕ) → cleared l ≡ replicate (length l) 0
cleared-zeros [] = refl
cleared-zeros (x ∷ xs) = ap (λ (r : List ℕ). 0 ∷ r) (cleared-zeros xs)

cleared-same : (l m : List ℕ) → length l ≡ length m → cleared l ≡ cleared m
cleared-same l m h = rw (cleared-zeros l, cleared-zeros m, h)

drop_more : (k n : ℕ) (l m : List ℕ) → k ≤ n → drop k l ≡ drop k m → drop n l ≡ drop n m
drop_more k n l m h e =
    let n-is : k + (n - k) ≡ n = omega arith in
    rw (← n-is, ← drop-drop (n - k) k l, ← drop-drop (n - k) k m, e)

module _ (out end : ℕ) (l : List ℕ) (some : out ≤ end) (fits : end ≤ length l) where
  pub shifted-cleared : cleared_to (end - out) end (drop out (take end l) ++ drop (end - out) l) ≡ moved_up out end l
  unfolding moved_up
  shifted-cleared =
      let m : List ℕ = drop out (take end l) ++ drop (end - out) l in
      let front : length (drop out (take end l)) ≡ end - out = length-slice out end l fits in
      let whole : end ≤ length m = simp (length-append, length-drop, length-take) (omega arith) in
      let queue : out ≤ length (take end l) = rw (length-take-le end l fits) some in
      let left : end - (end - out) ≡ out = omega arith in
      let fewer : end - out ≤ end = omega arith in
      let lengths : length (drop (end - out) (take end m)) ≡ length (take out (take end l)) =
      length-slice (end - out) end m whole ∙ left ∙ sym (length-take-le out (take end l) queue) in
      let beyond : drop end m ≡ drop end l = drop_more (end - out) end m l fewer (drop_at (drop out (take end l)) (drop (end - out) l) (end - out) front) in
      rw (take_at (drop out (take end l)) (drop (end - out) l) (end - out) front, beyond, cleared-same (drop (end - out) (take end m)) (take out (take end l)) lengths)

min-cases : (P : ℕ → Type 0) (a b : ℕ) → (a ≤ b → P a) → (b ≤ a → P b) → P (min a b)
min-cases P a b p q = elim (cases_lt a b) [ inl h ↦ let l : a ≤ b = omega arith in rw (min-eq_left l) (p l) | inr h ↦ rw (min-eq_right h) (q h) ]

take-min : (n : ℕ) (l : List ℕ) → take (min n (length l)) l ≡ take n l
take-min n l = min-cases (λ k. take k l ≡ take n l) n (length l) (λ _. refl) (λ h. take-length l ∙ sym (take_all n l h))

drop-min : (n : ℕ) (l : List ℕ) → drop (min n (length l)) l ≡ drop n l
drop-min n l = min-cases (λ k. drop k l ≡ drop n l) n (length l) (λ _. refl) (λ h. drop-length l ∙ sym (drop_of_length-le l h))

-- what is asked beyond the words, or beyond the queue, changes nothing
pub moved-within : (gone held : ℕ) (l : List ℕ) → moved_up (min gone (min held (length l))) (min held (length l)) l ≡ moved_up gone held l
unfolding moved_up
moved-within gone held l = rw (take-min held l, drop-min held l, ← length-take held l, take-min gone (take held l), drop-min gone (take held l))

-- ---- what the two calls leave
module _ (out end : ℕ) (l m left : List ℕ) (some : out ≤ end) (fits : end ≤ length l) where
  pub moved_up-says : m ≡ drop out (take end l) ++ drop (end - out) l → left ≡ replicate (length (take (end - (end - out)) (drop (end - out) m))) 0 → put_mid (end - out) (end - (end - out)) m left ≡ moved_up out end l
  moved_up-says front c =
      let start : ℕ = end - out in
      let n : ℕ = end - start in
      let whole : end ≤ length m = omega (arith, simp (length-append, length-drop, length-take) at (ap length front)) in
      let long : length (drop start (take end m)) ≡ n = length-slice start end m whole in
      let room : n ≤ length (drop start m) = omega (arith, length-drop start m) in
      let same : left ≡ cleared (drop start (take end m)) = c ∙ ap (λ k. replicate k 0) (length-take-le n (drop start m) room) ∙ sym (cleared-zeros (drop start (take end m)) ∙ ap (λ k. replicate k 0) long) in
      let counted : n ≡ length (cleared (drop start (take end m))) = sym (length-map (drop start (take end m)) (λ w. 0) ∙ long) in
      let ends : start + n ≡ end = omega arith in
      put_mid-paste start n m left (cleared (drop start (take end m))) n same refl counted
      ∙ paste_all m start (cleared (drop start (take end m))) n counted
      ∙ sym (append_assoc (take start m) (cleared (drop start (take end m))) (drop (start + n) m))
      ∙ ap (λ k. take start m ++ cleared (drop start (take end m)) ++ drop k m) ends
      ∙ ap (cleared_to start end) front
      ∙ shifted-cleared out end l some fits
