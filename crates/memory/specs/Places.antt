-- Words read after a head, a part or one word was written: what was written stands there, and the others are as they were. Assumes nothing.
use Rattle.std.specs.Prelude.{ℕ, ◌+◌, ◌-◌, ◌≤◌, ◌<◌, ◌≡◌, refl, ◌⊎◌, List, ◌++◌, length, get_or, set, take, drop}
use Rattle.std.proofs.Common.{arith, sym, ap, ◌∙◌, inl, inr, append_assoc, length-set, length-append, length-take, length-drop, take-append-drop, ext_get_or, length-take-le, take_at, drop_at, get_or-set_same, get_or-set_other, get_or-append-add, get_or-take, get_or-drop, drop-set-lt, drop-drop}
use Rattle.std.proofs.Math.ListN.{get_or-append}
use Rattle.std.proofs.lemmas.List.{take-set-le, drop-set-add}
use Rattle.std.proofs.Math.Seq.{take-set-lt}
pub use Rattle.words.specs.Lists.{part_length}
use Rattle.memory.specs.Words.{word_at, place_at, head_at, phase_in, timer_in, held_in, headed, own_in, replaced, Own, Only}

-- a word outside of lo to hi is none between them
pub outside : (p lo hi q : ℕ) → (p < lo) ⊎ (hi ≤ p) → lo ≤ q → q < hi → p ≡ q → ⊥
outside p lo hi q (inl h) a b e = omega arith
outside p lo hi q (inr h) a b e = omega arith

-- ---- a head is written
module _ (i phase timer held : ℕ) (mem : List ℕ) where
  abbrev one : List ℕ
  one = set mem (head_at i) phase

  abbrev two : List ℕ
  two = set one (head_at i + 1) timer

  pub headed-length : length (headed i phase timer held mem) ≡ length mem
  headed-length = simp length-set

  pub headed-other : (p : ℕ) → (p < head_at i) ⊎ (head_at i + 3 ≤ p) → word_at (headed i phase timer held mem) p ≡ word_at mem p
  headed-other p away =
      get_or-set_other two (head_at i + 2) p held 0 (outside p (head_at i) (head_at i + 3) (head_at i + 2) away (omega arith) (omega arith))
      ∙ get_or-set_other one (head_at i + 1) p timer 0 (outside p (head_at i) (head_at i + 3) (head_at i + 1) away (omega arith) (omega arith))
      ∙ get_or-set_other mem (head_at i) p phase 0 (outside p (head_at i) (head_at i + 3) (head_at i) away (omega arith) (omega arith))

  pub headed-own : (b width : ℕ) → head_at i + 3 ≤ b → own_in b width (headed i phase timer held mem) ≡ own_in b width mem
  headed-own b width h =
      ap (take width)
      (drop-set-lt b two (head_at i + 2) held (omega arith) ∙ drop-set-lt b one (head_at i + 1) timer (omega arith) ∙ drop-set-lt b mem (head_at i) phase (omega arith))

  module _ (room : head_at i + 3 ≤ length mem) where
    pub headed-phase : phase_in (headed i phase timer held mem) i ≡ phase
    headed-phase =
        get_or-set_other two (head_at i + 2) (head_at i) held 0 (λ e. omega arith)
        ∙ get_or-set_other one (head_at i + 1) (head_at i) timer 0 (λ e. omega arith)
        ∙ get_or-set_same mem (head_at i) phase 0 (omega arith)

    pub headed-timer : timer_in (headed i phase timer held mem) i ≡ timer
    headed-timer =
        get_or-set_other two (head_at i + 2) (head_at i + 1) held 0 (λ e. omega arith)
        ∙ get_or-set_same one (head_at i + 1) timer 0 (omega (arith, length-set mem (head_at i) phase))

    pub headed-held : held_in (headed i phase timer held mem) i ≡ held
    headed-held = get_or-set_same two (head_at i + 2) held 0 (omega (arith, length-set one (head_at i + 1) timer, length-set mem (head_at i) phase))

-- ---- a part is replaced by as many words
module _ (b width : ℕ) (words mem : List ℕ) (room : b + width ≤ length mem) (long : length words ≡ width) where
  front : length (take b mem) ≡ b
  front = length-take-le b mem (omega arith)

  pub replaced-length : length (replaced b width words mem) ≡ length mem
  replaced-length = simp (length-append, length-drop) (omega (arith, front))

  pub replaced-own : own_in b width (replaced b width words mem) ≡ words
  replaced-own = ap (take width) (drop_at (take b mem) (words ++ drop (b + width) mem) b front) ∙ take_at words (drop (b + width) mem) width long

  pub replaced-other : (p : ℕ) → (p < b) ⊎ (b + width ≤ p) → word_at (replaced b width words mem) p ≡ word_at mem p
  replaced-other p (inl h) = get_or-append (take b mem) (words ++ drop (b + width) mem) 0 p (omega (arith, front)) ∙ get_or-take b mem p 0 h
  replaced-other p (inr h) =
      let k = p - (b + width) in
      let e : p ≡ b + width + k = omega arith in
      let l : length (take b mem ++ words) ≡ b + width = length-append (take b mem) words ∙ (let z : length (take b mem) + length words ≡ b + width = omega (arith, front) in z) in
      ap (λ m. get_or m p 0) (sym (append_assoc (take b mem) words (drop (b + width) mem)))
      ∙ ap (λ n. get_or ((take b mem ++ words) ++ drop (b + width) mem) n 0) (e ∙ ap (λ n. n + k) (sym l))
      ∙ get_or-append-add (take b mem ++ words) (drop (b + width) mem) k 0
      ∙ get_or-drop (b + width) mem k 0
      ∙ ap (λ n. get_or mem n 0) (sym e)

-- ---- a part is lent and comes back: a slice counts the words from its start to its end
module _ (b width : ℕ) (mem : List ℕ) where
  count : b + width - b ≡ width
  count = omega arith

  pub lent-own : take (b + width - b) (drop b mem) ≡ own_in b width mem
  lent-own = rw count

  pub put_back : (words : List ℕ) → take b mem ++ (words ++ drop (b + width - b) (drop b mem)) ≡ replaced b width words mem
  put_back words = rw (count, drop-drop width b mem)

  -- one that comes back as it was
  pub replaced-same : mem ≡ replaced b width (own_in b width mem) mem
  replaced-same = sym (rw (← drop-drop width b mem, take-append-drop width (drop b mem)) (take-append-drop b mem))

-- ---- words from b on that are each as they were are so as a list, where it reaches as far as it did
pub own-reaching : (b width : ℕ) (mem after : List ℕ) → length (own_in b width after) ≡ length (own_in b width mem) → ((p : ℕ) → b ≤ p → p < b + width → word_at after p ≡ word_at mem p) → own_in b width after ≡ own_in b width mem
own-reaching b width mem after reach same = ext_get_or 0 (own_in b width after) (own_in b width mem) reach word
  where
    word : (i : ℕ) → i < length (own_in b width after) → word_at (own_in b width after) i ≡ word_at (own_in b width mem) i
    word i l =
        let m : i < width = omega (arith, length-take width (drop b after)) in
        get_or-take width (drop b after) i 0 m ∙ get_or-drop b after i 0 ∙ same (b + i) (omega arith) (omega arith) ∙ sym (get_or-take width (drop b mem) i 0 m ∙ get_or-drop b mem i 0)

-- it does in words of the same length
pub own-reach : (b width : ℕ) (mem after : List ℕ) → length after ≡ length mem → length (own_in b width after) ≡ length (own_in b width mem)
own-reach b width mem after long = simp (length-take, length-drop, long)

pub own-alike : (b width : ℕ) (mem after : List ℕ) → length after ≡ length mem → ((p : ℕ) → b ≤ p → p < b + width → word_at after p ≡ word_at mem p) → own_in b width after ≡ own_in b width mem
own-alike b width mem after long same = own-reaching b width mem after (own-reach b width mem after long) same

-- ---- one word is written after a part
pub set_own : (b width at v : ℕ) (mem : List ℕ) → b + width ≤ at → own_in b width (set mem at v) ≡ own_in b width mem
set_own b width at v mem h =
    let k = at - b in
    let e : at ≡ b + k = omega arith in
    let l : width ≤ k = omega arith in
    ap (λ n. take width (drop b (set mem n v))) e ∙ ap (take width) (drop-set-add b mem k v) ∙ take-set-le width (drop b mem) k v l

-- ---- and one before it
pub before-own : (b width at v : ℕ) (mem : List ℕ) → at < b → own_in b width (set mem at v) ≡ own_in b width mem
before-own b width at v mem h = ap (take width) (drop-set-lt b mem at v h)

-- ---- one word is written inside a part
pub inside-own : (b width k v : ℕ) (mem : List ℕ) → k < width → own_in b width (set mem (b + k) v) ≡ set (own_in b width mem) k v
inside-own b width k v mem h = ap (take width) (drop-set-add b mem k v) ∙ take-set-lt width (drop b mem) k v h

-- ---- only words of the row, and from lo to hi, were written
module _ (i b width lo hi : ℕ) (mem : List ℕ) where
  pub own_same : Own i b width lo hi mem mem
  own_same = record { long = refl; rest = λ p away. refl }

  pub own-then : (mid after : List ℕ) → Own i b width lo hi mem mid → Own i b width lo hi mid after → Own i b width lo hi mem after
  own-then mid after f g = record { long = g.long ∙ f.long; rest = λ p away. g.rest p away ∙ f.rest p away }

  pub own-place : (v : ℕ) → Own i b width lo hi mem (set mem place_at v)
  own-place v = record { long = length-set mem place_at v; rest = λ p away. get_or-set_other mem place_at p v 0 (outside p place_at (place_at + 1) place_at away.place (omega arith) (omega arith)) }

  pub own-replaced : (words : List ℕ) → b + width ≤ length mem → length words ≡ width → Own i b width lo hi mem (replaced b width words mem)
  own-replaced words room long = record {
    long = replaced-length b width words mem room long;
    rest = λ p away. replaced-other b width words mem room long p away.own;
  }

  -- n of the words from lo on
  pub own_out : (n : ℕ) (words : List ℕ) → lo + n ≤ length mem → length words ≡ n → lo + n ≤ hi → Own i b width lo hi mem (replaced lo n words mem)
  own_out n words room long within = record {
    long = replaced-length lo n words mem room long;
    rest = λ p away. replaced-other lo n words mem room long p (elim away.out [ inl h ↦ inl h | inr h ↦ inr (omega arith) ]);
  }

  pub own-set : (at v : ℕ) → lo ≤ at → at < hi → Own i b width lo hi mem (set mem at v)
  own-set at v a c = record { long = length-set mem at v; rest = λ p away. get_or-set_other mem at p v 0 (outside p lo hi at away.out a c) }

  pub own-inside : (k v : ℕ) → k < width → Own i b width lo hi mem (set mem (b + k) v)
  own-inside k v h = record {
    long = length-set mem (b + k) v;
    rest = λ p away. get_or-set_other mem (b + k) p v 0 (outside p b (b + width) (b + k) away.own (omega arith) (omega arith));
  }

  pub own-headed : (phase timer held : ℕ) (mid : List ℕ) → Own i b width lo hi mem mid → Own i b width lo hi mem (headed i phase timer held mid)
  own-headed phase timer held mid own = record {
    long = headed-length i phase timer held mid ∙ own.long;
    rest = λ p away. headed-other i phase timer held mid p away.head ∙ own.rest p away;
  }

-- ---- only words from lo to before hi were written: nothing, one of them, and one after the other
pub only_same : (lo hi : ℕ) (mem : List ℕ) → Only lo hi mem mem
only_same lo hi mem = record { long = refl; rest = λ p away. refl }

pub only_set : (lo hi at v : ℕ) (mem : List ℕ) → lo ≤ at → at < hi → Only lo hi mem (set mem at v)
only_set lo hi at v mem a c = record { long = length-set mem at v; rest = λ p away. get_or-set_other mem at p v 0 (outside p lo hi at away a c) }

pub only_then : (lo hi : ℕ) (mem middle after : List ℕ) → Only lo hi mem middle → Only lo hi middle after → Only lo hi mem after
only_then lo hi mem middle after f g = record { long = g.long ∙ f.long; rest = λ p away. g.rest p away ∙ f.rest p away }
