-- A message parked or the list emptied, on the words: the rules' answer, for every row of a Coupled. Assumes nothing.
use Prim.Native.Nat.{ℕ, ◌+◌, ◌-◌, ◌*◌, ◌^◌, ◌≤◌, ◌<◌}
use mathlib.Core.Path.{◌≡◌, sym, ap, ◌∙◌}
use mathlib.Core.Logic.{inl}
use mathlib.Core.List.{List, [], ◌∷◌, ◌++◌, map, map-append}
use native.Mathlib.Omega.{arith}
use borrow.Author.Tests.{le-leb, lt-leb}
use lib.ListN.{length, set, take, drop, length-set, length-map, length-append}
use lib.Seq.{get_or-set_other}
use lib.Dec.{T, leb→le, le→leb}
use Rattle.rules.specs.declared.Refusal.TheVariants.{NoMessageRoom}
use Rattle.rules.specs.Base.{refused, done}
use Rattle.rules.specs.Table.{coupled}
use Rattle.rules.specs.Simulation.{Parked}
use Rattle.rules.specs.Ends.{All, nil, ◌&◌}
use Rattle.words.specs.Queue.{queue_in, unused_clear, moved_up}
use Rattle.words.specs.QueueLaws.{push-holds, push-clear, moved-clear, moved_length, queue-length}
use Rattle.memory.specs.Words.{place_at, place_in, head_at, phase_in, timer_in, held_in, own_in, headed, replaced, Own}
use Rattle.memory.specs.View.{parked_of, parked_in, word_rules, WordsFit, Row}
use Rattle.memory.specs.Places.{part_length, lent-own, put_back, headed-phase, headed-timer, headed-held, headed-own, headed-other, inside-own, replaced-own, replaced-length, replaced-other, own-inside, own-replaced, own-headed}
use Rattle.parked_rows.specs.Parking.{with_one, Parks-one, Emptied}

-- ---- a message in one word
abbrev pub word_of : Parked → ℕ
word_of m = m.component * 2 ^ 48 + m.port * 2 ^ 32 + m.content

pub record Narrow (m : Parked) : Type 0 where
  pub port : m.port < 2 ^ 16
  pub content : m.content < 2 ^ 32

-- the word is read as the message again
pub word-again : (m : Parked) → Narrow m → parked_of (word_of m) ≡ m
word-again m narrow =
    let p : (parked_of (word_of m)).component ≡ m.component = omega arith in
    let q : (parked_of (word_of m)).port ≡ m.port = omega arith in
    let r : (parked_of (word_of m)).content ≡ m.content = omega arith in
    λ i. record { component = p i; port = q i; content = r i }

-- ---- a Coupled's row
module _ (b i : ℕ) (mem : List ℕ) (row : Row coupled b mem i) where
  abbrev held : ℕ
  held = held_in mem i

  abbrev own : List ℕ
  own = own_in b 64 mem

  own-length : length own ≡ 64
  own-length = part_length b 64 mem row.placed.room

  -- what its words keep: no more than there are places, and the unused ones clear
  kept : (held ≤ 64) × T (unused_clear held own)
  kept = go row.words
    where
      go : All T (word_rules coupled (phase_in mem i) (timer_in mem i) held own) → (held ≤ 64) × T (unused_clear held own)
      go (p & t & h & u & nil) = (leb→le held 64 h, u)

  more-length : (m : Parked) → length (parked_in b mem i ++ m ∷ []) ≡ held + 1
  more-length m =
      let long : length (parked_in b mem i) ≡ held = length-map (queue_in held own) parked_of ∙ queue-length held own (omega (arith, kept.0, own-length)) in
      length-append (parked_in b mem i) (m ∷ []) ∙ ap (λ n. n + 1) long

  -- the head of n parked messages is written after the own words
  module _ (n : ℕ) (mid : List ℕ) (long : length mid ≡ length mem) where
    abbrev after : List ℕ
    after = headed i 0 0 n mid

    room : head_at i + 3 ≤ length mid
    room = omega (arith, row.placed.head, row.placed.room)

    own-after : own_in b 64 after ≡ own_in b 64 mid
    own-after = headed-own i 0 0 n mid b 64 (omega (arith, row.placed.head))

    parked-after : parked_in b after i ≡ map parked_of (queue_in n (own_in b 64 mid))
    parked-after = rw (headed-held i 0 0 n mid room, own-after)

    words-after : n ≤ 64 → T (unused_clear n (own_in b 64 mid)) → WordsFit coupled b after i
    words-after h u = rw (headed-phase i 0 0 n mid room, headed-timer i 0 0 n mid room, headed-held i 0 0 n mid room, own-after) (tt & tt & le→leb n 64 h & u & nil)

  -- ---- the 65th message
  pub park-full : (m : Parked) → 64 ≤ held → with_one (parked_in b mem i) m ≡ refused NoMessageRoom
  park-full m h = rw (lt-leb (length (parked_in b mem i ++ m ∷ [])) 64 (omega (arith, more-length m)))

  -- ---- one message more
  module _ (m : Parked) (narrow : Narrow m) (free : held < 64) where
    abbrev written : List ℕ
    written = set mem (b + held) (word_of m)

    own-written : own_in b 64 written ≡ set own held (word_of m)
    own-written = inside-own b 64 held (word_of m) mem free

    last-parked : map parked_of (queue_in (held + 1) (own_in b 64 written)) ≡ parked_in b mem i ++ m ∷ []
    last-parked =
        ap (λ l. map parked_of (queue_in (held + 1) l)) own-written
        ∙ ap (map parked_of) (push-holds held own (word_of m) (omega (arith, own-length)))
        ∙ map-append parked_of (queue_in held own) (word_of m ∷ [])
        ∙ ap (λ x. parked_in b mem i ++ x ∷ []) (word-again m narrow)

    pub park-one : Parks-one b i mem (headed i 0 0 (held + 1) written) m
    park-one = record {
      is = rw (le-leb (length (parked_in b mem i ++ m ∷ [])) 64 (omega (arith, more-length m))) (ap done (sym (parked-after (held + 1) written (length-set mem (b + held) (word_of m)) ∙ last-parked)));
      words = words-after (held + 1) written (length-set mem (b + held) (word_of m)) (omega arith) (rw own-written (push-clear held own (word_of m) kept.1));
    }

    -- the place stands before every head
    pub park-place : place_in (headed i 0 0 (held + 1) written) ≡ place_in mem
    park-place = headed-other i 0 0 (held + 1) written place_at (inl (omega arith)) ∙ get_or-set_other mem (b + held) place_at (word_of m) 0 (λ e. omega (arith, row.placed.head))

    pub park-own : Own i b 64 0 0 mem (headed i 0 0 (held + 1) written)
    park-own = own-headed i b 64 0 0 mem 0 0 (held + 1) written (own-inside i b 64 0 0 mem held (word_of m) free)

  -- ---- none is left
  abbrev emptied : List ℕ
  emptied = replaced b 64 (moved_up held held own) mem

  emptied-width : length (moved_up held held own) ≡ 64
  emptied-width = moved_length held held own ∙ own-length

  own-emptied : own_in b 64 emptied ≡ moved_up held held own
  own-emptied = replaced-own b 64 (moved_up held held own) mem row.placed.room emptied-width

  all-clear : T (unused_clear 0 (moved_up held held own))
  all-clear =
      let none : held - held ≡ 0 = omega arith in
      rw none at (moved-clear held held own (omega arith) (omega (arith, kept.0, own-length)) kept.1)

  pub empty-all : Emptied b i (headed i 0 0 0 emptied)
  empty-all =
      let long = replaced-length b 64 (moved_up held held own) mem row.placed.room emptied-width in
      record { is = parked-after 0 emptied long; words = words-after 0 emptied long (omega arith) (rw own-emptied all-clear) }

  pub empty-own : Own i b 64 0 0 mem (headed i 0 0 0 emptied)
  empty-own = own-headed i b 64 0 0 mem 0 0 0 emptied (own-replaced i b 64 0 0 mem (moved_up held held own) row.placed.room emptied-width)

  pub empty-place : place_in (headed i 0 0 0 emptied) ≡ place_in mem
  empty-place =
      headed-other i 0 0 0 emptied place_at (inl (omega arith))
      ∙ replaced-other b 64 (moved_up held held own) mem row.placed.room emptied-width place_at (inl (omega (arith, row.placed.head)))

  -- the words as they are left, where the place and the number are read from the head
  pub emptied-by : (at n : ℕ) (words : List ℕ) → at ≡ b → n ≡ held → words ≡ moved_up n n (take (at + 64 - at) (drop at mem)) → take at mem ++ (words ++ drop (at + 64 - at) (drop at mem)) ≡ emptied
  emptied-by at n words ea en ew = rw (ew, en, ea, lent-own b 64 mem) (put_back b 64 mem (moved_up held held own))
