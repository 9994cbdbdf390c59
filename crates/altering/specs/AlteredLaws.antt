-- A few words of a stored state written in place: the buffer is as if the changed simulation were laid over it. Assumes nothing.
use Rattle.std.specs.Prelude.{ℕ, suc, ◌+◌, ◌*◌, ◌≡◌, refl, get_or, set, take, drop, T, Float}
use Rattle.std.proofs.Common.{sym, ◌∙◌, arith, length-append, length-take-le, drop_at, drop-drop, get_or-drop}
use Rattle.std.proofs.Math.Path.{ap}
use mathlib.Core.List.{List, [], ◌∷◌, ◌++◌, append_assoc}
use Rattle.std.proofs.Math.ListN.{length}
use Rattle.std.proofs.Math.Seq.{take-append-add, drop-append-add}
use Rattle.std.proofs.lemmas.List.{set_at}
use Rattle.std.specs.Float.Ieee.{binary64, to_bits}
use Rattle.times.specs.Time.{instant}
use Rattle.rules.specs.declared.Message.{Message}
use Rattle.rules.specs.Simulation.{Simulation}
use Rattle.rules.specs.Layout.{message_width, written, written_all, laid_down}
use Rattle.rules.specs.Calls.{without_messages, at_clock_zero}
use Rattle.memory.specs.Words.{head_at, word_at}
use Rattle.lookup.specs.Inside.{tail_at, table_in}
use Rattle.views.specs.World.{end_of}
use Rattle.views.specs.MessageLaws.{messages-long}
use Rattle.copying.specs.Copied.{copied}
use Rattle.copying.specs.CopiedLaws.{written-long}
use Rattle.rerunning.specs.Running.{tail_in, sim_of}
use Rattle.engine.specs.RunLaws.{laid_more}
use Rattle.storing.specs.State.{heads, owns, changing, kept, is_stored}
use Rattle.storing.specs.StoredLaws.{stored_of, stored-holds, tail-room, kept_same}
use Rattle.storing.specs.KeptLaws.{kept-is, changing-long}
use Rattle.altering.specs.Altered.{with_message}

-- a message's six words copied are the message laid down
one-laid : (m : Message) (buffer : List ℕ) → copied 0 6 (written m) buffer ≡ laid_down (m ∷ []) buffer
unfolding written
one-laid m buffer = refl

module _ (state : List ℕ) (stored : T (is_stored state)) where
  abbrev sim : Simulation
  sim = sim_of state

  abbrev tail : ℕ
  tail = tail_at state

  abbrev count : ℕ
  count = length sim.active

  abbrev clock : ℕ
  clock = to_bits binary64 sim.clock

  -- ---- the buffer in parts: before the changing part, its first two words, those that stay, and the messages with all beyond
  abbrev front : List ℕ
  front = take tail state

  abbrev rest : List ℕ
  rest = sim.place ∷ (heads (head_at (length sim.states)) sim.states ++ owns sim.states)

  abbrev old : List ℕ
  old = drop (tail + suc (suc (length rest))) state

  abbrev laid : ℕ → ℕ → List ℕ → List ℕ
  laid n c words = front ++ (n ∷ c ∷ (rest ++ words))

  abbrev holding : List Message → Float → Simulation
  holding active time = record { table = sim.table; states = sim.states; active = active; clock = time; place = sim.place }

  front_long : length front ≡ tail
  front_long = length-take-le tail state (let r = tail-room state stored in omega arith)

  changing-is : (active : List Message) (time : Float) → changing (holding active time) ≡ (length active ∷ to_bits binary64 time ∷ rest) ++ written_all active
  unfolding changing
  changing-is active time =
      ap (λ (z : List ℕ). length active ∷ to_bits binary64 time ∷ sim.place ∷ z)
      (sym (append_assoc (heads (head_at (length sim.states)) sim.states) (owns sim.states) (written_all active)))

  kept-holding : (active : List Message) (time : Float) → kept state (holding active time) ≡ laid (length active) (to_bits binary64 time) (laid_down active old)
  kept-holding active time =
      let start = length active ∷ to_bits binary64 time ∷ rest in
      let words = written_all active in
      let ends : tail + length (start ++ words) ≡ tail + suc (suc (length rest)) + message_width * length active = omega (arith, length-append start words, written-long active) in
      kept-is state stored (holding active time)
      ∙ ap (λ (z : List ℕ). front ++ (z ++ drop (tail + length z) state)) (changing-is active time)
      ∙ ap (λ (z : List ℕ). front ++ z) (append_assoc start words (drop (tail + length (start ++ words)) state))
      ∙ ap (λ (k : ℕ). front ++ (start ++ (words ++ drop k state))) ends
      ∙ ap (λ (z : List ℕ). front ++ (start ++ (words ++ z))) (sym (drop-drop (message_width * length active) (tail + suc (suc (length rest))) state))

  -- the messages stand where all beyond the rows' words does
  head-long : (n c : ℕ) → length (front ++ (n ∷ c ∷ rest)) ≡ tail + suc (suc (length rest))
  head-long n c = omega (arith, length-append front (n ∷ c ∷ rest), front_long)

  in_two : (n c : ℕ) (words : List ℕ) → laid n c words ≡ (front ++ (n ∷ c ∷ rest)) ++ words
  in_two n c words = sym (append_assoc front (n ∷ c ∷ rest) words)

  own : state ≡ laid count clock (laid_down sim.active old)
  own = sym (kept_same state stored) ∙ kept-holding sim.active sim.clock

  old-is : old ≡ laid_down sim.active old
  old-is =
      let words = laid_down sim.active old in
      let at = tail + suc (suc (length rest)) in
      ap (drop at) (own ∙ in_two count clock words) ∙ drop_at (front ++ (count ∷ clock ∷ rest)) words at (head-long count clock)

  whole : state ≡ laid count clock old
  whole = own ∙ ap (laid count clock) (sym old-is)

  -- ---- the first two words written
  set_first : (n c v : ℕ) (words : List ℕ) → set (laid n c words) tail v ≡ laid v c words
  set_first n c v words = set_at front n (c ∷ (rest ++ words)) v tail front_long

  set-second : (n c v : ℕ) (words : List ℕ) → set (laid n c words) (tail + 1) v ≡ laid n v words
  set-second n c v words =
      let long : length (front ++ n ∷ []) ≡ tail + 1 = omega (arith, length-append front (n ∷ []), front_long) in
      ap (λ (z : List ℕ). set z (tail + 1) v) (sym (append_assoc front (n ∷ []) (c ∷ (rest ++ words))))
      ∙ set_at (front ++ n ∷ []) c (rest ++ words) v (tail + 1) long
      ∙ append_assoc front (n ∷ []) (v ∷ (rest ++ words))

  pub without-messages : set state tail 0 ≡ kept state (without_messages sim)
  without-messages = ap (λ (z : List ℕ). set z tail 0) whole ∙ set_first count clock 0 old ∙ sym (kept-holding [] sim.clock)

  -- the clock's word is 0 at 0
  kept-zero : (active : List Message) → kept state (holding active instant) ≡ laid (length active) 0 (laid_down active old)
  unfolding to_bits
  kept-zero active = kept-holding active instant

  pub at_zero : set state (tail + 1) 0 ≡ kept state (at_clock_zero sim)
  at_zero =
      ap (λ (z : List ℕ). set z (tail + 1) 0) own
      ∙ set-second count clock 0 (laid_down sim.active old)
      ∙ sym (kept-zero sim.active)

  pub both-cleared : set (set state tail 0) (tail + 1) 0 ≡ kept state (at_clock_zero (without_messages sim))
  both-cleared =
      ap (λ (z : List ℕ). set (set z tail 0) (tail + 1) 0) whole
      ∙ ap (λ (z : List ℕ). set z (tail + 1) 0) (set_first count clock 0 old)
      ∙ set-second 0 clock 0 old
      ∙ sym (kept-zero [])

  -- ---- the count of messages, and where they end
  pub count-is : get_or state tail 0 ≡ count
  count-is =
      let first : tail + 0 ≡ tail = omega arith in
      sym (messages-long (end_of (table_in state)) (word_at (tail_in state) 0) (tail_in state) ∙ get_or-drop tail state 0 0 ∙ ap (λ (p : ℕ). get_or state p 0) first)

  all-long : length (changing sim) ≡ end_of (table_in state) + count * 6
  all-long =
      changing-long (table_in state) (tail_in state) (stored-holds state (stored_of state stored))
      ∙ ap (λ (k : ℕ). end_of (table_in state) + k * 6) (sym (messages-long (end_of (table_in state)) (word_at (tail_in state) 0) (tail_in state)))

  rest-long : suc (suc (length rest)) ≡ end_of (table_in state)
  rest-long =
      let start = count ∷ clock ∷ rest in
      let parts = ap (λ (z : List ℕ). length z) (changing-is sim.active sim.clock) in
      omega (arith, all-long, parts, length-append start (written_all sim.active), written-long sim.active)

  -- ---- one message more
  pub one_more : (m : Message) (at : ℕ) → at ≡ tail + end_of (table_in state) + count * 6
      → set (take at state ++ copied 0 6 (written m) (drop at state)) tail (count + 1) ≡ kept state (with_message m sim)
  one_more m at e =
      let head = front ++ (count ∷ clock ∷ rest) in
      let n = count * 6 in
      let row = written m in
      let after = take n old ++ copied 0 6 row (drop n old) in
      let place : at ≡ length head + n = omega (arith, head-long count clock, rest-long) in
      let apart : state ≡ head ++ old = whole ∙ in_two count clock old in
      let many : count + 1 ≡ length (sim.active ++ m ∷ []) = omega (arith, length-append sim.active (m ∷ [])) in
      let messages : after ≡ laid_down (sim.active ++ m ∷ []) old = ap (λ (z : List ℕ). take n old ++ z) (one-laid m (drop n old)) ∙ laid_more sim.active (m ∷ []) count old old refl old-is in
      (λ i. set (take (place i) (apart i) ++ copied 0 6 row (drop (place i) (apart i))) tail (count + 1))
      ∙ (λ i. set (take-append-add head old n i ++ copied 0 6 row (drop-append-add head old n i)) tail (count + 1))
      ∙ ap (λ (z : List ℕ). set z tail (count + 1)) (append_assoc head (take n old) (copied 0 6 row (drop n old)) ∙ sym (in_two count clock after))
      ∙ set_first count clock (count + 1) after
      ∙ (λ i. laid (many i) clock (messages i))
      ∙ sym (kept-holding (sim.active ++ m ∷ []) sim.clock)
