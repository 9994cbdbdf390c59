-- One message along every connector that matches, in order, as a loop sends it. Assumes nothing.
use Rattle.std.specs.Prelude.{ℕ, ◌+◌, ◌-◌, ◌*◌, ◌≤◌, ◌<◌, ◌≡◌, refl, Bool, ◌⊎◌, List, [], ◌∷◌, ◌++◌, map, length, T, Float, Err, None, Ok, Option, Some}
use Rattle.std.proofs.Common.{sym, ap, subst, ◌∙◌, inl, inr, arith, length-append}
use Rattle.std.proofs.lemmas.Simd.{map-map}
use Rattle.std.proofs.Math.Nat.{sub-zero}
use Rattle.std.specs.Float.{binary64}
use Rattle.std.specs.Float.Ieee.{of_bits, to_bits}
use Rattle.std.specs.Float.Ieee.Bits.{of_bits-to_bits}
use Rattle.times.specs.Time.{is_time}
use Rattle.times.proofs.Laws.{time-fits}
use Rattle.rules.specs.declared.Message.{Message}
use Rattle.rules.specs.declared.Refusal.TheVariants.{NoMessageRoom}
use Rattle.rules.specs.Base.{Outcome, refused, done, ◌>>=◌, each, those, from}
use Rattle.rules.specs.Sizes.{most_active}
use Rattle.rules.specs.Table.{Table, Connector, id_at, connected}
use Rattle.rules.specs.Step.{Out, along, send}
use Rattle.words.specs.Search.{first_from}
use Rattle.words.specs.SearchLaws.{search-end, first-at}
use Rattle.table.specs.Passed.{connector_at}
use Rattle.selection.specs.declared.Target.{Target}
use Rattle.selection.specs.declared.Link.{Link}
use Rattle.selection.specs.Selecting.{connects, lead_at, Finds}
use Rattle.selection.specs.Looking.{finds-none, finds-at}
use Rattle.selection.specs.Selected.{sweep-on, sweep-end, each_map}
use Rattle.lookup.specs.Inside.{Inside, table_in, connectors_in}
use Rattle.lookup.specs.InsideLaws.{connected-in}
use Rattle.memory.specs.Words.{word_at, replaced}
use Rattle.memory.specs.Places.{replaced-length, replaced-other}
use Rattle.views.specs.World.{end_of}
use Rattle.memory.specs.Words.{Only}
use Rattle.views.specs.Messages.{message_in, messages_in, Sends}
use Rattle.views.specs.MessageLaws.{messages-long, message-written}
use Rattle.sweeps.specs.Appends.{few-enough, too_many, one_more, appended}
use Rattle.sending.specs.Sending.{Send, Sending, sending-start, sending-end, sending-on, sending-stops}

-- ---- one more message, where it has room and where it has none
module _ (active sent : ℕ) (mem : List ℕ) (m : Message) where
  no_room : sent ≡ 256 → one_more most_active NoMessageRoom m (messages_in active sent mem) ≡ refused NoMessageRoom
  no_room full =
      let ms = messages_in active sent mem in
      let l = messages-long active sent mem in
      let a = length-append ms (m ∷ []) in
      too_many most_active NoMessageRoom (ms ++ m ∷ []) (omega arith)

  -- its words are written after those of the others
  module _ (words after : List ℕ) (long : length words ≡ 6) (is : message_in 0 words 0 ≡ m) (written : after ≡ replaced (active + sent * 6) 6 words mem) (free : sent < 256) (room : active + 1536 ≤ length mem) where
    has_room : Sends (sent + 1) active (one_more most_active NoMessageRoom m (messages_in active sent mem)) after
    has_room =
        let ms = messages_in active sent mem in
        let l = messages-long active sent mem in
        let a = length-append ms (m ∷ []) in
        record {
          few = omega arith;
          is =
              few-enough most_active NoMessageRoom (ms ++ m ∷ []) (omega arith)
              ∙ ap (λ (m : Message). done (ms ++ m ∷ [])) (sym is)
              ∙ ap done (sym (message-written active sent words mem long (omega arith)))
              ∙ ap (λ (mem : List ℕ). done (messages_in active (sent + 1) mem)) (sym written);
        }

    in_frame : (t : Table) → end_of t ≤ active → Only active (active + 1536) mem after
    in_frame t past =
        let at = active + sent * 6 in
        let other : (p : ℕ) → (p < at) ⊎ (at + 6 ≤ p) → word_at after p ≡ word_at mem p = λ p away. ap (λ (mem : List ℕ). word_at mem p) written ∙ replaced-other at 6 words mem (omega arith) long p away in
        record {
          long = ap length written ∙ replaced-length at 6 words mem (omega arith) long;
          rest = λ p out. other p (elim out [ inl h ↦ inl (omega arith) | inr h ↦ inr (omega arith) ]);
        }

module _ (state : List ℕ) (clock : Float) (row : ℕ) (m : Out) where
  -- along the connector k
  abbrev pub send_at : ℕ → Send
  send_at k = one_more most_active NoMessageRoom (along (table_in state) clock row m (connector_at (connectors_in state) k))

  abbrev pub matches : ℕ → Bool
  matches = connects (connectors_in state) (id_at (table_in state) row) m.port

  -- along those from k on
  abbrev pub send_from : ℕ → Send
  send_from k = each send_at (those matches (from k (length (table_in state).connectors - k)))

  send-from : Inside state → (ms : List Message) → length ms ≤ most_active → send (table_in state) clock row m ms ≡ send_from 0 ms
  send-from inside ms few =
      let go = along (table_in state) clock row m in
      let one = one_more most_active NoMessageRoom in
      let n = length (table_in state).connectors in
      sym (appended most_active NoMessageRoom (map go (connected (table_in state) (id_at (table_in state) row) m.port)) ms few)
      ∙ ap (λ (cs : List Connector). each one (map go cs) ms) (connected-in state inside (id_at (table_in state) row) m.port)
      ∙ ap (λ (l : List Message). each one l ms) (map-map go (connector_at (connectors_in state)) (those matches (from 0 n)))
      ∙ each_map one (λ k. go (connector_at (connectors_in state) k)) (those matches (from 0 n)) ms
      ∙ ap (λ (k : ℕ). each send_at (those matches (from 0 k)) ms) (sym (sub-zero n))

  -- what a search for the row's id answers, and how many have been looked at then
  module _ (id looked : ℕ) (r : Option Link) (after : ℕ) (same : id ≡ id_at (table_in state) row)
      (finds : Finds (connects (connectors_in state) id m.port) (lead_at (connectors_in state)) (length (table_in state).connectors) looked r after) where
    finds-along : Finds matches (lead_at (connectors_in state)) (length (table_in state).connectors) looked r after
    finds-along = subst (λ (id : ℕ). Finds (connects (connectors_in state) id m.port) (lead_at (connectors_in state)) (length (table_in state).connectors) looked r after) same finds

    pub none-along : r ≡ None → first_from matches looked (length (table_in state).connectors - looked) ≡ None
    none-along = finds-none matches (lead_at (connectors_in state)) (length (table_in state).connectors) looked r after finds-along

    pub one_along : (j : ℕ) (to : Target) → r ≡ Some (record { place = j; target = to })
        → (first_from matches looked (length (table_in state).connectors - looked) ≡ Some j) × (to ≡ lead_at (connectors_in state) j) × (after ≡ j + 1)
    one_along = finds-at matches (lead_at (connectors_in state)) (length (table_in state).connectors) looked r after finds-along

  pub found-bounds : (k j : ℕ) → first_from matches k (length (table_in state).connectors - k) ≡ Some j → (k ≤ j) × (j < length (table_in state).connectors)
  found-bounds k j found = let first = first-at matches k (length (table_in state).connectors - k) j found in (first.0, omega arith)

  -- ---- the loop over connectors
  module _ (active count : ℕ) (mem₀ : List ℕ) where
    -- all of it
    abbrev pub send_along : Outcome (List Message)
    send_along = send (table_in state) clock row m (messages_in active count mem₀)

    -- those before k were gone along
    abbrev pub Along : ℕ → ℕ → List ℕ → Type 0
    Along k sent mem = Sending (table_in state) active mem₀ send_along (send_from k) sent mem

    pub along-start : Inside state → count ≤ most_active → Along 0 count mem₀
    along-start inside few = sending-start (table_in state) active mem₀ send_along (send_from 0) count few (send-from inside (messages_in active count mem₀) (rw (messages-long active count mem₀) few))

    module _ (k sent : ℕ) (mem : List ℕ) (s : Along k sent mem) where
      pub along-none : first_from matches k (length (table_in state).connectors - k) ≡ None → Sends sent active send_along mem
      along-none found = sending-end (table_in state) active mem₀ send_along (send_from k) sent mem s (λ ms. sweep-end send_at matches k (length (table_in state).connectors) ms found)

      pub along-end : length (table_in state).connectors ≤ k → Sends sent active send_along mem
      along-end past = along-none (search-end matches k (length (table_in state).connectors) past)

      module _ (j : ℕ) (found : first_from matches k (length (table_in state).connectors - k) ≡ Some j) where
        first : (ms : List Message) → send_from k ms ≡ (send_at j ms >>= send_from (j + 1))
        first ms = sweep-on send_at matches k (length (table_in state).connectors) ms j found

        pub along-full : sent ≡ 256 → send_along ≡ refused NoMessageRoom
        along-full full =
            sending-stops (table_in state) active mem₀ send_along (send_from k) sent mem s (send_at j) (send_from (j + 1)) first
            (Err NoMessageRoom) mem (no_room active sent mem (along (table_in state) clock row m (connector_at (connectors_in state) j)) full) NoMessageRoom refl

        pub along-on : (id : ℕ) (to : Target) (time looked : ℕ) (after : List ℕ)
            → id ≡ id_at (table_in state) row
            → to ≡ lead_at (connectors_in state) j
            → time ≡ to_bits binary64 clock
            → looked ≡ j + 1
            → after ≡ replaced (active + sent * 6) 6 (id ∷ m.port ∷ to.id ∷ to.port ∷ time ∷ m.content ∷ []) mem
            → sent < 256 → T (is_time clock) → end_of (table_in state) ≤ active → active + 1536 ≤ length mem₀
            → Along looked (sent + 1) after
        along-on id to time looked after same_id same same-time next written free is-time past room =
            let words = id ∷ m.port ∷ to.id ∷ to.port ∷ time ∷ m.content ∷ [] in
            let message = along (table_in state) clock row m (connector_at (connectors_in state) j) in
            let stamp : of_bits binary64 time ≡ clock = ap (of_bits binary64) same-time ∙ of_bits-to_bits binary64 clock (time-fits clock is-time) in
            let is : message_in 0 words 0 ≡ message = λ i. record {
              source_id = same_id i;
              source_port = m.port;
              target_id = (same i).id;
              target_port = (same i).port;
              time = stamp i;
              content = m.content;
            } in
            let room-here : active + 1536 ≤ length mem = omega (arith, s.frame.long) in
            subst (λ (k : ℕ). Along k (sent + 1) after) (sym next)
            (sending-on (table_in state) active mem₀ send_along (send_from k) sent mem s (send_at j) (send_from (j + 1)) first
            (Ok (sent + 1)) after (has_room active sent mem message words after refl is written free room-here) (sent + 1) refl
            (in_frame active sent mem message words after refl is written free room-here (table_in state) past))
