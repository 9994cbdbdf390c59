-- A loop that sends in place, anywhere in it: what is left of `whole` is `rest`, from the messages in the words on. Assumes nothing.
use Rattle.std.specs.Prelude.{ℕ, ◌+◌, ◌≤◌, ◌≡◌, List, Err, Ok, Result}
use Rattle.std.proofs.Common.{ap, subst, ◌∙◌}
use Rattle.rules.specs.declared.Message.{Message}
use Rattle.rules.specs.declared.Refusal.{Refusal}
use Rattle.rules.specs.Base.{Outcome, refused, done, ◌>>=◌}
use Rattle.rules.specs.Sizes.{most_active}
use Rattle.rules.specs.Table.{Table}
use Rattle.memory.specs.Words.{Only}
use Rattle.memory.specs.Places.{only_same, only_then}
use Rattle.views.specs.Messages.{messages_in, Sends, Sent}

-- from the messages sent so far to those sent after
abbrev pub Send : Type 0
Send = List Message → Outcome (List Message)

module _ (t : Table) (active : ℕ) (mem₀ : List ℕ) (whole : Outcome (List Message)) where
  pub record Sending (rest : Send) (sent : ℕ) (mem : List ℕ) : Type 0 where
    pub few : sent ≤ most_active
    pub frame : Only active (active + 1536) mem₀ mem
    pub is : whole ≡ rest (messages_in active sent mem)

  pub sending-start : (rest : Send) (count : ℕ) → count ≤ most_active → whole ≡ rest (messages_in active count mem₀) → Sending rest count mem₀
  sending-start rest count few is = record { few = few; frame = only_same active (active + 1536) mem₀; is = is }

  module _ (rest : Send) (sent : ℕ) (mem : List ℕ) (s : Sending rest sent mem) where
    -- nothing is left
    pub sending-end : ((ms : List Message) → rest ms ≡ done ms) → Sends sent active whole mem
    sending-end ends = record { few = s.few; is = s.is ∙ ends (messages_in active sent mem) }

    -- `next` goes first
    module _ (next later : Send) (first : (ms : List Message) → rest ms ≡ (next ms >>= later)) (r : Result ℕ Refusal) (after : List ℕ) (sends : Sent r active (next (messages_in active sent mem)) after) where
      pub sending-on : (n : ℕ) → r ≡ Ok n → Only active (active + 1536) mem after → Sending later n after
      sending-on n e f =
          let went : Sends n active (next (messages_in active sent mem)) after = subst (λ (r : Result ℕ Refusal). Sent r active (next (messages_in active sent mem)) after) e sends in
          record {
            few = went.few;
            frame = only_then active (active + 1536) mem₀ mem after s.frame f;
            is = s.is ∙ first (messages_in active sent mem) ∙ ap (λ (o : Outcome (List Message)). o >>= later) went.is;
          }

      pub sending-stops : (refusal : Refusal) → r ≡ Err refusal → whole ≡ refused refusal
      sending-stops refusal e =
          let stopped : next (messages_in active sent mem) ≡ refused refusal = subst (λ (r : Result ℕ Refusal). Sent r active (next (messages_in active sent mem)) after) e sends in
          s.is ∙ first (messages_in active sent mem) ∙ ap (λ (o : Outcome (List Message)). o >>= later) stopped
