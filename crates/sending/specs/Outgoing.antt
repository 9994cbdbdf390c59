-- Each message that a row has put out, in order, as a loop sends it. Assumes nothing.
use Rattle.std.specs.Prelude.{ℕ, suc, ◌+◌, ◌-◌, ◌≤◌, ◌<◌, ◌≡◌, List, length, Float, Err, Ok, Result}
use Rattle.std.proofs.Common.{sym, ap, subst, ◌∙◌, inr, add-one, arith}
use Rattle.std.proofs.Math.Nat.{sub-zero}
use Rattle.rules.specs.declared.Message.{Message}
use Rattle.rules.specs.declared.Refusal.{Refusal}
use Rattle.rules.specs.Base.{Outcome, refused, ◌>>=◌, each, from}
use Rattle.rules.specs.Sizes.{most_active}
use Rattle.rules.specs.Table.{Table}
use Rattle.rules.specs.Step.{Out, send}
use Rattle.selection.specs.Selected.{each_map}
use Rattle.memory.specs.Words.{word_at}
use Rattle.memory.specs.View.{out_of, outs_in}
use Rattle.views.specs.World.{end_of}
use Rattle.memory.specs.Words.{Only}
use Rattle.views.specs.Messages.{messages_in, Sends, Sent}
use Rattle.views.specs.MessageLaws.{outs-read}
use Rattle.sending.specs.Sending.{Send, Sending, sending-start, sending-end, sending-on, sending-stops}

module _ (t : Table) (clock : Float) (row at n : ℕ) (mem₀ : List ℕ) where
  -- the k-th of them
  abbrev pub send_out : ℕ → Send
  send_out k = send t clock row (out_of (word_at mem₀ (at + k)))

  -- those from k on
  abbrev pub send_outs : ℕ → Send
  send_outs k = each send_out (from k (n - k))

  module _ (active count : ℕ) where
    -- all of it
    abbrev pub send_each : Outcome (List Message)
    send_each = each (send t clock row) (outs_in at n mem₀) (messages_in active count mem₀)

    -- those before k were sent
    abbrev pub Going : ℕ → ℕ → List ℕ → Type 0
    Going k sent mem = Sending t active mem₀ send_each (send_outs k) sent mem

    pub going_start : at + n ≤ length mem₀ → count ≤ most_active → Going 0 count mem₀
    going_start room few =
        sending-start t active mem₀ send_each (send_outs 0) count few
        (ap (λ (ms : List Out). each (send t clock row) ms (messages_in active count mem₀)) (outs-read at n mem₀ room)
        ∙ each_map (send t clock row) (λ k. out_of (word_at mem₀ (at + k))) (from 0 n) (messages_in active count mem₀)
        ∙ ap (λ (k : ℕ). each send_out (from 0 k) (messages_in active count mem₀)) (sym (sub-zero n)))

    module _ (k sent : ℕ) (mem : List ℕ) (s : Going k sent mem) where
      pub going_end : n ≤ k → Sends sent active send_each mem
      going_end past = let none : n - k ≡ 0 = omega arith in sending-end t active mem₀ send_each (send_outs k) sent mem s (λ ms. rw none)

      -- the next one, by the word that stands in `mem` now
      module _ (below : k < n) (past : end_of t ≤ active) (away : active + 1536 ≤ at) (r : Result ℕ Refusal) (after : List ℕ) (sends : Sent r active (send t clock row (out_of (word_at mem (at + k))) (messages_in active sent mem)) after) where
        first : (ms : List Message) → send_outs k ms ≡ (send_out k ms >>= send_outs (k + 1))
        first ms = let left : n - k ≡ suc (n - (k + 1)) = omega arith in rw (left, add-one k)

        sends-it : Sent r active (send_out k (messages_in active sent mem)) after
        sends-it = subst (λ (word : ℕ). Sent r active (send t clock row (out_of word) (messages_in active sent mem)) after) (s.frame.rest (at + k) (inr (omega arith))) sends

        pub going_on : (m : ℕ) → r ≡ Ok m → Only active (active + 1536) mem after → Going (k + 1) m after
        going_on = sending-on t active mem₀ send_each (send_outs k) sent mem s (send_out k) (send_outs (k + 1)) first r after sends-it

        pub going-stops : (refusal : Refusal) → r ≡ Err refusal → send_each ≡ refused refusal
        going-stops = sending-stops t active mem₀ send_each (send_outs k) sent mem s (send_out k) (send_outs (k + 1)) first r after sends-it
