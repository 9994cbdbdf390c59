-- One message parked and then put out is handed on as the rules say; and so are all, one after the other. Assumes nothing.
use Rattle.std.specs.Prelude.{Err, Ok, Result, Some}
use Prim.Native.Nat.{ℕ, ◌+◌, ◌-◌, ◌≤◌, ◌<◌}
use mathlib.Core.Path.{◌≡◌, refl, sym, ap, subst, ◌∙◌}
use mathlib.Core.Logic.{inl, inr}
use mathlib.Core.Bool.{true}
use mathlib.Core.List.{List, [], ◌∷◌, ◌++◌, map}
use native.Mathlib.Omega.{arith}
use native.Mathlib.Nat.{sub-zero}
use lib.ListN.{length}
use lib.Ieee.{Float}
use Rattle.rules.specs.declared.Refusal.{Refusal}
use Rattle.rules.specs.declared.Refusal.TheVariants.{NoMessageRoom}
use Rattle.rules.specs.Base.{Outcome, done, ◌>>=◌, each, those, from, at_most}
use Rattle.rules.specs.Sizes.{most_out}
use Rattle.rules.specs.Table.{Table, id_at}
use Rattle.rules.specs.Step.{Out, Happening, World, hand}
use Rattle.words.specs.Search.{first_from}
use Rattle.words.specs.SearchLaws.{search-hit}
use Rattle.selection.specs.Selected.{each_map}
use Rattle.memory.specs.Words.{word_at}
use Rattle.memory.specs.View.{out_of, outs_in}
use Rattle.views.specs.World.{end_of, world_in, Ready, Frame, Moves, Does}
use Rattle.views.specs.Messages.{Hands}
use Rattle.views.specs.MessageLaws.{outs-read}
use Rattle.views.proofs.Frames.{frame_same, frame_then, frame-none}
use Rattle.views.proofs.Outside.{far-world, far-ready}
use Rattle.sweeps.specs.Sweeps.{Onward, onward-on, onward_stops, onward-end}
use Rattle.handing.specs.Handing.{park_from, outs_from, Fills, Beside}

-- ---- one message
module _ (t : Table) (services : List Float) (i j : ℕ) (m : Out) (at count : ℕ) (past : end_of t ≤ at) (few : count ≤ 256) (mem mid : List ℕ) (room : at + 256 ≤ length mem) (frame : Frame t 0 0 mem mid) where
  abbrev more-outs : List Out
  more-outs = outs_from t (id_at t i) (id_at t j) m.port m.content

  -- what stands there is not touched by parking
  outs-same : outs_in at count mem ≡ outs_in at count mid
  outs-same =
      sym (outs-read at count mid (omega (arith, frame.long))
      ∙ (λ n. map (λ x. out_of (frame.high (at + x) (omega arith) (inr (omega arith)) n)) (from 0 count))
      ∙ sym (outs-read at count mem (omega arith)))

  pub hand-stops : (r : Refusal) → Does (Err r) (park_from t i (id_at t j) m.port m.content) t mem mid → Hands (Err r) count at (hand t services i j m) t mem mid
  hand-stops r parks = λ log. ap (λ (o : Outcome World). o >>= λ w. at_most most_out NoMessageRoom (outs_in at count mem ++ more-outs) >>= λ out. done (w, out)) (parks log)

  module _ (parks : Moves (park_from t i (id_at t j) m.port m.content) t mem mid) (after : List ℕ) (beside : Beside at mid after) where
    same : (p : ℕ) → 2 ≤ p → p < end_of t → word_at after p ≡ word_at mid p
    same p h l = beside.rest p (inl (omega arith))

    hand-is : (log : List Happening)
        → hand t services i j m (world_in t mem log, outs_in at count mem) ≡ (at_most most_out NoMessageRoom (outs_in at count mid ++ more-outs) >>= λ out. done (world_in t mid (parks.more log), out))
    hand-is log =
        ap (λ (o : Outcome World). o >>= λ w. at_most most_out NoMessageRoom (outs_in at count mem ++ more-outs) >>= λ out. done (w, out)) (parks.is log)
        ∙ ap (λ (l : List Out). at_most most_out NoMessageRoom (l ++ more-outs) >>= λ out. done (world_in t mid (parks.more log), out)) outs-same

    pub hand-puts : (r : Result ℕ Refusal) → Fills r at count more-outs mid after → Hands r count at (hand t services i j m) t mem after
    hand-puts (Ok n) fills = record {
      ready = far-ready t mid after beside.long same parks.ready;
      few = fills.few;
      more = parks.more;
      is = λ log.
          hand-is log
          ∙ ap (λ (o : Outcome (List Out)). o >>= λ out. done (world_in t mid (parks.more log), out)) fills.is
          ∙ ap (λ (w : World). done (w, outs_in at n after)) (sym (far-world t mid after beside.long same (parks.more log)));
    }
    hand-puts (Err r) fills = λ log. hand-is log ∙ ap (λ (o : Outcome (List Out)). o >>= λ out. done (world_in t mid (parks.more log), out)) fills

  pub hand-frame : (after : List ℕ) → Beside at mid after → Frame t at (at + 256) mem after
  hand-frame after beside =
      frame_then t at (at + 256) mem mid after (frame-none t at (at + 256) mem mid frame)
      (record { long = beside.long; low = λ p l. beside.rest p (inl (omega arith)); high = λ p l out. beside.rest p out })

-- ---- all messages, which stand from `start` on
those-all : (xs : List ℕ) → those (λ _. true) xs ≡ xs
those-all [] = refl
those-all (x ∷ xs) = ap (λ (l : List ℕ). x ∷ l) (those-all xs)

module _ (t : Table) (i j start messages at count : ℕ) (mem₀ : List ℕ) where
  module _ (services : List Float) where
    abbrev hand_at : ℕ → World × List Out → Outcome (World × List Out)
    hand_at k = hand t services i j (out_of (word_at mem₀ (start + k)))

    abbrev hands_all : List Happening → Outcome (World × List Out)
    hands_all log = each hand_at (those (λ _. true) (from 0 messages)) (world_in t mem₀ log, outs_in at count mem₀)

  -- those before the message k were handed on, so many stand there now, and so `mem` was reached
  pub record Handing (k held : ℕ) (mem : List ℕ) : Type 0 where
    pub ready : Ready t mem
    pub few : held ≤ 256
    pub frame : Frame t at (at + 256) mem₀ mem
    pub onward : (services : List Float) → Onward (hand_at services) (those (λ _. true) (from k (messages - k))) (hands_all services) (λ log. (world_in t mem log, outs_in at held mem))

  pub handing-start : Ready t mem₀ → count ≤ 256 → Handing 0 count mem₀
  handing-start ready few = record {
    ready = ready;
    few = few;
    frame = frame_same t at (at + 256) mem₀;
    onward = λ services. record {
      more = λ log. log;
      is = λ log. ap (λ (n : ℕ). each (hand_at services) (those (λ _. true) (from 0 n)) (world_in t mem₀ log, outs_in at count mem₀)) (sym (sub-zero messages));
    };
  }

  module _ (room : start + 256 ≤ length mem₀) (past : end_of t ≤ at) (clear : at + 256 ≤ start) (few₀ : messages ≤ 256) where
    -- the rules' sweep, by the places of the messages
    hands-all : (services : List Float) (r : World × List Out) → each (hand t services i j) (outs_in start messages mem₀) r ≡ each (hand_at services) (those (λ _. true) (from 0 messages)) r
    hands-all services r =
        ap (λ (l : List Out). each (hand t services i j) l r) (outs-read start messages mem₀ (omega arith))
        ∙ each_map (hand t services i j) (λ x. out_of (word_at mem₀ (start + x))) (from 0 messages) r
        ∙ ap (λ (l : List ℕ). each (hand_at services) l r) (sym (those-all (from 0 messages)))

    module _ (k held : ℕ) (mem : List ℕ) (so_far : Handing k held mem) where
      abbrev here : List Happening → World × List Out
      here log = (world_in t mem log, outs_in at held mem)

      -- the next message is still the one that was there
      module _ (below : k < messages) (after : List ℕ) (r : Result ℕ Refusal) (hands : (services : List Float) → Hands r held at (hand t services i j (out_of (word_at mem (start + k)))) t mem after) where
        next-hands : (s : Result ℕ Refusal) → r ≡ s → (services : List Float) → Hands s held at (hand_at services k) t mem after
        next-hands s e services =
            subst (λ (word : ℕ). Hands s held at (hand t services i j (out_of word)) t mem after) (so_far.frame.high (start + k) (omega arith) (inr (omega arith)))
            (subst (λ (z : Result ℕ Refusal). Hands z held at (hand t services i j (out_of (word_at mem (start + k)))) t mem after) e (hands services))

        found : first_from (λ _. true) k (messages - k) ≡ Some k
        found = search-hit (λ _. true) k messages below refl

        pub handing-on : (n : ℕ) → r ≡ Ok n → Frame t at (at + 256) mem after → Handing (k + 1) n after
        handing-on n e frame =
            let adds = next-hands (Ok n) e in
            record {
              ready = (adds []).ready;
              few = (adds []).few;
              frame = frame_then t at (at + 256) mem₀ mem after so_far.frame frame;
              onward = λ services.
                  onward-on (hand_at services) (λ _. true) k messages (hands_all services) here (so_far.onward services) k (λ log. (world_in t after log, outs_in at n after)) found
                  (record { more = (adds services).more; is = (adds services).is });
            }

        pub handing-stops : (x : Refusal) → r ≡ Err x → (services : List Float) → Hands (Err x) count at (λ s. each (hand t services i j) (outs_in start messages mem₀) s) t mem₀ after
        handing-stops x e services = λ log.
            hands-all services (world_in t mem₀ log, outs_in at count mem₀)
            ∙ onward_stops (hand_at services) (λ _. true) k messages (hands_all services) here (so_far.onward services) k x found (next-hands (Err x) e services) log

      pub handing-end : messages ≤ k → (services : List Float) → Hands (Ok held) count at (λ s. each (hand t services i j) (outs_in start messages mem₀) s) t mem₀ mem
      handing-end past services =
          let l = onward-end (hand_at services) (λ _. true) k messages (hands_all services) here (so_far.onward services) past in
          record { ready = so_far.ready; few = so_far.few; more = l.more; is = λ log. hands-all services (world_in t mem₀ log, outs_in at count mem₀) ∙ l.is log }
