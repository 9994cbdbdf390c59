-- Messages in words: those that an event puts out beside the world, and the active ones. Definitions only. Assumes nothing.
use Rattle.std.specs.Prelude.{ℕ, ◌+◌, ◌*◌, ◌≤◌, ◌≡◌, List, map, Err, Ok, Result}
use Rattle.rules.specs.declared.Refusal.{Refusal}
use Rattle.std.specs.Float.{binary64}
use Rattle.std.specs.Float.Ieee.{of_bits}
use Rattle.rules.specs.declared.Message.{Message}
use Rattle.rules.specs.Base.{Outcome, refused, done, from}
use Rattle.rules.specs.Sizes.{most_out, most_active}
use Rattle.rules.specs.Table.{Table}
use Rattle.rules.specs.Step.{Out, Happening, World}
use Rattle.memory.specs.Words.{word_at}
use Rattle.memory.specs.View.{outs_in}
use Rattle.views.specs.World.{world_in, Ready}

-- ---- an event on a world and a list beside it, which `read` sees in the words by its length: `count` so far, n after it and no more than `most`, or it is refused
pub record Joins {X : Type 0} (read : ℕ → List ℕ → List X) (most n count : ℕ) (event : World × List X → Outcome (World × List X)) (t : Table) (mem after : List ℕ) : Type 0 where
  pub ready : Ready t after
  pub few : n ≤ most
  pub more : List Happening → List Happening
  pub is : (log : List Happening) → event (world_in t mem log, read count mem) ≡ done (world_in t after (more log), read n after)

abbrev pub Joined : {X : Type 0} → Result ℕ Refusal → (ℕ → List ℕ → List X) → ℕ → ℕ → (World × List X → Outcome (World × List X)) → Table → List ℕ → List ℕ → Type 0
Joined (Ok n) read most count event t mem after = Joins read most n count event t mem after
Joined (Err r) read most count event t mem after = (log : List Happening) → event (world_in t mem log, read count mem) ≡ refused r

-- the messages that a Coupled puts out, from `at` on
abbrev pub Adds : ℕ → ℕ → ℕ → (World × List Out → Outcome (World × List Out)) → Table → List ℕ → List ℕ → Type 0
Adds n count at = Joins (outs_in at) most_out n count

abbrev pub Hands : Result ℕ Refusal → ℕ → ℕ → (World × List Out → Outcome (World × List Out)) → Table → List ℕ → List ℕ → Type 0
Hands r count at = Joined r (outs_in at) most_out count

-- ---- a message of six words: source id and port, target id and port, the time's bits, the content
abbrev pub message_in : ℕ → List ℕ → ℕ → Message
message_in at mem k =
    record {
      source_id = word_at mem (at + k * 6);
      source_port = word_at mem (at + k * 6 + 1);
      target_id = word_at mem (at + k * 6 + 2);
      target_port = word_at mem (at + k * 6 + 3);
      time = of_bits binary64 (word_at mem (at + k * 6 + 4));
      content = word_at mem (at + k * 6 + 5);
    }

-- the n messages from `at` on
abbrev pub messages_in : ℕ → ℕ → List ℕ → List Message
messages_in at n mem = map (message_in at mem) (from 0 n)

-- messages sent, `count` so far: so many after it, or it is refused
pub record Sends (n at : ℕ) (outcome : Outcome (List Message)) (after : List ℕ) : Type 0 where
  pub few : n ≤ most_active
  pub is : outcome ≡ done (messages_in at n after)

abbrev pub Sent : Result ℕ Refusal → ℕ → Outcome (List Message) → List ℕ → Type 0
Sent (Ok n) at outcome after = Sends n at outcome after
Sent (Err r) at outcome after = outcome ≡ refused r
