-- Active messages and the models that take them: one model and one message, one model and all of them. Definitions only. Assumes nothing.
use Rattle.std.specs.Prelude.{ℕ, ◌+◌, ◌-◌, ◌≤◌, Bool, List, length, ltb, eqb, Float, if◌then◌else◌}
use Rattle.rules.specs.declared.Message.{Message}
use Rattle.rules.specs.Base.{Outcome, done, each, those}
use Rattle.rules.specs.Table.{Table, id_at}
use Rattle.rules.specs.Step.{World, levels, external}
use Rattle.rules.specs.Ends.{All}
use Rattle.rules.proofs.Worlds.{MessageFits}
use Rattle.views.specs.World.{end_of}
use Rattle.views.specs.Messages.{message_in, messages_in}
use Rattle.sweeps.specs.Skips.{stop_from}

-- the row i takes the message, if its target is the row's id
abbrev pub takes_one : Table → List Float → Float → ℕ → Message → World → Outcome World
takes_one t services clock i m w =
    if eqb m.target_id (id_at t i) then external t services levels clock i m.target_port m.content w else done w

-- the row i takes, in list order, those whose target is its id
abbrev pub takes_all : Table → List Float → Float → List Message → ℕ → World → Outcome World
takes_all t services clock active i w =
    each (λ (m : Message). external t services levels clock i m.target_port m.content) (those (λ (m : Message). eqb m.target_id (id_at t i)) active) w

-- the message k is for this id; one of the `count` messages is for the row i
abbrev pub is_for : ℕ → List ℕ → ℕ → ℕ → Bool
is_for active mem id k = eqb (message_in active mem k).target_id id

abbrev pub is_addressed : Table → ℕ → ℕ → List ℕ → ℕ → Bool
is_addressed t active count mem i = ltb (stop_from (is_for active mem (id_at t i)) 0 (count - 0)) count

-- `count` active messages stand from `active` on, past the words of the rows, and are such as 20 asks for
pub record Active (t : Table) (mem : List ℕ) (active count : ℕ) : Type 0 where
  pub past : end_of t ≤ active
  pub room : active + 1536 ≤ length mem
  pub few : count ≤ 256
  pub fit : All MessageFits (messages_in active count mem)
