-- The answers of the calls that ask. Definitions only. Assumes nothing.
use Rattle.std.specs.Prelude.{List, length, Float, Err, Ok, Result, ℕ}
use Rattle.rules.specs.declared.Refusal.{Refusal}
use Rattle.rules.specs.declared.Message.{Message}
use Rattle.rules.specs.Base.{Outcome, refused, done}

-- how many there are
abbrev pub count_told : Outcome (List Message) → Result ℕ Refusal
count_told (refused r) = Err r
count_told (done messages) = Ok (length messages)

abbrev pub time_told : Outcome Float → Result Float Refusal
time_told (refused r) = Err r
time_told (done x) = Ok x
