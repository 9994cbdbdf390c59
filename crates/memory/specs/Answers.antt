-- What an atom's event in place answers, by what its model answers; and a message put out, in one word. Definitions only. Assumes nothing.
use Rattle.std.specs.Prelude.{ℕ, ◌+◌, ◌*◌, Err, Ok, Result, ⊤}
use Rattle.rules.specs.declared.Refusal.{Refusal}
use Rattle.events.specs.declared.Taken.{Taken}

-- what came was taken, or refused
abbrev pub answer_of : Result Taken Refusal → Result ⊤ Refusal
answer_of (Ok taken) = Ok tt
answer_of (Err r) = Err r

-- port, content
abbrev pub out_word : ℕ → ℕ → ℕ
out_word port content = port * 4294967296 + content
