-- A state with another simulation in it, by its two parts: the table's words and the changing part. Assumes nothing.
use Rattle.std.specs.Prelude.{ℕ, ◌+◌, ◌*◌, ◌≤◌, ◌≡◌, true, List, ◌++◌, length, take, drop, T}
use Rattle.std.proofs.Common.{sym, ap, ◌∙◌, append_assoc, arith, length-append, length-take-le}
use Rattle.times.specs.Order.{same_test}
use Rattle.rules.specs.Table.{Table}
use Rattle.rules.specs.Simulation.{Simulation}
use Rattle.rules.specs.Valid.{is_valid}
use Rattle.rules.specs.Depth.{passed-again}
use Rattle.rules.proofs.Runs.{is-valid}
use Rattle.memory.specs.Words.{word_at}
use Rattle.lookup.specs.Inside.{tail_at, models_in, connectors_in, couplings_in, posted_in, table_in}
use Rattle.views.specs.World.{end_of}
use Rattle.stepping.specs.Simulating.{sim_in}
use Rattle.rerunning.specs.Running.{tail_in, sim_of}
use Rattle.storing.specs.State.{changing, laid_state, kept, is_stored}
use Rattle.storing.specs.Canonical.{words_are}
use Rattle.storing.specs.StoredLaws.{Holds, widths-most, stored-inside, stored_of, stored-holds, holds-valid, laid-is}

-- the rows' own words end at most there
pub end-most : (t : Table) → end_of t ≤ length t.rows * 196 + 3
end-most t = let own = widths-most t.rows (length t.rows) in omega arith

-- the changing part is as long as the rows and the messages
pub changing-long : (t : Table) (mem : List ℕ) → Holds t mem → length (changing (sim_in t mem)) ≡ end_of t + word_at mem 0 * 6
changing-long t mem h =
    ap length (sym (words_are t mem h.ready h.active h.clock h.room)) ∙ length-take-le (end_of t + word_at mem 0 * 6) mem h.room

pub kept-is : (state : List ℕ) → T (is_stored state) → (sim : Simulation) → kept state sim ≡ take (tail_at state) state ++ (changing sim ++ drop (tail_at state + length (changing sim)) state)
kept-is state stored sim =
    let inside = stored-inside state stored in
    let front = take (tail_at state) state in
    let long : length (laid_state (models_in state) (connectors_in state) (couplings_in state) sim) ≡ tail_at state + length (changing sim) =
    ap length (laid-is state inside sim) ∙ length-append front (changing sim) ∙ ap (λ (n : ℕ). n + length (changing sim)) (length-take-le (tail_at state) state inside.room) in
    (λ i. laid-is state inside sim i ++ drop (long i) state) ∙ append_assoc front (changing sim) (drop (tail_at state + length (changing sim)) state)

-- the rules' own test of 20 lets it pass
pub passes_on : (state : List ℕ) → T (is_stored state) → is_valid (sim_of state) ≡ true
passes_on state stored =
    let t = passed-again (posted_in state) (table_in state) (stored-inside state stored).passes in
    same_test (is_valid (sim_of state)) true (λ _. tt)
    (λ _. is-valid (sim_of state) (holds-valid (table_in state) (tail_in state) t (stored-holds state (stored_of state stored))))
