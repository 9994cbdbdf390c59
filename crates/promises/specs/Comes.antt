-- What comes to a batcher is accepted: the log tells of all that comes to it as accepted, in any calls on a valid simulation, of every batcher row, inside Coupleds too, whatever it holds at first. Assumes nothing.
use Rattle.std.specs.Prelude.{ℕ, ◌≡◌, refl, Bool, true, false, List, [], ◌∷◌, ◌++◌, T, eqb, if◌then◌else◌}
use Rattle.std.proofs.Common.{ap, ◌∙◌, subst, eqb→eq}
use Rattle.rules.specs.declared.Batcher.{Batcher}
use Rattle.rules.specs.Table.{batcher, Table, kind_at}
use Rattle.rules.specs.Simulation.{Simulation}
use Rattle.rules.specs.Models.{Fate, Kept, batcher_external}
use Rattle.rules.specs.Step.{Happening, came, went, waited, World}
use Rattle.rules.specs.Calls.{Call}
use Rattle.rules.specs.Valid.{is_valid}
use Rattle.rules.specs.Ends.{All, nil, ◌&◌, all_append, ends-map, Whatever, ends-whatever}
use Rattle.rules.proofs.Worlds.{Closed, NotBatcher}
use Rattle.rules.proofs.Runs.{Valid, valid-of, step-ends, CallFits, Carried, calls-keeps}
use Rattle.promises.specs.Story.{Accepted, Released, was_kept, contents, event_of, history, accepted_in, accepted, came_to, happened}
use Rattle.promises.specs.Machine.{accepted-append}

-- a message that comes to a batcher's row is kept there
abbrev KeptThere : Table → Happening → Type 0
KeptThere t (came clock i port content fate) = (b : Batcher) → kind_at t i ≡ batcher b → fate ≡ Kept
KeptThere t (went clock i out) = Unit {0}
KeptThere t (waited advance) = Unit {0}

abbrev AllKept : Table → World → Type 0
AllKept t w = All (KeptThere t) w.log

elsewhere : (t : Table) (i : ℕ) (fate : Fate) → NotBatcher (kind_at t i) → (b : Batcher) → kind_at t i ≡ batcher b → fate ≡ Kept
elsewhere t i fate n b e = absurd (subst NotBatcher e n)

kept-closed : (t : Table) → Closed t Whatever (AllKept t)
kept-closed t = record {
  other = λ r o. tt;
  six = λ i p e c. tt;
  put_other = λ i s place w n k. k;
  came-other = λ clock i port content fate w c n k. all_append k (elsewhere t i fate n & nil);
  went-other = λ clock i out w c n k. all_append k (tt & nil);
  took = λ clock i port content b s w c e q g k. ends-map (ends-whatever (batcher_external b content s)) (λ r _. tt) (λ s₁ _. all_append k ((λ b e. refl) & nil));
  gave = λ clock i b s w c e q g k. all_append k (tt & nil);
  aged = λ a w g u l k. all_append k (tt & nil);
}

record KeptSo (t : Table) (sim : Simulation) (log : List Happening) : Type 0 where
  valid : Valid sim
  table : sim.table ≡ t
  kept : All (KeptThere t) log

carried : (t : Table) → Carried Whatever (KeptSo t)
carried t = record {
  other = λ r o. tt;
  valid = λ sim log h. h.valid;
  change = λ sim next log e f g v h. record { valid = v; table = e ∙ h.table; kept = h.kept };
  forward = λ services sim log short h.
      ends-map (step-ends Whatever (AllKept sim.table) services sim short (kept-closed sim.table) h.valid nil) (λ r b. tt)
      (λ r k. record { valid = k.0; table = k.1 ∙ h.table; kept = all_append h.kept (subst (λ (z : Table). All (KeptThere z) r.1) h.table k.2) });
}

-- what is kept of all that comes is all that comes
all-of-it : (t : Table) (row : ℕ) (b : Batcher) → kind_at t row ≡ batcher b → (log : List Happening) → All (KeptThere t) log → accepted row log ≡ came_to row log
all-of-it t row b e [] nil = refl
all-of-it t row b e (came clock i port content fate ∷ log) (k & ks) =
    accepted-append (event_of row (came clock i port content fate)) (history row log) ∙ ap (λ (z : List ℕ). z ++ accepted row log) (here (eqb i row) (eqb→eq i row))
    ∙ ap (λ (z : List ℕ). (if eqb i row then content ∷ [] else []) ++ z) (all-of-it t row b e log ks)
  where
    here : (x : Bool) → (T x → i ≡ row) → accepted_in (if x then (if was_kept fate then Accepted content ∷ [] else []) else []) ≡ (if x then content ∷ [] else [])
    here true f = ap (λ (z : Fate). accepted_in (if was_kept z then Accepted content ∷ [] else [])) (k b (ap (kind_at t) (f tt) ∙ e))
    here false f = refl
all-of-it t row b e (went clock i out ∷ log) (k & ks) =
    accepted-append (event_of row (went clock i out)) (history row log) ∙ ap (λ (z : List ℕ). z ++ accepted row log) (here (eqb i row)) ∙ all-of-it t row b e log ks
  where
    here : (x : Bool) → accepted_in (if x then Released (contents out) ∷ [] else []) ≡ []
    here true = refl
    here false = refl
all-of-it t row b e (waited a ∷ log) (k & ks) = all-of-it t row b e log ks

-- the log tells of all that comes to a batcher as accepted
pub comes-accepted : (start : Simulation) → T (is_valid start) → (cs : List Call) → All CallFits cs → (row : ℕ) (b : Batcher) → kind_at start.table row ≡ batcher b
    → accepted row (happened start cs) ≡ came_to row (happened start cs)
comes-accepted start v cs fs row b e =
    all-of-it start.table row b e (happened start cs)
    (calls-keeps Whatever (KeptSo start.table) (carried start.table) cs start [] fs (record { valid = valid-of start v; table = refl; kept = nil })).kept
