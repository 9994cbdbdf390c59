-- What comes to a batcher is neither lost nor doubled nor overtaken: what it held at first and then all that comes to it is what it releases and then holds, in any calls on a valid simulation, of every batcher row, inside Coupleds too, whatever it holds at first. Assumes nothing.
use Rattle.std.specs.Prelude.{ℕ, ◌+◌, ◌≡◌, refl, Bool, true, false, not, List, [], ◌∷◌, ◌++◌, map, length, set, take, T, ltb, eqb, Float, if◌then◌else◌}
use Rattle.std.proofs.Common.{sym, ap, ◌∙◌, subst, append_assoc, append-nil, take-append-drop, get_or-set_same, get_or-set_other, eqb→eq, T_not}
use Rattle.std.proofs.Math.Dec.{eqb_refl}
use Rattle.times.specs.Time.{instant}
use Rattle.rules.specs.declared.BatcherPhase.TheVariants as batching
use Rattle.rules.specs.declared.Batcher.{Batcher}
use Rattle.rules.specs.Sizes.{most_jobs}
use Rattle.rules.specs.Base.{done}
use Rattle.rules.specs.Table.{batcher, Table, kind_at}
use Rattle.rules.specs.Simulation.{BatcherState, State, of_processor, of_batcher, of_stopwatch, of_coupled, Simulation, state_at, as_batcher}
use Rattle.rules.specs.Models.{Kept, joining, batcher_external, batcher_internal}
use Rattle.rules.specs.Step.{Out, out_at, Happening, came, went, waited, World, after}
use Rattle.rules.specs.Calls.{Call}
use Rattle.rules.specs.Valid.{is_valid}
use Rattle.rules.specs.Ends.{All, Ends, stops, goes, ends-if, ends-bind, ends-map, Whatever, ends-whatever}
use Rattle.rules.specs.Depth.{Fine, fine}
use Rattle.rules.proofs.Worlds.{Closed, NotBatcher, after-at}
use Rattle.rules.proofs.Runs.{Valid, valid-of, step-ends, CallFits, Carried, calls-keeps}
use Rattle.promises.specs.Story.{Event, Accepted, Released, Waited, was_kept, contents, event_of, history, accepted_in, releases_in, joined, accepted, released, came_to, held_by, happened, left_by}
use Rattle.promises.specs.Machine.{Sized, release-splits, history-append, accepted-append, another-row, this-row, in-range, contents-back, row_sized}
use Rattle.promises.specs.Comes.{comes-accepted}

-- ---- a batcher's jobs, from any state
joined-append : (xs ys : List Event) → joined (releases_in (xs ++ ys)) ≡ joined (releases_in xs) ++ joined (releases_in ys)
joined-append [] ys = refl
joined-append (Accepted job ∷ xs) ys = joined-append xs ys
joined-append (Released jobs ∷ xs) ys = ap (λ (z : List ℕ). jobs ++ z) (joined-append xs ys) ∙ sym (append_assoc jobs (joined (releases_in xs)) (joined (releases_in ys)))
joined-append (Waited a ∷ xs) ys = joined-append xs ys

keeps-it : (b : Batcher) (job : ℕ) (s : BatcherState) → Ends Whatever (λ n. n.jobs ≡ s.jobs ++ job ∷ []) (batcher_external b job s)
unfolding batcher_external
keeps-it b job s =
    ends-bind {Q = Whatever} _ (ends-whatever (if ltb (length s.jobs + 1) b.max_batch_size then joining s.phase b s else done (batching.Release, instant)))
    (λ pt _. ends-bind {Q = λ jobs. jobs ≡ s.jobs ++ job ∷ []} _ (ends-if (ltb (length s.jobs) most_jobs) (λ _. goes refl) (λ _. stops tt)) (λ jobs k. goes k))

splits : (b : Batcher) → Sized b → (s : BatcherState) → s.jobs ≡ (batcher_internal b s).1 ++ (batcher_internal b s).0.jobs
splits b ok s =
    let o = release-splits b ok s in
    sym (ap (λ (z : List ℕ). z ++ (batcher_internal b s).0.jobs) o.0 ∙ ap (λ (z : List ℕ). take b.max_batch_size s.jobs ++ z) o.1 ∙ take-append-drop b.max_batch_size s.jobs)

after-held : (a : Float) (s : State) → (as_batcher (after a s)).jobs ≡ (as_batcher s).jobs
after-held a (of_processor s) = refl
after-held a (of_batcher s) = refl
after-held a (of_stopwatch s) = refl
after-held a (of_coupled s) = refl

module _ (row : ℕ) (first : List ℕ) where
  abbrev Flows : List Happening → List State → Type 0
  Flows log states = first ++ accepted row log ≡ released row log ++ held_by states row

  more : (log : List Happening) (h : Happening) (states next : List State) (xs : List Event) → event_of row h ≡ xs → held_by states row ++ accepted_in xs ≡ joined (releases_in xs) ++ held_by next row → Flows log states → Flows (log ++ h ∷ []) next
  more log h states next xs q e f =
      ap (λ (z : List Event). first ++ accepted_in z) says ∙ ap (λ (z : List ℕ). first ++ z) (accepted-append (history row log) xs)
      ∙ sym (append_assoc first (accepted row log) (accepted_in xs)) ∙ ap (λ (z : List ℕ). z ++ accepted_in xs) f
      ∙ append_assoc (released row log) (held_by states row) (accepted_in xs) ∙ ap (λ (z : List ℕ). released row log ++ z) e
      ∙ sym (append_assoc (released row log) (joined (releases_in xs)) (held_by next row))
      ∙ ap (λ (z : List ℕ). z ++ held_by next row) (sym (ap (λ (z : List Event). joined (releases_in z)) says ∙ joined-append (history row log) xs))
    where
      says : history row (log ++ h ∷ []) ≡ history row log ++ xs
      says = history-append row log (h ∷ []) ∙ ap (λ (z : List Event). history row log ++ z) (append-nil (event_of row h) ∙ q)

  module _ (t : Table) (ok : Fine t) (b : Batcher) (is : kind_at t row ≡ batcher b) (L : List Happening) where
    abbrev FlowsIn : World → Type 0
    FlowsIn w = Flows (L ++ w.log) w.states

    not-this : (i : ℕ) → NotBatcher (kind_at t i) → row ≡ i → ⊥
    not-this i n q = subst NotBatcher (ap (kind_at t) (sym q) ∙ is) n

    noted-on : (h : Happening) (w : World) (next : List State) (xs : List Event) → event_of row h ≡ xs → held_by w.states row ++ accepted_in xs ≡ joined (releases_in xs) ++ held_by next row → FlowsIn w → Flows (L ++ (w.log ++ h ∷ [])) next
    noted-on h w next xs q e f = subst (λ (z : List Happening). Flows z next) (append_assoc L w.log (h ∷ [])) (more (L ++ w.log) h w.states next xs q e f)

    same : (states : List State) (i : ℕ) (s : State) → (row ≡ i → ⊥) → held_by states row ≡ held_by (set states i s) row
    same states i s n = sym (ap (λ (z : State). (as_batcher z).jobs) (get_or-set_other states i row s (of_coupled []) n))

    own : (states : List State) (i : ℕ) (s n : BatcherState) → i ≡ row → state_at states i ≡ of_batcher s → (held_by states row ≡ s.jobs) × (held_by (set states i (of_batcher n)) row ≡ n.jobs)
    own states i s n e q = (
      ap (λ (z : ℕ). held_by states z) (sym e) ∙ ap (λ (z : State). (as_batcher z).jobs) q,
      ap (λ (z : ℕ). held_by (set states i (of_batcher n)) z) (sym e) ∙ ap (λ (z : State). (as_batcher z).jobs) (get_or-set_same states i (of_batcher n) (of_coupled []) (in-range states i s q)),
    )

    row_is : (i : ℕ) (xs : List Event) → i ≡ row → (if eqb i row then xs else []) ≡ xs
    row_is i xs e = subst (λ (z : ℕ). (if eqb z row then xs else []) ≡ xs) (sym e) (this-row row xs)

    split : {R : Type 0} (i : ℕ) → (i ≡ row → R) → ((row ≡ i → ⊥) → R) → R
    split {R} i f g = go (eqb i row) (eqb→eq i row) (λ k c. T_not (eqb i row) k (subst (λ (z : ℕ). T (eqb i z)) (sym c) (eqb_refl i)))
      where
        go : (x : Bool) → (T x → i ≡ row) → (T (not x) → row ≡ i → ⊥) → R
        go true u v = f (u tt)
        go false u v = g (v tt)

    flows-closed : Closed t Whatever FlowsIn
    flows-closed = record {
      other = λ r o. tt;
      six = λ i p e c. tt;
      put_other = λ i s place w n k. k ∙ ap (λ (z : List ℕ). released row (L ++ w.log) ++ z) (same w.states i s (not-this i n));
      came-other = λ clock i port content fate w c n k. noted-on (came clock i port content fate) w w.states [] (another-row row i (if was_kept fate then Accepted content ∷ [] else []) (not-this i n)) (append-nil (held_by w.states row)) k;
      went-other = λ clock i out w c n k. noted-on (went clock i out) w w.states [] (another-row row i (Released (contents out) ∷ []) (not-this i n)) (append-nil (held_by w.states row)) k;
      took = λ clock i port content b s w c e q g k. ends-map (keeps-it b content s) (λ r _. tt) (λ n j.
          split i
          (λ d. let o = own w.states i s n d q in
          noted-on (came clock i port content Kept) w (set w.states i (of_batcher n)) (Accepted content ∷ []) (row_is i (Accepted content ∷ []) d) (ap (λ (z : List ℕ). z ++ content ∷ []) o.0 ∙ sym j ∙ sym o.1) k)
          (λ d. noted-on (came clock i port content Kept) w (set w.states i (of_batcher n)) [] (another-row row i (Accepted content ∷ []) d) (append-nil (held_by w.states row) ∙ same w.states i (of_batcher n) d) k));
      gave = λ clock i b s w c e q g k.
          let out : List Out = map (out_at b.output) (batcher_internal b s).1 in
          let n : BatcherState = (batcher_internal b s).0 in
          split i
          (λ d. let o = own w.states i s n d q in
          noted-on (went clock i out) w (set w.states i (of_batcher n)) (Released (contents out) ∷ []) (row_is i (Released (contents out) ∷ []) d)
          (append-nil (held_by w.states row) ∙ o.0 ∙ splits b (row_sized t ok i b e) s ∙ ap (λ (z : List ℕ). z ++ n.jobs) (sym (append-nil (contents out) ∙ contents-back b.output (batcher_internal b s).1))
          ∙ ap (λ (z : List ℕ). (contents out ++ []) ++ z) (sym o.1)) k)
          (λ d. noted-on (went clock i out) w (set w.states i (of_batcher n)) [] (another-row row i (Released (contents out) ∷ []) d) (append-nil (held_by w.states row) ∙ same w.states i (of_batcher n) d) k);
      aged = λ a w g u l k. noted-on (waited a) w (map (after a) w.states) (Waited a ∷ []) refl
          (append-nil (held_by w.states row) ∙ sym (ap (λ (z : State). (as_batcher z).jobs) (after-at a w.states row) ∙ after-held a (state_at w.states row))) k;
    }

  record FlowsSo (t : Table) (sim : Simulation) (log : List Happening) : Type 0 where
    valid : Valid sim
    table : sim.table ≡ t
    flows : Flows log sim.states

  flows-carried : (t : Table) (b : Batcher) → kind_at t row ≡ batcher b → Carried Whatever (FlowsSo t)
  flows-carried t b is = record {
    other = λ r o. tt;
    valid = λ sim log h. h.valid;
    change = λ sim next log e f g v h. record { valid = v; table = e ∙ h.table; flows = subst (Flows log) (sym f) h.flows };
    forward = λ services sim log short h.
        let k : kind_at sim.table row ≡ batcher b = ap (λ (z : Table). kind_at z row) h.table ∙ is in
        ends-map (step-ends Whatever (FlowsIn sim.table (fine sim.table h.valid.table) b k log) services sim short (flows-closed sim.table (fine sim.table h.valid.table) b k log) h.valid (subst (λ (z : List Happening). Flows z sim.states) (sym (append-nil log)) h.flows)) (λ r b. tt)
        (λ r k. record { valid = k.0; table = k.1 ∙ h.table; flows = k.2 });
  }

-- ---- the theorem
pub comes-kept : (start : Simulation) → T (is_valid start) → (cs : List Call) → All CallFits cs → (row : ℕ) (b : Batcher) → kind_at start.table row ≡ batcher b
    → held_by start.states row ++ came_to row (happened start cs) ≡ released row (happened start cs) ++ held_by (left_by start cs).states row
comes-kept start v cs fs row b e =
    ap (λ (z : List ℕ). held_by start.states row ++ z) (sym (comes-accepted start v cs fs row b e))
    ∙ (calls-keeps Whatever (FlowsSo row (held_by start.states row) start.table) (flows-carried row (held_by start.states row) start.table b e) cs start [] fs
    (record { valid = valid-of start v; table = refl; flows = append-nil (held_by start.states row) })).flows
