-- From an atom's event on its row's words to the rules' event of that row on the whole world. Assumes nothing.
use Rattle.std.specs.Prelude.{ℕ, suc, ◌+◌, ◌≤◌, ◌<◌, ◌≡◌, refl, false, List, [], ◌∷◌, ◌++◌, length, T, Float, Err, Ok, Result, ⊤}
use Rattle.rules.specs.declared.Refusal.{Refusal}
use Rattle.std.proofs.Common.{sym, subst₂, ◌∙◌, inl, inr, true≢false, arith}
use Rattle.std.proofs.Math.Path.{ap}
use Rattle.times.specs.Time.{is_time}
use Rattle.rules.specs.Sizes.{is_content, is_word}
use Rattle.rules.specs.Base.{Outcome, refused, done, ◌>>=◌}
use Rattle.rules.specs.Table.{Kind, processor, batcher, stopwatch, coupled, Table, kind_at, is_coupled}
use Rattle.rules.specs.Simulation.{State, state_at, as_processor, as_batcher, as_stopwatch}
use Rattle.rules.specs.Models.{Fate, processor_external, processor_internal, batcher_external, stopwatch_external}
use Rattle.rules.specs.Step.{Out, Happening, came, went, World, noted, becomes, moved, External, Internal, external_as, external, internal_as, internal}
use Rattle.rules.specs.Ends.{ends-done}
use Rattle.rules.specs.Depth.{Fine, Deep}
use Rattle.rules.proofs.Worlds.{Good, external-keeps, internal-keeps}
use Rattle.rules.proofs.Runs.{NotTwenty, any-closed}
use Rattle.memory.specs.Words.{place_in, begin_in, width_of, Own}
use Rattle.memory.specs.View.{outs_in, state_in, Row}
use Rattle.memory.specs.Atoms.{atom_external, atom_internal, Took, Gave}
use Rattle.views.specs.World.{begin_of, end_of, state_of, world_in, Laid, Ready, Does, Gives}
use Rattle.views.proofs.WorldLayout.{state-is, row_of}
use Rattle.views.proofs.Frames.{own-laid, own-states}

-- ---- the rules' event of an atom is the atom's event, then the row's new state, the new place and a line in the log
bind-bind : {A B C : Type 0} (o : Outcome A) (f : A → Outcome B) (g : B → Outcome C) → (o >>= λ a. f a >>= g) ≡ (o >>= f >>= g)
bind-bind (refused r) f g = refl
bind-bind (done a) f g = refl

-- what becomes of the world after an atom's external event, and after its internal one
abbrev took_in : Float → ℕ → ℕ → ℕ → World → State × ℕ × Fate → Outcome World
took_in clock i port content w = λ r. done (noted (came clock i port content r.2) (becomes i r.0 (moved r.1 w)))

abbrev gave_in : Float → ℕ → World → State × ℕ × List Out → Outcome (World × List Out)
gave_in clock i w = λ r. done (noted (went clock i r.2) (becomes i r.0 (moved r.1 w)), r.2)

pub external-as : (t : Table) (services : List Float) (k : Kind) (deeper : External t services) (clock : Float) (i port content : ℕ) (w : World) → is_coupled k ≡ false
    → external_as t services k deeper clock i port content w
    ≡ (atom_external k services clock port content (state_at w.states i) w.place >>= λ r. done (noted (came clock i port content r.2) (becomes i r.0 (moved r.1 w))))
external-as t services (processor p) deeper clock i port content w a = bind-bind (processor_external p services port content (as_processor (state_at w.states i)) w.place) _ (took_in clock i port content w)
external-as t services (batcher b) deeper clock i port content w a = bind-bind (batcher_external b content (as_batcher (state_at w.states i))) _ (took_in clock i port content w)
external-as t services (stopwatch p) deeper clock i port content w a = bind-bind (stopwatch_external p clock port content (as_stopwatch (state_at w.states i))) _ (took_in clock i port content w)
external-as t services coupled deeper clock i port content w a = absurd (true≢false a)

pub internal-as : (t : Table) (services : List Float) (k : Kind) (depth : ℕ) (ext : External t services) (int : Internal t services) (clock : Float) (i : ℕ) (w : World) → is_coupled k ≡ false
    → internal_as t services k depth ext int clock i w
    ≡ (atom_internal k services (state_at w.states i) w.place >>= λ r. done (noted (went clock i r.2) (becomes i r.0 (moved r.1 w)), r.2))
internal-as t services (processor p) depth ext int clock i w a = bind-bind (processor_internal services (as_processor (state_at w.states i)) w.place) _ (gave_in clock i w)
internal-as t services (batcher b) depth ext int clock i w a = refl
internal-as t services (stopwatch p) depth ext int clock i w a = refl
internal-as t services coupled depth ext int clock i w a = absurd (true≢false a)

-- an atom's event needs no level below it
atom-deep : (t : Table) (depth i : ℕ) → is_coupled (kind_at t i) ≡ false → Deep t (suc depth) i
atom-deep t depth i a e = absurd (true≢false (sym (ap is_coupled e) ∙ a))

module _ (t : Table) (ok : Fine t) (services : List Float) (short : T (is_word (length services))) (clock : Float) (c : T (is_time clock)) (depth i : ℕ) (inside : i < length t.rows) where
  -- ---- external events
  external-is : (port content : ℕ) → is_coupled (kind_at t i) ≡ false → (mem : List ℕ) (log : List Happening)
      → external t services (suc depth) clock i port content (world_in t mem log)
      ≡ (atom_external (kind_at t i) services clock port content (state_of t mem i) (place_in mem) >>= took_in clock i port content (world_in t mem log))
  unfolding external
  external-is port content a mem log =
      external-as t services (kind_at t i) (external t services depth clock) clock i port content (world_in t mem log) a
      ∙ ap (λ (s : State). atom_external (kind_at t i) services clock port content s (place_in mem) >>= took_in clock i port content (world_in t mem log)) (state-is t mem i inside)

  pub external-lifts : (port content : ℕ) → T (is_content content) → is_coupled (kind_at t i) ≡ false → (mem after : List ℕ) → Ready t mem
      → Own i (begin_of t i) (width_of (kind_at t i)) 0 0 mem after → (r : Result ⊤ Refusal)
      → Took r (kind_at t i) (begin_of t i) i after (atom_external (kind_at t i) services clock port content (state_of t mem i) (place_in mem))
      → Does r (external t services (suc depth) clock i port content) t mem after
  external-lifts port content u a mem after ready own (Ok tt) took = record { ready = record { laid = laid; good = good }; more = more; is = is }
    where
      more : List Happening → List Happening
      more log = log ++ came clock i port content took.fate ∷ []

      laid : Laid t after
      laid = own-laid t i 0 0 mem after inside (λ p l. inr (omega arith)) ready.laid own took.words

      is : (log : List Happening) → external t services (suc depth) clock i port content (world_in t mem log) ≡ done (world_in t after (more log))
      is log =
          external-is port content a mem log
          ∙ ap (λ (o : Outcome (State × ℕ × Fate)). o >>= took_in clock i port content (world_in t mem log)) took.is
          ∙ (λ k. done (record { states = sym (own-states t i 0 0 mem after inside (λ p l. inr (omega arith)) ready.laid own) k; place = place_in after; log = more log }))

      good : Good t (world_in t after [])
      good = (ends-done (external-keeps t ok services short NotTwenty (λ _. Unit {0}) (any-closed t) clock c (suc depth) i port content (world_in t mem []) (atom-deep t depth i a) u (ready.good, tt)) (is [])).0
  external-lifts port content u a mem after ready own (Err r) took =
      λ log. external-is port content a mem log ∙ ap (λ (o : Outcome (State × ℕ × Fate)). o >>= took_in clock i port content (world_in t mem log)) took

  -- ---- internal events
  internal-is : is_coupled (kind_at t i) ≡ false → (mem : List ℕ) (log : List Happening)
      → internal t services (suc depth) clock i (world_in t mem log) ≡ (atom_internal (kind_at t i) services (state_of t mem i) (place_in mem) >>= gave_in clock i (world_in t mem log))
  unfolding internal
  internal-is a mem log =
      internal-as t services (kind_at t i) depth (external t services depth clock) (internal t services depth clock) clock i (world_in t mem log) a
      ∙ ap (λ (s : State). atom_internal (kind_at t i) services s (place_in mem) >>= gave_in clock i (world_in t mem log)) (state-is t mem i inside)

  pub internal-lifts : is_coupled (kind_at t i) ≡ false → (mem after : List ℕ) → Ready t mem
      → (at : ℕ) → end_of t ≤ at → Own i (begin_of t i) (width_of (kind_at t i)) at (at + 64) mem after → (r : Result ℕ Refusal)
      → Gave r at (kind_at t i) (begin_of t i) i after (atom_internal (kind_at t i) services (state_of t mem i) (place_in mem))
      → Gives r at (internal t services (suc depth) clock i) t mem after
  internal-lifts a mem after ready at past own (Ok n) gave = record { ready = record { laid = laid; good = good }; few = let f = gave.few in omega arith; more = more; is = is }
    where
      more : List Happening → List Happening
      more log = log ++ went clock i (outs_in at n after) ∷ []

      laid : Laid t after
      laid = own-laid t i at (at + 64) mem after inside (λ p l. inl (omega arith)) ready.laid own gave.words

      is : (log : List Happening) → internal t services (suc depth) clock i (world_in t mem log) ≡ done (world_in t after (more log), outs_in at n after)
      is log =
          internal-is a mem log
          ∙ ap (λ (o : Outcome (State × ℕ × List Out)). o >>= gave_in clock i (world_in t mem log)) gave.is
          ∙ (λ k. done (record { states = sym (own-states t i at (at + 64) mem after inside (λ p l. inl (omega arith)) ready.laid own) k; place = place_in after; log = more log }, outs_in at n after))

      good : Good t (world_in t after [])
      good = (ends-done (internal-keeps t ok services short NotTwenty (λ _. Unit {0}) (any-closed t) clock c (suc depth) i (world_in t mem []) (atom-deep t depth i a) (ready.good, tt)) (is [])).0.0
  internal-lifts a mem after ready at past own (Err r) gave =
      λ log. internal-is a mem log ∙ ap (λ (o : Outcome (State × ℕ × List Out)). o >>= gave_in clock i (world_in t mem log)) gave

  -- ---- the same for callers that know the row by its kind k, and by where the words say that its own begin
  pub does-kind : (port content : ℕ) → T (is_content content) → (mem after : List ℕ) → Ready t mem
      → (k : Kind) → kind_at t i ≡ k → is_coupled k ≡ false → (b : ℕ) → begin_in mem i ≡ b
      → Own i b (width_of k) 0 0 mem after → (r : Result ⊤ Refusal)
      → Took r k b i after (atom_external k services clock port content (state_in k b mem i) (place_in mem))
      → Does r (external t services (suc depth) clock i port content) t mem after
  does-kind port content u mem after ready k e a b f own r took =
      let g : b ≡ begin_of t i = sym f ∙ ready.laid.begins i inside in
      external-lifts port content u (ap is_coupled e ∙ a) mem after ready
      (subst₂ (λ (k : Kind) (b : ℕ). Own i b (width_of k) 0 0 mem after) (sym e) g own) r
      (subst₂ (λ (k : Kind) (b : ℕ). Took r k b i after (atom_external k services clock port content (state_in k b mem i) (place_in mem))) (sym e) g took)

  pub gives-kind : (mem after : List ℕ) → Ready t mem
      → (at : ℕ) → end_of t ≤ at → (k : Kind) → kind_at t i ≡ k → is_coupled k ≡ false → (b : ℕ) → begin_in mem i ≡ b
      → Own i b (width_of k) at (at + 64) mem after → (r : Result ℕ Refusal)
      → Gave r at k b i after (atom_internal k services (state_in k b mem i) (place_in mem))
      → Gives r at (internal t services (suc depth) clock i) t mem after
  gives-kind mem after ready at past k e a b f own r gave =
      let g : b ≡ begin_of t i = sym f ∙ ready.laid.begins i inside in
      internal-lifts (ap is_coupled e ∙ a) mem after ready at past
      (subst₂ (λ (k : Kind) (b : ℕ). Own i b (width_of k) at (at + 64) mem after) (sym e) g own) r
      (subst₂ (λ (k : Kind) (b : ℕ). Gave r at k b i after (atom_internal k services (state_in k b mem i) (place_in mem))) (sym e) g gave)

-- and the row itself
pub row-kind : (t : Table) (mem : List ℕ) (i : ℕ) → i < length t.rows → Ready t mem → (k : Kind) → kind_at t i ≡ k → Row k (begin_in mem i) mem i
row-kind t mem i inside ready k e = subst₂ (λ (k : Kind) (b : ℕ). Row k b mem i) e (sym (ready.laid.begins i inside)) (row_of t mem i inside ready)
