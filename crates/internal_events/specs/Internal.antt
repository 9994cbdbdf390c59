-- A Coupled's internal event in place, part by part: unparked, emptied, a turn of each component. Assumes nothing.
use Rattle.std.specs.Prelude.{ℕ, zero, suc, ◌+◌, ◌≤◌, ◌<◌, ◌≡◌, true, false, length, set, T, Float, Err, Ok, Result}
use Rattle.std.proofs.Common.{sym, subst, ◌∙◌, inl, inr, arith}
use Rattle.std.proofs.Math.Path.{ap}
use mathlib.Core.List.{List, [], ◌∷◌, ◌++◌, map}
use Rattle.rules.specs.declared.Refusal.{Refusal}
use Rattle.rules.specs.Base.{Outcome, refused, done, ◌>>=◌, each, from}
use Rattle.rules.specs.Sizes.{most_out}
use Rattle.rules.specs.Table.{Kind, coupled, Table, id_at, kind_at, components}
use Rattle.rules.specs.Simulation.{Parked, State, of_coupled, state_at, as_coupled}
use Rattle.rules.specs.Step.{Out, Happening, went, World, noted, becomes, due, External, Internal, external, unpark, hand, turn, internal_as, internal}
use Rattle.rules.specs.Sizes.{is_word}
use Rattle.rules.specs.Valid.{state_fits}
use Rattle.rules.proofs.Least.{Fitted}
use Rattle.rules.proofs.Worlds.{fitted-set}
use Rattle.memory.specs.Words.{place_in, begin_in, width_of, Own}
use Rattle.memory.specs.View.{out_of, outs_in, parked_in, state_in, WordsFit}
use Rattle.memory.specs.Places.{own-alike}
use Rattle.rules.specs.Depth.{Deep}
use Rattle.parked_rows.specs.Parking.{Emptied}
use Rattle.views.specs.World.{begin_of, end_of, state_of, states_in, world_in, Ready, Frame, Moves, Puts, Gives}
use Rattle.views.proofs.WorldLayout.{state-is}
use Rattle.views.proofs.Frames.{own-laid, own-states}
use Rattle.views.specs.Messages.{Adds, Hands}

-- ---- a component that is not due has no turn; one that is has its event, and what it puts out is handed on
module _ (t : Table) (services : List Float) (depth : ℕ) (clock : Float) (i j at count : ℕ) (mem : List ℕ) where
  abbrev inside-turn : World × List Out → Outcome (World × List Out)
  inside-turn = turn t services depth (internal t services depth clock) i j

  pub no-turn : Ready t mem → count ≤ most_out → due t depth (states_in t mem) j ≡ false → Adds count count at inside-turn t mem mem
  no-turn ready few e = record { ready = ready; few = few; more = λ log. log; is = λ log. rw e }

  module _ (e : due t depth (states_in t mem) j ≡ true) where
    pub turn-stops : (r : Refusal) → ((log : List Happening) → internal t services depth clock j (world_in t mem log) ≡ refused r) → (log : List Happening) → inside-turn (world_in t mem log, outs_in at count mem) ≡ refused r
    turn-stops r stops log = rw (e, stops log)

    pub turn-goes : (from n : ℕ) (mid after : List ℕ) (r : Result ℕ Refusal) → Puts n from (internal t services depth clock j) t mem mid → outs_in at count mid ≡ outs_in at count mem
        → Hands r count at (λ x. each (hand t services i j) (outs_in from n mid) x) t mid after → Hands r count at inside-turn t mem after
    turn-goes from n mid after r puts kept hands = go r hands
      where
        onto : (log : List Happening) → inside-turn (world_in t mem log, outs_in at count mem) ≡ each (hand t services i j) (outs_in from n mid) (world_in t mid (puts.more log), outs_in at count mid)
        onto log = rw (e, puts.is log, kept)

        go : (r : Result ℕ Refusal) → Hands r count at (λ x. each (hand t services i j) (outs_in from n mid) x) t mid after → Hands r count at inside-turn t mem after
        go (Ok m) h = record { ready = h.ready; few = h.few; more = λ log. h.more (puts.more log); is = λ log. onto log ∙ h.is (puts.more log) }
        go (Err q) h = λ log. onto log ∙ h (puts.more log)

-- the messages put out so far stand below what the component's event writes
pub outs-kept : (t : Table) (lo hi at count : ℕ) (mem mid : List ℕ) → end_of t ≤ at → at + count ≤ lo → Frame t lo hi mem mid → outs_in at count mid ≡ outs_in at count mem
outs-kept t lo hi at count mem mid past room f = ap (map out_of) (own-alike at count mem mid f.long (λ p l u. f.high p (omega arith) (inl (omega arith))))

-- ---- the list is emptied
module _ (t : Table) (i : ℕ) (inside : i < length t.rows) (e : kind_at t i ≡ coupled) (mem after : List ℕ) (ready : Ready t mem) where
  abbrev emptied : State
  emptied = of_coupled []

  module _ (own : Own i (begin_of t i) 64 0 0 mem after) (empty : Emptied (begin_of t i) i after) (place : place_in after ≡ place_in mem) where
    own-here : Own i (begin_of t i) (width_of (kind_at t i)) 0 0 mem after
    own-here = subst (λ (k : Kind). Own i (begin_of t i) (width_of k) 0 0 mem after) (sym e) own

    state-here : state_of t after i ≡ emptied
    state-here = ap (λ (k : Kind). state_in k (begin_of t i) after i) e ∙ ap of_coupled empty.is

    states-here : states_in t after ≡ set (states_in t mem) i emptied
    states-here = own-states t i 0 0 mem after inside (λ p l. inr (omega arith)) ready.laid own-here ∙ ap (set (states_in t mem) i) state-here

    pub empty-world : (log : List Happening) → world_in t after log ≡ becomes i emptied (world_in t mem log)
    empty-world log = λ k. record { states = states-here k; place = place k; log = log }

    pub empty-ready : Ready t after
    empty-ready = record {
      laid = own-laid t i 0 0 mem after inside (λ p l. inr (omega arith)) ready.laid own-here (subst (λ (k : Kind). WordsFit k (begin_of t i) after i) (sym e) empty.words);
      good = (
        subst (Fitted t) (sym states-here) (fitted-set {t = t} {states = states_in t mem} i emptied ready.good.0 (subst (λ (k : Kind). T (state_fits k emptied)) (sym e) tt)),
        subst (λ (n : ℕ). T (is_word n)) (sym place) ready.good.1,
      );
    }

-- ---- all of it
module _ (t : Table) (services : List Float) (depth : ℕ) (clock : Float) (i : ℕ) (inside : i < length t.rows) (e : kind_at t i ≡ coupled) (mem : List ℕ) where
  abbrev ext : External t services
  ext = external t services depth clock

  abbrev int : Internal t services
  int = internal t services depth clock

  abbrev rest : World → Outcome (World × List Out)
  rest w = each (turn t services depth int i) (components t (id_at t i)) (becomes i (of_coupled []) w, []) >>= λ r. done (noted (went clock i r.1) r.0, r.1)

  parked-is : as_coupled (state_at (states_in t mem) i) ≡ parked_in (begin_of t i) mem i
  parked-is = ap as_coupled (state-is t mem i inside ∙ ap (λ (k : Kind). state_in k (begin_of t i) mem i) e)

  parts-of : (log : List Happening) → internal t services (suc depth) clock i (world_in t mem log) ≡ (unpark t services ext i (parked_in (begin_of t i) mem i) (world_in t mem log) >>= rest)
  unfolding internal
  parts-of log =
      ap (λ (k : Kind). internal_as t services k depth ext int clock i (world_in t mem log)) e
      ∙ ap (λ (l : List Parked). unpark t services ext i l (world_in t mem log) >>= rest) parked-is

  pub unpark-stops : (r : Refusal) → ((log : List Happening) → unpark t services ext i (parked_in (begin_of t i) mem i) (world_in t mem log) ≡ refused r) → (log : List Happening) → internal t services (suc depth) clock i (world_in t mem log) ≡ refused r
  unpark-stops r stops log = parts-of log ∙ ap (λ (o : Outcome World). o >>= rest) (stops log)

  pub coupled-gives : (at : ℕ) (mid emptied after : List ℕ) (r : Result ℕ Refusal) → Moves (unpark t services ext i (parked_in (begin_of t i) mem i)) t mem mid
      → ((log : List Happening) → world_in t emptied log ≡ becomes i (of_coupled []) (world_in t mid log))
      → Hands r 0 at (λ x. each (turn t services depth int i) (components t (id_at t i)) x) t emptied after
      → Gives r at (internal t services (suc depth) clock i) t mem after
  coupled-gives at mid emptied after r moves world hands = go r hands
    where
      last : World × List Out → Outcome (World × List Out)
      last r = done (noted (went clock i r.1) r.0, r.1)

      onto : (log : List Happening) → internal t services (suc depth) clock i (world_in t mem log) ≡ (each (turn t services depth int i) (components t (id_at t i)) (world_in t emptied (moves.more log), []) >>= last)
      onto log =
          parts-of log ∙ ap (λ (o : Outcome World). o >>= rest) (moves.is log)
          ∙ ap (λ (w : World). each (turn t services depth int i) (components t (id_at t i)) (w, []) >>= last) (sym (world (moves.more log)))

      go : (r : Result ℕ Refusal) → Hands r 0 at (λ x. each (turn t services depth int i) (components t (id_at t i)) x) t emptied after → Gives r at (internal t services (suc depth) clock i) t mem after
      go (Ok n) h = record {
        ready = h.ready;
        few = h.few;
        more = λ log. h.more (moves.more log) ++ went clock i (outs_in at n after) ∷ [];
        is = λ log. onto log ∙ ap (λ (o : Outcome (World × List Out)). o >>= last) (h.is (moves.more log));
      }
      go (Err q) h = λ log. onto log ∙ ap (λ (o : Outcome (World × List Out)). o >>= last) (h (moves.more log))

-- ---- what the calls' own words say, in the table's
pub own_at : (t : Table) (i : ℕ) → i < length t.rows → (mem after : List ℕ) → Ready t mem → Own i (begin_in mem i) 64 0 0 mem after → Own i (begin_of t i) 64 0 0 mem after
own_at t i inside mem after ready own = subst (λ (b : ℕ). Own i b 64 0 0 mem after) (ready.laid.begins i inside) own

pub emptied-at : (t : Table) (i : ℕ) → i < length t.rows → (mem after : List ℕ) → Ready t mem → Emptied (begin_in mem i) i after → Emptied (begin_of t i) i after
emptied-at t i inside mem after ready e = subst (λ (b : ℕ). Emptied b i after) (ready.laid.begins i inside) e

-- an event has a level at least
pub deep-some : (t : Table) (depth i : ℕ) → Deep t depth i → 0 < depth
deep-some t zero i d = absurd d
deep-some t (suc depth) i d = omega arith

pub hands-all : (t : Table) (visit : ℕ → World × List Out → Outcome (World × List Out)) (xs ys : List ℕ) → xs ≡ ys → (r : Result ℕ Refusal) (count at : ℕ) (mem after : List ℕ) → Hands r count at (λ x. each visit xs x) t mem after → Hands r count at (λ x. each visit ys x) t mem after
hands-all t visit xs ys e r count at mem after h = subst (λ (l : List ℕ). Hands r count at (λ x. each visit l x) t mem after) e h
