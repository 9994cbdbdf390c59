-- The parts of a step in place: a turn of a model without parent, what an advance of 0 leaves, and the parts put together. Assumes nothing.
use Rattle.std.specs.Prelude.{ℕ, ◌+◌, ◌*◌, ◌-◌, ◌≤◌, ◌<◌, ◌≡◌, refl, Bool, true, false, List, length, Float, Err, Ok, Result}
use Rattle.std.proofs.Common.{sym, ap, subst, ◌∙◌, inl, arith, eqb→eq}
use Rattle.std.proofs.lemmas.Bool.{false≢true}
use Rattle.std.specs.Float.Ieee.{of_bits, eq}
use Rattle.rules.specs.declared.Refusal.{Refusal}
use Rattle.rules.specs.declared.Message.{Message}
use Rattle.rules.specs.Base.{Outcome, refused, done, ◌>>=◌, each, from}
use Rattle.rules.specs.Sizes.{most_active}
use Rattle.rules.specs.Table.{Kind, processor, batcher, stopwatch, coupled, Table, kind_at, row_at, is_coupled, is_parentless}
use Rattle.rules.specs.Step.{Happening, World, levels, due, internal, after, send, root_turn}
use Rattle.rules.specs.Ends.{nil, ◌&◌}
use Rattle.rules.specs.Depth.{Fine}
use Rattle.words.specs.SearchLaws.{search-hit}
use Rattle.memory.specs.Words.{word_at, timer_in, Only}
use Rattle.memory.specs.View.{outs_in, WordsFit}
use Rattle.views.specs.World.{begin_of, end_of, states_in, world_in, Ready, Frame, Puts}
use Rattle.views.proofs.Frames.{frame_same}
use Rattle.views.proofs.Outside.{far-world, far-ready}
use Rattle.views.specs.Messages.{messages_in, Joins, Joined, Sent}
use Rattle.views.specs.MessageLaws.{messages-same}
use Rattle.model_events.specs.DueHere.{due-here}
use Rattle.sweeps.specs.Sweeps.{onward-skip}
use Rattle.sweeps.specs.Adding.{Adding, adding-on}
use Rattle.sweeps.specs.Skips.{stop_from, stop-over}
use Rattle.row_timers.specs.Passing.{at_zero}

-- ---- a model without parent that is not due has no turn; one that is has its event, and what it puts out is sent
module _ (t : Table) (services : List Float) (clock : Float) (i active count : ℕ) (mem : List ℕ) where
  abbrev root : World × List Message → Outcome (World × List Message)
  root = root_turn t services clock i

  pub no-root-turn : Ready t mem → count ≤ most_active → due t levels (states_in t mem) i ≡ false → Joins (messages_in active) most_active count count root t mem mem
  no-root-turn ready few e = record { ready = ready; few = few; more = λ log. log; is = λ log. rw e }

  module _ (e : due t levels (states_in t mem) i ≡ true) where
    pub root-stops : (r : Refusal) → ((log : List Happening) → internal t services levels clock i (world_in t mem log) ≡ refused r) → (log : List Happening) → root (world_in t mem log, messages_in active count mem) ≡ refused r
    root-stops r stops log = rw (e, stops log)

    pub root-goes : (from n : ℕ) (mid after : List ℕ) (r : Result ℕ Refusal) → Puts n from (internal t services levels clock i) t mem mid → messages_in active count mid ≡ messages_in active count mem
        → end_of t ≤ active → Only active (active + 1536) mid after → Sent r active (each (send t clock i) (outs_in from n mid) (messages_in active count mid)) after
        → Joined r (messages_in active) most_active count root t mem after
    root-goes from n mid after r puts kept past only sent = go r sent
      where
        last : World → List Message → Outcome (World × List Message)
        last w ms = done (w, ms)

        onto : (log : List Happening) → root (world_in t mem log, messages_in active count mem) ≡ (each (send t clock i) (outs_in from n mid) (messages_in active count mid) >>= last (world_in t mid (puts.more log)))
        onto log = rw (e, puts.is log, kept)

        same : (p : ℕ) → 2 ≤ p → p < end_of t → word_at after p ≡ word_at mid p
        same p l u = only.rest p (inl (omega arith))

        go : (r : Result ℕ Refusal) → Sent r active (each (send t clock i) (outs_in from n mid) (messages_in active count mid)) after → Joined r (messages_in active) most_active count root t mem after
        go (Ok m) s = record {
          ready = far-ready t mid after only.long same puts.ready;
          few = s.few;
          more = puts.more;
          is = λ log.
              onto log ∙ ap (λ (o : Outcome (List Message)). o >>= last (world_in t mid (puts.more log))) s.is
              ∙ ap (λ (w : World). done (w, messages_in active m after)) (sym (far-world t mid after only.long same (puts.more log)));
        }
        go (Err q) s = λ log. onto log ∙ ap (λ (o : Outcome (List Message)). o >>= last (world_in t mid (puts.more log))) s

-- the messages sent so far stand below what the model's event writes
pub sent-kept : (t : Table) (lo hi active count : ℕ) (mem mid : List ℕ) → end_of t ≤ active → active + count * 6 ≤ lo → Frame t lo hi mem mid → messages_in active count mid ≡ messages_in active count mem
sent-kept t lo hi active count mem mid past room f = messages-same active count mem mid (λ p l u. f.high p (omega arith) (inl (omega arith)))

-- what was written there alone leaves the frame
pub only-frame : (t : Table) (lo hi : ℕ) (mem after : List ℕ) → end_of t ≤ lo → Only lo hi mem after → Frame t lo hi mem after
only-frame t lo hi mem after past only = record { long = only.long; low = λ p l. only.rest p (inl (omega arith)); high = λ p l out. only.rest p out }

-- the models without parent, as the loop goes through them
abbrev pub is_root : Table → ℕ → Bool
is_root t j = is_parentless (row_at t j).parent

-- ---- rows whose timer's word is not 0 are passed over: an atom's timer is not 0, and no Coupled is among them
zero-coupled : (k : Kind) (b : ℕ) (mem : List ℕ) (i : ℕ) → WordsFit k b mem i → is_coupled k ≡ true → at_zero mem i ≡ true
unfolding of_bits eq
zero-coupled (processor p) b mem i fit e = absurd (false≢true e)
zero-coupled (batcher m) b mem i fit e = absurd (false≢true e)
zero-coupled (stopwatch w) b mem i fit e = absurd (false≢true e)
zero-coupled coupled b mem i (phase & none & held & unused & nil) e = rw (eqb→eq (timer_in mem i) 0 none) refl

module _ (t : Table) (ok : Fine t) (services : List Float) (clock : Float) (active lo hi count : ℕ) (mem₀ mem : List ℕ) where
  abbrev Down : ℕ → Type 0
  Down row = Adding t (messages_in active) most_active (root_turn t services clock) (is_root t) lo hi mem₀ 0 (length t.rows) row mem count

  not-due : (i : ℕ) → i < length t.rows → Ready t mem → at_zero mem i ≡ false → due t levels (states_in t mem) i ≡ false
  not-due i inside ready later = by (is_coupled (kind_at t i)) refl
    where
      by : (b : Bool) → is_coupled (kind_at t i) ≡ b → due t levels (states_in t mem) i ≡ false
      by true e = absurd (false≢true (sym later ∙ zero-coupled (kind_at t i) (begin_of t i) mem i (ready.laid.words i inside) e))
      by false e = due-here t ok mem ready i inside levels (omega arith) e ∙ later

  pass-turn : (row : ℕ) → row < length t.rows → at_zero mem row ≡ false → Down row → Down (row + 1)
  pass-turn row l later g = by (is_root t row) refl
    where
      by : (b : Bool) → is_root t row ≡ b → Down (row + 1)
      by true e =
          adding-on t (messages_in active) most_active (root_turn t services clock) (is_root t) lo hi mem₀ 0 (length t.rows) row mem count g row count mem (search-hit (is_root t) row (length t.rows) l e)
          (no-root-turn t services clock row active count mem g.ready g.few (not-due row l g.ready later))
          (frame_same t lo hi mem)
      by false e = record {
        ready = g.ready;
        few = g.few;
        frame = g.frame;
        onward = onward-skip (root_turn t services clock) (is_root t) row (length t.rows) _ _ g.onward l e;
      }

  pub pass-turns : (row here : ℕ) → here ≡ stop_from (at_zero mem) row (length t.rows - row) → row ≤ length t.rows → Down row → Down here
  pass-turns row here e l g = subst Down (sym e) (stop-over (at_zero mem) Down (length t.rows) pass-turn row l g)
