-- The batcher's own machine: what any lawful list of its events keeps and says. Then the lift: what a simulation's log says of each batcher row, inside Coupleds too, is such a list. Assumes nothing.
use Rattle.std.specs.Prelude.{ℕ, zero, suc, ◌+◌, ◌-◌, ◌*◌, ◌/◌, ◌%◌, ◌≤◌, ◌<◌, ◌≡◌, Bool, not, List, [], ◌∷◌, ◌++◌, map, get_or, take, drop, set, T, leb, ltb, eqb, Float, if◌then◌else◌}
use Rattle.std.proofs.Math.Path.{refl, sym, ap, subst}
use Rattle.std.proofs.Common.{◌∙◌, append_assoc, append-nil, add-one, mod-eq_of_lt, length-take, take-append-drop, drop_of_length-le, take_all, get_or-take, get_or-drop, get_or-set_same, get_or-set_other, leb→le, ltb→lt, nltb→le, eqb→eq, T_not}
use Rattle.std.proofs.Math.Bool.{true, false}
use native.Mathlib.Omega.{arith}
use Rattle.std.proofs.Math.Nat.{div-eq_of_lt, div-eq-sub-div, mod-eq-sub-mod}
use Rattle.std.proofs.Math.ListN.{length, length-append, length-drop, get_or-append}
use Rattle.std.proofs.Math.Dec.{nleb→lt, eqb_refl}
use Rattle.std.specs.Float.{binary64}
use Rattle.std.specs.Float.Ieee.{sub, le}
use Rattle.times.specs.Time.{instant, never, is_time, is_timer}
use Rattle.times.proofs.Laws as law
use Rattle.rules.specs.declared.Refusal.{Refusal}
use Rattle.rules.specs.declared.Refusal.TheVariants.{NoQueueRoom}
use Rattle.rules.specs.declared.BatcherPhase.{BatcherPhase}
use Rattle.rules.specs.declared.BatcherPhase.TheVariants as batching
use Rattle.rules.specs.declared.Batcher.{Batcher}
use Rattle.rules.specs.Sizes.{most_jobs, largest_batch}
use Rattle.rules.specs.Base.{Outcome, done}
use Rattle.rules.specs.Table.{Kind, batcher, Table, kind_at}
use Rattle.rules.specs.Intake.{kind_rules}
use Rattle.rules.specs.Simulation.{BatcherState, State, of_batcher, of_coupled, fresh_batcher, state_at}
use Rattle.rules.specs.Models.{Kept, keep, joining, batcher_external, batcher_internal}
use Rattle.rules.specs.Step.{Out, out_at, Happening, came, went, waited, World, noted, becomes, after}
use Rattle.rules.specs.Ends.{All, nil, ◌&◌, Ends, stops, goes, ends-if, ends-bind, ends-map, Whatever, ends-whatever, ends-known}
use Rattle.rules.specs.Depth.{Fine}
use Rattle.rules.proofs.Least.{own_timer}
use Rattle.rules.proofs.Worlds.{Closed, NotBatcher, after-at}
use Rattle.promises.specs.Story.{Event, Accepted, Released, Waited, was_kept, contents, event_of, history, accepted_in, releases_in, joined, done_or, after_event, state_after, state_then, LawfulEvent, Lawful, HoldsJob, advances_until, Within}

-- ---- what intake says of a batcher's row
pub record Sized (b : Batcher) : Type 0 where
  pub some_size : 1 ≤ b.max_batch_size
  pub most-size : b.max_batch_size ≤ largest_batch
  pub a-time : T (is_time b.max_batch_time)

pub sized : (b : Batcher) → All T (kind_rules (batcher b)) → Sized b
sized b (x & y & z & u & v & nil) = record { some_size = leb→le 1 b.max_batch_size z; most-size = leb→le b.max_batch_size largest_batch u; a-time = v }

-- ---- what a batcher's state keeps: Passive holds nothing, Batching some but less than m, Release m at least; the timer is at most the batch time while a job is held, and 0 while m are
abbrev pub Shape : BatcherPhase → ℕ → ℕ → Type 0
Shape batching.Passive h m = h ≡ 0
Shape batching.Batching h m = (1 ≤ h) × (h < m)
Shape batching.Release h m = m ≤ h

pub record Sound (b : Batcher) (s : BatcherState) : Type 0 where
  pub shape : Shape s.phase (length s.jobs) b.max_batch_size
  pub timed : T (is_timer s.timer)
  pub below : HoldsJob s → T (le s.timer b.max_batch_time)
  pub at_once : b.max_batch_size ≤ length s.jobs → s.timer ≡ instant

pub fresh-sound : (b : Batcher) → Sized b → Sound b fresh_batcher
fresh-sound b ok = let m = ok.some_size in record { shape = refl; timed = law.never-timer; below = λ l. absurd (omega arith); at_once = λ l. absurd (omega arith) }

-- a refusal of a batcher is 7, and it holds 64
pub record NoRoom (s : BatcherState) (r : Refusal) : Type 0 where
  pub seven : r ≡ NoQueueRoom
  pub full : most_jobs ≤ length s.jobs

-- an accepted job is the last held, the state stays sound, and what was held goes no later
pub record Took (b : Batcher) (job : ℕ) (s next : BatcherState) : Type 0 where
  pub sound : Sound b next
  pub last : next.jobs ≡ s.jobs ++ job ∷ []
  pub no-later : HoldsJob s → T (le next.timer s.timer)

module _ (b : Batcher) (ok : Sized b) where
  batch-timer : T (is_timer b.max_batch_time)
  batch-timer = law.time-timer b.max_batch_time ok.a-time

  instant-timer : T (is_timer instant)
  instant-timer = law.time-timer instant law.instant-time

  abbrev Joins : BatcherState → BatcherPhase × Float → Type 0
  Joins s pt =
      Shape pt.0 (length s.jobs + 1) b.max_batch_size × T (is_timer pt.1) × T (le pt.1 b.max_batch_time)
      × (b.max_batch_size ≤ length s.jobs + 1 → pt.1 ≡ instant) × (HoldsJob s → T (le pt.1 s.timer))

  kept : (job : ℕ) (s : BatcherState) → Ends (NoRoom s) (λ jobs. jobs ≡ s.jobs ++ job ∷ []) (keep job s.jobs)
  kept job s = ends-if (ltb (length s.jobs) most_jobs) (λ t. goes refl) (λ t. stops (record { seven = refl; full = nltb→le (length s.jobs) most_jobs t }))

  -- from a sound state a job is accepted, or refused with 7 where 64 are held: 6 never comes
  pub accept-ends : (job : ℕ) (s : BatcherState) → Sound b s → Ends (NoRoom s) (Took b job s) (batcher_external b job s)
  unfolding batcher_external
  accept-ends job s good =
      ends-bind {Q = Joins s} _
      (ends-if (ltb (length s.jobs + 1) b.max_batch_size)
      (λ t. join s.phase (ltb→lt (length s.jobs + 1) b.max_batch_size t) good.shape)
      (λ t. goes {a = (batching.Release, instant)} (nltb→le (length s.jobs + 1) b.max_batch_size t, instant-timer, law.timers-instant b.max_batch_time batch-timer, λ _. refl, λ _. law.timers-instant s.timer good.timed)))
      (λ pt h. ends-bind _ (kept job s)
      (λ jobs k. let n : length jobs ≡ length s.jobs + 1 = ap length k ∙ length-append s.jobs (job ∷ []) in
      goes (record {
        sound = record {
          shape = subst (λ (z : ℕ). Shape pt.0 z b.max_batch_size) (sym n) h.0;
          timed = h.1;
          below = λ _. h.2;
          at_once = λ l. h.3 (omega arith);
        };
        last = k;
        no-later = h.4;
      })))
    where
      join : (phase : BatcherPhase) → length s.jobs + 1 < b.max_batch_size → Shape phase (length s.jobs) b.max_batch_size → Ends (NoRoom s) (Joins s) (joining phase b s)
      join batching.Passive l e = goes {a = (batching.Batching, b.max_batch_time)} ((omega arith, l), batch-timer, law.timers-reflexive b.max_batch_time batch-timer, λ f. absurd (omega arith), λ f. absurd (omega arith))
      join batching.Batching l e = goes {a = (batching.Batching, s.timer)} ((omega arith, l), good.timed, good.below e.0, λ f. absurd (omega arith), λ _. law.timers-reflexive s.timer good.timed)
      join batching.Release l e = absurd (omega arith)

  -- ---- an internal event puts out the first m jobs, or all where there are fewer, and keeps the others
  module _ (s : BatcherState) where
    abbrev all-out : BatcherState × List ℕ
    all-out = (record { phase = batching.Passive; timer = never; jobs = [] }, s.jobs)

    abbrev full : BatcherState × List ℕ
    full = (record { phase = batching.Release; timer = instant; jobs = drop b.max_batch_size s.jobs }, take b.max_batch_size s.jobs)

    abbrev part : BatcherState × List ℕ
    part = (record { phase = batching.Batching; timer = b.max_batch_time; jobs = drop b.max_batch_size s.jobs }, take b.max_batch_size s.jobs)

    abbrev Splits : BatcherState × List ℕ → Type 0
    Splits r = (r.1 ≡ take b.max_batch_size s.jobs) × (r.0.jobs ≡ drop b.max_batch_size s.jobs)

    pub release-splits : Splits (batcher_internal b s)
    unfolding batcher_internal
    release-splits = go (leb (length s.jobs) b.max_batch_size) (leb (2 * b.max_batch_size) (length s.jobs)) (leb→le (length s.jobs) b.max_batch_size)
      where
        go : (x y : Bool) → (T x → length s.jobs ≤ b.max_batch_size) → Splits (if x then all-out else if y then full else part)
        go true y h = (sym (take_all b.max_batch_size s.jobs (h tt)), sym (drop_of_length-le s.jobs (h tt)))
        go false true h = (refl, refl)
        go false false h = (refl, refl)

    pub release-sound : Sound b (batcher_internal b s).0
    unfolding batcher_internal
    release-sound =
        go (leb (length s.jobs) b.max_batch_size) (leb (2 * b.max_batch_size) (length s.jobs))
        (nleb→lt (length s.jobs) b.max_batch_size) (leb→le (2 * b.max_batch_size) (length s.jobs)) (nleb→lt (2 * b.max_batch_size) (length s.jobs))
      where
        left : length (drop b.max_batch_size s.jobs) ≡ length s.jobs - b.max_batch_size
        left = length-drop b.max_batch_size s.jobs

        go : (x y : Bool) → (T (not x) → b.max_batch_size < length s.jobs) → (T y → 2 * b.max_batch_size ≤ length s.jobs) → (T (not y) → length s.jobs < 2 * b.max_batch_size)
            → Sound b (if x then all-out else if y then full else part).0
        go true y f g h = fresh-sound b ok
        go false true f g h = record {
          shape = let z = g tt in omega (arith, left);
          timed = instant-timer;
          below = λ _. law.timers-instant b.max_batch_time batch-timer;
          at_once = λ _. refl;
        }
        go false false f g h = record {
          shape = let y = f tt in let z = h tt in (omega (arith, left), omega (arith, left, ok.some_size));
          timed = batch-timer;
          below = λ _. law.timers-reflexive b.max_batch_time batch-timer;
          at_once = λ l. let z = h tt in absurd (omega (arith, left, ok.some_size));
        }

  -- ---- one event
  pub accept-takes : (job : ℕ) (s : BatcherState) → Sound b s → LawfulEvent b s (Accepted job) → Took b job s (after_event b (Accepted job) s)
  accept-takes job s good e = go (accept-ends job s good) e
    where
      go : {o : Outcome BatcherState} → Ends (NoRoom s) (Took b job s) o → o ≡ done (done_or s o) → Took b job s (done_or s o)
      go (stops x) e = absurd (let z : ◌≡◌ {A = ℕ} 0 1 = cc in omega arith)
      go (goes h) e = h

  -- where the timer is 0 no time passes
  none_left : (x a : Float) → T (is_time a) → x ≡ instant → T (le a x) → a ≡ instant
  none_left x a t e l =
      let a-timer = law.time-timer a t in
      law.timers-antisymmetric a instant a-timer instant-timer (subst (λ (z : Float). T (le a z)) e l) (law.timers-instant a a-timer)

  stands : (x a : Float) → T (is_timer x) → a ≡ instant → sub binary64 x a ≡ x
  stands x a t e = ap (λ (z : Float). sub binary64 x z) e ∙ law.after-instant x t

  wait-sound : (a : Float) (s : BatcherState) → Sound b s → T (is_time a) → T (le a s.timer) → Sound b (after_event b (Waited a) s)
  wait-sound a s good t l =
      let w = law.after-timer s.timer a good.timed t l in
      record {
        shape = good.shape;
        timed = w;
        below = λ h. law.timers-transitive (sub binary64 s.timer a) s.timer b.max_batch_time w good.timed batch-timer (law.after-le s.timer a good.timed t l) (good.below h);
        at_once = λ f. let e = good.at_once f in stands s.timer a good.timed (none_left s.timer a t e l) ∙ e;
      }

  pub event-sound : (e : Event) (s : BatcherState) → Sound b s → LawfulEvent b s e → Sound b (after_event b e s)
  event-sound (Accepted job) s good h = (accept-takes job s good h).sound
  event-sound (Released jobs) s good h = release-sound s
  event-sound (Waited a) s good h = wait-sound a s good h.0 h.1

  -- ---- over a history
  pub history-sound : (es : List Event) (s : BatcherState) → Sound b s → Lawful b s es → Sound b (state_after b es s)
  history-sound [] s good h = good
  history-sound (e ∷ es) s good h = history-sound es (after_event b e s) (event-sound e s good h.0) h.1

  -- "released then held is always accepted, in order"
  pub conserved : (es : List Event) (s : BatcherState) → Sound b s → Lawful b s es → joined (releases_in es) ++ (state_after b es s).jobs ≡ s.jobs ++ accepted_in es
  conserved [] s good h = sym (append-nil s.jobs)
  conserved (Accepted job ∷ es) s good h =
      conserved es (after_event b (Accepted job) s) (event-sound (Accepted job) s good h.0) h.1
      ∙ ap (λ (z : List ℕ). z ++ accepted_in es) (accept-takes job s good h.0).last
      ∙ append_assoc s.jobs (job ∷ []) (accepted_in es)
  conserved (Released jobs ∷ es) s good h =
      let o = release-splits s in
      append_assoc jobs (joined (releases_in es)) (state_after b es (batcher_internal b s).0).jobs
      ∙ ap (λ (z : List ℕ). jobs ++ z) (conserved es (batcher_internal b s).0 (release-sound s) h.1)
      ∙ sym (append_assoc jobs (batcher_internal b s).0.jobs (accepted_in es))
      ∙ ap (λ (z : List ℕ). z ++ accepted_in es)
      (ap (λ (z : List ℕ). z ++ (batcher_internal b s).0.jobs) (h.0 ∙ o.0) ∙ ap (λ (z : List ℕ). take b.max_batch_size s.jobs ++ z) o.1 ∙ take-append-drop b.max_batch_size s.jobs)
  conserved (Waited a ∷ es) s good h = conserved es (after_event b (Waited a) s) (event-sound (Waited a) s good h.0) h.1

  -- the release q, counted from 0, has v at the place r, and p jobs leave before it
  pub record Goes (events : List (List ℕ)) (q r v p : ℕ) : Type 0 where
    pub there : r < length (get_or events q [])
    pub is : get_or (get_or events q []) r 0 ≡ v
    pub itself : length (joined (take q events)) + r ≡ p

  -- a job that stands behind p others leaves in the release p div m, counted from 0, at place p mod m
  pub goes_in : (es : List Event) (s : BatcherState) → Sound b s → Lawful b s es → (p : ℕ) → p < length s.jobs → p / b.max_batch_size < length (releases_in es)
      → Goes (releases_in es) (p / b.max_batch_size) (p % b.max_batch_size) (get_or s.jobs p 0) p
  goes_in [] s good h p l c = absurd (omega arith)
  goes_in (Accepted job ∷ es) s good h p l c =
      let took = accept-takes job s good h.0 in
      subst (λ (v : ℕ). Goes (releases_in es) (p / b.max_batch_size) (p % b.max_batch_size) v p)
      (ap (λ (z : List ℕ). get_or z p 0) took.last ∙ get_or-append s.jobs (job ∷ []) 0 p l)
      (goes_in es (after_event b (Accepted job) s) took.sound h.1 p (subst (λ (z : List ℕ). p < length z) (sym took.last) (omega (arith, length-append s.jobs (job ∷ [])))) c)
  goes_in (Released jobs ∷ es) s good h p l c = go (ltb p b.max_batch_size) (ltb→lt p b.max_batch_size) (nltb→le p b.max_batch_size) (goes_in es next (release-sound s) h.1 (p - b.max_batch_size))
    where
      next : BatcherState
      next = (batcher_internal b s).0

      first : jobs ≡ take b.max_batch_size s.jobs
      first = h.0 ∙ (release-splits s).0

      rest : next.jobs ≡ drop b.max_batch_size s.jobs
      rest = (release-splits s).1

      now : p < b.max_batch_size → Goes (jobs ∷ releases_in es) 0 p (get_or s.jobs p 0) p
      now k = record {
        there = subst (λ (z : List ℕ). p < length z) (sym first) (omega (arith, length-take b.max_batch_size s.jobs));
        is = ap (λ (z : List ℕ). get_or z p 0) first ∙ get_or-take b.max_batch_size s.jobs p 0 k;
        itself = let z : 0 + p ≡ p = omega arith in z;
      }

      later : b.max_batch_size ≤ p → Goes (releases_in es) ((p - b.max_batch_size) / b.max_batch_size) ((p - b.max_batch_size) % b.max_batch_size) (get_or next.jobs (p - b.max_batch_size) 0) (p - b.max_batch_size)
          → Goes (jobs ∷ releases_in es) (suc ((p - b.max_batch_size) / b.max_batch_size)) ((p - b.max_batch_size) % b.max_batch_size) (get_or s.jobs p 0) p
      later k g = record {
        there = g.there;
        is = g.is ∙ ap (λ (z : List ℕ). get_or z (p - b.max_batch_size) 0) rest ∙ get_or-drop b.max_batch_size s.jobs (p - b.max_batch_size) 0
            ∙ ap (λ (z : ℕ). get_or s.jobs z 0) (let w : b.max_batch_size + (p - b.max_batch_size) ≡ p = omega arith in w);
        itself = let n : length jobs ≡ b.max_batch_size = ap length first ∙ length-take b.max_batch_size s.jobs ∙ omega arith in
            omega (arith, g.itself, length-append jobs (joined (take ((p - b.max_batch_size) / b.max_batch_size) (releases_in es))));
      }

      go : (x : Bool) → (T x → p < b.max_batch_size) → (T (not x) → b.max_batch_size ≤ p)
          → (p - b.max_batch_size < length next.jobs → (p - b.max_batch_size) / b.max_batch_size < length (releases_in es)
          → Goes (releases_in es) ((p - b.max_batch_size) / b.max_batch_size) ((p - b.max_batch_size) % b.max_batch_size) (get_or next.jobs (p - b.max_batch_size) 0) (p - b.max_batch_size))
          → Goes (jobs ∷ releases_in es) (p / b.max_batch_size) (p % b.max_batch_size) (get_or s.jobs p 0) p
      go true f g rec =
          subst (λ (q : ℕ). Goes (jobs ∷ releases_in es) q (p % b.max_batch_size) (get_or s.jobs p 0) p) (sym (div-eq_of_lt (f tt)))
          (subst (λ (r : ℕ). Goes (jobs ∷ releases_in es) 0 r (get_or s.jobs p 0) p) (sym (mod-eq_of_lt (f tt))) (now (f tt)))
      go false f g rec =
          let k = g tt in
          let d : p / b.max_batch_size ≡ suc ((p - b.max_batch_size) / b.max_batch_size) = div-eq-sub-div ok.some_size k ∙ add-one ((p - b.max_batch_size) / b.max_batch_size) in
          let l₁ : p - b.max_batch_size < length next.jobs = subst (λ (z : List ℕ). p - b.max_batch_size < length z) (sym rest) (omega (arith, length-drop b.max_batch_size s.jobs)) in
          subst (λ (q : ℕ). Goes (jobs ∷ releases_in es) q (p % b.max_batch_size) (get_or s.jobs p 0) p) (sym d)
          (subst (λ (r : ℕ). Goes (jobs ∷ releases_in es) (suc ((p - b.max_batch_size) / b.max_batch_size)) r (get_or s.jobs p 0) p) (sym (mod-eq-sub-mod k))
          (later k (rec l₁ (let c₁ : p / b.max_batch_size < suc (length (releases_in es)) = c in omega (arith, d)))))
  goes_in (Waited a ∷ es) s good h p l c = goes_in es (after_event b (Waited a) s) (event-sound (Waited a) s good h.0) h.1 p l c

  -- a job behind p others: the advances until it leaves fit into x, where the timer is at most x, and x is a whole batch time while a batch goes before its own
  pub counts-down : (es : List Event) (s : BatcherState) → Sound b s → Lawful b s es → (p : ℕ) → p < length s.jobs → (x : Float) → T (is_timer x) → T (le s.timer x)
      → (b.max_batch_size ≤ p → T (le b.max_batch_time x)) → Within x (advances_until (p / b.max_batch_size) es)
  counts-down [] s good h p l x t u v = tt
  counts-down (Accepted job ∷ es) s good h p l x t u v =
      let took = accept-takes job s good h.0 in
      counts-down es (after_event b (Accepted job) s) took.sound h.1 p (subst (λ (z : List ℕ). p < length z) (sym took.last) (omega (arith, length-append s.jobs (job ∷ [])))) x t
      (law.timers-transitive (after_event b (Accepted job) s).timer s.timer x took.sound.timed good.timed t (took.no-later (omega arith)) u) v
  counts-down (Released jobs ∷ es) s good h p l x t u v = go (ltb p b.max_batch_size) (ltb→lt p b.max_batch_size) (nltb→le p b.max_batch_size) (counts-down es next (release-sound s) h.1 (p - b.max_batch_size))
    where
      next : BatcherState
      next = (batcher_internal b s).0

      go : (y : Bool) → (T y → p < b.max_batch_size) → (T (not y) → b.max_batch_size ≤ p)
          → (p - b.max_batch_size < length next.jobs → (x : Float) → T (is_timer x) → T (le next.timer x) → (b.max_batch_size ≤ p - b.max_batch_size → T (le b.max_batch_time x))
          → Within x (advances_until ((p - b.max_batch_size) / b.max_batch_size) es))
          → Within x (advances_until (p / b.max_batch_size) (Released jobs ∷ es))
      go true f g rec = subst (λ (q : ℕ). Within x (advances_until q (Released jobs ∷ es))) (sym (div-eq_of_lt (f tt))) tt
      go false f g rec =
          let k = g tt in
          let d : p / b.max_batch_size ≡ suc ((p - b.max_batch_size) / b.max_batch_size) = div-eq-sub-div ok.some_size k ∙ add-one ((p - b.max_batch_size) / b.max_batch_size) in
          let l₁ : p - b.max_batch_size < length next.jobs = subst (λ (z : List ℕ). p - b.max_batch_size < length z) (sym (release-splits s).1) (omega (arith, length-drop b.max_batch_size s.jobs)) in
          subst (λ (q : ℕ). Within x (advances_until q (Released jobs ∷ es))) (sym d)
          (rec l₁ x t (law.timers-transitive next.timer b.max_batch_time x (release-sound s).timed batch-timer t ((release-sound s).below (omega arith)) (v k)) (λ _. v k))
  counts-down (Waited a ∷ es) s good h p l x t u v =
      let a-timer = law.time-timer a h.0.0 in
      let w : T (le a x) = law.timers-transitive a s.timer x a-timer good.timed t h.0.1 u in (
        w,
        counts-down es (after_event b (Waited a) s) (event-sound (Waited a) s good h.0) h.1 p l (sub binary64 x a) (law.after-timer x a t h.0.0 w)
            (law.after-mono s.timer x a good.timed t h.0.0 h.0.1 u)
            (λ k. let none = none_left s.timer a h.0.0 (good.at_once (omega arith)) h.0.1 in
            subst (λ (z : Float). T (le b.max_batch_time z)) (sym (stands x a t none)) (v k)),
      )

-- ---- histories one after the other
pub history-append : (row : ℕ) (xs ys : List Happening) → history row (xs ++ ys) ≡ history row xs ++ history row ys
history-append row [] ys = refl
history-append row (h ∷ xs) ys = ap (λ (z : List Event). event_of row h ++ z) (history-append row xs ys) ∙ sym (append_assoc (event_of row h) (history row xs) (history row ys))

pub accepted-append : (xs ys : List Event) → accepted_in (xs ++ ys) ≡ accepted_in xs ++ accepted_in ys
accepted-append [] ys = refl
accepted-append (Accepted job ∷ xs) ys = ap (λ (z : List ℕ). job ∷ z) (accepted-append xs ys)
accepted-append (Released jobs ∷ xs) ys = accepted-append xs ys
accepted-append (Waited a ∷ xs) ys = accepted-append xs ys

pub state-append : (b : Batcher) (xs ys : List Event) (s : BatcherState) → state_after b (xs ++ ys) s ≡ state_after b ys (state_after b xs s)
state-append b [] ys s = refl
state-append b (e ∷ xs) ys s = state-append b xs ys (after_event b e s)

lawful-append : (b : Batcher) (xs ys : List Event) (s : BatcherState) → Lawful b s xs → Lawful b (state_after b xs s) ys → Lawful b s (xs ++ ys)
lawful-append b [] ys s h k = k
lawful-append b (e ∷ xs) ys s h k = (h.0, lawful-append b xs ys (after_event b e s) h.1 k)

pub lawful-split : (b : Batcher) (xs ys : List Event) (s : BatcherState) → Lawful b s (xs ++ ys) → Lawful b s xs × Lawful b (state_after b xs s) ys
lawful-split b [] ys s h = (tt, h)
lawful-split b (e ∷ xs) ys s h = let r = lawful-split b xs ys (after_event b e s) h.1 in ((h.0, r.0), r.1)

-- ---- what the log tells of every batcher row that began in its default state is lawful, and ends in its state
pub record Lived (b : Batcher) (row : ℕ) (log : List Happening) (states : List State) : Type 0 where
  pub lawful : Lawful b fresh_batcher (history row log)
  pub state : state_at states row ≡ of_batcher (state_then b row log)

-- `began` says which rows these are
abbrev pub Told : Table → (ℕ → Bool) → List Happening → List State → Type 0
Told t began log states = (row : ℕ) (b : Batcher) → kind_at t row ≡ batcher b → T (began row) → Lived b row log states

-- one thing more happens, and says the events xs of the row
more : (b : Batcher) (row : ℕ) (log : List Happening) (h : Happening) (states after : List State) (xs : List Event) → Lived b row log states → event_of row h ≡ xs → Lawful b (state_then b row log) xs
    → state_at after row ≡ of_batcher (state_after b xs (state_then b row log)) → Lived b row (log ++ h ∷ []) after
more b row log h states after xs l q k e = record {
  lawful = subst (Lawful b fresh_batcher) (sym says) (lawful-append b (history row log) xs fresh_batcher l.lawful k);
  state = e ∙ ap of_batcher (sym (ap (λ (z : List Event). state_after b z fresh_batcher) says ∙ state-append b (history row log) xs fresh_batcher));
}
  where
    says : history row (log ++ h ∷ []) ≡ history row log ++ xs
    says = history-append row log (h ∷ []) ∙ ap (λ (z : List Event). history row log ++ z) (append-nil (event_of row h) ∙ q)

-- ---- telling rows apart
pub if-not : {A : Type 0} (b : Bool) (x y : A) → (T b → ⊥) → (if b then x else y) ≡ y
if-not true x y n = absurd (n tt)
if-not false x y n = refl

pub if-so : {A : Type 0} (b : Bool) (x y : A) → T b → (if b then x else y) ≡ x
if-so true x y n = refl
if-so false x y n = absurd n

apart : (t : Table) (i row : ℕ) (b : Batcher) → NotBatcher (kind_at t i) → kind_at t row ≡ batcher b → row ≡ i → ⊥
apart t i row b n e q = subst NotBatcher (ap (kind_at t) (sym q) ∙ e) n

pub another-row : (row i : ℕ) (xs : List Event) → (row ≡ i → ⊥) → (if eqb i row then xs else []) ≡ []
another-row row i xs n = if-not (eqb i row) xs [] (λ t. n (sym (eqb→eq i row t)))

pub this-row : (row : ℕ) (xs : List Event) → (if eqb row row then xs else []) ≡ xs
this-row row xs = if-so (eqb row row) xs [] (eqb_refl row)

pub in-range : (states : List State) (i : ℕ) (s : BatcherState) → state_at states i ≡ of_batcher s → i < length states
in-range [] i s e = absurd (let z : ◌≡◌ {A = ℕ} 0 1 = cc in omega arith)
in-range (x ∷ states) zero s e = omega arith
in-range (x ∷ states) (suc i) s e = let l = in-range states i s e in omega arith

pub contents-back : (port : ℕ) (jobs : List ℕ) → contents (map (out_at port) jobs) ≡ jobs
contents-back port [] = refl
contents-back port (x ∷ jobs) = ap (λ (z : List ℕ). x ∷ z) (contents-back port jobs)

same-state : (x y : BatcherState) → of_batcher x ≡ of_batcher y → x ≡ y
same-state x y e = cc

same_row : (x y : Batcher) → batcher x ≡ batcher y → x ≡ y
same_row x y e = cc

module _ (t : Table) (ok : Fine t) where
  pub row_sized : (row : ℕ) (b : Batcher) → kind_at t row ≡ batcher b → Sized b
  row_sized row b e = sized b (subst (λ (z : Kind). All T (kind_rules z)) e (ok.kinds row))

  pub lived-sound : (row : ℕ) (b : Batcher) (log : List Happening) → kind_at t row ≡ batcher b → Lawful b fresh_batcher (history row log) → Sound b (state_then b row log)
  lived-sound row b log e h = let s = row_sized row b e in history-sound b s (history row log) fresh_batcher (fresh-sound b s) h

  -- after the log L of the steps before
  module _ (began : ℕ → Bool) (L : List Happening) where
    abbrev pub ToldIn : World → Type 0
    ToldIn w = Told t began (L ++ w.log) w.states

    noted-told : (h : Happening) (w : World) (states : List State) → Told t began ((L ++ w.log) ++ h ∷ []) states → Told t began (L ++ (w.log ++ h ∷ [])) states
    noted-told h w states told = subst (λ (z : List Happening). Told t began z states) (append_assoc L w.log (h ∷ [])) told

    abbrev Else : ℕ → ℕ → Type 0
    Else i row = row ≡ i → ⊥

    -- the happening h tells a row other than i nothing, and only the row i has another state
    beside : (i row : ℕ) (b : Batcher) (w : World) (h : Happening) (s : State) → Else i row → event_of row h ≡ [] → Lived b row (L ++ w.log) w.states → Lived b row ((L ++ w.log) ++ h ∷ []) (set w.states i s)
    beside i row b w h s n q l = more b row (L ++ w.log) h w.states (set w.states i s) [] l q tt (get_or-set_other w.states i row s (of_coupled []) n ∙ l.state)

    -- the row i, a batcher's that began in its default state, has the event e, and the happening h says so
    at-batcher : (i : ℕ) (b : Batcher) (s : BatcherState) (w : World) (h : Happening) (e : Event) → kind_at t i ≡ batcher b → state_at w.states i ≡ of_batcher s → ToldIn w
        → ((row : ℕ) → Else i row → event_of row h ≡ []) → event_of i h ≡ e ∷ [] → LawfulEvent b s e → ToldIn (noted h (becomes i (of_batcher (after_event b e s)) w))
    at-batcher i b s w h e k q told others this lawful = noted-told h w (set w.states i (of_batcher (after_event b e s))) all
      where
        next : List State
        next = set w.states i (of_batcher (after_event b e s))

        all : Told t began ((L ++ w.log) ++ h ∷ []) next
        all row b' k' since = go (eqb row i) (eqb→eq row i) (λ f c. T_not (eqb row i) f (subst (λ (z : ℕ). T (eqb row z)) c (eqb_refl row)))
          where
            l : Lived b' row (L ++ w.log) w.states
            l = told row b' k' since

            -- at the row itself
            own : (row : ℕ) (b' : Batcher) → row ≡ i → b ≡ b' → s ≡ state_then b' row (L ++ w.log) → Lived b' row (L ++ w.log) w.states → Lived b' row ((L ++ w.log) ++ h ∷ []) next
            own row b' c d f l =
                more b' row (L ++ w.log) h w.states next (e ∷ []) l (subst (λ (z : ℕ). event_of z h ≡ e ∷ []) (sym c) this)
                (subst (λ (z : BatcherState). LawfulEvent b' z e) f (subst (λ (z : Batcher). LawfulEvent z s e) d lawful), tt)
                (subst (λ (z : ℕ). state_at next z ≡ of_batcher (after_event b e s)) (sym c) (get_or-set_same w.states i (of_batcher (after_event b e s)) (of_coupled []) (in-range w.states i s q))
                ∙ ap (λ (z : Batcher). of_batcher (after_event z e s)) d ∙ ap (λ (z : BatcherState). of_batcher (after_event b' e z)) f)

            go : (x : Bool) → (T x → row ≡ i) → (T (not x) → Else i row) → Lived b' row ((L ++ w.log) ++ h ∷ []) next
            go true f g =
                let c = f tt in
                own row b' c (same_row b b' (sym k ∙ ap (kind_at t) (sym c) ∙ k')) (same-state s (state_then b' row (L ++ w.log)) (sym q ∙ ap (state_at w.states) (sym c) ∙ l.state)) l
            go false f g = beside i row b' w h (of_batcher (after_event b e s)) (g tt) (others row (g tt)) l

    -- a batcher row that began otherwise gets any state: nothing is told of it
    at-another : (i : ℕ) (s : State) (w : World) (h : Happening) → (T (began i) → ⊥) → ToldIn w → ((row : ℕ) → Else i row → event_of row h ≡ []) → ToldIn (noted h (becomes i s w))
    at-another i s w h n told others =
        noted-told h w (set w.states i s)
        (λ row b e since. let d : Else i row = λ q. n (subst (λ (z : ℕ). T (began z)) q since) in beside i row b w h s d (others row d) (told row b e since))

    -- a happening at another kind of row tells a batcher nothing
    quiet : (h : Happening) (w : World) → ((row : ℕ) (b : Batcher) → kind_at t row ≡ batcher b → event_of row h ≡ []) → ToldIn w → ToldIn (noted h w)
    quiet h w none told = noted-told h w w.states (λ row b e since. let l = told row b e since in more b row (L ++ w.log) h w.states w.states [] l (none row b e) tt l.state)

    came-else : (clock : Float) (i port content row : ℕ) → Else i row → event_of row (came clock i port content Kept) ≡ []
    came-else clock i port content row d = another-row row i (Accepted content ∷ []) d

    went-else : (clock : Float) (i : ℕ) (out : List Out) (row : ℕ) → Else i row → event_of row (went clock i out) ≡ []
    went-else clock i out row d = another-row row i (Released (contents out) ∷ []) d

    takes-in : (clock : Float) (i port content : ℕ) (b : Batcher) (s : BatcherState) (w : World) → kind_at t i ≡ batcher b → state_at w.states i ≡ of_batcher s → ToldIn w
        → Ends Whatever (λ n. ToldIn (noted (came clock i port content Kept) (becomes i (of_batcher n) w))) (batcher_external b content s)
    takes-in clock i port content b s w e q told = go (began i) refl
      where
        known : T (began i) → Ends Whatever (λ n. ToldIn (noted (came clock i port content Kept) (becomes i (of_batcher n) w))) (batcher_external b content s)
        known since =
            let l = told i b e since in
            let sound : Sound b s = subst (Sound b) (same-state (state_then b i (L ++ w.log)) s (sym l.state ∙ q)) (lived-sound i b (L ++ w.log) e l.lawful) in
            ends-map (ends-known (accept-ends b (row_sized i b e) content s sound)) (λ r _. tt)
            (λ n k. let took : after_event b (Accepted content) s ≡ n = ap (done_or s) k in
            subst (λ (z : BatcherState). ToldIn (noted (came clock i port content Kept) (becomes i (of_batcher z) w))) took
            (at-batcher i b s w (came clock i port content Kept) (Accepted content) e q told (came-else clock i port content) (this-row i (Accepted content ∷ []))
            (k ∙ ap done (sym took))))

        go : (x : Bool) → began i ≡ x → Ends Whatever (λ n. ToldIn (noted (came clock i port content Kept) (becomes i (of_batcher n) w))) (batcher_external b content s)
        go true x = known (subst T (sym x) tt)
        go false x =
            let n : (T (began i) → ⊥) = λ h. subst T x h in
            ends-map (ends-whatever (batcher_external b content s)) (λ r _. tt) (λ s₁ _. at-another i (of_batcher s₁) w (came clock i port content Kept) n told (came-else clock i port content))

    gives-out : (clock : Float) (i : ℕ) (b : Batcher) (s : BatcherState) (w : World) → kind_at t i ≡ batcher b → state_at w.states i ≡ of_batcher s → ToldIn w
        → ToldIn (noted (went clock i (map (out_at b.output) (batcher_internal b s).1)) (becomes i (of_batcher (batcher_internal b s).0) w))
    gives-out clock i b s w e q told = go (began i) refl
      where
        out : List Out
        out = map (out_at b.output) (batcher_internal b s).1

        go : (x : Bool) → began i ≡ x → ToldIn (noted (went clock i out) (becomes i (of_batcher (batcher_internal b s).0) w))
        go true x =
            at-batcher i b s w (went clock i out) (Released (contents out)) e q told (went-else clock i out) (this-row i (Released (contents out) ∷ []))
            (contents-back b.output (batcher_internal b s).1)
        go false x = at-another i (of_batcher (batcher_internal b s).0) w (went clock i out) (λ h. subst T x h) told (went-else clock i out)

    pub told-closed : Closed t Whatever ToldIn
    told-closed = record {
      other = λ r o. tt;
      six = λ i p e c. tt;
      put_other = λ i s place w n told row b e since.
          let l = told row b e since in
          record { lawful = l.lawful; state = get_or-set_other w.states i row s (of_coupled []) (apart t i row b n e) ∙ l.state };
      came-other = λ clock i port content fate w c n told.
          quiet (came clock i port content fate) w (λ row b e. another-row row i (if was_kept fate then Accepted content ∷ [] else []) (apart t i row b n e)) told;
      went-other = λ clock i out w c n told. quiet (went clock i out) w (λ row b e. another-row row i (Released (contents out) ∷ []) (apart t i row b n e)) told;
      took = λ clock i port content b s w c e q good told. takes-in clock i port content b s w e q told;
      gave = λ clock i b s w c e q good told. gives-out clock i b s w e q told;
      aged = λ a w good u below told.
          noted-told (waited a) w (map (after a) w.states)
          (λ row b e since. let l = told row b e since in
          more b row (L ++ w.log) (waited a) w.states (map (after a) w.states) (Waited a ∷ []) l refl
          ((u, subst (λ (z : State). T (le a (own_timer z))) l.state (below row)), tt)
          (after-at a w.states row ∙ ap (after a) l.state));
    }
