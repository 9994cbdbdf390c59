-- `stepping::advance_step` meets its contract. Assumes nothing.
use Rattle.std.proofs.lemmas.Result.{err_from_is_err_and}
use Rattle.std.specs.Prelude.{Some}
use Prim.Native.Nat.{ℕ, ◌^◌}
use mathlib.Core.Path.{◌≡◌, refl, sym, ap, subst, ◌∙◌}
use mathlib.Core.Bool.{Bool, true, false}
use mathlib.Core.List.{List, [], ◌∷◌}
use native.Mathlib.Omega.{arith}
use lib.ListN.{length}
use lib.Dec.{T, lt→ltb}
use lib.Ieee.{Float, binary64, add, eq}
use lib.Ieee.Bits.{is_true}
use Rattle.times.specs.Time.{never, is_time, is_timer, is_never}
use Rattle.times.specs.Answers.{later_of}
use Rattle.times.proofs.AnswerLaws.{clock-says, overflow-says}
use Rattle.rules.specs.Sizes.{is_word}
use Rattle.rules.specs.Base.{◌>>=◌}
use Rattle.rules.specs.Step.{waited, least_timer, step_on}
use Rattle.rules.proofs.Least.{Below, least-is-timer, least-below}
use Rattle.lookup.specs.Inside.{table_in}
use Rattle.lookup.specs.InsideLaws.{fine-in}
use Rattle.views.specs.World.{states_in, world_in}
use Rattle.row_timers.specs.Passing.{Passed}
use Rattle.stepping.specs.Simulating.{clock_in, sim_in, turns_of, closing}
use Rattle.stepping.specs.Whole.{idle-is, overflow-is, passes_on, ends-done, ends-halfway, never-eq, some-time}
use Rattle.stepping.proofs.advance_step.Goals as goal

-- src/lib.rt:125:9
pub returns-then-advance-never : goal.returns-then-advance-never
returns-then-advance-never c =
    let timer-of : T (is_timer (least_timer (table_in c.args.state.now) (states_in (table_in c.args.state.now) c.args.mem.now))) = least-is-timer (table_in c.args.state.now) (fine-in c.args.state.now c.requires.0) (states_in (table_in c.args.state.now) c.args.mem.now) c.requires.1.ready.good.0 in
    let asked : (a n : Float) → a ≡ least_timer (table_in c.args.state.now) (states_in (table_in c.args.state.now) c.args.mem.now) → n ≡ never → (b : Bool) → eq a n ≡ b → is_never (least_timer (table_in c.args.state.now) (states_in (table_in c.args.state.now) c.args.mem.now)) ≡ b = λ a n e f b h. sym (never-eq _ (timer-of)) ∙ (rw (← e, ← f) h) in
    let a = c.args in
    let t = table_in a.state.now in
    record { steps = record { is = idle-is t a.services.now a.mem.now c.requires.4 (asked c.least_timer-advance.result c.never.result c.least_timer-advance.ensures c.never.ensures true c.if-advance-never.true); same = refl }; long = refl }

-- src/lib.rt:130:13
pub pass-requires : goal.pass-requires
pass-requires c =
    let timer-of : T (is_timer (least_timer (table_in c.args.state.now) (states_in (table_in c.args.state.now) c.args.mem.now))) = least-is-timer (table_in c.args.state.now) (fine-in c.args.state.now c.requires.0) (states_in (table_in c.args.state.now) c.args.mem.now) c.requires.1.ready.good.0 in
    let asked : (a n : Float) → a ≡ least_timer (table_in c.args.state.now) (states_in (table_in c.args.state.now) c.args.mem.now) → n ≡ never → (b : Bool) → eq a n ≡ b → is_never (least_timer (table_in c.args.state.now) (states_in (table_in c.args.state.now) c.args.mem.now)) ≡ b = λ a n e f b h. sym (never-eq _ (timer-of)) ∙ (rw (← e, ← f) h) in
    let a = c.args in
    let t = table_in a.state.now in
    let s = c.requires.1 in
    let ok = fine-in a.state.now c.requires.0 in
    let some = asked c.least_timer-advance.result c.never.result c.least_timer-advance.ensures c.never.ensures false c.if-advance-never.false in (
      c.requires.0,
      s.ready,
      subst (λ (x : Float). T (is_time x)) (sym c.least_timer-advance.ensures) (some-time _ (timer-of) some),
      subst (λ (x : Float). Below x (states_in t a.mem.now)) (sym c.least_timer-advance.ensures) (least-below t ok (states_in t a.mem.now) s.ready.good.0),
    )

-- src/lib.rt:131:19
pub close-requires : goal.close-requires
close-requires c =
    let later-is : (a next : Float) → a ≡ least_timer (table_in c.args.state.now) (states_in (table_in c.args.state.now) c.args.mem.now) → later_of c.args.clock a ≡ Some next → T (is_time next) × (next ≡ add binary64 (clock_in c.args.mem.now) (least_timer (table_in c.args.state.now) (states_in (table_in c.args.state.now) c.args.mem.now))) = λ a next e h. let s = clock-says c.args.clock a next h in (s.0, s.1 ∙ (rw (c.requires.2, e))) in
    let a = c.args in
    let s = c.requires.1 in
    let l = later-is c.least_timer-advance.result c.in-Some.next c.least_timer-advance.ensures (sym c.advance_clock.ensures ∙ c.in-Some.is) in
    let long = c.pass.auto.mem in
    (record { inside = c.requires.0; ready = c.pass.ensures.passes.ready; time = l.0 }, c.requires.3, (let r = s.room in let e = c.requires.3 in omega (arith, long)))

pub returns-in_default : goal.returns-in_default
returns-in_default c =
    let timer-of : T (is_timer (least_timer (table_in c.args.state.now) (states_in (table_in c.args.state.now) c.args.mem.now))) = least-is-timer (table_in c.args.state.now) (fine-in c.args.state.now c.requires.0) (states_in (table_in c.args.state.now) c.args.mem.now) c.requires.1.ready.good.0 in
    let asked : (a n : Float) → a ≡ least_timer (table_in c.args.state.now) (states_in (table_in c.args.state.now) c.args.mem.now) → n ≡ never → (b : Bool) → eq a n ≡ b → is_never (least_timer (table_in c.args.state.now) (states_in (table_in c.args.state.now) c.args.mem.now)) ≡ b = λ a n e f b h. sym (never-eq _ (timer-of)) ∙ (rw (← e, ← f) h) in
    let a = c.args in
    let t = table_in a.state.now in
    let some = asked c.least_timer-advance.result c.never.result c.least_timer-advance.ensures c.never.ensures false c.if-advance-never.false in
    let over = overflow-says a.clock c.least_timer-advance.result (sym c.advance_clock.ensures ∙ c.in_default.is) in
    record { steps = record { is = overflow-is t a.services.now a.mem.now c.requires.4 some (rw (← c.requires.2, ← c.least_timer-advance.ensures) over); same = refl }; long = refl }

pub returns-in_err-close : goal.returns-in_err-close
returns-in_err-close c =
    let refused = err_from_is_err_and c.from_residual.result c.from_residual.ensures.1 in
    let timer-of : T (is_timer (least_timer (table_in c.args.state.now) (states_in (table_in c.args.state.now) c.args.mem.now))) = least-is-timer (table_in c.args.state.now) (fine-in c.args.state.now c.requires.0) (states_in (table_in c.args.state.now) c.args.mem.now) c.requires.1.ready.good.0 in
    let asked : (a n : Float) → a ≡ least_timer (table_in c.args.state.now) (states_in (table_in c.args.state.now) c.args.mem.now) → n ≡ never → (b : Bool) → eq a n ≡ b → is_never (least_timer (table_in c.args.state.now) (states_in (table_in c.args.state.now) c.args.mem.now)) ≡ b = λ a n e f b h. sym (never-eq _ (timer-of)) ∙ (rw (← e, ← f) h) in
    let later-is : (a next : Float) → a ≡ least_timer (table_in c.args.state.now) (states_in (table_in c.args.state.now) c.args.mem.now) → later_of c.args.clock a ≡ Some next → T (is_time next) × (next ≡ add binary64 (clock_in c.args.mem.now) (least_timer (table_in c.args.state.now) (states_in (table_in c.args.state.now) c.args.mem.now))) = λ a next e h. let s = clock-says c.args.clock a next h in (s.0, s.1 ∙ (rw (c.requires.2, e))) in
    let opens : (a next : Float) (mid : List ℕ) (e : a ≡ least_timer (table_in c.args.state.now) (states_in (table_in c.args.state.now) c.args.mem.now)) → later_of c.args.clock a ≡ Some next → is_never (least_timer (table_in c.args.state.now) (states_in (table_in c.args.state.now) c.args.mem.now)) ≡ false → Passed (table_in c.args.state.now) a c.args.mem.now mid → step_on (table_in c.args.state.now) c.args.services.now (sim_in (table_in c.args.state.now) c.args.mem.now) ≡ (turns_of (table_in c.args.state.now) c.args.services.now next (world_in (table_in c.args.state.now) mid (waited (least_timer (table_in c.args.state.now) (states_in (table_in c.args.state.now) c.args.mem.now)) ∷ []), []) >>= closing (table_in c.args.state.now) next) = λ a next mid e h some p. let t = table_in c.args.state.now in let l = later-is a next e h in let time = is_true (is_time (add binary64 (clock_in c.args.mem.now) (least_timer t (states_in t c.args.mem.now)))) (subst (λ (x : Float). T (is_time x)) l.1 l.0) in passes_on t c.args.services.now c.args.mem.now c.requires.4 some time mid (subst (λ (x : Float). Passed t x c.args.mem.now mid) e p) ∙ sym (ap (λ (x : Float). turns_of t c.args.services.now x (world_in t mid (waited (least_timer t (states_in t c.args.mem.now)) ∷ []), []) >>= closing t x) l.1) in
    let a = c.args in
    let t = table_in a.state.now in
    let mid = c.pass.new.mem in
    let short : T (is_word (length a.services.now)) = lt→ltb (length a.services.now) (2 ^ 64) c.well_formed.1.0.0 in
    let some = asked c.least_timer-advance.result c.never.result c.least_timer-advance.ensures c.never.ensures false c.if-advance-never.false in
    let o = opens c.least_timer-advance.result c.in-Some.next mid c.least_timer-advance.ensures (sym c.advance_clock.ensures ∙ c.in-Some.is) some c.pass.ensures.passes in
    record { steps = rw (refused.1, refused.2) (ends-halfway t (fine-in a.state.now c.requires.0) a.services.now short a.mem.now c.requires.1 c.in-Some.next mid _ o _ c.in_err-close.ensures.closes); long = c.close.ensures.long ∙ c.pass.auto.mem }

pub returns : goal.returns
returns c =
    let timer-of : T (is_timer (least_timer (table_in c.args.state.now) (states_in (table_in c.args.state.now) c.args.mem.now))) = least-is-timer (table_in c.args.state.now) (fine-in c.args.state.now c.requires.0) (states_in (table_in c.args.state.now) c.args.mem.now) c.requires.1.ready.good.0 in
    let asked : (a n : Float) → a ≡ least_timer (table_in c.args.state.now) (states_in (table_in c.args.state.now) c.args.mem.now) → n ≡ never → (b : Bool) → eq a n ≡ b → is_never (least_timer (table_in c.args.state.now) (states_in (table_in c.args.state.now) c.args.mem.now)) ≡ b = λ a n e f b h. sym (never-eq _ (timer-of)) ∙ (rw (← e, ← f) h) in
    let later-is : (a next : Float) → a ≡ least_timer (table_in c.args.state.now) (states_in (table_in c.args.state.now) c.args.mem.now) → later_of c.args.clock a ≡ Some next → T (is_time next) × (next ≡ add binary64 (clock_in c.args.mem.now) (least_timer (table_in c.args.state.now) (states_in (table_in c.args.state.now) c.args.mem.now))) = λ a next e h. let s = clock-says c.args.clock a next h in (s.0, s.1 ∙ (rw (c.requires.2, e))) in
    let opens : (a next : Float) (mid : List ℕ) (e : a ≡ least_timer (table_in c.args.state.now) (states_in (table_in c.args.state.now) c.args.mem.now)) → later_of c.args.clock a ≡ Some next → is_never (least_timer (table_in c.args.state.now) (states_in (table_in c.args.state.now) c.args.mem.now)) ≡ false → Passed (table_in c.args.state.now) a c.args.mem.now mid → step_on (table_in c.args.state.now) c.args.services.now (sim_in (table_in c.args.state.now) c.args.mem.now) ≡ (turns_of (table_in c.args.state.now) c.args.services.now next (world_in (table_in c.args.state.now) mid (waited (least_timer (table_in c.args.state.now) (states_in (table_in c.args.state.now) c.args.mem.now)) ∷ []), []) >>= closing (table_in c.args.state.now) next) = λ a next mid e h some p. let t = table_in c.args.state.now in let l = later-is a next e h in let time = is_true (is_time (add binary64 (clock_in c.args.mem.now) (least_timer t (states_in t c.args.mem.now)))) (subst (λ (x : Float). T (is_time x)) l.1 l.0) in passes_on t c.args.services.now c.args.mem.now c.requires.4 some time mid (subst (λ (x : Float). Passed t x c.args.mem.now mid) e p) ∙ sym (ap (λ (x : Float). turns_of t c.args.services.now x (world_in t mid (waited (least_timer t (states_in t c.args.mem.now)) ∷ []), []) >>= closing t x) l.1) in
    let a = c.args in
    let t = table_in a.state.now in
    let mid = c.pass.new.mem in
    let after = c.close.new.mem in
    let short : T (is_word (length a.services.now)) = lt→ltb (length a.services.now) (2 ^ 64) c.well_formed.1.0.0 in
    let some = asked c.least_timer-advance.result c.never.result c.least_timer-advance.ensures c.never.ensures false c.if-advance-never.false in
    let o = opens c.least_timer-advance.result c.in-Some.next mid c.least_timer-advance.ensures (sym c.advance_clock.ensures ∙ c.in-Some.is) some c.pass.ensures.passes in
    let long : length after ≡ length a.mem.now = c.close.ensures.long ∙ c.pass.auto.mem in
    record { steps = ends-done t (fine-in a.state.now c.requires.0) a.services.now short a.mem.now c.requires.1 c.in-Some.next mid _ o after long c.in_ok-close.ensures.closes; long = long }
