-- `pausing::step_n_paused` meets its contract. Assumes nothing.
use Prim.Native.Nat.{ℕ, ◌+◌, ◌-◌, ◌^◌, ◌≤◌}
use mathlib.Core.Path.{◌≡◌, refl, sym, ap, subst, ◌∙◌}
use mathlib.Core.List.{List}
use native.Mathlib.Omega.{arith}
use lib.ListN.{length}
use lib.Dec.{lt→ltb}
use Rattle.engine.specs.RunLaws.{to_end, put-at-end}
use Rattle.pausing.specs.Pausing.{Made, jt_step_n, next_row, rest_of, as_one, blank, up_to_end, Same, paused_after}
use Rattle.storing.specs.State.{over}
use Rattle.pausing.specs.PausingLaws.{few-rows, after-few, two-calls, two-words, two-few}
use Rattle.pausing.proofs.step_n_paused.Goals as goal

pub overflow_mul-next_row : goal.overflow_mul-next_row
overflow_mul-next_row c =
    let a = c.args in
    let part = c.paused_after-before.result in
    let first : Made = record { number = c.jt_step_n-number.result; report = c.jt_step_n-number.new.report; state = c.jt_step_n-number.new.state; rows = c.jt_step_n-number.new.rows } in
    let first-is : first ≡ jt_step_n a.services.now part a.state.now a.rows.now blank = λ i. record { number = c.jt_step_n-number.ensures.answers i; report = c.jt_step_n-number.ensures.tells i; state = c.jt_step_n-number.ensures.leaves i; rows = c.jt_step_n-number.ensures.lays i } in
    let rows_few : next_row first.report ≤ length a.rows.now =
    subst (λ (m : Made). next_row m.report ≤ length a.rows.now) (sym first-is) (few-rows a.services.now part a.state.now a.rows.now blank refl) in
    omega (arith, rows_few, c.well_formed)

pub overflow_sub-count : goal.overflow_sub-count
overflow_sub-count c = omega (arith, c.paused_after-before.ensures, after-few c.args.pause c.args.count)

pub offset_bounds-rows-next_row : goal.offset_bounds-rows-next_row
offset_bounds-rows-next_row c =
    let a = c.args in
    let part = c.paused_after-before.result in
    let first : Made = record { number = c.jt_step_n-number.result; report = c.jt_step_n-number.new.report; state = c.jt_step_n-number.new.state; rows = c.jt_step_n-number.new.rows } in
    let first-is : first ≡ jt_step_n a.services.now part a.state.now a.rows.now blank = λ i. record { number = c.jt_step_n-number.ensures.answers i; report = c.jt_step_n-number.ensures.tells i; state = c.jt_step_n-number.ensures.leaves i; rows = c.jt_step_n-number.ensures.lays i } in
    let rows_few : next_row first.report ≤ length a.rows.now =
    subst (λ (m : Made). next_row m.report ≤ length a.rows.now) (sym first-is) (few-rows a.services.now part a.state.now a.rows.now blank refl) in
    omega (arith, rows_few, c.well_formed)

pub slice_bounds-jt_step_n-count : goal.slice_bounds-jt_step_n-count
slice_bounds-jt_step_n-count c =
    let a = c.args in
    let part = c.paused_after-before.result in
    let first : Made = record { number = c.jt_step_n-number.result; report = c.jt_step_n-number.new.report; state = c.jt_step_n-number.new.state; rows = c.jt_step_n-number.new.rows } in
    let first-is : first ≡ jt_step_n a.services.now part a.state.now a.rows.now blank = λ i. record { number = c.jt_step_n-number.ensures.answers i; report = c.jt_step_n-number.ensures.tells i; state = c.jt_step_n-number.ensures.leaves i; rows = c.jt_step_n-number.ensures.lays i } in
    let rows_few : next_row first.report ≤ length a.rows.now =
    subst (λ (m : Made). next_row m.report ≤ length a.rows.now) (sym first-is) (few-rows a.services.now part a.state.now a.rows.now blank refl) in
    omega (arith, rows_few, c.well_formed, c.jt_step_n-number.auto)

pub slice_bounds-jt_step_n-start : goal.slice_bounds-jt_step_n-start
slice_bounds-jt_step_n-start c =
    let a = c.args in
    let part = c.paused_after-before.result in
    let first : Made = record { number = c.jt_step_n-number.result; report = c.jt_step_n-number.new.report; state = c.jt_step_n-number.new.state; rows = c.jt_step_n-number.new.rows } in
    let first-is : first ≡ jt_step_n a.services.now part a.state.now a.rows.now blank = λ i. record { number = c.jt_step_n-number.ensures.answers i; report = c.jt_step_n-number.ensures.tells i; state = c.jt_step_n-number.ensures.leaves i; rows = c.jt_step_n-number.ensures.lays i } in
    let rows_few : next_row first.report ≤ length a.rows.now =
    subst (λ (m : Made). next_row m.report ≤ length a.rows.now) (sym first-is) (few-rows a.services.now part a.state.now a.rows.now blank refl) in
    omega (arith, rows_few, c.well_formed, c.jt_step_n-number.auto)

pub add_up-requires : goal.add_up-requires
add_up-requires c =
    let a = c.args in
    let part = c.paused_after-before.result in
    let first : Made = record { number = c.jt_step_n-number.result; report = c.jt_step_n-number.new.report; state = c.jt_step_n-number.new.state; rows = c.jt_step_n-number.new.rows } in
    let first-is : first ≡ jt_step_n a.services.now part a.state.now a.rows.now blank = λ i. record { number = c.jt_step_n-number.ensures.answers i; report = c.jt_step_n-number.ensures.tells i; state = c.jt_step_n-number.ensures.leaves i; rows = c.jt_step_n-number.ensures.lays i } in
    let second : Made = record { number = c.jt_step_n-later.result; report = c.jt_step_n-later.new.report; state = c.jt_step_n-later.new.state; rows = c.jt_step_n-later.new.rows } in
    let rest = to_end (next_row first.report) first.rows in
    let made : second ≡ jt_step_n a.services.now (a.count - part) first.state _ blank = λ i. record { number = c.jt_step_n-later.ensures.answers i; report = c.jt_step_n-later.ensures.tells i; state = c.jt_step_n-later.ensures.leaves i; rows = c.jt_step_n-later.ensures.lays i } in
    let second_is : second ≡ jt_step_n a.services.now (a.count - part) first.state (rest_of first) blank =
    made ∙ ap (λ (rows : List ℕ). jt_step_n a.services.now (a.count - part) first.state rows blank) rest in
    let all : part + (a.count - part) ≡ a.count = omega (arith, c.paused_after-before.ensures, after-few a.pause a.count) in
    let made = two-few a.services.now part (a.count - part) a.count all a.state.now a.rows.now first second first-is second_is in
    (omega (arith, made.0, c.ranges.count), omega (arith, made.1, c.well_formed))

pub returns : goal.returns
returns c =
    let a = c.args in
    let part = c.paused_after-before.result in
    let first : Made = record { number = c.jt_step_n-number.result; report = c.jt_step_n-number.new.report; state = c.jt_step_n-number.new.state; rows = c.jt_step_n-number.new.rows } in
    let first-is : first ≡ jt_step_n a.services.now part a.state.now a.rows.now blank = λ i. record { number = c.jt_step_n-number.ensures.answers i; report = c.jt_step_n-number.ensures.tells i; state = c.jt_step_n-number.ensures.leaves i; rows = c.jt_step_n-number.ensures.lays i } in
    let second : Made = record { number = c.jt_step_n-later.result; report = c.jt_step_n-later.new.report; state = c.jt_step_n-later.new.state; rows = c.jt_step_n-later.new.rows } in
    let rest = to_end (next_row first.report) first.rows in
    let made : second ≡ jt_step_n a.services.now (a.count - part) first.state _ blank = λ i. record { number = c.jt_step_n-later.ensures.answers i; report = c.jt_step_n-later.ensures.tells i; state = c.jt_step_n-later.ensures.leaves i; rows = c.jt_step_n-later.ensures.lays i } in
    let second_is : second ≡ jt_step_n a.services.now (a.count - part) first.state (rest_of first) blank =
    made ∙ ap (λ (rows : List ℕ). jt_step_n a.services.now (a.count - part) first.state rows blank) rest in
    let all : part + (a.count - part) ≡ a.count = omega (arith, c.paused_after-before.ensures, after-few a.pause a.count) in
    let good = lt→ltb (length a.services.now) (2 ^ 64) c.well_formed.1.0.0 in
    let s : Same (as_one a.report.now first second) (jt_step_n a.services.now a.count a.state.now a.rows.now a.report.now) =
    two-calls a.services.now part (a.count - part) a.count all a.state.now a.rows.now first second first-is second_is good a.report.now in
    let words : second.state ≡ over (up_to_end (jt_step_n a.services.now a.count a.state.now a.rows.now a.report.now).state) (jt_step_n a.services.now (paused_after a.pause a.count) a.state.now a.rows.now a.report.now).state =
    two-words a.services.now part (a.count - part) a.count all a.state.now a.rows.now first second first-is second_is good a.report.now
    ∙ ap (λ (n : ℕ). over (up_to_end (jt_step_n a.services.now a.count a.state.now a.rows.now a.report.now).state) (jt_step_n a.services.now n a.state.now a.rows.now a.report.now).state) c.paused_after-before.ensures in
    record {
      answers = c.whole_number.ensures ∙ s.number;
      tells = c.add_up.ensures ∙ s.report;
      lays = put-at-end (next_row first.report) first.rows second.rows ∙ s.rows;
      leaves = s.state;
      words = words;
    }
