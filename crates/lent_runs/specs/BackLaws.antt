-- The laws of a run on a lent state: its words are long enough, they fit back into the state, and there they are what the rules leave. Assumes nothing.
use Rattle.std.specs.Prelude.{ℕ, zero, suc, ◌+◌, ◌-◌, ◌*◌, ◌≤◌, ◌≡◌, refl, List, ◌++◌, length, take, drop, replicate, T}
use Rattle.std.proofs.Common.{sym, ap, subst, ◌∙◌, arith, length-drop, drop-drop}
use borrow.Rule.Slice.PartMut.{put_mid}
use Rattle.memory.specs.Words.{word_at}
use Rattle.lookup.specs.Inside.{tail_at, table_in}
use Rattle.views.specs.World.{end_of}
use Rattle.copying.specs.Copied.{copied}
use Rattle.copying.specs.Sparing.{Spare, Lends}
use Rattle.copying.specs.SparingLaws.{laid-spare}
use Rattle.rerunning.specs.Running.{tail_in}
use Rattle.stepping.specs.Simulating.{sim_in, Sound}
use Rattle.rules.specs.Calls.{Ran}
use Rattle.engine.specs.declared.Report.{Report}
use Rattle.engine.specs.RunLaws.{to_end, put-at-end}
use Rattle.engine.specs.Telling.{Told}
use Rattle.storing.specs.State.{kept, is_stored}
use Rattle.lent_runs.specs.Reported.{Reported}
use Rattle.storing.specs.StoredLaws.{tail-room, stored_of, kept_by}
use Rattle.storing.specs.KeptLaws.{end-most}

-- ---- words for so many rows hold the rows and the messages
pub words-enough : (state : List ℕ) (most words : ℕ) → length (table_in state).rows ≤ most → most * 196 + 2819 ≤ words → end_of (table_in state) + 2816 ≤ words
words-enough state most words few long = let h = end-most (table_in state) in omega arith

-- ---- and are all 0 at first
zero_word : (n p : ℕ) → word_at (replicate n 0) p ≡ 0
zero_word zero p = refl
zero_word (suc n) zero = refl
zero_word (suc n) (suc p) = zero_word n p

pub none-held : (words : List ℕ) → words ≡ replicate (length words) 0 → (p : ℕ) → word_at words p ≡ 0
none-held words zeros p = ap (λ (z : List ℕ). word_at z p) zeros ∙ zero_word (length words) p

-- ---- the used words of a run, copied from `tail` on
module _ (state mem : List ℕ) (stored : T (is_stored state)) (sound : Sound (table_in state) mem) (tail end : ℕ) (is-tail : tail ≡ tail_at state) (is-end : end ≡ end_of (table_in state)) where
  abbrev used : ℕ
  used = end + word_at mem 0 * 6

  pub back_fits : (end + word_at mem 0 * 6 ≤ length mem) × (tail + (end + word_at mem 0 * 6) ≤ length state)
  back_fits =
      let few = sound.few in
      let words = sound.room in
      let room = tail-room state stored in
      (omega arith, omega arith)

  -- what the state and the words do not hold is 0 in both
  pub lends_back : (rows : ℕ) → rows ≡ length (table_in state).rows → Lends rows end mem (take (length state - tail) (drop tail state))
  lends_back rows is-rows =
      let lent : take (length state - tail) (drop tail state) ≡ tail_in state = to_end tail state ∙ ap (λ (k : ℕ). drop k state) is-tail in
      let room = tail-room state stored in
      let long = length-drop (tail_at state) state in
      record {
        table = table_in state;
        counted = is-rows;
        ends = is-end;
        laid = sound.ready.laid;
        spare = subst (Spare (table_in state)) (sym lent) (laid-spare (table_in state) (tail_in state) (stored_of state stored).ready.laid);
        room = (let l = ap length lent in omega arith);
      }

  pub put_back : (new : List ℕ) → new ≡ copied 0 (end + word_at mem 0 * 6) mem (take (length state - tail) (drop tail state)) → put_mid tail (length state - tail) state new ≡ kept state (sim_in (table_in state) mem)
  put_back new is =
      put-at-end tail state new
      ∙ ap (λ (z : List ℕ). take tail state ++ z) is
      ∙ ap (λ (z : List ℕ). take tail state ++ (take used mem ++ drop used z)) (to_end tail state)
      ∙ ap (λ (z : List ℕ). take tail state ++ (take used mem ++ z)) (drop-drop used tail state)
      ∙ (λ i. take (is-tail i) state ++ (take (is-end i + word_at mem 0 * 6) mem ++ drop (is-tail i + (is-end i + word_at mem 0 * 6)) state))
      ∙ kept_by state stored mem sound

-- ---- what a run tells of itself is what is reported
pub told-reports : (r : Report) (ran : Ran) (state mem before laid : List ℕ) → Told r ran (table_in state) mem before laid → Reported r ran before laid
told-reports r ran state mem before laid told = record { end = told.end; steps = told.steps; written = told.written; rows = told.rows }
