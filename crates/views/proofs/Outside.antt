-- What a change outside of the rows' words leaves as it was. Assumes nothing.
use Rattle.std.specs.Prelude.{ℕ, ◌≤◌, ◌<◌, ◌≡◌, List, [], length}
use Rattle.std.proofs.Common.{sym, subst, ◌∙◌, arith}
use Rattle.rules.specs.Table.{Table, kind_at}
use Rattle.rules.specs.Step.{Happening, World}
use Rattle.rules.proofs.Worlds.{Good}
use Rattle.memory.specs.Words.{word_at, width_of, own_in}
use Rattle.memory.specs.Places.{own-reach, part_length}
use Rattle.views.specs.World.{begin_of, end_of, world_in, Laid, Ready}
use Rattle.views.proofs.WorldLayout.{begin-end}
use Rattle.views.proofs.Frames.{same-laid, same-world}

-- the rows' words and the place are as they were, and reach as far as they did
module _ (t : Table) (mem after : List ℕ) (reach : (j : ℕ) → j < length t.rows → length (own_in (begin_of t j) (width_of (kind_at t j)) after) ≡ length (own_in (begin_of t j) (width_of (kind_at t j)) mem))
    (same : (p : ℕ) → 2 ≤ p → p < end_of t → word_at after p ≡ word_at mem p) where
  same-ready : end_of t ≤ length after → Ready t mem → Ready t after
  same-ready fits ready = record { laid = same-laid t mem after reach same fits ready.laid; good = subst (λ (w : World). Good t w) (sym (same-world t mem after reach same [])) ready.good }

-- a change outside of them
module _ (t : Table) (mem after : List ℕ) (long : length after ≡ length mem) (same : (p : ℕ) → 2 ≤ p → p < end_of t → word_at after p ≡ word_at mem p) where
  as_long : (j : ℕ) → j < length t.rows → length (own_in (begin_of t j) (width_of (kind_at t j)) after) ≡ length (own_in (begin_of t j) (width_of (kind_at t j)) mem)
  as_long j l = own-reach (begin_of t j) (width_of (kind_at t j)) mem after long

  pub far-laid : Laid t mem → Laid t after
  far-laid laid = same-laid t mem after as_long same (let r = laid.room in omega (arith, long)) laid

  pub far-world : (log : List Happening) → world_in t after log ≡ world_in t mem log
  far-world = same-world t mem after as_long same

  pub far-ready : Ready t mem → Ready t after
  far-ready ready = same-ready t mem after as_long same (let r = ready.laid.room in omega (arith, long)) ready

-- the same words in a list of another length
module _ (t : Table) (mem after : List ℕ) (room : end_of t ≤ length mem) (fits : end_of t ≤ length after) (same : (p : ℕ) → 2 ≤ p → p < end_of t → word_at after p ≡ word_at mem p) where
  within : (j : ℕ) → j < length t.rows → length (own_in (begin_of t j) (width_of (kind_at t j)) after) ≡ length (own_in (begin_of t j) (width_of (kind_at t j)) mem)
  within j l =
      let e = begin-end t j l in
      part_length (begin_of t j) (width_of (kind_at t j)) after (omega arith) ∙ sym (part_length (begin_of t j) (width_of (kind_at t j)) mem (omega arith))

  pub within-world : (log : List Happening) → world_in t after log ≡ world_in t mem log
  within-world = same-world t mem after within same

  pub within-ready : Ready t mem → Ready t after
  within-ready = same-ready t mem after within same fits
