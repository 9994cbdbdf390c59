-- How long a state buffer must be, by the tests in the order in which they are made. Assumes nothing.
use Rattle.std.specs.Prelude.{ℕ, ◌+◌, ◌*◌, ◌/◌, ◌≤◌, ◌<◌, ◌≡◌}
use Rattle.std.proofs.Math.Path.{refl}
use Rattle.std.proofs.Common.{arith}
use Rattle.rules.specs.Decides.{at-most, is_true, is_false}
use Rattle.storing.specs.State.{words_for}

module _ (models connectors couplings : ℕ) where
  pub many-models : 640 < models → words_for models connectors couplings ≡ 0
  unfolding words_for
  many-models h = rw (is_false (at-most models 640) (λ l. omega arith)) refl

  pub many-connectors : models ≤ 640 → 1024 < connectors → words_for models connectors couplings ≡ 0
  unfolding words_for
  many-connectors l h = rw (is_true (at-most models 640) l, is_false (at-most connectors 1024) (λ l. omega arith)) refl

  pub many-couplings : models ≤ 640 → connectors ≤ 1024 → 1536 < couplings → words_for models connectors couplings ≡ 0
  unfolding words_for
  many-couplings l m h = rw (is_true (at-most models 640) l, is_true (at-most connectors 1024) m, is_false (at-most couplings 1536) (λ l. omega arith)) refl

  pub few-enough : models ≤ 640 → connectors ≤ 1024 → couplings ≤ 1536
      → words_for models connectors couplings ≡ (models + 9) / 10 * 206 + (connectors + 3) / 4 * 4 + (couplings + 5) / 6 * 6 + 1542
  unfolding words_for
  few-enough l m n = rw (is_true (at-most models 640) l, is_true (at-most connectors 1024) m, is_true (at-most couplings 1536) n) (omega arith)
