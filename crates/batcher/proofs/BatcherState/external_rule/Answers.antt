use Rattle.batcher.specs.Batching.{kept_as}
use Rattle.rules.specs.declared.BatcherPhase.TheVariants as batching
use Rattle.times.specs.Time.{instant}
use mathlib.Core.Path.{◌≡◌}
use lib.Ieee.{of_bits}
use Rattle.batcher.proofs.Laws as laws
use borrow.Author.Rules.{rules}
use Rattle.batcher.proofs.BatcherState.external_rule.Goals as goal

pub returns-then-m-self : goal.returns-then-m-self
unfolding of_bits
returns-then-m-self c =
    let a = c.args in
    λ queue job e. let k : c.kept.result ≡ kept_as a.self batching.Release instant = c.kept.ensures in rw k (laws.full a.row job a.self queue e (search rules))

pub returns-then-m-self-2 : goal.returns-then-m-self-2
unfolding of_bits
returns-then-m-self-2 c =
    let a = c.args in
    λ queue job e. let k : c.kept-then-m-self-2.result ≡ kept_as a.self batching.Release instant = c.kept-then-m-self-2.ensures in rw k (laws.full a.row job a.self queue e (search rules))

pub returns-in-Passive : goal.returns-in-Passive
returns-in-Passive c =
    let a = c.args in
    λ queue job e. let k : c.kept-in-Passive.result ≡ kept_as a.self batching.Batching a.row.max_batch_time = c.kept-in-Passive.ensures in rw k (laws.begins a.row job a.self queue e (search rules) c.in-Passive.is)

pub returns-in-Batching : goal.returns-in-Batching
returns-in-Batching c =
    let a = c.args in
    λ queue job e. let k : c.kept-in-Batching.result ≡ kept_as a.self batching.Batching a.self.timer = c.kept-in-Batching.ensures in rw k (laws.joins a.row job a.self queue e (search rules) c.in-Batching.is)

pub returns-in-Release : goal.returns-in-Release
returns-in-Release c =
    let a = c.args in
    λ queue job e. rw c.refused.ensures (laws.waits a.row job a.self queue e (search rules) c.in-Release.is)
