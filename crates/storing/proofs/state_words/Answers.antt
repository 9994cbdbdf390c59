-- `storing::state_words` meets its contract. Assumes nothing.
use mathlib.Core.Path.{sym}
use Rattle.storing.specs.SizeLaws.{many-models, many-connectors, many-couplings, few-enough}
use Rattle.storing.proofs.state_words.Goals as goal

pub returns-then-models_len-gt640 : goal.returns-then-models_len-gt640
returns-then-models_len-gt640 c = let a = c.args in sym (many-models a.models_len a.connectors_len a.couplings_len c.if-models_len-gt640.true)

pub returns-then-connectors_len-gt1024 : goal.returns-then-connectors_len-gt1024
returns-then-connectors_len-gt1024 c = let a = c.args in sym (many-connectors a.models_len a.connectors_len a.couplings_len c.if-models_len-gt640.false c.if-connectors_len-gt1024.true)

pub returns-then-couplings_len-gt1536 : goal.returns-then-couplings_len-gt1536
returns-then-couplings_len-gt1536 c = let a = c.args in sym (many-couplings a.models_len a.connectors_len a.couplings_len c.if-models_len-gt640.false c.if-connectors_len-gt1024.false c.if-couplings_len-gt1536.true)

pub returns : goal.returns
returns c = let a = c.args in sym (few-enough a.models_len a.connectors_len a.couplings_len c.if-models_len-gt640.false c.if-connectors_len-gt1024.false c.if-couplings_len-gt1536.false)
