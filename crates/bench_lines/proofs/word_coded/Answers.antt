-- `bench_lines::word_coded` meets its contract. Assumes nothing.
use Rattle.std.proofs.Common.{rules}
use Rattle.bench_lines.proofs.word_coded.Goals as goal

pub returns : goal.returns
returns c = search rules
