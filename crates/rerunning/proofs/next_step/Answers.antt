-- `rerunning::next_step` meets its contract. Assumes nothing.
use Rattle.rerunning.specs.RunningLaws.{nexts}
use Rattle.rerunning.proofs.next_step.Goals as goal

pub returns-in-Ok-clause-nexts : goal.returns-in-Ok-clause-nexts
returns-in-Ok-clause-nexts c =
    let a = c.args in
    nexts c.look.result a.services.now a.until a.room a.steps a.state.now a.mem.now c.step.new.mem c.look.new.mem c.in-Ok.ensures.steps c.requires.4 c.look.ensures.looks
