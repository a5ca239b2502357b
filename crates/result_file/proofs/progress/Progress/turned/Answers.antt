use Rattle.result_file.proofs.StageLaws.{heads, begins, ends, stops_headed}
use Rattle.result_file.proofs.progress.Progress.turned.Goals as goal

pub returns-in-Some-clause-next : goal.returns-in-Some-clause-next
returns-in-Some-clause-next c = λ lines stage says h.
    heads c.in-Some.kind c.args.line.now lines stage c.in-Some.ensures says (rw c.in-Blank.is at h)

pub returns-in-Ok-clause-next : goal.returns-in-Ok-clause-next
returns-in-Ok-clause-next c = λ lines stage says h.
    begins c.in_ok-of-in-Ok.field-0 c.in-Headed.kind c.in-Ok.model c.args.line.now lines stage c.in-Ok.ensures.spelled c.in_ok-of-in-Ok.ensures.none says (rw c.in-Headed.is at h)

pub returns-in-Headed-clause-failed : goal.returns-in-Headed-clause-failed
returns-in-Headed-clause-failed c = λ stage h.
    stops_headed c.in-Headed.kind c.args.line.now c.in-Err.part c.in-Err.ensures.failed stage (rw c.in-Headed.is at h)

pub returns-in-Begun-clause-next : goal.returns-in-Begun-clause-next
returns-in-Begun-clause-next c = λ lines stage says h.
    ends c.in-Begun.body c.args.line.now lines stage (c.requires.ends c.in-Begun.body c.in-Begun.is) says (rw c.in-Begun.is at h)
