use Rattle.result_file.proofs.EntryLaws.{reads_elimination, reads_step}
use Rattle.result_file.proofs.entries.entry_of.Goals as goal

pub returns-in-Some : goal.returns-in-Some
returns-in-Some c = λ model m width steps.
    reads_elimination c.args.format model c.args.line.now c.in-Some.elimination m (rw (← width, ← steps) c.in-Some.ensures.0) c.in-Some.ensures.1

pub returns : goal.returns
returns c = λ model m width steps.
    rw (c.step_of.ensures, width, steps) (reads_step c.args.format model c.args.line.now m (rw (← width, ← steps) c.in_default.ensures))
