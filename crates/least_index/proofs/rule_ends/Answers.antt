-- Each clause is a law of proofs/Ends.antt.
use Rattle.least_index.proofs.Ends.{ends, fall}
use Rattle.least_index.proofs.rule_ends.Goals as goal

pub returns-clause-ends : goal.returns-clause-ends
returns-clause-ends c = ends

pub returns-clause-fall : goal.returns-clause-fall
returns-clause-fall c = fall
