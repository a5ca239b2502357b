use Rattle.std.proofs.Common.{◌≡◌, List, length}
use Rattle.survey_state.specs.Findings.{KeepsTools}
use Rattle.eliminators.specs.declared.job.HandIn.{HandIn}
use Rattle.eliminators.specs.Work.{Works, IsTallyOf, with_jobs}
use Rattle.eliminators.proofs.work.work_until_idle.Given as goal

abbrev pub invariant-loop : goal.invariant-loop
invariant-loop g l = let b = g.B.Bench in record {
  about : b.about l.bench ≡ b.about l.fn.bench;
  answers : List HandIn;
  works : Works (b.listed (b.about l.fn.bench)) (b.worker (b.about l.fn.bench)) (b.seen l.fn.bench) (b.seen l.bench) answers;
  counts : b.counts l.bench ≡ with_jobs (b.counts l.fn.bench) (length answers);
  tallied : IsTallyOf answers l.tally;
  rooms : KeepsTools l.fn.tools l.tools;
}
