use Rattle.std.proofs.Common.{◌≡◌, ◌≤◌, length}
use Rattle.shared_survey.proofs.tests.answer_all.Given as goal

abbrev pub invariant-loop-place : goal.invariant-loop-place
invariant-loop-place g l = record {
  same : g.R.Events.about l.desk ≡ g.R.Events.about l.fn.desk;
  within : l.length ≤ length (g.R.Events.seen l.desk).journal;
}
