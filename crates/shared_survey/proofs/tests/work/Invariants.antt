use Rattle.std.proofs.Common.{◌≡◌}
use Rattle.shared_survey.proofs.tests.work.Given as goal

abbrev pub invariant-loop-round : goal.invariant-loop-round
invariant-loop-round g l = g.R.Events.about l.desk ≡ g.R.Events.about l.fn.desk
