-- The vectors are known of the model and of the first of the answers.
use Rattle.std.proofs.Common.{◌≡◌, length}
use Rattle.answer_rows.specs.Room.{BeginsWith}
use Rattle.decider.proofs.witnesses.Witnesses.first_meeting.Given as goal

abbrev pub invariant-witnesses : goal.invariant-witnesses
invariant-witnesses l = record {
  levels : l.self.levels ≡ l.model.levels;
  begins : BeginsWith l.answers.answers l.self.answers.answers;
}

abbrev pub decreases-witnesses : goal.decreases-witnesses
decreases-witnesses l = length l.self.kept
