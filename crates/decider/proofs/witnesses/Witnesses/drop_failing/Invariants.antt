-- The vectors are known of the model and of the first of the answers; each step passes one by or drops one.
use Rattle.std.proofs.Common.{◌≡◌, ◌-◌, length}
use Rattle.answer_rows.specs.Room.{BeginsWith}
use Rattle.decider.proofs.witnesses.Witnesses.drop_failing.Given as goal

abbrev pub invariant-vectors : goal.invariant-vectors
invariant-vectors l = record {
  levels : l.self.levels ≡ l.model.levels;
  begins : BeginsWith l.answers.answers l.self.answers.answers;
}

abbrev pub decreases-vectors : goal.decreases-vectors
decreases-vectors l = length l.self.kept - l.place
