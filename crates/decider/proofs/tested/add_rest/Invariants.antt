-- The rows of the answers so far are there.
use Rattle.std.proofs.Common.{◌≡◌, length, take}
use Rattle.decider.specs.Standing.{KeepsRoom}
use Rattle.decider.specs.Combining.{rows_in}
use Rattle.decider.proofs.tested.add_rest.Given as goal

abbrev pub invariant-loop-at : goal.invariant-loop-at
invariant-loop-at l = record {
  rows : length l.work.loaded ≡ rows_in (take l.at l.answers.answers);
  columns : l.work.columns ≡ l.initial.work.columns;
  room : KeepsRoom l.initial.work l.work;
}
