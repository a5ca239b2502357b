use Rattle.std.proofs.Common.{◌≡◌, ◌+◌, length}
use Rattle.pivot_bench.proofs.rounds.fill.Given as goal

abbrev pub invariant-loop-row : goal.invariant-loop-row
invariant-loop-row l = record {
  rows : length l.work.loaded ≡ length l.initial.work.loaded + l.row;
  room : l.work.room_rows ≡ l.initial.work.room_rows;
  columns : l.work.columns ≡ l.initial.work.columns;
}
