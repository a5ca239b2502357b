use Rattle.std.proofs.Common.{◌≡◌, ◌+◌, ◌≤◌, length, take, drop}
use Rattle.std.specs.Prelude.{vec_len, vec_capacity}
use Rattle.std.specs.List.{AllZip}
use Rattle.std.specs.Vec.Iter.{into_iter_items, into_iter_len}
use Rattle.survey_run.specs.Workers.{HoldsFresh, IsFreshPass}
use Rattle.survey_run.proofs.worker_threads.hold_all.Given as goal

abbrev pub invariant-loop-pass : goal.invariant-loop-pass
invariant-loop-pass g l = let rest = l.pass-iterator in record {
  held : AllZip (HoldsFresh l.number) (take l.place l.surveys.items) l.benches.list.items;
  count : length l.benches.list.items ≡ l.place;
  passes : AllZip IsFreshPass (drop l.place l.surveys.items) (into_iter_items rest);
  left : l.place + into_iter_len rest ≡ vec_len l.surveys;
  room : vec_len l.surveys ≤ vec_capacity l.benches.list;
}
