use Rattle.std.proofs.Common.{◌≡◌, ◌+◌, ◌-◌, ◌≤◌, ◌++◌, vec_len}
use Rattle.std.specs.Prelude.{vec_capacity}
use Rattle.std.specs.List.{range_with_len}
use Rattle.fraction_free.proofs.places.count_up.Given as goal

abbrev pub invariant-loop-number : goal.invariant-loop-number
invariant-loop-number l = record {
  items : l.numbers.items ≡ l.initial.numbers.items ++ range_with_len l.from (l.number - l.from);
  len : vec_len l.numbers + l.from ≡ vec_len l.initial.numbers + l.number;
  capacity : vec_capacity l.initial.numbers ≤ vec_capacity l.numbers;
}
