use Rattle.std.proofs.Common.{◌≡◌, ◌*◌, ◌-◌, ◌^◌, ◌≤◌, sum_by}
use Rattle.std.specs.List.{range_with_len}
use Rattle.criteria_model.specs.Counts.{classes_of_degree}
use Rattle.criteria_model.proofs.counting.count_classes.Given as goal

abbrev pub invariant-loop-degree : goal.invariant-loop-degree
invariant-loop-degree l = record {
  counted : l.count ≡ sum_by (classes_of_degree l.counts) (range_with_len 2 (l.degree - 2));
  small : l.count ≤ l.degree * 2 ^ 48;
}
