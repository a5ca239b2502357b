use Rattle.std.proofs.Common.{◌≡◌, ◌+◌, ◌-◌, ◌≤◌, length}
use Rattle.std.specs.Prelude.{All, vec_capacity}
use Rattle.desks_bench.specs.Runs.{HasWeight}
use Rattle.desks_bench.specs.Work.{IsDuty}
use Rattle.desks_bench.proofs.passes.desk_duties.Given as goal

abbrev pub invariant-loop-number : goal.invariant-loop-number
invariant-loop-number l = record {
  weight : HasWeight l.survey l.whole (l.plan.desks - l.number + l.plan.eliminators + 1);
  all : All (IsDuty l.survey l.model) l.duties.items;
  len : length l.duties.items ≡ l.number;
  room : l.plan.desks ≤ vec_capacity l.duties;
}
