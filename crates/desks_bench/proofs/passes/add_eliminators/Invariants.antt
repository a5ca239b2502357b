use Rattle.std.proofs.Common.{◌≡◌, ◌+◌, ◌-◌, length}
use Rattle.std.specs.Prelude.{All}
use Rattle.desks_bench.specs.Runs.{HasWeight}
use Rattle.desks_bench.specs.Work.{IsDuty}
use Rattle.desks_bench.proofs.passes.add_eliminators.Given as goal

abbrev pub invariant-loop-before : goal.invariant-loop-before
invariant-loop-before l = record {
  weight : HasWeight l.survey l.whole (l.plan.eliminators - l.before + 1);
  all : All (IsDuty l.survey l.model) l.duties.items;
  len : length l.duties.items ≡ length l.fn.duties.items + l.before;
}
