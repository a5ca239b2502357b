use Rattle.std.proofs.Common.{◌+◌, ap, length, arith}
use Rattle.desks_bench.specs.Runs.{IsSingle}
use Rattle.desks_bench.proofs.BenchLemmas.{first_rest}
use Rattle.desks_bench.proofs.passes.join_all.Goals as goal

pub loop-one-preserved : goal.loop-one-preserved
loop-one-preserved c =
    let inv = c.loop-one.invariant in
    let each = first_rest (λ d. IsSingle c.args.survey.now d.pass) _ _ _ c.in-Some.ensures.steps.0 inv.all in
    let was = inv.weight.weight_is in
    let more = c.join.ensures.weight in
    let one = each.0.weight in
    let count = inv.count in
    let len = ap (λ l. length l) c.in-Some.ensures.steps.0 in
    record {
      joined = inv.joined + 1;
      count = omega arith;
      weight = record { of = c.join.ensures.pass.0; weight_is = omega arith };
      all = each.1;
    }
