use Rattle.std.proofs.Common.{rules, arith}
use Rattle.std.proofs.lemmas.List.Elements.{All-push}
use Rattle.desks_bench.specs.Work.{IsDuty}
use Rattle.desks_bench.proofs.passes.add_eliminators.Goals as goal

pub loop-before-preserved : goal.loop-before-preserved
loop-before-preserved c =
    let inv = c.loop-before.invariant in
    let made = c.worker_pass-pass.ensures.new in
    let from = c.worker_pass-pass.ensures.from in
    let was = inv.weight.weight_is in
    let less = from.1 in
    let before = c.loop-before.auto.before-end in
    record {
      weight = record { of = from.0; weight_is = omega arith };
      all = rw c.in_ok-push.ensures.items (All-push (IsDuty c.args.survey.now c.args.model.now) c.loop-before.duties.items _ inv.all (record {
        pass = record { of = made.0; weight = made.1 };
        role = record { number = search rules; tools = search rules; surveys = search rules };
      }));
      len = search rules;
    }
