use Rattle.std.proofs.Common.{rules, arith}
use Rattle.std.proofs.lemmas.List.Elements.{All-push}
use Rattle.desks_bench.specs.Work.{IsDuty}
use Rattle.desks_bench.proofs.passes.desk_duties.Goals as goal

pub loop-number-preserved : goal.loop-number-preserved
loop-number-preserved c =
    let inv = c.loop-number.invariant in
    let made = c.in_ok-pass.ensures.new in
    let from = c.in_ok-pass.ensures.from in
    let was = inv.weight.weight_is in
    let less = from.1 in
    let number = made.2 in
    record {
      weight = record { of = from.0; weight_is = omega arith };
      all = rw c.push_reserved.ensures.items (All-push (IsDuty c.args.survey.now c.args.model.now) c.loop-number.duties.items _ inv.all (record {
        pass = record { of = made.0; weight = made.1 };
        role = search rules;
      }));
      len = search rules;
      room = search rules;
    }
