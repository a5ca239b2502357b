use Rattle.std.proofs.Common.{◌≡◌, ◌+◌, rules, arith, length}
use Rattle.std.specs.Prelude.{vec_len}
use Rattle.survey_run.specs.Joins.{WorkedAt}
use Rattle.survey_run.proofs.EachLemmas.{each_push}
use Rattle.survey_run.proofs.runs.finish_workers.Goals as goal

pub loop-one-preserved : goal.loop-one-preserved
loop-one-preserved g c =
    let inv = c.loop-one.invariant in
    let worked = c.loop-one.worked in
    let long : 0 + length worked.items ≡ vec_len worked = search rules in
    record {
      count = omega (arith, inv.count, c.in-Some.ensures.steps.1, c.push_reserved.ensures.len);
      room = omega (arith, inv.room, c.in-Some.ensures.steps.1, c.push_reserved.ensures.len, c.push_reserved.ensures.capacity);
      works = λ surveys each.
          let old = inv.works surveys each in
          let head = rw c.in-Some.ensures.steps.0 at old.0 in (
            rw c.push_reserved.ensures.len head.1,
            rw c.push_reserved.ensures.items (each_push (WorkedAt surveys) 0 (vec_len worked) worked.items c.finish_worker.result long old.1
                (c.finish_worker.ensures surveys (vec_len worked + 1) head.0)),
          );
    }
