use Rattle.std.proofs.Common.{◌≡◌, ◌+◌, rules, arith, length}
use Rattle.std.specs.Prelude.{vec_len}
use Rattle.survey_run.specs.Joins.{SpeechAt}
use Rattle.survey_run.proofs.EachLemmas.{each_push}
use Rattle.survey_run.proofs.runs.finish_desks.Goals as goal

pub loop-one-preserved : goal.loop-one-preserved
loop-one-preserved g c =
    let inv = c.loop-one.invariant in
    let spoken = c.loop-one.spoken in
    let long : 0 + length spoken.items ≡ vec_len spoken = search rules in
    record {
      count = omega (arith, inv.count, c.in-Some.ensures.steps.1, c.push_reserved.ensures.len);
      room = omega (arith, inv.room, c.in-Some.ensures.steps.1, c.push_reserved.ensures.len, c.push_reserved.ensures.capacity);
      runs = λ survey respondent sessions each.
          let old = inv.runs survey respondent sessions each in
          let head = rw c.in-Some.ensures.steps.0 at old.0 in (
            rw c.push_reserved.ensures.len head.1,
            rw c.push_reserved.ensures.items (each_push (SpeechAt survey respondent sessions) 0 (vec_len spoken) spoken.items c.finish.result long old.1
                (c.finish.ensures survey respondent (vec_len spoken + 1) sessions head.0)),
          );
    }
