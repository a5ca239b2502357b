use Rattle.std.proofs.Common.{◌≡◌, ◌∙◌, ◌+◌, [], ◌∷◌, ◌++◌, ap, rules, arith, length}
use Rattle.std.specs.Prelude.{vec_len}
use Rattle.survey_replies.specs.Calls.{Seen}
use Rattle.survey_run.specs.Workers.{IsFreshPass, WorkAt}
use Rattle.survey_run.proofs.EachLemmas.{each_push}
use Rattle.survey_run.proofs.plans.give_passes.Goals as goal

pub loop-job-preserved : goal.loop-job-preserved
loop-job-preserved c =
    let inv = c.loop-job.invariant in
    let given = c.loop-job.given in
    let survey = c.args.survey.now in
    let made = c.worker_pass-pass.ensures.new in
    let from = c.worker_pass-pass.ensures.from in
    let seen = c.worker_pass-pass.ensures.seen in
    let fresh : IsFreshPass survey c.worker_pass-pass.result = record {
      of = made.0;
      weight = made.1;
      seen = seen.1 ∙ ap (λ (s : Seen). record { journal = s.journal; own = [] }) inv.seen;
    } in
    let rooms = rw c.in-Some.ensures.steps.0 at inv.rooms in
    let long : 0 + length given.items ≡ vec_len given = search rules in
    record {
      pass = (from.0, omega (arith, from.1, inv.pass.1, c.push_reserved.ensures.len));
      seen = seen.0 ∙ inv.seen;
      count = omega (arith, inv.count, c.in-Some.ensures.steps.1, c.push_reserved.ensures.len);
      capacity = omega (arith, inv.capacity, c.in-Some.ensures.steps.1, c.push_reserved.ensures.len, c.push_reserved.ensures.capacity);
      rooms = rooms.1;
      works = λ criteria count surveys each.
          let old = inv.works criteria count surveys each in
          let head = rw c.in-Some.ensures.steps.0 at old.0 in
          let job = c.with_pass.ensures criteria count (vec_len given + 1) surveys survey head.0 fresh in (
            rw c.push_reserved.ensures.len head.1,
            rw c.push_reserved.ensures.items (each_push (WorkAt criteria count (surveys ++ survey ∷ [])) 0 (vec_len given) given.items c.with_pass.result long old.1 job),
          );
    }
