use Rattle.std.proofs.Common.{arith}
use Rattle.std.specs.Prelude.{vec_len}
use Rattle.shared_survey.specs.Passes.{pass_seen, survey_listed}
use Rattle.survey_run.specs.declared.plans.DeskTold.{DeskTold}
use Rattle.survey_run.proofs.GatherLemmas.{gathers_desk}
use Rattle.survey_run.proofs.ends.join_desks.Goals as goal

pub join-requires-clause-other : goal.join-requires-clause-other
join-requires-clause-other c =
    let given = c.requires.spoken in
    let head = rw c.in-Some.ensures.steps.0 at (c.loop-one.invariant.gathered given.0 given.1 given.2).0 in
    head.0.pass

pub loop-one-preserved : goal.loop-one-preserved
loop-one-preserved c =
    let inv = c.loop-one.invariant in
    let listed = survey_listed c.args.survey.now in
    let told = c.loop-one.told in
    let one : DeskTold = record { sessions = c.in_ok-sessions.sessions } in
    let given = c.requires.spoken in
    let first = rw c.in-Some.ensures.steps.0 at (inv.gathered given.0 given.1 given.2).0 in
    let weight = first.0.weight in
    record {
      pass = (c.join.ensures.pass.0, omega (arith, inv.pass.1, weight, c.join.ensures.weight, c.push_reserved.ensures.len));
      count = omega (arith, inv.count, c.in-Some.ensures.steps.1, c.push_reserved.ensures.len);
      room = omega (arith, inv.room, c.in-Some.ensures.steps.1, c.push_reserved.ensures.len, c.push_reserved.ensures.capacity);
      gathered = λ respondent sessions each.
          let old = inv.gathered respondent sessions each in
          let head = rw c.in-Some.ensures.steps.0 at old.0 in
          let says = rw c.in_ok-sessions.was at head.0.said in (
            rw c.push_reserved.ensures.len head.1,
            rw (c.push_reserved.ensures.items, c.push_reserved.ensures.len) (gathers_desk listed respondent sessions (vec_len told) (pass_seen c.loop-one.whole)
                (pass_seen c.join.new.pass) (pass_seen c.in-Some.one.pass) told.items one says c.join.ensures.journal.0 c.join.ensures.journal.1 c.join.ensures.own old.1),
          );
    }
