use Rattle.std.proofs.Common.{◌≡◌, ◌+◌, ◌∙◌, length, rules, arith}
use Rattle.std.specs.Prelude.{vec_len}
use Rattle.shared_survey.specs.Passes.{pass_seen}
use Rattle.survey_run.proofs.GatherLemmas.{survey_ends}
use Rattle.survey_run.proofs.ends.close_survey.Goals as goal

pub join_desks-requires-clause-spoken : goal.join_desks-requires-clause-spoken
join_desks-requires-clause-spoken c = let given = c.requires.spoken in (given.1 + 1, given.2, given.3.spoken_is.speeches)

pub close-state-requires-clause-whole : goal.close-state-requires-clause-whole
close-state-requires-clause-whole c =
    let given = c.requires.spoken in
    let at = given.3 in
    let long : vec_len c.args.spoken.spoken ≡ length c.args.spoken.spoken.items = search rules in
    omega (arith, long, at.spoken_is.weight, at.spoken_is.count, at.survey_is.weight, c.in_ok-told.ensures.pass.1, c.join_workers.ensures.pass.1)

pub returns : goal.returns
returns c =
    let desks = c.in_ok-told.ensures.told in
    record {
      lost = c.join_workers.ensures.lost;
      end = λ criteria n sessions at.
          let gathered = desks (n + 1) sessions at.spoken_is.speeches in
          let long : vec_len c.args.spoken.spoken ≡ length c.args.spoken.spoken.items = search rules in
          let count = gathered.1 ∙ (long ∙ at.spoken_is.count) in
          let ran = c.join_workers.ensures.runs (n + 1) sessions gathered.0 c.in_ok-told.told.items gathered.2 in (
            gathered.0,
            survey_ends criteria (vec_len c.args.worked.now) n sessions c.args.survey (pass_seen c.join_workers.new.whole) gathered.0
                (record { state = c.close-state.result; told = c.in_ok-told.told }) at.survey_is count (record { runs = ran.0; numbered = ran.1; gathers = ran.2 })
                c.close-state.ensures.listed c.length.ensures.listed c.length.ensures.legal c.close-state.ensures.journal c.close-state.ensures.own,
          );
    }
