use Rattle.std.proofs.Common.{subst, rules}
use Rattle.shared_survey.specs.Passes.{pass_seen, survey_listed}
use Rattle.survey_replies.specs.Calls.{Seen}
use Rattle.survey_run.specs.SampleRuns.{SamplesAlone}
use Rattle.survey_run.proofs.sample_run.sample_at.Goals as goal

pub returns-clause-sample : goal.returns-clause-sample
returns-clause-sample g c =
    let listed = survey_listed c.args.survey.now in
    let said : SamplesAlone listed c.args.seed (pass_seen c.sample_by.new.respondent.pass.now) c.sample_by.result =
    record { alone = simp (c.lend-desk.ensures.lent.0, c.lend-desk.ensures.lent.1) at c.sample_by.ensures.alone } in
    subst (λ (after : Seen). SamplesAlone listed c.args.seed after c.sample_by.result) (search rules) said
