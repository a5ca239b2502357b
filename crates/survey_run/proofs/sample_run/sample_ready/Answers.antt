use Rattle.std.proofs.Common.{◌≡◌, ◌∙◌, [], length, rules, arith}
use Rattle.std.specs.Prelude.{vec_len}
use Rattle.survey_run.proofs.PlanLemmas.{rooms_of}
use Rattle.survey_run.proofs.sample_run.sample_ready.Goals as goal

pub give_passes-requires-clause-room : goal.give_passes-requires-clause-room
give_passes-requires-clause-room c = rooms_of c.args.model.now 1 [] 0 c.in_ok-jobs.jobs.items (omega arith) c.in_ok-jobs.ensures.0

pub returns : goal.returns
returns c =
    let survey = c.in_ok-survey.survey in
    let works = c.in_ok-works.works in
    let many : vec_len works ≡ length works.items = search rules in
    let some : length works.items ≡ c.args.workers = c.in_ok-works.ensures.count ∙ c.in_ok-jobs.ensures.1 in
    let flags : c.len.result ≡ vec_len works = c.len.ensures in
    record {
      survey = survey;
      one = search rules;
      model = c.in_ok-survey.ensures.listed.0;
      listed = c.in_ok-survey.ensures.listed.1;
      weight = omega (arith, many, some, c.in_ok-survey.ensures.weight.0);
      whole = (
        c.in_ok-pass.ensures.from.0,
        omega (arith, some, c.in_ok-survey.ensures.weight.1, c.in_ok-works.ensures.whole.1, c.in_ok-works.ensures.count, c.in_ok-pass.ensures.from.1),
        c.in_ok-pass.ensures.seen.0 ∙ c.in_ok-works.ensures.whole.2,
      );
      pass = (c.in_ok-pass.ensures.new.0, c.in_ok-pass.ensures.new.1, search rules);
      desk = search rules;
      works = c.in_ok-works.ensures.works c.args.model.now 1 [] c.in_ok-jobs.ensures.0;
      count = many ∙ some;
      line = c.in_ok-line.ensures;
      working = search rules;
      worked = search rules;
      flags = c.in_ok-flags.ensures ∙ flags;
    }
