use Rattle.std.proofs.Common.{refl, sym, subst}
use Rattle.criteria_model.specs.Criteria.{Criteria}
use Rattle.criteria_model.specs.Pairs.{IsFit}
use Rattle.criteria_model.specs.Answers.{Ranks}
use Rattle.sample_survey.proofs.SamplingLemmas.{question_fits, has_answered_one, stops_at_next, stops_at_answer, no_question, not_accepted}
use Rattle.sample_survey.proofs.samples.answer_next.Goals as goal

pub returns-in_default-clause-step : goal.returns-in_default-clause-step
returns-in_default-clause-step g c =
    stops_at_next (g.R.Events.listed (g.R.Events.about c.args.respondent.now)) (g.R.Respondent.desk (g.R.Events.about c.args.respondent.now)) c.args.values.now
    _ _ c.next.result c.next.ensures.call (no_question c.next.result (λ at number place pair is. c.in_default.not-Question at number place pair is))

pub ranking-side-requires-clause-fits : goal.ranking-side-requires-clause-fits
ranking-side-requires-clause-fits g c =
    let listed = g.R.Events.listed (g.R.Events.about c.args.respondent.now) in
    subst (λ (m : Criteria). IsFit m.levels c.in-Question.pair) (sym c.requires.model)
    (question_fits listed (g.R.Respondent.desk (g.R.Events.about c.args.respondent.now)) _ _ _ _ _ c.in-Question.pair c.requires.listed c.in-Question.ensures.call)

pub returns-in-Accepted-clause-step : goal.returns-in-Accepted-clause-step
returns-in-Accepted-clause-step g c =
    let listed = g.R.Events.listed (g.R.Events.about c.args.respondent.now) in
    let desk = g.R.Respondent.desk (g.R.Events.about c.args.respondent.now) in
    let ranks : Ranks listed.criteria.levels c.args.values.now c.in-Question.pair c.ranking-side.result =
    subst (λ (m : Criteria). Ranks m.levels c.args.values.now c.in-Question.pair c.ranking-side.result) c.requires.model c.ranking-side.ensures.ranks in (
      record { number = c.in-Question.number; place = c.in-Question.place; pair = c.in-Question.pair; side = c.ranking-side.result },
      refl,
      refl,
      has_answered_one listed desk c.args.values.now _ _ _ _ _ _ _ _ _ _ c.in-Question.ensures.call (rw c.next.ensures.same at c.in-Accepted.ensures.call) ranks,
    )

pub returns-in_default-answer-clause-step : goal.returns-in_default-answer-clause-step
returns-in_default-answer-clause-step g c =
    let listed = g.R.Events.listed (g.R.Events.about c.args.respondent.now) in
    let desk = g.R.Respondent.desk (g.R.Events.about c.args.respondent.now) in
    let ranks : Ranks listed.criteria.levels c.args.values.now c.in-Question.pair c.ranking-side.result =
    subst (λ (m : Criteria). Ranks m.levels c.args.values.now c.in-Question.pair c.ranking-side.result) c.requires.model c.ranking-side.ensures.ranks in
    stops_at_answer listed desk c.args.values.now _ _ _ _ _ _ _ _ c.answer.result c.in-Question.ensures.call (rw c.next.ensures.same at c.answer.ensures.call) ranks
    (not_accepted c.answer.result (λ at question is. c.in_default-answer.not-Accepted at question is))
