use Rattle.std.proofs.Common.{◌≡◌, ℕ, ◌+◌, [], ◌∷◌, ◌++◌, length, refl, ap, sym, ◌∙◌, arith, length-append}
use Rattle.criteria_model.specs.Criteria.{Criteria}
use Rattle.criteria_model.specs.Counts.{class_count}
use Rattle.criteria_model.specs.Worth.{increments}
use Rattle.survey_core.specs.Legal.{IsLegal}
use Rattle.sample_values.specs.Draws.{hidden_vector}
use Rattle.sample_survey.specs.declared.summary.Summary.{Summary}
use Rattle.sample_survey.specs.Samples.{AnsweredQuestion, summary_of, values_of}
use Rattle.sample_survey.specs.Sampling.{HasAnswered, IsSampling}
use Rattle.sample_survey.proofs.SamplingLemmas.{few_issued, has_answered_none, has_answered_more, sampled, alone_is_sample_lem}
use Rattle.sample_survey.proofs.samples.sample_by.Given.{Over}
use Rattle.sample_survey.proofs.samples.sample_by.Goals.{In-NoQuestion, After-with_question}
use Rattle.sample_survey.proofs.samples.sample_by.Goals as goal

pub loop-asked-init : goal.loop-asked-init
loop-asked-init g c =
    let listed = g.R.Events.listed (g.R.Events.about c.args.respondent.now) in
    let desk = g.R.Respondent.desk (g.R.Events.about c.args.respondent.now) in
    let classes : c.class_count-classes.result ≡ length listed.classes =
    c.class_count-classes.ensures.value ∙ ap (λ (m : Criteria). class_count m.levels m.degree) c.requires.model ∙ sym c.look.ensures.listed.len in
    record {
      questions = [];
      has = has_answered_none listed desk (values_of listed c.args.seed) (g.R.Events.seen c.args.respondent.now);
      counted = c.new-summary.ensures ∙ ap (λ (n : ℕ). summary_of n 0 []) classes;
      count = refl;
      legal = c.look.ensures.legal;
      same = refl;
    }

pub with_answer-summary-requires : goal.with_answer-summary-requires
with_answer-summary-requires g c =
    let listed = g.R.Events.listed (g.R.Events.about c.args.respondent.now) in
    let before = c.loop-asked.invariant in
    let legal : IsLegal listed (g.R.Events.seen c.answer_next-step.new.respondent).journal =
    rw (c.answer_next-step.ensures.same, before.same) at c.look-in-loop-asked.ensures.legal in
    let classes : c.loop-asked.summary.classes ≡ length listed.classes = ap (λ (s : Summary). s.classes) before.counted in (
      before.questions,
      before.counted ∙ ap (λ (n : ℕ). summary_of n (length before.questions) before.questions) (sym classes),
      omega (arith, classes, before.has.issues, c.in-Answered.ensures.step.3.issues, few_issued listed (g.R.Events.seen c.answer_next-step.new.respondent).journal c.look.ensures.listed legal),
    )

pub loop-asked-preserved : goal.loop-asked-preserved
loop-asked-preserved g c =
    let listed = g.R.Events.listed (g.R.Events.about c.args.respondent.now) in
    let desk = g.R.Respondent.desk (g.R.Events.about c.args.respondent.now) in
    let values : c.hidden_values-values.result ≡ values_of listed c.args.seed =
    c.hidden_values-values.ensures.value ∙ ap (λ (m : Criteria). hidden_vector c.args.seed (increments m.levels)) c.requires.model in
    let before = c.loop-asked.invariant in
    let one : AnsweredQuestion = c.in-Answered.ensures.step.0 in
    let step : HasAnswered listed desk (values_of listed c.args.seed) (g.R.Events.seen c.loop-asked.respondent) (g.R.Events.seen c.answer_next-step.new.respondent) (one ∷ []) =
    rw (before.same, values) at c.in-Answered.ensures.step.3 in
    let len : length (before.questions ++ one ∷ []) ≡ length before.questions + 1 = length-append before.questions (one ∷ []) in
    record {
      questions = before.questions ++ one ∷ [];
      has = has_answered_more listed desk (values_of listed c.args.seed) _ _ _ before.questions (one ∷ []) before.has step;
      counted =
          c.with_answer-summary.ensures (length listed.classes) before.questions one before.counted c.in-Answered.ensures.step.1 c.in-Answered.ensures.step.2
          ∙ ap (λ (n : ℕ). summary_of (length listed.classes) n (before.questions ++ one ∷ [])) (sym len);
      count = len ∙ ap (λ (n : ℕ). n + 1) before.count;
      legal = rw (c.answer_next-step.ensures.same, before.same) at c.look-in-loop-asked.ensures.legal;
      same = c.answer_next-step.ensures.same ∙ before.same;
    }

module _ (g : Over) (c : In-NoQuestion g) where
  sampling_to_next : IsSampling (g.R.Events.listed (g.R.Events.about c.args.respondent.now)) (g.R.Respondent.desk (g.R.Events.about c.args.respondent.now)) c.args.seed
      (g.R.Events.seen c.args.respondent.now) (g.R.Events.seen c.answer_next-step.new.respondent) c.loop-asked.summary
  sampling_to_next =
      let listed = g.R.Events.listed (g.R.Events.about c.args.respondent.now) in
      let desk = g.R.Respondent.desk (g.R.Events.about c.args.respondent.now) in
      let values : c.hidden_values-values.result ≡ values_of listed c.args.seed =
      c.hidden_values-values.ensures.value ∙ ap (λ (m : Criteria). hidden_vector c.args.seed (increments m.levels)) c.requires.model in
      let before = c.loop-asked.invariant in
      let count : length before.questions ≡ length before.questions + 0 = omega arith in
      sampled listed desk c.args.seed _ _ _ before.questions 0 c.loop-asked.summary before.has (rw (before.same, values) at c.in-NoQuestion.ensures.step)
      (before.counted ∙ ap (λ (n : ℕ). summary_of (length listed.classes) n before.questions) count)

pub returns-in-NoQuestion-clause-sampling : goal.returns-in-NoQuestion-clause-sampling
returns-in-NoQuestion-clause-sampling g c = sampling_to_next g c

pub returns-in-NoQuestion-clause-alone : goal.returns-in-NoQuestion-clause-alone
returns-in-NoQuestion-clause-alone g c = λ alone.
    let listed = g.R.Events.listed (g.R.Events.about c.args.respondent.now) in
    let desk = g.R.Respondent.desk (g.R.Events.about c.args.respondent.now) in
    let legal : IsLegal listed (g.R.Events.seen c.answer_next-step.new.respondent).journal =
    rw (c.answer_next-step.ensures.same, c.loop-asked.invariant.same) at c.look-in-loop-asked.ensures.legal in
    alone_is_sample_lem listed desk c.args.seed (g.R.Events.seen c.answer_next-step.new.respondent) c.loop-asked.summary c.look.ensures.listed legal
    (rw c.requires.unseen at (sampling_to_next g c)) alone

module _ (g : Over) (c : After-with_question g) where
  sampling_to_answer : IsSampling (g.R.Events.listed (g.R.Events.about c.args.respondent.now)) (g.R.Respondent.desk (g.R.Events.about c.args.respondent.now)) c.args.seed
      (g.R.Events.seen c.args.respondent.now) (g.R.Events.seen c.answer_next-step.new.respondent) c.with_question.result
  sampling_to_answer =
      let listed = g.R.Events.listed (g.R.Events.about c.args.respondent.now) in
      let desk = g.R.Respondent.desk (g.R.Events.about c.args.respondent.now) in
      let values : c.hidden_values-values.result ≡ values_of listed c.args.seed =
      c.hidden_values-values.ensures.value ∙ ap (λ (m : Criteria). hidden_vector c.args.seed (increments m.levels)) c.requires.model in
      let before = c.loop-asked.invariant in
      sampled listed desk c.args.seed _ _ _ before.questions 1 c.with_question.result before.has (rw (before.same, values) at c.in-NotAccepted.ensures.step)
      (c.with_question.ensures (length listed.classes) before.questions before.counted)

pub returns-in-NotAccepted-clause-sampling : goal.returns-in-NotAccepted-clause-sampling
returns-in-NotAccepted-clause-sampling g c = sampling_to_answer g c

pub returns-in-NotAccepted-clause-alone : goal.returns-in-NotAccepted-clause-alone
returns-in-NotAccepted-clause-alone g c = λ alone.
    let listed = g.R.Events.listed (g.R.Events.about c.args.respondent.now) in
    let desk = g.R.Respondent.desk (g.R.Events.about c.args.respondent.now) in
    let legal : IsLegal listed (g.R.Events.seen c.answer_next-step.new.respondent).journal =
    rw (c.answer_next-step.ensures.same, c.loop-asked.invariant.same) at c.look-in-loop-asked.ensures.legal in
    alone_is_sample_lem listed desk c.args.seed (g.R.Events.seen c.answer_next-step.new.respondent) c.with_question.result c.look.ensures.listed legal
    (rw c.requires.unseen at (sampling_to_answer g c)) alone

pub unreachable-requires : goal.unreachable-requires
unreachable-requires g c =
    let listed = g.R.Events.listed (g.R.Events.about c.args.respondent.now) in
    let classes : c.class_count-classes.result ≡ length listed.classes =
    c.class_count-classes.ensures.value ∙ ap (λ (m : Criteria). class_count m.levels m.degree) c.requires.model ∙ sym c.look.ensures.listed.len in
    let before = c.loop-asked.invariant in
    omega (arith, classes, before.has.issues, before.count, c.loop-asked-test.false, few_issued listed (g.R.Events.seen c.loop-asked.respondent).journal c.look.ensures.listed before.legal)
