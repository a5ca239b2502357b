use Rattle.std.proofs.Common.{ℤ, pos, List, replicate, ap, sym, ◌∙◌, subst}
use Rattle.std.specs.List.{fold}
use Rattle.criteria_model.specs.Worth.{increments}
use Rattle.criteria_model.specs.Criteria.{Criteria}
use Rattle.criteria_model.specs.Answers.{MeetsAll}
use Rattle.survey_core.specs.Histories.{committed}
use Rattle.survey_core.specs.Laws.{last_point}
use Rattle.survey_core.proofs.LawLemmas.{last_point_meets_lem}
use Rattle.survey_core.specs.declared.points.AnswerPoint.{AnswerPoint}
use Rattle.survey_core.proofs.PointLemmas.{latest_is}
use Rattle.result_file.specs.Kept.{KeptSurvey}
use Rattle.result_file.proofs.survey.Survey.point.Goals as goal

pub returns-clause-value : goal.returns-clause-value
returns-clause-value c =
    c.latest.ensures
    ∙ ap (λ (m : Criteria). fold (λ earlier last. last.point) (replicate (increments m.levels) (pos 1)) c.as_slice.result.now) c.model.ensures.value
    ∙ ap (λ (points : List AnswerPoint). fold (λ earlier last. last.point) (replicate (increments c.self.inside.core.listed.criteria.levels) (pos 1)) points)
    (c.as_slice.ensures.value ∙ c.self.invariant.points)
    ∙ latest_is c.self.inside.core.listed.criteria.levels c.self.inside.core.history
    ∙ ap (λ (k : KeptSurvey). last_point k.survey.listed.criteria.levels k.survey.history) c.self.view_is

pub returns-clause-meets : goal.returns-clause-meets
returns-clause-meets c =
    subst (λ (p : List ℤ). MeetsAll c.args.self.now.survey.listed.criteria.levels (committed c.args.self.now.survey.listed.classes c.args.self.now.survey.history) p)
    (sym (returns-clause-value c))
    (subst (λ (k : KeptSurvey). MeetsAll k.survey.listed.criteria.levels (committed k.survey.listed.classes k.survey.history) (last_point k.survey.listed.criteria.levels k.survey.history))
    c.self.view_is (last_point_meets_lem _ _ c.model.ensures.listed c.model.ensures.legal))
