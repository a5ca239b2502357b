use Rattle.std.proofs.Common.{length, List, ap, ◌∙◌}
use Rattle.std.specs.Option.{option_map}
use Rattle.survey_core.specs.Histories.{item_at}
use Rattle.survey_replies.specs.Interview.{answered}
use Rattle.survey_core.specs.declared.points.AnswerPoint.{AnswerPoint}
use Rattle.survey_state.specs.States.{Surveyed}
use Rattle.survey_state.proofs.AnsweredLemmas.{last_question_is}
use Rattle.survey_state.proofs.state.State.last_question.Goals as goal

pub returns : goal.returns
returns c =
    c.last_question.ensures
    ∙ ap (λ (points : List AnswerPoint). option_map (λ last. last.question) (item_at points (length points))) (c.as_slice.ensures.value ∙ c.self.invariant.points_of)
    ∙ last_question_is c.self.inside.journal.items
    ∙ ap (λ (s : Surveyed). item_at (answered s.journal) (length (answered s.journal))) c.self.view_is
