use Rattle.std.proofs.Common.{◌≡◌, ◌-◌, ◌≤◌, Some, slice_get, sym, subst, ◌∙◌}
use Rattle.survey_core.specs.Recorded.{Recorded}
use Rattle.survey_core.specs.Histories.{issued, place_of, IsOpenQuestion}
use Rattle.survey_core.specs.Legal.{IsPlace}
use Rattle.survey_core.proofs.ReadLemmas.{asks_at}
use Rattle.survey_core.proofs.KeptLemmas.{open_question_at, ended_question_at, unasked_at, place_at}
use Rattle.survey_core.specs.declared.marks.Question.{Question}
use Rattle.survey_core.proofs.survey.Core.open_place.Goals as goal

pub returns-in_err-question : goal.returns-in_err-question
returns-in_err-question c =
    rw (c.from_residual.ensures)
    (subst (λ (r : Recorded). ¬ IsOpenQuestion r.history c.args.question) c.self.view_is (unasked_at _ _ _ _ _ _ c.self.invariant c.args.question c.in_err-question.ensures))

pub returns-then-is_open : goal.returns-then-is_open
returns-then-is_open c =
    let question : Question = c.in_ok-question.question in
    let low : 1 ≤ c.args.question = c.in_ok-question.ensures.0 in
    let at : slice_get c.self.inside.marks.questions (c.args.question - 1) ≡ Some question = c.in_ok-question.ensures.1 in
    subst (λ (r : Recorded). IsOpenQuestion r.history c.args.question × (place_of (issued r.history) c.args.question ≡ Some question.place) × IsPlace r.listed question.place) c.self.view_is (
      open_question_at _ _ _ _ _ _ c.self.invariant c.args.question question low at (sym c.is_open.ensures ∙ c.if-is_open.true),
      asks_at c.self.invariant.table_of c.args.question question low at,
      place_at _ _ _ _ _ _ c.self.invariant c.args.question question low at,
    )

pub returns-else-is_open : goal.returns-else-is_open
returns-else-is_open c =
    let question : Question = c.in_ok-question.question in
    let low : 1 ≤ c.args.question = c.in_ok-question.ensures.0 in
    let at : slice_get c.self.inside.marks.questions (c.args.question - 1) ≡ Some question = c.in_ok-question.ensures.1 in
    subst (λ (r : Recorded). ¬ IsOpenQuestion r.history c.args.question) c.self.view_is
    (ended_question_at _ _ _ _ _ _ c.self.invariant c.args.question question low at (sym c.is_open.ensures ∙ c.if-is_open.false))
