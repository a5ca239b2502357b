use Rattle.std.proofs.Common.{◌≡◌, ◌-◌, ◌≤◌, Some, slice_get, sym, subst, ◌∙◌}
use Rattle.survey_core.specs.declared.marks.Question.{Question}
use Rattle.survey_core.specs.Recorded.{Recorded}
use Rattle.survey_core.specs.Histories.{IsOpenQuestion}
use Rattle.survey_core.specs.States.{Asks}
use Rattle.survey_core.proofs.ReadLemmas.{asks_at}
use Rattle.survey_core.proofs.KeptLemmas.{place_at, open_question_at, ended_question_at}
use Rattle.survey_core.proofs.survey.Core.question.Goals as goal

pub returns-in-Some : goal.returns-in-Some
returns-in-Some c =
    let question : Question = c.in-Some.question in
    let low : 1 ≤ c.args.number = c.in-Some.ensures.0 in
    let at : slice_get c.self.inside.marks.questions (c.args.number - 1) ≡ Some question = c.in-Some.ensures.1 in
    subst (λ (r : Recorded). Asks r.listed r.history c.args.number question.place × IsOpenQuestion r.history c.args.number) c.self.view_is
    ((asks_at c.self.invariant.table_of c.args.number question low at, place_at _ _ _ _ _ _ c.self.invariant c.args.number question low at), open_question_at _ _ _ _ _ _ c.self.invariant c.args.number question low at (sym c.is_open.ensures ∙ c.if-is_open.true))

pub returns-in-Some-2 : goal.returns-in-Some-2
returns-in-Some-2 c =
    let question : Question = c.in-Some.question in
    let low : 1 ≤ c.args.number = c.in-Some.ensures.0 in
    let at : slice_get c.self.inside.marks.questions (c.args.number - 1) ≡ Some question = c.in-Some.ensures.1 in
    subst (λ (r : Recorded). Asks r.listed r.history c.args.number question.place × (¬ IsOpenQuestion r.history c.args.number)) c.self.view_is
    ((asks_at c.self.invariant.table_of c.args.number question low at, place_at _ _ _ _ _ _ c.self.invariant c.args.number question low at), ended_question_at _ _ _ _ _ _ c.self.invariant c.args.number question low at (sym c.is_open.ensures ∙ c.if-is_open.false))
