use Rattle.std.proofs.Common.{List, subst}
use Rattle.pair_enumeration.specs.Listed.{Listed}
use Rattle.survey_core.specs.declared.events.Event.{Event}
use Rattle.survey_core.specs.Histories.{IsOpenQuestion}
use Rattle.survey_core.specs.States.{Asks}
use Rattle.survey_state.proofs.ReplyLemmas.{closed}
use Rattle.survey_state.proofs.answer.AnswerCallCall.seek.Goals as goal

pub returns-in-Gone : goal.returns-in-Gone
returns-in-Gone c =
    closed c.args.state.now.listed c.args.state.now.journal c.length-at.ensures.legal c.args.self.now.desk c.length-at.result c.length-at.ensures.value
    c.args.self.now.question c.args.self.now.side c.in-Gone.place
    (subst (λ (l : Listed). Asks l c.args.state.now.journal c.args.self.now.question c.in-Gone.place) c.core.ensures.listed
    (subst (λ (h : List Event). Asks c.core.result.now.listed h c.args.self.now.question c.in-Gone.place) c.core.ensures.history c.in-Gone.ensures.0))
    (subst (λ (h : List Event). ¬ IsOpenQuestion h c.args.self.now.question) c.core.ensures.history c.in-Gone.ensures.1)
