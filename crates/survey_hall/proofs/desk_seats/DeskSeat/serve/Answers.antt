use Rattle.std.proofs.Common.{◌∙◌, length, ap}
use Rattle.std.specs.Arc.{arc_value}
use Rattle.survey_replies.specs.Calls.{Seen}
use Rattle.shared_survey.specs.Passes.{pass_seen, survey_listed}
use Rattle.survey_hall.proofs.VisitLemmas.{visit_ran, visit_cut}
use Rattle.survey_hall.proofs.desk_seats.DeskSeat.serve.Goals as goal

pub returns-in-Ok-clause-run : goal.returns-in-Ok-clause-run
returns-in-Ok-clause-run g c =
    let seat = c.args.self.now in
    let survey = arc_value seat.survey in
    visit_ran (survey_listed survey) seat.model _ (pass_seen seat.pass) _ _ _ _ _ _ c.front.result c.talk-counted.result
    seat.of_model (c.front-began.ensures.listed survey seat.of.belongs)
    (c.front-began.ensures.length ∙ ap (λ (s : Seen). length s.journal) c.front-began.ensures.seen)
    seat.owned (c.front.ensures.legal survey (rw c.deref.ensures at c.talk-counted.ensures.pass.of.belongs)) c.front.ensures.seen
    c.in-Ok.ensures.written (rw c.deref.ensures at c.talk-counted.ensures.session)

pub returns-in-Err-clause-run : goal.returns-in-Err-clause-run
returns-in-Err-clause-run g c =
    let seat = c.args.self.now in
    let survey = arc_value seat.survey in
    visit_cut (survey_listed survey) seat.model _ (pass_seen seat.pass) _ _ _ _ c.front-in-Err.result c.cut_welcome.result
    seat.of_model (c.front-began.ensures.listed survey seat.of.belongs)
    (c.front-began.ensures.length ∙ ap (λ (s : Seen). length s.journal) c.front-began.ensures.seen)
    seat.owned (c.front-in-Err.ensures.legal survey seat.of.belongs) c.front-in-Err.ensures.seen
    c.in-Err.ensures.prefix c.cut_welcome.ensures
