use Rattle.std.proofs.Common.{[], append-nil, subst}
use Rattle.survey_replies.specs.Calls.{Seen, TakesTurn}
use Rattle.survey_state.proofs.StepLemmas.{watches}
use Rattle.shared_survey.specs.LockSeats.{seat_seen}
use Rattle.shared_survey.proofs.SeatLemmas.{item_shorter}
use Rattle.shared_survey.proofs.survey.Survey.event.Goals as goal

pub leave-requires-clause-longer : goal.leave-requires-clause-longer
leave-requires-clause-longer g c = (c.enter-state.result.journal, c.enter-state.ensures.out, ([], append-nil c.enter-state.result.journal))

pub returns-clause-value : goal.returns-clause-value
returns-clause-value g c =
    item_shorter (seat_seen c.args.pass.now.seat).journal c.enter-state.result.journal c.args.place c.event-event.result c.enter-state.ensures.longer
    c.requires.low c.requires.high c.event-event.ensures

pub returns-clause-watches : goal.returns-clause-watches
returns-clause-watches g c =
    watches (seat_seen c.args.pass.now.seat) (seat_seen c.leave.new.self) c.enter-state.result.journal
    (subst (λ (s : Seen). TakesTurn s (seat_seen c.leave.new.self) c.enter-state.result.journal) c.enter-state.ensures.same.1
    (c.leave.ensures.turn c.enter-state.result.journal c.enter-state.ensures.out))
    c.leave.ensures.journal
