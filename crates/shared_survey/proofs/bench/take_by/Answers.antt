use Rattle.std.proofs.Common.{subst, ap, ◌∙◌}
use Rattle.survey_replies.specs.Calls.{Seen, TakesTurn}
use Rattle.survey_state.specs.States.{Surveyed}
use Rattle.survey_state.proofs.StepLemmas.{watches}
use Rattle.shared_survey.specs.LockSeats.{seat_seen}
use Rattle.eliminators.proofs.WorkLemmas.{same_longer}
use Rattle.shared_survey.proofs.bench.take_by.Goals as goal

pub leave-requires-clause-longer : goal.leave-requires-clause-longer
leave-requires-clause-longer g c = (
  c.enter-state.result.journal,
  c.enter-state.ensures.out,
  same_longer c.enter-state.result.journal c.take_from-job.new.state.journal (ap (λ (s : Surveyed). s.journal) c.take_from-job.ensures.given),
)

pub returns-clause-watches : goal.returns-clause-watches
returns-clause-watches g c =
    watches (seat_seen c.args.pass.now.seat) (seat_seen c.leave.new.self) c.enter-state.result.journal
    (subst (λ (s : Seen). TakesTurn s (seat_seen c.leave.new.self) c.enter-state.result.journal) c.enter-state.ensures.same.1
    (c.leave.ensures.turn c.enter-state.result.journal c.enter-state.ensures.out))
    (c.leave.ensures.journal ∙ ap (λ (s : Surveyed). s.journal) c.take_from-job.ensures.given)
