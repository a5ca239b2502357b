use denote.Param.Send.{sendable}
use Rattle.shared_survey.proofs.Crosses.{pass_send, held_pass_send, survey_sync}
use Rattle.shared_survey.proofs.tests.answered_by_four.Goals as goal

pub join-a-requires-send-F : goal.join-a-requires-send-F
join-a-requires-send-F g c κs within = search (sendable, pass_send, held_pass_send, survey_sync) depth 40

pub join-a-requires-send-A : goal.join-a-requires-send-A
join-a-requires-send-A g c κs within = search (sendable, pass_send, held_pass_send) depth 40
