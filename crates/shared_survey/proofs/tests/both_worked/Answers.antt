use denote.Param.Send.{sendable}
use Rattle.shared_survey.proofs.Crosses.{pass_send, held_pass_send, survey_sync}
use Rattle.shared_survey.proofs.tests.both_worked.Goals as goal

pub join-requires-send-F : goal.join-requires-send-F
join-requires-send-F g c κs within = search (sendable, pass_send, held_pass_send, survey_sync) depth 40

pub join-requires-send-A : goal.join-requires-send-A
join-requires-send-A g c κs within = search (sendable, pass_send) depth 40
