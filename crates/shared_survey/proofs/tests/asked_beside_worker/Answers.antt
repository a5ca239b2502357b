use denote.Param.Send.{sendable}
use Rattle.eliminators.proofs.line.JobEnd.TheSendSync as ends
use Rattle.shared_survey.proofs.Crosses.{pass_send, survey_sync}
use Rattle.shared_survey.proofs.tests.asked_beside_worker.Goals as goal

pub join-next-requires-send-F : goal.join-next-requires-send-F
join-next-requires-send-F g c κs within = search (sendable, pass_send, survey_sync, ends.the_send) depth 40

pub join-next-requires-send-A : goal.join-next-requires-send-A
join-next-requires-send-A g c κs within = search (sendable, pass_send) depth 40
