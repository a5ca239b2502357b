use denote.Param.Send.{sendable}
use Rattle.shared_survey.proofs.Crosses.{survey_sync}
use Rattle.survey_script.proofs.scripts.Script.TheSendSync as scripts
use Rattle.survey_run.proofs.Crosses.{desk_job_send, spoken_send}
use Rattle.survey_run.proofs.desk_threads.start_thread.Goals as goal

pub spawn_with-requires-send-F : goal.spawn_with-requires-send-F
spawn_with-requires-send-F g c κs within = search (sendable, desk_job_send, survey_sync, scripts.the_sync) depth 40

pub spawn_with-requires-send-T : goal.spawn_with-requires-send-T
spawn_with-requires-send-T g c κs within = search (sendable, spoken_send) depth 40
