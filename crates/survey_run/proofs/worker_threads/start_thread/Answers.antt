use denote.Exit.{no}
use denote.Param.{param}
use denote.Param.Send.{IsSync, arg_send, param_send, sendable}
use Rattle.std.proofs.Crossing.{crosses}
use Rattle.shared_survey.proofs.Crosses.{pass_send}
use Rattle.survey_run.proofs.BenchCrosses.{task_send}
use Rattle.survey_run.proofs.worker_threads.start_thread.Goals as goal

pub spawn_with-requires-send-F : goal.spawn_with-requires-send-F
spawn_with-requires-send-F g c κs within =
    let runtime : IsSync (param 1 g.row.R) = search sendable in
    let gate : IsSync (param 2 g.row.G) = search sendable in
    param_send 2 _ (arg_send _ no _ (task_send (param 1 g.row.R) (param 2 g.row.G) _ _ _ _ _ _ _ runtime gate))

pub spawn_with-requires-send-T : goal.spawn_with-requires-send-T
spawn_with-requires-send-T g c κs within = search (sendable, crosses, pass_send) depth 40
