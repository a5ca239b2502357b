use denote.Exit.{no}
use denote.Param.{param}
use denote.Param.Send.{IsSend, IsSync, arg_send, param_send, sendable}
use Rattle.survey_hall.proofs.TaskCrosses.{connection_task_send}
use Rattle.survey_hall.proofs.connection_threads.start_connection.Goals as goal

pub spawn_with-requires-send-F : goal.spawn_with-requires-send-F
spawn_with-requires-send-F g c κs within =
    let runtime : IsSync (param 1 g.row.R) = search sendable in
    let source : IsSend (param 2 g.row.I) = search sendable in
    let sink : IsSend (param 3 g.row.O) = search sendable in
    let gate : IsSync (param 4 g.row.G) = search sendable in
    param_send 2 _ (arg_send _ no _ (connection_task_send (param 1 g.row.R) (param 2 g.row.I) (param 3 g.row.O) (param 4 g.row.G) _ _ _ _ _ runtime source sink gate))
