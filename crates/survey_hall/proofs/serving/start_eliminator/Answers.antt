use denote.Exit.{no}
use denote.Param.{param}
use denote.Param.Send.{IsSync, arg_send, param_send, sendable}
use Rattle.std.proofs.Crossing.{crosses}
use Rattle.survey_hall.proofs.Crosses.{eliminator_send}
use Rattle.survey_hall.proofs.TaskCrosses.{eliminator_task_send}
use Rattle.survey_hall.proofs.serving.start_eliminator.Goals as goal

pub spawn-requires-send-F : goal.spawn-requires-send-F
spawn-requires-send-F g c κs within =
    let runtime : IsSync (param 1 g.row.R) = search sendable in
    let gate : IsSync (param 2 g.row.G) = search sendable in
    param_send 1 _ (arg_send _ no _ (eliminator_task_send (param 1 g.row.R) (param 2 g.row.G) _ _ _ _ runtime gate))

pub spawn-requires-send-T : goal.spawn-requires-send-T
spawn-requires-send-T g c κs within = search (sendable, crosses, eliminator_send) depth 40
