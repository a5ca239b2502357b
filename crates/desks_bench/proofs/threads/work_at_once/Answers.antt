use denote.Ref.{NamedLft}
use denote.Param.Send.{IsSync, sendable}
use Rattle.std.proofs.Crossing.{crosses}
use Rattle.shared_survey.specs.contracts.survey.Survey as Survey
use Rattle.desks_bench.specs.contracts.threads.Office as Office
use Rattle.shared_survey.proofs.Crosses.{held_pass_send, survey_sync}
use Rattle.desks_bench.proofs.desk_work.Course.TheSendSync as courses
use Rattle.desks_bench.proofs.hand_ins.HandIns.TheSendSync as hand_ins
use Rattle.desks_bench.proofs.threads.Office.TheSendSync as offices
use Rattle.desks_bench.proofs.Crosses.{duty_send}
use Rattle.desks_bench.proofs.threads.work_at_once.Goals as goal

pub map_vec-requires-send-J : goal.map_vec-requires-send-J
map_vec-requires-send-J g c κs within = search (sendable, duty_send) depth 40

pub map_vec-requires-send-X : goal.map_vec-requires-send-X
map_vec-requires-send-X g c κs within = search (sendable, held_pass_send, courses.the_field_send, hand_ins.the_field_send) depth 40

pub map_vec-requires-sync-F : goal.map_vec-requires-sync-F
map_vec-requires-sync-F g c κs within =
    let threads : IsSync g.row.R = record { shared = c.type_bounds.sync-R.shared } in
    let survey : IsSync Survey.the_row = survey_sync in
    let office : (a : NamedLft) → IsSync (Office.the_row a) = offices.the_sync in
    search (sendable, crosses, office) depth 40
