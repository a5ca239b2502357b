-- A hall may be shared by threads, and an eliminator may go to another.
use denote.Param.Send.{IsSend, IsSync, sendable}
use Rattle.std.proofs.Crossing.{crosses}
use Rattle.decider.proofs.tools.Tools.TheSendSync as tools
use Rattle.eliminators.proofs.line.JobEnd.TheSendSync as ends
use Rattle.json_forms.proofs.definitions.Definition.TheSendSync as definitions
use Rattle.shared_survey.proofs.Crosses.{pass_send, held_pass_send, shared_send, shared_row_send, survey_sync}
use Rattle.pair_enumeration.proofs.classes.Classes.TheSendSync as classes
use Rattle.turn_lock.proofs.turn.Turn.TheSendSync as turns
use Rattle.shared_survey.specs.contracts.survey.Survey as Survey
use Rattle.survey_hall.specs.contracts.desk_seats.DeskSeat as DeskSeat
use Rattle.survey_hall.specs.contracts.eliminator_seats.EliminatorSeat as EliminatorSeat
use Rattle.survey_hall.specs.contracts.halls.Hall as Hall

survey_send : IsSend Survey.the_row
survey_send = let a = shared_send in let b = shared_row_send in search (sendable, turns.the_field_send, classes.the_send) depth 40

held_desk_send : IsSend (DeskSeat.the_field).row
held_desk_send = search (sendable, crosses, survey_sync, survey_send, held_pass_send, pass_send, ends.the_send, ends.the_field_send) depth 40

desk_send : IsSend DeskSeat.the_row
desk_send = let a = held_desk_send in search (sendable, crosses, survey_sync, survey_send, held_pass_send, pass_send, ends.the_send, ends.the_field_send) depth 40

held_eliminator_send : IsSend (EliminatorSeat.the_field).row
held_eliminator_send = search (sendable, crosses, survey_sync, survey_send, held_pass_send, pass_send, tools.the_field_send, ends.the_send, ends.the_field_send) depth 40

pub eliminator_send : IsSend EliminatorSeat.the_row
eliminator_send = let a = held_eliminator_send in search (sendable, crosses, survey_sync, survey_send, held_pass_send, pass_send) depth 40

pub hall_sync : IsSync Hall.the_row
hall_sync = let a = held_desk_send in let b = held_eliminator_send in search (sendable, crosses, desk_send, eliminator_send, definitions.the_sync, ends.the_sync, ends.the_field_sync) depth 40
