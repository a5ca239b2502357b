-- A pass may go to another thread, and a survey may be shared.
use denote.Param.Send.{IsSend, IsSync, sendable}
use Rattle.std.proofs.Crossing.{crosses}
use Rattle.answer_rows.proofs.answers.Answers.TheSendSync as answers
use Rattle.decider.proofs.tools.Tools.TheSendSync as tools
use Rattle.pair_enumeration.proofs.classes.Classes.TheSendSync as classes
use Rattle.question_queue.proofs.pool.Pool.TheSendSync as pools
use Rattle.survey_core.proofs.marks.Marks.TheSendSync as marks
use Rattle.survey_core.specs.contracts.survey.Core as Core
use Rattle.survey_state.specs.contracts.state.State as State
use Rattle.turn_lock.proofs.turn.Turn.TheSendSync as turns
use Rattle.turn_lock.proofs.turn.TurnSeat.TheSendSync as turn_seats
use Rattle.shared_survey.specs.contracts.shared_state.SharedState as SharedState
use Rattle.shared_survey.specs.contracts.seat.SurveySeat as SurveySeat
use Rattle.shared_survey.specs.contracts.pass.DeskTools as DeskTools
use Rattle.shared_survey.specs.contracts.pass.Pass as Pass
use Rattle.shared_survey.specs.contracts.survey.Survey as Survey

core_send : IsSend (Core.the_field).row
core_send = search (sendable, crosses, answers.the_send, classes.the_send, marks.the_send) depth 40

state_send : IsSend (State.the_field).row
state_send = let a = core_send in search (sendable, crosses, pools.the_send) depth 40

pub shared_send : IsSend (SharedState.the_field).row
shared_send = let a = state_send in search sendable depth 40

pub shared_row_send : IsSend SharedState.the_row
shared_row_send = let a = state_send in search sendable depth 40

seat_send : IsSend (SurveySeat.the_field).row
seat_send = let a = shared_send in let b = shared_row_send in search (sendable, turn_seats.the_field_send) depth 40

desk_tools_send : IsSend (DeskTools.the_field).row
desk_tools_send = search (sendable, tools.the_field_send) depth 40

pub pass_send : IsSend Pass.the_row
pass_send = let a = desk_tools_send in let b = seat_send in search sendable depth 40

pub held_pass_send : IsSend (Pass.the_field).row
held_pass_send = let a = desk_tools_send in let b = seat_send in search sendable depth 40

pub survey_sync : IsSync Survey.the_row
survey_sync = let a = shared_send in let b = shared_row_send in search (sendable, turns.the_field_sync, classes.the_sync) depth 40
