-- What a thread works with may go to it.
use denote.Param.Send.{IsSend, sendable}
use Rattle.decider.proofs.tools.Tools.TheSendSync as tools
use Rattle.eliminators.proofs.line.JobEnd.TheSendSync as ends
use Rattle.shared_survey.proofs.Crosses.{held_pass_send}
use Rattle.desks_bench.specs.contracts.eliminator_work.Eliminator as Eliminator
use Rattle.desks_bench.specs.contracts.threads.Role as Role
use Rattle.desks_bench.specs.contracts.threads.Duty as Duty

eliminator_send : IsSend (Eliminator.the_field).row
eliminator_send = search (sendable, tools.the_field_send, ends.the_field_send) depth 40

role_send : IsSend (Role.the_field).row
role_send = let a = eliminator_send in search sendable depth 40

pub duty_send : IsSend Duty.the_row
duty_send = let a = role_send in search (sendable, held_pass_send) depth 40
