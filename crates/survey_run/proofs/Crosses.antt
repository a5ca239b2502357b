-- What desks and eliminators are given, and bring back, may go to another thread.
use denote.Param.Send.{IsSend, sendable}
use Rattle.std.proofs.Crossing.{crosses}
use Rattle.decider.proofs.tools.Tools.TheSendSync as tools
use Rattle.eliminators.proofs.line.JobEnd.TheSendSync as ends
use Rattle.json_forms.proofs.replies.Reply.TheSendSync as replies
use Rattle.shared_survey.proofs.Crosses.{pass_send, held_pass_send}
use Rattle.survey_run.specs.contracts.desks.DeskJob as DeskJob
use Rattle.survey_run.specs.contracts.desks.Spoken as Spoken
use Rattle.survey_run.specs.contracts.workers.WorkerJob as WorkerJob

held_desk_job_send : IsSend (DeskJob.the_field).row
held_desk_job_send = search (sendable, crosses, held_pass_send, pass_send, replies.the_send, ends.the_send, ends.the_field_send) depth 40

pub desk_job_send : IsSend DeskJob.the_row
desk_job_send = let a = held_desk_job_send in search (sendable, pass_send, held_pass_send) depth 40

held_spoken_send : IsSend (Spoken.the_field).row
held_spoken_send = search (sendable, crosses, held_pass_send, pass_send, replies.the_send) depth 40

pub spoken_send : IsSend Spoken.the_row
spoken_send = let a = held_spoken_send in search (sendable, pass_send, held_pass_send) depth 40

held_worker_job_send : IsSend (WorkerJob.the_field).row
held_worker_job_send = search (sendable, crosses, pass_send, held_pass_send, tools.the_field_send, ends.the_send, ends.the_field_send) depth 40

pub worker_job_send : IsSend WorkerJob.the_row
worker_job_send = let a = held_worker_job_send in search (sendable, pass_send, held_pass_send) depth 40
