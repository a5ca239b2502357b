use Rattle.std.proofs.Common.{◌≡◌, ◌+◌, ◌≤◌, List, ◌∷◌, length, map, take}
use Rattle.std.specs.Prelude.{vec_capacity}
use Rattle.json_forms.specs.declared.replies.Reply.TheVariants.{Welcome}
use Rattle.survey_replies.specs.Calls.{Conversation}
use Rattle.survey_run.specs.Sessions.{MessageRun, message_exchanges, message_reply}
use Rattle.survey_run.proofs.speaking.answer_session.Given as goal

abbrev pub invariant-loop-message : goal.invariant-loop-message
invariant-loop-message g l = let r = g.R.Respondent in let e = g.R.Events in record {
  messages : List MessageRun;
  read : map (λ (one : MessageRun). one.message) messages ≡ take l.message-index l.message-items;
  replies : l.room.items ≡ Welcome l.classes l.session.desk ∷ map message_reply messages;
  talk : Conversation (e.listed (e.about l.fn.respondent)) (r.desk (e.about l.fn.respondent)) (e.seen l.fn.respondent) (e.seen l.respondent) (message_exchanges messages);
  same : e.about l.respondent ≡ e.about l.fn.respondent;
  room : length l.message-items + 1 ≤ vec_capacity l.room;
}
