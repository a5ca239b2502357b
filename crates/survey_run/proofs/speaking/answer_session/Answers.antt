use Rattle.std.proofs.Common.{◌≡◌, ◌∙◌, ◌+◌, ◌++◌, ◌∷◌, [], Some, Option, List, ap, sym, refl, rules, length, slice_get}
use Rattle.std.proofs.lemmas.Option.{slice_get_read}
use Rattle.json_forms.specs.declared.messages.Message.{Message}
use Rattle.json_forms.specs.declared.replies.Reply.TheVariants.{Welcome}
use Rattle.survey_replies.proofs.CallLemmas.{not_begun}
use Rattle.survey_run.specs.Sessions.{MessageRun}
use Rattle.survey_run.proofs.EachLemmas.{take_one_more}
use Rattle.survey_run.proofs.SayLemmas.{map_push, messages_more, replies_more}
use Rattle.survey_run.proofs.speaking.answer_session.Goals as goal

pub loop-message-init : goal.loop-message-init
loop-message-init g c = let a = g.R.Events.about c.args.respondent.now in record {
  messages = [];
  read = refl;
  replies = search rules;
  talk = not_begun (g.R.Events.listed a) (g.R.Respondent.desk a) (g.R.Events.seen c.args.respondent.now);
  same = refl;
  room = search rules;
}

pub loop-message-preserved : goal.loop-message-preserved
loop-message-preserved g c =
    let a = g.R.Events.about c.args.respondent.now in
    let listed = g.R.Events.listed a in
    let desk = g.R.Respondent.desk a in
    let inv = c.loop-message.invariant in
    let items = c.messages-message-items.result.now in
    let k = c.loop-message.message-index in
    let message = c.message-item.result in
    let at : slice_get items k ≡ Some message = slice_get_read items (length items) k message refl c.loop-message-test.true c.message-item.is in
    let answered = rw inv.same at c.in_ok-reply.ensures.answered in
    let last : MessageRun = record { message = message; came = answered.came } in
    record {
      messages = inv.messages ++ last ∷ [];
      read = map_push (λ (one : MessageRun). one.message) inv.messages last ∙ (ap (λ (xs : List (Option Message)). xs ++ message ∷ []) inv.read ∙ sym (take_one_more items k (k + 1) message refl at));
      replies = replies_more (Welcome c.args.classes c.args.session.now.desk) inv.messages message answered.came c.in_ok-reply.reply
          c.loop-message.room.items c.push_reserved-in-loop-message.new.self.items c.push_reserved-in-loop-message.ensures.items inv.replies answered.replied;
      talk = messages_more listed desk (g.R.Events.seen c.args.respondent.now) (g.R.Events.seen c.loop-message.respondent) (g.R.Events.seen c.handle_message.new.respondent)
          inv.messages message answered.came inv.talk answered.call;
      same = c.handle_message.ensures.same ∙ inv.same;
      room = search rules;
    }
