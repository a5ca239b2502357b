use Rattle.std.proofs.Common.{◌∙◌, subst, sym}
use Rattle.json_forms.specs.declared.replies.Reply.{Reply}
use Rattle.survey_replies.proofs.CallLemmas.{prefix_trans}
use Rattle.session_protocol.specs.Sessions.{CanBeWritten}
use Rattle.session_protocol.proofs.WritingLemmas.{texts_cut, texts_more}
use Rattle.session_protocol.proofs.writing.write_texts.Goals as goal

pub returns-in-Err-clause-prefix : goal.returns-in-Err-clause-prefix
returns-in-Err-clause-prefix g c =
    let listed = g.E.Events.listed (g.E.Events.about c.args.events.now) in
    let journal = (g.E.Events.seen c.args.events.now).journal in
    texts_cut listed journal _ c.args.replies.now c.loop-reply.reply-index c.reply-item.result c.loop-reply-test.true c.reply-item.is c.loop-reply.invariant.watches.longer
    (subst (λ (r : Reply). CanBeWritten listed journal r) (sym c.reply-item.is) (c.requires.each c.loop-reply.reply-index c.reply-item.result c.loop-reply-test.true))
    _ _ _ c.loop-reply.invariant.out (rw c.loop-reply.invariant.same at c.in-Err.ensures.prefix)

pub loop-reply-preserved : goal.loop-reply-preserved
loop-reply-preserved g c =
    let listed = g.E.Events.listed (g.E.Events.about c.args.events.now) in
    let journal = (g.E.Events.seen c.args.events.now).journal in
    record {
      out = texts_more listed journal _ c.args.replies.now c.loop-reply.reply-index c.reply-item.result c.loop-reply-test.true c.reply-item.is c.loop-reply.invariant.watches.longer
          (subst (λ (r : Reply). CanBeWritten listed journal r) (sym c.reply-item.is) (c.requires.each c.loop-reply.reply-index c.reply-item.result c.loop-reply-test.true))
          _ _ _ c.loop-reply.invariant.out (rw c.loop-reply.invariant.same at c.in-Ok.ensures.written);
      quiet = c.in-Ok.ensures.quiet ∙ c.loop-reply.invariant.quiet;
      emptied = c.write_text.ensures.emptied;
      room = c.write_text.ensures.room ∙ c.loop-reply.invariant.room;
      watches = record {
        longer = prefix_trans _ _ _ c.loop-reply.invariant.watches.longer c.write_text.ensures.watches.longer;
        own = c.write_text.ensures.watches.own ∙ c.loop-reply.invariant.watches.own;
      };
      same = c.write_text.ensures.same ∙ c.loop-reply.invariant.same;
    }
