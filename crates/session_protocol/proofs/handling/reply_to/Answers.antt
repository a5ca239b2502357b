use Rattle.std.proofs.Common.{Some, refl}
use Rattle.json_forms.specs.declared.messages.Message.TheVariants as message
use Rattle.survey_replies.specs.Outcomes as outcome
use Rattle.session_protocol.proofs.ExchangeLemmas.{answered, answered_by_look}
use Rattle.session_protocol.proofs.handling.reply_to.Goals as goal

pub returns-in-Hello-clause-answered : goal.returns-in-Hello-clause-answered
returns-in-Hello-clause-answered g c =
    let listed = g.R.Events.listed (g.R.Events.about c.args.respondent.now) in
    let desk = g.R.Respondent.desk (g.R.Events.about c.args.respondent.now) in
    let before = g.R.Events.seen c.args.respondent.now in
    rw c.in-Hello.is (answered_by_look listed desk before (Some (message.Hello c.in-Hello.field-0)) refl)

pub returns-in-Next-clause-answered : goal.returns-in-Next-clause-answered
returns-in-Next-clause-answered g c =
    let listed = g.R.Events.listed (g.R.Events.about c.args.respondent.now) in
    let desk = g.R.Respondent.desk (g.R.Events.about c.args.respondent.now) in
    let before = g.R.Events.seen c.args.respondent.now in
    rw c.in-Next.is (answered listed desk before _ (Some message.Next) (outcome.next c.next.result) c.next.ensures.call)

pub returns-in-Answer-clause-answered : goal.returns-in-Answer-clause-answered
returns-in-Answer-clause-answered g c =
    let listed = g.R.Events.listed (g.R.Events.about c.args.respondent.now) in
    let desk = g.R.Respondent.desk (g.R.Events.about c.args.respondent.now) in
    let before = g.R.Events.seen c.args.respondent.now in
    rw c.in-Answer.is (answered listed desk before _ (Some (message.Answer c.in-Answer.question c.in-Answer.side)) (outcome.answer c.answer.result) c.answer.ensures.call)

pub returns-in-Values-clause-answered : goal.returns-in-Values-clause-answered
returns-in-Values-clause-answered g c =
    let listed = g.R.Events.listed (g.R.Events.about c.args.respondent.now) in
    let desk = g.R.Respondent.desk (g.R.Events.about c.args.respondent.now) in
    let before = g.R.Events.seen c.args.respondent.now in
    rw c.in-Values.is (answered listed desk before _ (Some message.Values) (outcome.values c.values.result) c.values.ensures.call)

pub returns-in_ok-withdraw-in-Withdraw-clause-answered : goal.returns-in_ok-withdraw-in-Withdraw-clause-answered
returns-in_ok-withdraw-in-Withdraw-clause-answered g c =
    let listed = g.R.Events.listed (g.R.Events.about c.args.respondent.now) in
    let desk = g.R.Respondent.desk (g.R.Events.about c.args.respondent.now) in
    let before = g.R.Events.seen c.args.respondent.now in
    rw c.in-Withdraw.is (answered listed desk before _ (Some message.Withdraw) (outcome.withdraw c.in_ok-withdraw-in-Withdraw.field-0) c.in_ok-withdraw-in-Withdraw.ensures.call)

pub returns-in-Result-clause-answered : goal.returns-in-Result-clause-answered
returns-in-Result-clause-answered g c =
    let listed = g.R.Events.listed (g.R.Events.about c.args.respondent.now) in
    let desk = g.R.Respondent.desk (g.R.Events.about c.args.respondent.now) in
    let before = g.R.Events.seen c.args.respondent.now in
    rw (c.in-Result.is, c.length.ensures.value) (answered_by_look listed desk before (Some message.Result) refl)

pub returns-in-Bye-clause-answered : goal.returns-in-Bye-clause-answered
returns-in-Bye-clause-answered g c =
    let listed = g.R.Events.listed (g.R.Events.about c.args.respondent.now) in
    let desk = g.R.Respondent.desk (g.R.Events.about c.args.respondent.now) in
    let before = g.R.Events.seen c.args.respondent.now in
    rw c.in-Bye.is (answered_by_look listed desk before (Some message.Bye) refl)
