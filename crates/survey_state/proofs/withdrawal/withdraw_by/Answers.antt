use Rattle.std.proofs.Common.{List, sym, subst, ◌∙◌}
use Rattle.pair_enumeration.specs.Listed.{Listed}
use Rattle.survey_core.specs.declared.events.Event.{Event}
use Rattle.survey_replies.specs.Requests as request
use Rattle.survey_replies.specs.Outcomes as outcome
use Rattle.survey_replies.specs.Calls.{Seen, TakesTurn, RepliesInTurn}
use Rattle.survey_state.proofs.StepLemmas.{ok_by, err_by, made_longer, one_turn, watches}
use Rattle.survey_state.proofs.withdrawal.withdraw_by.Goals as goal

pub finish-requires-clause-longer : goal.finish-requires-clause-longer
finish-requires-clause-longer g c = (
  c.begin-state.result.journal,
  c.begin-state.ensures.out,
  made_longer outcome.withdraw c.begin-state.result.listed c.args.desk c.begin-state.result.journal c.withdraw-reply.new.state.journal request.withdraw c.withdraw-reply.result
      c.withdraw-reply.ensures.replied c.withdraw-reply.ensures.quiet,
)

pub returns-clause-call : goal.returns-clause-call
returns-clause-call g c =
    let found : List Event = c.begin-state.result.journal in
    let after : Seen = g.A.Access.seen c.finish.new.self in
    ok_by c.withdraw-reply.result
    (λ reply replied.
    one_turn (g.A.Access.listed (g.A.Access.about c.args.access.now)) c.args.desk (g.A.Access.seen c.args.access.now) after found request.withdraw (outcome.withdraw reply)
    (subst (λ (s : Seen). TakesTurn s after found) c.begin-state.ensures.seen (c.finish.ensures.turn found c.begin-state.ensures.out))
    (subst (λ (l : Listed). RepliesInTurn l c.args.desk found after.journal request.withdraw (outcome.withdraw reply)) c.begin-state.ensures.listed
    (subst (λ (j : List Event). RepliesInTurn c.begin-state.result.listed c.args.desk found j request.withdraw (outcome.withdraw reply)) (sym c.finish.ensures.journal) replied)))
    c.withdraw-reply.ensures.replied

pub returns-clause-quiet : goal.returns-clause-quiet
returns-clause-quiet g c =
    let found : List Event = c.begin-state.result.journal in
    let after : Seen = g.A.Access.seen c.finish.new.self in
    err_by c.withdraw-reply.result
    (λ same.
    watches (g.A.Access.seen c.args.access.now) after found
    (subst (λ (s : Seen). TakesTurn s after found) c.begin-state.ensures.seen (c.finish.ensures.turn found c.begin-state.ensures.out))
    (c.finish.ensures.journal ∙ same))
    c.withdraw-reply.ensures.quiet
