use Rattle.std.proofs.Common.{IfSome, sym, subst}
use Rattle.pair_enumeration.specs.Listed.{Listed}
use Rattle.survey_replies.specs.Calls.{Seen, TakesTurn}
use Rattle.survey_state.specs.Findings.{IsFoundIn}
use Rattle.survey_state.proofs.FindingLemmas.{found_some}
use Rattle.survey_state.proofs.StepLemmas.{step_longer, step_turn, step_advances}
use Rattle.survey_state.proofs.calls.turn_by.Goals as goal

pub turn-step-requires-clause-found : goal.turn-step-requires-clause-found
turn-step-requires-clause-found g c =
    subst (λ (l : Listed). IfSome c.args.found.now (IsFoundIn l c.begin-state.result.journal (g.C.Call.request c.args.call.now) (g.C.Call.wanted c.args.call.now) c.args.tools.now.snapshot))
    (sym c.begin-state.ensures.listed)
    (found_some (g.A.Access.listed (g.A.Access.about c.args.access.now)) (g.A.Access.seen c.args.access.now).journal c.begin-state.result.journal
    (g.C.Call.request c.args.call.now) (g.C.Call.wanted c.args.call.now) c.args.tools.now.snapshot c.args.found.now c.begin-state.ensures.longer c.requires.found)

pub finish-requires-clause-longer : goal.finish-requires-clause-longer
finish-requires-clause-longer g c = (
  c.begin-state.result.journal,
  c.begin-state.ensures.out,
  step_longer g.C.Call.outcome_of (g.C.Call.desk c.args.call.now) (g.C.Call.request c.args.call.now) c.begin-state.result c.turn-step.new.state
      c.turn-step.new.snapshot c.turn-step.result c.turn-step.ensures.step,
)

pub returns-clause-turn : goal.returns-clause-turn
returns-clause-turn g c =
    step_turn g.C.Call.outcome_of (g.A.Access.listed (g.A.Access.about c.args.access.now)) (g.C.Call.desk c.args.call.now) (g.C.Call.request c.args.call.now)
    c.begin-state.result c.turn-step.new.state (g.A.Access.seen c.args.access.now) (g.A.Access.seen c.finish.new.self) c.turn-step.new.snapshot c.turn-step.result
    c.begin-state.ensures.listed c.finish.ensures.journal
    (subst (λ (s : Seen). TakesTurn s (g.A.Access.seen c.finish.new.self) c.begin-state.result.journal) c.begin-state.ensures.seen
    (c.finish.ensures.turn c.begin-state.result.journal c.begin-state.ensures.out)) c.turn-step.ensures.step

pub returns-clause-advances : goal.returns-clause-advances
returns-clause-advances g c =
    step_advances c.args.found.now c.begin-state.result.journal c.turn-step.new.state.journal (g.A.Access.seen c.args.access.now) (g.A.Access.seen c.finish.new.self)
    c.turn-step.result c.finish.ensures.journal
    (subst (λ (s : Seen). TakesTurn s (g.A.Access.seen c.finish.new.self) c.begin-state.result.journal) c.begin-state.ensures.seen
    (c.finish.ensures.turn c.begin-state.result.journal c.begin-state.ensures.out)) c.turn-step.ensures.advances
