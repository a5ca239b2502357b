use Rattle.std.proofs.Common.{◌≡◌, length, None}
use Rattle.survey_replies.specs.Calls.{Prepares}
use Rattle.survey_state.specs.Findings.{IsFoundNow, KeepsTools}
use Rattle.survey_state.proofs.StepLemmas.{turns_left}
use Rattle.survey_state.proofs.calls.call_by.Given as goal

abbrev pub invariant-loop-reply : goal.invariant-loop-reply
invariant-loop-reply g l = record {
  prepares : Prepares (g.C.Call.request l.call) (g.A.Access.seen l.fn.access) (g.A.Access.seen l.access);
  free : g.A.Access.out l.access ≡ None;
  same : g.A.Access.about l.access ≡ g.A.Access.about l.fn.access;
  rooms : KeepsTools l.fn.tools l.tools;
  found : IsFoundNow (g.A.Access.listed (g.A.Access.about l.fn.access)) (g.A.Access.seen l.access).journal (g.C.Call.request l.call) (g.C.Call.wanted l.call) l.tools.snapshot l.found;
}

abbrev pub decreases-loop-reply : goal.decreases-loop-reply
decreases-loop-reply g l = turns_left (length (g.A.Access.seen l.access).journal) l.found
