use Rattle.std.proofs.Common.{Option, IfSome, subst}
use Rattle.survey_state.specs.declared.findings.Found.{Found}
use Rattle.survey_state.specs.Findings.{IsFoundIn}
use Rattle.survey_state.proofs.calls.fresh.Goals as goal

pub returns-then-is_fresh : goal.returns-then-is_fresh
returns-then-is_fresh c asked side sought found =
    let is : IsFoundIn c.args.state.now.listed c.args.state.now.journal asked side c.args.snapshot.now c.in-Some.one =
    subst (λ (o : Option Found). IfSome o (IsFoundIn c.args.state.now.listed c.args.state.now.journal asked side c.args.snapshot.now)) c.in-Some.is found in
    record { fresh = c.is_fresh.ensures.fresh asked side c.if-is_fresh.true sought is; finding = is.finding; within = is.within }
