use Rattle.survey_state.proofs.StepLemmas.{eliminated_step, eliminated_grows}
use Rattle.survey_state.proofs.calls.act.Goals as goal

pub returns-in-None-clause-step : goal.returns-in-None-clause-step
returns-in-None-clause-step g c =
    eliminated_step g.C.Call.outcome_of (g.C.Call.desk c.args.call.now) (g.C.Call.request c.args.call.now) c.args.state.now c.rank.new.state c.args.snapshot.now
    c.args.found.now.place c.in-Ranked.verdict c.in-Ranked.combination c.in-None.ensures.same c.in-None.ensures.recorded c.seek_on.result
    c.requires.fresh.legal c.requires.fresh.copy c.seek_on.ensures

pub returns-in-None-clause-grows : goal.returns-in-None-clause-grows
returns-in-None-clause-grows g c =
    eliminated_grows g.C.Call.outcome_of (g.C.Call.desk c.args.call.now) (g.C.Call.request c.args.call.now) c.args.state.now c.rank.new.state c.args.snapshot.now
    c.args.found.now.place c.in-Ranked.verdict c.in-Ranked.combination c.in-None.ensures.same c.in-None.ensures.recorded c.seek_on.result
    c.seek_on.ensures
