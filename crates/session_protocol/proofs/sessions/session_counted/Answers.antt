use Rattle.std.proofs.Common.{◌∙◌, refl, arith}
use Rattle.edges.specs.Lines.{ahead}
use Rattle.session_protocol.proofs.SessionLemmas.{goes_nowhere, goes_further, ends_then}
use Rattle.session_protocol.proofs.sessions.session_counted.Goals as goal

pub loop-count-init : goal.loop-count-init
loop-count-init g c =
    let listed = g.R.Events.listed (g.R.Events.about c.args.respondent.now) in
    let desk = g.R.Respondent.desk (g.R.Events.about c.args.respondent.now) in
    record {
      goes = goes_nowhere listed desk _ _ _;
      quiet_source = refl;
      quiet_sink = refl;
      limits = record { longest = refl; reserved = refl };
      emptied = c.requires.empty;
      room = refl;
      same = refl;
    }

pub returns-in-Err-clause-session : goal.returns-in-Err-clause-session
returns-in-Err-clause-session g c =
    let listed = g.R.Events.listed (g.R.Events.about c.args.respondent.now) in
    let desk = g.R.Respondent.desk (g.R.Events.about c.args.respondent.now) in
    rw c.counted.ensures
    (ends_then listed desk _ _ _ _ 1 65536 c.in-Err.ended.end c.in-Err.ended.replies _ c.loop-count.invariant.goes
    (rw c.loop-count.invariant.same at c.in-Err.ensures.ends)
    (omega (arith, c.loop-count-test.true)) (λ is. absurd (c.in-Err.ensures.more is)) refl)

pub returns-in-Err-clause-too_long : goal.returns-in-Err-clause-too_long
returns-in-Err-clause-too_long g c = rw c.counted.ensures c.in-Err.ensures.too_long

pub loop-count-preserved : goal.loop-count-preserved
loop-count-preserved g c =
    let listed = g.R.Events.listed (g.R.Events.about c.args.respondent.now) in
    let desk = g.R.Respondent.desk (g.R.Events.about c.args.respondent.now) in
    record {
      goes = goes_further listed desk _ _ _ _ 1 c.loop-count.invariant.goes (rw c.loop-count.invariant.same at c.in-Ok.ensures.goes);
      quiet_source = c.in-Ok.ensures.quiet_source ∙ c.loop-count.invariant.quiet_source;
      quiet_sink = c.in-Ok.ensures.quiet_sink ∙ c.loop-count.invariant.quiet_sink;
      limits = record {
        longest = c.answer_next.ensures.limits.longest ∙ c.loop-count.invariant.limits.longest;
        reserved = c.answer_next.ensures.limits.reserved ∙ c.loop-count.invariant.limits.reserved;
      };
      emptied = c.answer_next.ensures.emptied;
      room = c.answer_next.ensures.room ∙ c.loop-count.invariant.room;
      same = c.answer_next.ensures.same ∙ c.loop-count.invariant.same;
    }

pub returns-clause-session : goal.returns-clause-session
returns-clause-session g c =
    let listed = g.R.Events.listed (g.R.Events.about c.args.respondent.now) in
    let desk = g.R.Respondent.desk (g.R.Events.about c.args.respondent.now) in
    rw c.counted-2.ensures
    (ends_then listed desk _ _ _ _ 0 65536 c.refuse-end.result 0 65536 c.loop-count.invariant.goes
    (rw c.loop-count.invariant.same at (c.refuse-end.ensures.session desk 0 (ahead c.loop-count.lines (g.S.Source.left c.loop-count.source))
    ((λ k one less. absurd (omega arith)), refl)))
    (omega (arith, c.loop-count-test.false)) (λ is. omega (arith, c.loop-count-test.false)) (omega (arith, c.loop-count-test.false)))
