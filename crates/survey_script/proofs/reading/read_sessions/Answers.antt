use Rattle.std.proofs.Common.{rules, ◌∙◌}
use Rattle.survey_script.proofs.FaultLemmas.{cut_at_piece}
use Rattle.survey_script.proofs.StepLemmas.{goes_to_end, goes_to_next, goes_to_stop}
use Rattle.survey_script.proofs.reading.read_sessions.Goals as goal

pub returns-in_err-read_next-clause-read : goal.returns-in_err-read_next-clause-read
returns-in_err-read_next-clause-read g c =
    let stops = goes_to_stop c.args.definition.now c.loop-sessions.number c.loop-sessions.sessions c.in_err-read_next.field-0.0 _ _ c.loop-sessions.invariant.goes c.in_err-read_next.ensures.failed in
    search (rules, stops)

pub returns-in_err-read_next-clause-first : goal.returns-in_err-read_next-clause-first
returns-in_err-read_next-clause-first g c =
    let cut = cut_at_piece c.args.definition.now c.loop-sessions.number c.loop-sessions.sessions c.in_err-read_next.field-0.0 _ _ _ c.loop-sessions.invariant.goes c.in_err-read_next.ensures.first in
    search (rules, cut)

pub returns-then-not-branch-clause-read : goal.returns-then-not-branch-clause-read
returns-then-not-branch-clause-read g c =
    rw c.into_ended.ensures
    (goes_to_end c.args.definition.now c.loop-sessions.number c.loop-sessions.sessions c.read_next.new.sessions.ended _ _ c.loop-sessions.invariant.goes
    (c.in_ok-read_next.ensures.end (search rules)))

pub loop-sessions-preserved : goal.loop-sessions-preserved
loop-sessions-preserved g c = record {
  longest = c.read_next.ensures.longest ∙ c.loop-sessions.invariant.longest;
  within = c.in_ok-read_next.ensures.within (search rules) c.loop-sessions.invariant.within;
  goes = goes_to_next c.args.definition.now c.loop-sessions.number c.loop-sessions.sessions c.read_next.new.sessions _ _ _ c.loop-sessions.invariant.goes
      (c.in_ok-read_next.ensures.more (search rules));
  quiet = c.in_ok-read_next.ensures.quiet ∙ c.loop-sessions.invariant.quiet;
}
