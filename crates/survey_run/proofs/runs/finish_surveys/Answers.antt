use Rattle.std.proofs.Common.{◌≡◌, ◌+◌, List, [], ◌∷◌, ◌++◌, length, sym, subst, rules, arith}
use Rattle.std.specs.Prelude.{vec_len}
use Rattle.std.specs.List.{AllByRecursion}
use Rattle.survey_run.specs.declared.runs.SurveyRunning.{SurveyRunning}
use Rattle.survey_run.specs.declared.runs.SurveySpoken.{SurveySpoken}
use Rattle.survey_run.specs.Joins.{HasRoomFor, RunningAt, SpokenAt}
use Rattle.survey_run.proofs.EachLemmas.{IsPartStacked, all_stacked, one_more_stacked, pop_length}
use Rattle.survey_run.proofs.PlanLemmas.{each_front}
use Rattle.survey_run.proofs.runs.finish_surveys.Goals as goal

pub loop-one-preserved : goal.loop-one-preserved
loop-one-preserved g c =
    let inv = c.loop-one.invariant in
    let one = c.in-Some.one in
    let old = c.loop-one.running in
    let new = c.pop.new.self in
    let items : old.items ≡ new.items ++ one ∷ [] = c.in-Some.ensures.items in
    let shorter = pop_length old.items new.items one items in
    let a : vec_len old ≡ length old.items = search rules in
    let b : vec_len new ≡ length new.items = search rules in
    record {
      stacked = λ criteria workers surveys sessions each.
          subst (λ (spoken : List SurveySpoken). IsPartStacked (RunningAt criteria workers sessions) (SpokenAt criteria workers sessions) surveys new.items spoken) (sym c.push_reserved.ensures.items)
          (one_more_stacked (RunningAt criteria workers sessions) (SpokenAt criteria workers sessions) surveys new.items c.loop-one.spoken.items one c.finish_survey.result
          (λ n survey at. record { survey_is = at.survey_is; spoken_is = c.finish_survey.ensures survey (n + 1) sessions at.running_is })
          (subst (λ (left : List SurveyRunning). IsPartStacked (RunningAt criteria workers sessions) (SpokenAt criteria workers sessions) surveys left c.loop-one.spoken.items) items
          (inv.stacked criteria workers surveys sessions each)));
      room = omega (arith, inv.room, shorter, a, b, c.push_reserved.ensures.len, c.push_reserved.ensures.capacity);
      rooms = each_front HasRoomFor new.items (one ∷ []) (subst (λ (left : List SurveyRunning). AllByRecursion HasRoomFor left) items inv.rooms);
    }

pub returns : goal.returns
returns g c =
    let none : c.loop-one.running.items ≡ [] = search rules in
    λ criteria workers surveys sessions each. all_stacked (RunningAt criteria workers sessions) (SpokenAt criteria workers sessions) surveys c.loop-one.running.items c.loop-one.spoken.items
    none (c.loop-one.invariant.stacked criteria workers surveys sessions each)
