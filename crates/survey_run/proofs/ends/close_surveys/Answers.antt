use Rattle.std.proofs.Common.{◌≡◌, ◌+◌, ◌∙◌, ◌++◌, ◌∷◌, [], ℕ, ap, refl, length, length-append, rules, arith, subst, sym}
use Rattle.std.specs.Prelude.{vec_len}
use Rattle.std.specs.Vec.Iter.{into_iter_items}
use Rattle.survey_run.specs.Ends.{EndAt}
use Rattle.survey_run.specs.Joins.{SpokenAt}
use Rattle.survey_run.specs.Tops.{HasTop, LosesTop}
use Rattle.survey_run.proofs.ChangeLemmas.{each_became, each_map, stack_top}
use Rattle.survey_run.proofs.EachLemmas.{zip_length, zip_push}
use Rattle.survey_run.proofs.GatherLemmas.{WorkedFrom, worked_all, worked_rest, worked_top}
use Rattle.survey_run.proofs.ends.close_surveys.Goals as goal

pub loop-survey-init : goal.loop-survey-init
loop-survey-init c =
    let none : vec_len c.args.ends ≡ 0 = search rules in
    let all : into_iter_items c.into_iter-survey-iterator.result ≡ c.args.surveys.items = search rules in
    record {
      count = search rules;
      room = search rules;
      workers = refl;
      worked = rw (none, all) (worked_all c.args.surveys.items 0 c.args.worked.items c.requires.worked);
      closed = λ criteria sessions stack. (rw (none, all) stack, [], sym none, rw c.requires.room.0 tt);
    }

pub unreachable-requires : goal.unreachable-requires
unreachable-requires c =
    let given = c.requires.spoken in
    let stack = rw c.in-Some.ensures.steps.0 at (c.loop-survey.invariant.closed given.0 given.1 given.2).0 in
    let none : length c.loop-survey.spoken.items ≡ 0 = search rules in
    omega (arith, none, ap {B = ℕ} length stack.2, length-append stack.0 (stack.1 ∷ []))

pub close_survey-requires-clause-spoken : goal.close_survey-requires-clause-spoken
close_survey-requires-clause-spoken c =
    let inv = c.loop-survey.invariant in
    let given = c.requires.spoken in
    let m = vec_len c.loop-survey.ends in
    let stack = rw c.in-Some.ensures.steps.0 at (inv.closed given.0 given.1 given.2).0 in
    let front = stack_top (SpokenAt given.0 (vec_len c.args.worked) given.1) m c.in-Some.survey (into_iter_items c.next.new.self) c.loop-survey.spoken.items c.pop.new.self.items c.in-Some-pop.one stack c.in-Some-pop.ensures.items in
    (given.0, m, given.1, subst (λ (w : ℕ). SpokenAt given.0 w given.1 m c.in-Some.survey c.in-Some-pop.one) (sym inv.workers) front.0)

pub close_survey-requires-clause-tops : goal.close_survey-requires-clause-tops
close_survey-requires-clause-tops c =
    let inv = c.loop-survey.invariant in
    let m = vec_len c.loop-survey.ends in
    let each = rw c.in-Some.ensures.steps.0 at inv.worked in
    each_map (WorkedFrom m (c.in-Some.survey ∷ into_iter_items c.next.new.self)) (HasTop c.in-Some.survey) 0 c.loop-survey.worked.items (λ n passes. worked_top m c.in-Some.survey (into_iter_items c.next.new.self) n passes) each

pub loop-survey-preserved : goal.loop-survey-preserved
loop-survey-preserved c =
    let inv = c.loop-survey.invariant in
    let m = vec_len c.loop-survey.ends in
    let w = vec_len c.args.worked in
    let survey = c.in-Some.survey in
    let rest = into_iter_items c.next.new.self in
    let old = c.loop-survey.worked in
    let new = c.close_survey.new.worked in
    let lost = c.in_ok-close_survey.ensures.lost in
    let same = zip_length LosesTop 0 old.items new.items lost in
    let a : vec_len old ≡ length old.items = search rules in
    let b : vec_len new ≡ length new.items = search rules in
    let each = rw c.in-Some.ensures.steps.0 at inv.worked in
    record {
      count = omega (arith, inv.count, c.in-Some.ensures.steps.1, c.push_reserved.ensures.len);
      room = omega (arith, inv.room, c.in-Some.ensures.steps.1, c.push_reserved.ensures.len, c.push_reserved.ensures.capacity);
      workers = omega (arith, inv.workers, same, a, b);
      worked = rw c.push_reserved.ensures.len (each_became (WorkedFrom m (survey ∷ rest)) (WorkedFrom (m + 1) rest) LosesTop 0 old.items new.items
          (λ k x y p l. worked_rest m survey rest k x y p l) each lost);
      closed = λ criteria sessions stack.
          let was = inv.closed criteria sessions stack in
          let front = stack_top (SpokenAt criteria w sessions) m survey rest c.loop-survey.spoken.items c.pop.new.self.items c.in-Some-pop.one (rw c.in-Some.ensures.steps.0 at was.0) c.in-Some-pop.ensures.items in
          let ended = c.in_ok-close_survey.ensures.end criteria m sessions (subst (λ (k : ℕ). SpokenAt criteria k sessions m survey c.in-Some-pop.one) (sym inv.workers) front.0) in
          let place : 0 + length was.1 ≡ m = omega (arith, was.2) in (
            rw c.push_reserved.ensures.len front.1,
            was.1 ++ ended.0 ∷ [],
            rw c.push_reserved.ensures.len (length-append was.1 (ended.0 ∷ []) ∙ ap {B = ℕ} (λ k. k + 1) was.2),
            rw c.push_reserved.ensures.items (zip_push (EndAt criteria w sessions) 0 m was.1 c.loop-survey.ends.items ended.0 c.in_ok-close_survey.field-0 place was.3
                (subst (λ (k : ℕ). EndAt criteria k sessions m ended.0 c.in_ok-close_survey.field-0) inv.workers ended.1)),
          );
    }
