use Rattle.std.proofs.Common.{◌≡◌, ◌+◌, ◌<◌, ◌≤◌, [], ◌∷◌, ◌++◌, length, sym, subst, rules, arith}
use Rattle.std.specs.Prelude.{vec_len}
use Rattle.std.specs.Global.{Vec}
use Rattle.shared_survey.specs.declared.pass.Pass.{Pass}
use Rattle.shared_survey.specs.Passes.{pass_seen, survey_listed}
use Rattle.survey_run.specs.Tops.{HasTop, LosesTop}
use Rattle.survey_run.proofs.ChangeLemmas.{changed_length, next_left, none_changed, one_more_changed}
use Rattle.survey_run.proofs.GatherLemmas.{gathers_worker, no_workers, top_worked}
use Rattle.survey_run.proofs.ends.join_workers.Goals as goal

pub join_top-requires-clause-top : goal.join_top-requires-clause-top
join_top-requires-clause-top c =
    let inv = c.loop-passes.invariant in
    let i = c.loop-passes.passes-index in
    let items = c.loop-passes.passes-items in
    let less : i < length items = search rules in (
      i,
      subst (λ (passes : Vec Pass). HasTop c.args.survey.now i passes) c.passes-item.is
          (next_left LosesTop (HasTop c.args.survey.now) i c.args.worked.now.items items c.passes-item.result inv.tops less c.passes-item.is),
    )

pub loop-passes-init : goal.loop-passes-init
loop-passes-init c =
    let survey = c.args.survey.now in
    let whole = c.args.worked.now in
    let same : c.deref_mut-passes-items.result.now ≡ whole.items = search rules in
    record {
      pass = search rules;
      tops = rw same (none_changed LosesTop (HasTop survey) whole.items c.requires.tops);
      gathered = λ respondent sessions parts told gathers.
          no_workers (survey_listed survey) respondent sessions (pass_seen c.args.whole.now) (vec_len whole) parts told gathers;
    }

pub loop-passes-preserved : goal.loop-passes-preserved
loop-passes-preserved c =
    let inv = c.loop-passes.invariant in
    let survey = c.args.survey.now in
    let i = c.loop-passes.passes-index in
    let items = c.loop-passes.passes-items in
    let old = c.passes-item.result in
    let less : i < length items = search rules in
    let has = next_left LosesTop (HasTop survey) i c.args.worked.now.items items old inv.tops less c.passes-item.is in
    let top = c.join_top.ensures.top in
    let was = subst (λ (passes : Vec Pass). passes.items ≡ c.join_top.new.passes.items ++ top.0 ∷ []) (sym c.passes-item.is) top.1 in
    let worked = top_worked survey i old c.join_top.new.passes.items top.0 has was in
    let weight = worked.weight in
    let same = changed_length LosesTop (HasTop survey) i c.args.worked.now.items items inv.tops in
    let long : vec_len c.args.worked.now ≡ length c.args.worked.now.items = search rules in
    let low : 1 ≤ i + 1 = omega arith in
    let high : i + 1 ≤ vec_len c.args.worked.now = omega (arith, less, same, long) in
    record {
      pass = (top.2, omega (arith, inv.pass.1, top.3, weight));
      tops = one_more_changed LosesTop (HasTop survey) i c.args.worked.now.items items old c.join_top.new.passes inv.tops less c.passes-item.is (top.0, was);
      gathered = λ respondent sessions parts told gathers.
          gathers_worker (survey_listed survey) respondent sessions (vec_len c.args.worked.now) (i + 1) (pass_seen c.loop-passes.whole) (pass_seen c.join_top.new.whole) (pass_seen top.0)
          parts told low high worked.made top.4 top.5 top.6 (inv.gathered respondent sessions parts told gathers);
    }
