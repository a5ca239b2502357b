use Rattle.std.proofs.Common.{◌≡◌, ◌+◌, ◌-◌, ◌∙◌, sym, ap, subst, length-set, take, arith}
use Rattle.std.proofs.lemmas.List.{take_more_set, take_more, take_all}
use Rattle.std.proofs.lemmas.Option.{get_or_from_slice_get}
use Rattle.criteria_model.specs.Lists.{IsTuple}
use Rattle.pair_enumeration.proofs.ListLemmas.{model_levels_fit}
use Rattle.pair_enumeration.proofs.classes.level_counts.Goals as goal

pub bounds-counts-place : goal.bounds-counts-place
bounds-counts-place c = omega (arith, (model_levels_fit c.args.model.now c.criteria.ensures.model).most)

pub loop-place-preserved : goal.loop-place-preserved
loop-place-preserved c =
    let fit = model_levels_fit c.args.model.now c.criteria.ensures.model in
    let k : c.loop-place.place + 1 - 1 ≡ c.loop-place.place = omega arith in
    let level = rw k at c.levels.ensures.value in
    let is = get_or_from_slice_get c.args.model.now.levels c.loop-place.place c.levels.result 0 level in
    let e = take_more_set c.loop-place.counts c.loop-place.place c.levels.result (omega (arith, fit.most)) in
    let f = take_more c.args.model.now.levels c.loop-place.place 0 (omega arith) in
    record { len = simp length-set c.loop-place.invariant.len; same = cc }

pub of-requires : goal.of-requires
of-requires c =
    let fit = model_levels_fit c.args.model.now c.criteria.ensures.model in
    let e : c.loop-place.place ≡ c.from-count.result = omega arith in
    let all = take_all c.loop-place.place c.args.model.now.levels (omega arith) in
    subst IsTuple (sym (ap (λ n. take n c.loop-place.counts) (sym e) ∙ c.loop-place.invariant.same ∙ all)) fit

pub returns : goal.returns
returns c =
    let e : c.loop-place.place ≡ c.from-count.result = omega arith in
    let all = take_all c.loop-place.place c.args.model.now.levels (omega arith) in
    c.of.ensures ∙ ap (λ n. take n c.loop-place.counts) (sym e) ∙ c.loop-place.invariant.same ∙ all
