use Rattle.std.proofs.Common.{◌≡◌, ◌∙◌, sym, ap, ap₂, subst, length, length-set, take, arith, ◌++◌, ◌∷◌, []}
use Rattle.std.proofs.lemmas.List.{take_more_set, take_more, take_all}
use Rattle.criteria_model.specs.Lists.{IsTuple}
use Rattle.pair_enumeration.specs.Places.{cancelled}
use Rattle.pair_enumeration.proofs.PlaceLemmas.{length-cancelled, get_or-cancelled, cancelled-fits}
use Rattle.pair_enumeration.proofs.search.cancel.Goals as goal

pub loop-place-preserved : goal.loop-place-preserved
loop-place-preserved c =
    let same : length c.as_slice-levels.result.now ≡ length c.as_slice-others.result.now = ap length c.as_slice-levels.ensures.value ∙ c.requires ∙ sym (ap length c.as_slice-others.ensures.value) in
    let most = c.as_slice-levels.ensures.range.most in
    let len = length-cancelled c.as_slice-levels.result.now c.as_slice-others.result.now same in
    let e = take_more_set c.loop-place.cells c.loop-place.place c.unless_equal.result (omega (arith, most)) in
    let f = take_more (cancelled c.as_slice-levels.result.now c.as_slice-others.result.now) c.loop-place.place 0 (omega (arith, len)) in
    let g = get_or-cancelled c.as_slice-levels.result.now c.as_slice-others.result.now c.loop-place.place same (omega arith) in
    record {
      len = simp length-set c.loop-place.invariant.len;
      same = e ∙ ap₂ (λ xs x. xs ++ x ∷ []) c.loop-place.invariant.same (c.unless_equal.ensures.value ∙ sym g) ∙ sym f;
    }

pub of-requires : goal.of-requires
of-requires c =
    let same : length c.as_slice-levels.result.now ≡ length c.as_slice-others.result.now = ap length c.as_slice-levels.ensures.value ∙ c.requires ∙ sym (ap length c.as_slice-others.ensures.value) in
    let e : c.loop-place.place ≡ length c.as_slice-levels.result.now = omega arith in
    let all = take_all c.loop-place.place (cancelled c.as_slice-levels.result.now c.as_slice-others.result.now) (omega (arith, length-cancelled c.as_slice-levels.result.now c.as_slice-others.result.now same)) in
    subst IsTuple (sym (ap (λ n. take n c.loop-place.cells) (sym e) ∙ c.loop-place.invariant.same ∙ all))
    (cancelled-fits c.as_slice-levels.result.now c.as_slice-others.result.now same c.as_slice-levels.ensures.range)

pub returns : goal.returns
returns c =
    let same : length c.as_slice-levels.result.now ≡ length c.as_slice-others.result.now = ap length c.as_slice-levels.ensures.value ∙ c.requires ∙ sym (ap length c.as_slice-others.ensures.value) in
    let e : c.loop-place.place ≡ length c.as_slice-levels.result.now = omega arith in
    let all = take_all c.loop-place.place (cancelled c.as_slice-levels.result.now c.as_slice-others.result.now) (omega (arith, length-cancelled c.as_slice-levels.result.now c.as_slice-others.result.now same)) in
    c.of.ensures ∙ ap (λ n. take n c.loop-place.cells) (sym e) ∙ c.loop-place.invariant.same ∙ all ∙ ap₂ cancelled c.as_slice-levels.ensures.value c.as_slice-others.ensures.value
