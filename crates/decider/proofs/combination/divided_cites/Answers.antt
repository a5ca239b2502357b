use Rattle.std.proofs.Common.{◌≡◌, ◌+◌, ℤ, pos, ◌≤ℤ◌, List, get_or, unsigned_abs, to_z, of_z, refl, sym, ap, subst, ◌∙◌}
use mir.Syntax.{w128}
use Rattle.std.specs.Prelude.{All}
use Rattle.std.specs.Int.{◌∣◌}
use Rattle.farkas_check.specs.declared.cites.Cite.{Cite}
use Rattle.farkas_check.specs.Cited.{IsCite, no_cite}
use Rattle.simplex.proofs.Sizes.{kept}
use Rattle.simplex.proofs.Quotients.{quotient_is}
use Rattle.decider.specs.Combining.{times_cites}
use Rattle.decider.proofs.CommonDivisors.{DividedSoFar, divided_none, divided_more, divided_all, are_divided}
use Rattle.decider.proofs.combination.divided_cites.Goals as goal

pub loop-cite-init : goal.loop-cite-init
loop-cite-init c = subst (DividedSoFar (to_z w128 (of_z w128 c.args.divisor)) c.as_slice-weighted.result.now 0) (sym c.none-list.ensures)
    (divided_none (to_z w128 (of_z w128 c.args.divisor)) c.as_slice-weighted.result.now)

pub loop-cite-preserved : goal.loop-cite-preserved
loop-cite-preserved c =
    let is : IsCite (get_or c.as_slice-weighted.result.now c.loop-cite.cite-index no_cite) = c.as_slice-weighted.ensures.range.each c.loop-cite.cite-index no_cite c.loop-cite-test.true in
    let divides : unsigned_abs c.args.divisor ∣ unsigned_abs (get_or c.as_slice-weighted.result.now c.loop-cite.cite-index no_cite).weight =
    subst (λ (l : List Cite). All (λ cite. unsigned_abs c.args.divisor ∣ unsigned_abs cite.weight) l)
    (sym c.as_slice-weighted.ensures.value) c.requires.divides c.loop-cite.cite-index no_cite c.loop-cite-test.true in
    subst (DividedSoFar (to_z w128 (of_z w128 c.args.divisor)) c.as_slice-weighted.result.now (c.loop-cite.cite-index + 1)) (sym c.add.ensures)
    (divided_more (to_z w128 (of_z w128 c.args.divisor)) _ c.as_slice-weighted.result.now c.loop-cite.list c.loop-cite.cite-index
    (get_or c.as_slice-weighted.result.now c.loop-cite.cite-index no_cite) c.loop-cite-test.true refl
    (quotient_is (get_or c.as_slice-weighted.result.now c.loop-cite.cite-index no_cite).weight c.args.divisor is.within c.requires.positive c.requires.size divides)
    is c.loop-cite.invariant)

pub cites-requires : goal.cites-requires
cites-requires c =
    let g : to_z w128 (of_z w128 c.args.divisor) ≡ c.args.divisor = kept c.args.divisor c.requires.size in
    are_divided (to_z w128 (of_z w128 c.args.divisor)) c.as_slice-weighted.result.now c.loop-cite.list (subst (λ (n : ℤ). pos 1 ≤ℤ n) (sym g) c.requires.positive)
    (divided_all (to_z w128 (of_z w128 c.args.divisor)) c.as_slice-weighted.result.now c.loop-cite.list c.loop-cite.cite-index c.loop-cite-test.false c.loop-cite.invariant)
    c.as_slice-weighted.ensures.range

pub returns : goal.returns
returns c =
    let g : to_z w128 (of_z w128 c.args.divisor) ≡ c.args.divisor = kept c.args.divisor c.requires.size in
    sym c.as_slice-weighted.ensures.value
    ∙ divided_all (to_z w128 (of_z w128 c.args.divisor)) c.as_slice-weighted.result.now c.loop-cite.list c.loop-cite.cite-index c.loop-cite-test.false c.loop-cite.invariant
    ∙ ap (λ (n : ℤ). times_cites n c.loop-cite.list) g ∙ ap (times_cites c.args.divisor) (sym c.cites.ensures)
