use Rattle.std.proofs.Common.{◌≡◌, ◌∷◌, ◌++◌, ℤ, pos, ◌≤ℤ◌, List, map, get_or, unsigned_abs, to_z, of_z, sym, subst, arith}
use mir.Syntax.{w128}
use Rattle.std.specs.Prelude.{All}
use Rattle.std.specs.Int.{◌∣◌}
use Rattle.farkas_check.specs.declared.cites.Cite.{Cite}
use Rattle.farkas_check.specs.Cited.{no_cite}
use Rattle.simplex.proofs.Sizes.{kept}
use Rattle.decider.specs.Combining.{IsGreatestDivisor}
use Rattle.decider.proofs.CommonDivisors.{DividesSoFar, divides_first, divides_next, divides_all}
use Rattle.decider.proofs.combination.divisor_of.Goals as goal

pub loop-cite-init : goal.loop-cite-init
loop-cite-init c =
    let scale : to_z w128 (of_z w128 c.args.scale) ≡ c.args.scale = kept c.args.scale (omega (arith, c.requires.size)) in
    subst (λ (n : ℤ). DividesSoFar n c.args.increments.now c.as_slice-weighted.result.now 0 (to_z w128 (of_z w128 c.gcd-divisor.result))) (sym scale)
    (subst (DividesSoFar c.args.scale c.args.increments.now c.as_slice-weighted.result.now 0) (sym (kept c.gcd-divisor.result c.gcd-divisor.ensures.size))
    (divides_first c.args.scale _ c.common_divisor.result _ c.gcd-divisor.result c.args.increments.now c.as_slice-weighted.result.now c.requires.positive
    (subst (λ (l : List ℤ). All (λ x. unsigned_abs c.common_divisor.result ∣ unsigned_abs x) l) c.as_slice.ensures.value c.common_divisor.ensures.divides)
    (λ d all. c.common_divisor.ensures.greatest d (subst (λ (l : List ℤ). All (λ x. d ∣ unsigned_abs x) l) (sym c.as_slice.ensures.value) all))
    scale (kept c.common_divisor.result c.common_divisor.ensures.size) c.gcd-divisor.ensures.greatest c.gcd-divisor.ensures.never_negative c.gcd-divisor.ensures.size))

pub loop-cite-preserved : goal.loop-cite-preserved
loop-cite-preserved c =
    let scale : to_z w128 (of_z w128 c.args.scale) ≡ c.args.scale = kept c.args.scale (omega (arith, c.requires.size)) in
    let small = (c.as_slice-weighted.ensures.range.each c.loop-cite.cite-index no_cite c.loop-cite-test.true).within in
    subst (DividesSoFar (to_z w128 (of_z w128 c.args.scale)) c.args.increments.now c.as_slice-weighted.result.now _)
    (sym (kept c.gcd-divisor-in-loop-cite.result c.gcd-divisor-in-loop-cite.ensures.size))
    (divides_next (to_z w128 (of_z w128 c.args.scale)) _ _ c.gcd-divisor-in-loop-cite.result c.args.increments.now c.as_slice-weighted.result.now c.loop-cite.cite-index c.loop-cite-test.true
    (kept (get_or c.as_slice-weighted.result.now c.loop-cite.cite-index no_cite).weight (omega arith))
    c.gcd-divisor-in-loop-cite.ensures.greatest c.gcd-divisor-in-loop-cite.ensures.never_negative c.gcd-divisor-in-loop-cite.ensures.size
    (subst (λ (n : ℤ). pos 1 ≤ℤ n) (sym scale) c.requires.positive) c.loop-cite.invariant)

pub returns : goal.returns
returns c =
    let scale : to_z w128 (of_z w128 c.args.scale) ≡ c.args.scale = kept c.args.scale (omega (arith, c.requires.size)) in
    subst (λ (l : List Cite). IsGreatestDivisor (c.args.scale ∷ c.args.increments.now ++ map (λ cite. cite.weight) l) (to_z w128 c.loop-cite.divisor-bits)) c.as_slice-weighted.ensures.value
    (divides_all c.args.scale (to_z w128 c.loop-cite.divisor-bits) c.args.increments.now c.as_slice-weighted.result.now c.loop-cite.cite-index c.loop-cite-test.false
    (subst (λ (n : ℤ). DividesSoFar n c.args.increments.now c.as_slice-weighted.result.now c.loop-cite.cite-index (to_z w128 c.loop-cite.divisor-bits)) scale c.loop-cite.invariant))
