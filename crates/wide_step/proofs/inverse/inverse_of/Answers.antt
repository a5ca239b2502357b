use Rattle.std.proofs.Common.{◌≡◌, ◌*◌, ◌^◌, ℕ, ℤ, pos, to_z, of_z, FitsSigned, subst, sym, arith}
use Rattle.std.proofs.lemmas.Int.{to_z-of_z}
use Rattle.std.specs.Int.{w64}
use Rattle.wide_step.specs.Inverse.{IsInverseUpTo}
use Rattle.wide_step.proofs.Inverses.{odd_up_to, bits_double, short_turn, inverse_is}
use Rattle.wide_step.proofs.inverse.inverse_of.Goals as goal

pub loop-init : goal.loop-init
loop-init c = subst (λ (odd : ℤ). IsInverseUpTo w64 odd (pos 1) 2) (sym (to_z-of_z w64 c.args.odd c.ranges.odd)) (odd_up_to c.args.odd c.requires)

pub loop-preserved : goal.loop-preserved
loop-preserved c =
    let odd = to_z w64 (of_z w64 c.args.odd) in
    let new = c.refined-inverse.result in
    let modulus = 2 ^ 2 ^ c.loop.counter in
    let fits : FitsSigned w64 new = record { sfits = c.refined-inverse.type_inv } in
    subst (λ (n : ℕ). IsInverseUpTo w64 odd (to_z w64 (of_z w64 new)) n) (bits_double c.loop.counter)
    (subst (λ (z : ℤ). IsInverseUpTo w64 odd z (modulus * modulus)) (sym (to_z-of_z w64 new fits)) (c.refined-inverse.ensures modulus c.loop.invariant))

pub returns : goal.returns
returns c =
    let inverse = to_z w64 c.loop.inverse-bits in
    let rounds : c.loop.counter ≡ 6 = omega arith in
    inverse_is w64 c.args.odd inverse short_turn (omega arith)
    (subst (λ (odd : ℤ). IsInverseUpTo w64 odd inverse (2 ^ 64)) (to_z-of_z w64 c.args.odd c.ranges.odd)
    (subst (λ (k : ℕ). IsInverseUpTo w64 (to_z w64 (of_z w64 c.args.odd)) inverse (2 ^ 2 ^ k)) rounds c.loop.invariant))
