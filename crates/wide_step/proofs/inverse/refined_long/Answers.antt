use Rattle.std.proofs.Common.{◌≡◌, ◌∙◌, ◌+◌, ◌-◌, ◌*◌, ◌%◌, ◌<◌, ◌^◌, ℤ, pos, ◌-ℤ◌, ◌*ℤ◌, to_z, of_z, FitsSigned, ap, arith}
use Rattle.std.proofs.lemmas.Int.{to_z-of_z, wrapping_mul_is, wrapping_mul-bits, wrapping_sub-bits}
use Rattle.std.proofs.Math.Facts.{Fits-of_z}
use Rattle.std.specs.Int.{w128, int_wrap}
use Rattle.wide_step.proofs.Inverses.{round_is, round_squares}
use Rattle.wide_step.proofs.inverse.refined_long.Goals as goal

bits_fit : (z : ℤ) → FitsSigned w128 z → of_z w128 z < 2 ^ 128
bits_fit z h = (Fits-of_z h).fits

pub returns : goal.returns
returns c modulus h =
    let odd = c.args.odd in
    let x = c.args.inverse in
    let p = (of_z w128 odd * of_z w128 x) % 2 ^ 128 in
    let t = (2 + (2 ^ 128 - p)) % 2 ^ 128 in
    let product : to_z w128 p ≡ int_wrap w128 (odd *ℤ x) = wrapping_mul_is w128 odd x c.ranges.odd c.ranges.inverse in
    let two_less : to_z w128 t ≡ int_wrap w128 (pos 2 -ℤ int_wrap w128 (odd *ℤ x)) =
    wrapping_sub-bits w128 2 p (omega arith) (omega arith) ∙ ap (λ (z : ℤ). int_wrap w128 (pos 2 -ℤ z)) product in
    let is : to_z w128 ((of_z w128 x * t) % 2 ^ 128) ≡ int_wrap w128 (x *ℤ (pos 2 -ℤ odd *ℤ x)) =
    wrapping_mul-bits w128 (of_z w128 x) t (bits_fit x c.ranges.inverse) (omega arith)
    ∙ ap (λ (z : ℤ). int_wrap w128 (z *ℤ to_z w128 t)) (to_z-of_z w128 x c.ranges.inverse)
    ∙ ap (λ (z : ℤ). int_wrap w128 (x *ℤ z)) two_less
    ∙ round_is w128 odd x in
    round_squares w128 odd x _ modulus is h
