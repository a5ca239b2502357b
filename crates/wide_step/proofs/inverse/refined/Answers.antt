use Rattle.std.proofs.Common.{◌≡◌, ◌∙◌, ◌+◌, ◌-◌, ◌*◌, ◌%◌, ◌<◌, ◌^◌, ℤ, pos, ◌-ℤ◌, ◌*ℤ◌, to_z, of_z, FitsSigned, ap, arith}
use Rattle.std.proofs.lemmas.Int.{to_z-of_z, wrapping_mul_is, wrapping_mul-bits, wrapping_sub-bits}
use Rattle.std.proofs.Math.Facts.{Fits-of_z}
use Rattle.std.specs.Int.{w64, int_wrap}
use Rattle.wide_step.proofs.Inverses.{round_is, round_squares}
use Rattle.wide_step.proofs.inverse.refined.Goals as goal

bits_fit : (z : ℤ) → FitsSigned w64 z → of_z w64 z < 2 ^ 64
bits_fit z h = (Fits-of_z h).fits

pub returns : goal.returns
returns c modulus h =
    let odd = c.args.odd in
    let x = c.args.inverse in
    let p = (of_z w64 odd * of_z w64 x) % 2 ^ 64 in
    let t = (2 + (2 ^ 64 - p)) % 2 ^ 64 in
    let product : to_z w64 p ≡ int_wrap w64 (odd *ℤ x) = wrapping_mul_is w64 odd x c.ranges.odd c.ranges.inverse in
    let two_less : to_z w64 t ≡ int_wrap w64 (pos 2 -ℤ int_wrap w64 (odd *ℤ x)) =
    wrapping_sub-bits w64 2 p (omega arith) (omega arith) ∙ ap (λ (z : ℤ). int_wrap w64 (pos 2 -ℤ z)) product in
    let is : to_z w64 ((of_z w64 x * t) % 2 ^ 64) ≡ int_wrap w64 (x *ℤ (pos 2 -ℤ odd *ℤ x)) =
    wrapping_mul-bits w64 (of_z w64 x) t (bits_fit x c.ranges.inverse) (omega arith)
    ∙ ap (λ (z : ℤ). int_wrap w64 (z *ℤ to_z w64 t)) (to_z-of_z w64 x c.ranges.inverse)
    ∙ ap (λ (z : ℤ). int_wrap w64 (x *ℤ z)) two_less
    ∙ round_is w64 odd x in
    round_squares w64 odd x _ modulus is h
