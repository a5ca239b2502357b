use Rattle.std.proofs.Common.{rules, ◌∙◌, ◌*◌, ◌%◌, ◌^◌, ℤ, to_z, of_z, FitsSigned, ap}
use Rattle.std.proofs.lemmas.Int.{to_z-of_z, wrapping_mul_is, fits_signed_from_abs}
use Rattle.std.proofs.lemmas.Nat.{pow_pos}
use Rattle.std.specs.Int.{w64}
use Rattle.wide_step.proofs.Inverses.{divided_by_inverse, shr_fits}
use Rattle.wide_step.proofs.inverse.Inverse.short_quotient.Goals as goal
use lib.Signed.{shr_z}

pub returns : goal.returns
returns c number quotient has exact size =
    let m = 2 ^ c.args.self.twos in
    let inverse : FitsSigned w64 c.args.self.short = search rules in
    ap (λ (z : ℤ). to_z w64 ((of_z w64 (shr_z z m) * of_z w64 c.args.self.short) % 2 ^ 64)) (to_z-of_z w64 c.args.multiple c.ranges.multiple)
    ∙ wrapping_mul_is w64 (shr_z c.args.multiple m) c.args.self.short (shr_fits w64 c.args.multiple m c.ranges.multiple) inverse
    ∙ divided_by_inverse w64 has.odd number quotient c.args.multiple c.args.self.twos c.args.self.short has.product has.short_is exact (pow_pos c.args.self.twos) (fits_signed_from_abs w64 quotient size)
