use Rattle.std.proofs.Common.{ℤ, pos, ◌≤ℤ◌, unsigned_abs, sym, ap, subst, ◌∙◌}
use Rattle.std.specs.Prelude.{All}
use Rattle.std.specs.Int.{◌∣◌}
use Rattle.row_laws.specs.Rows.{times}
use Rattle.simplex.proofs.Sizes.{kept}
use Rattle.simplex.proofs.Quotients.{divisor_positive, multiple_is_positive, quotient_is_coprime}
use Rattle.simplex.proofs.point.reduced.Goals as goal

pub divided-requires-clause-positive : goal.divided-requires-clause-positive
divided-requires-clause-positive c =
    subst (λ (n : ℤ). pos 1 ≤ℤ n) (sym (kept c.common_divisor.result c.common_divisor.ensures.size))
    (divisor_positive c.args.values.now c.common_divisor.result c.requires.vector.some c.requires.positive c.common_divisor.ensures.never_negative c.common_divisor.ensures.divides)

pub divided-requires-clause-divides : goal.divided-requires-clause-divides
divided-requires-clause-divides c =
    subst (λ (n : ℤ). All (λ x. unsigned_abs n ∣ unsigned_abs x) c.args.values.now) (sym (kept c.common_divisor.result c.common_divisor.ensures.size)) c.common_divisor.ensures.divides

pub returns-clause-reduced : goal.returns-clause-reduced
returns-clause-reduced c =
    quotient_is_coprime c.args.values.now c.divided.result c.common_divisor.result
    (divisor_positive c.args.values.now c.common_divisor.result c.requires.vector.some c.requires.positive c.common_divisor.ensures.never_negative c.common_divisor.ensures.divides)
    (c.divided.ensures ∙ ap (λ (n : ℤ). times n c.divided.result) (kept c.common_divisor.result c.common_divisor.ensures.size)) c.common_divisor.ensures.greatest

pub returns-clause-positive : goal.returns-clause-positive
returns-clause-positive c =
    multiple_is_positive c.args.values.now c.divided.result c.common_divisor.result c.requires.positive
    (divisor_positive c.args.values.now c.common_divisor.result c.requires.vector.some c.requires.positive c.common_divisor.ensures.never_negative c.common_divisor.ensures.divides)
    (c.divided.ensures ∙ ap (λ (n : ℤ). times n c.divided.result) (kept c.common_divisor.result c.common_divisor.ensures.size))

pub returns-clause-multiple : goal.returns-clause-multiple
returns-clause-multiple c = (
  c.common_divisor.result,
  divisor_positive c.args.values.now c.common_divisor.result c.requires.vector.some c.requires.positive c.common_divisor.ensures.never_negative c.common_divisor.ensures.divides,
  c.divided.ensures ∙ ap (λ (n : ℤ). times n c.divided.result) (kept c.common_divisor.result c.common_divisor.ensures.size),
)
