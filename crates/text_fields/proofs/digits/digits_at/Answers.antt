use Rattle.std.proofs.Common.{arith}
use Rattle.text_fields.proofs.Numerals.{number_at_above, digits_above}
use Rattle.text_fields.proofs.digits.digits_at.Goals as goal

pub returns-then-value-most-clause-value : goal.returns-then-value-most-clause-value
returns-then-value-most-clause-value c =
    number_at_above c.args.most c.args.text.now (digits_above c.args.most c.loop-len.value c.loop-len.len c.args.text.now c.loop-len-test.true (cc) c.loop-len.invariant.same (omega arith))
