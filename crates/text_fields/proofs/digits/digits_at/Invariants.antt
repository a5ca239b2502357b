use Rattle.std.proofs.Common.{◌≡◌, ◌-◌, ◌≤◌, length, drop, true}
use Rattle.text_fields.specs.Reading.{digits_after, begins_number}
use Rattle.text_fields.proofs.digits.digits_at.Given as goal

abbrev pub invariant-loop-len : goal.invariant-loop-len
invariant-loop-len l = record {
  within : l.len ≤ length l.text;
  limit : l.value ≤ l.most;
  begins : begins_number l.text ≡ true;
  same : digits_after l.value (drop l.len l.text) ≡ digits_after 0 l.text;
}

abbrev pub decreases-loop-len : goal.decreases-loop-len
decreases-loop-len l = length l.text - l.len
