use Rattle.std.proofs.Common.{nat_lt, sym, arith, lt-ltb, le-ltb}
use Rattle.std.proofs.lemmas.List.Sums.{position_or_len_is}
use Rattle.criteria_model.proofs.counting.first_low.Goals as goal

pub returns-then-levels-place-lt2-clause-value : goal.returns-then-levels-place-lt2-clause-value
returns-then-levels-place-lt2-clause-value c =
    sym
    (position_or_len_is (λ n. nat_lt n 2) c.args.levels.now c.loop-place.place 0 (omega arith)
    (λ k h. le-ltb _ 2 (c.loop-place.invariant k h))
    (λ _. lt-ltb _ 2 c.if-levels-place-lt2.true))

pub returns-clause-value : goal.returns-clause-value
returns-clause-value c =
    sym
    (position_or_len_is (λ n. nat_lt n 2) c.args.levels.now _ 0 (omega arith)
    (λ k h. le-ltb _ 2 (c.loop-place.invariant k (omega arith)))
    (λ h. absurd (omega arith)))
