use Rattle.std.proofs.Common.{ℕ, ◌<◌, get_or}
use Rattle.decider.specs.OneAnswer.{CoversAt}
use Rattle.decider.proofs.one_answer.covers.Given as goal

abbrev pub invariant-loop-place : goal.invariant-loop-place
invariant-loop-place l = (k : ℕ) → k < l.place → CoversAt (get_or l.high k 0) (get_or l.low k 0) (get_or l.other_high k 0) (get_or l.other_low k 0)
