-- The values so far are small.
use Rattle.std.proofs.Common.{◌≡◌, ◌<◌, ◌^◌, length}
use Rattle.std.specs.Prelude.{All, unsigned_abs}
use Rattle.survey_bench.proofs.hidden.few_values.Given as goal

abbrev pub invariant-loop-place : goal.invariant-loop-place
invariant-loop-place l = record {
  len : length l.cells ≡ 24;
  small : All (λ x. unsigned_abs x < 2 ^ 96) l.cells;
}
