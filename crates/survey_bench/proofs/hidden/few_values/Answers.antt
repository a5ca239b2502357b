use Rattle.std.proofs.Common.{◌<◌, ◌^◌, arith, length-take}
use Rattle.std.specs.Prelude.{unsigned_abs}
use Rattle.std.proofs.lemmas.List.Elements.{All-take}
use Rattle.survey_bench.proofs.hidden.few_values.Goals as goal

pub of-requires : goal.of-requires
of-requires c = record {
  some = simp length-take (omega (arith, c.from-2.ensures, c.loop-place.invariant.len));
  most = simp length-take (omega (arith, c.from-2.ensures, c.loop-place.invariant.len));
  within = All-take (λ x. unsigned_abs x < 2 ^ 96) c.from-2.result c.loop-place.cells c.loop-place.invariant.small;
}
