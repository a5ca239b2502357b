use Rattle.std.proofs.Common.{◌≡◌, ℕ, ◌+◌, length}
use Rattle.std.specs.Prelude.{All}
use Rattle.std.specs.Vec.Iter.{into_iter_items}
use Rattle.desks_bench.specs.Runs.{HasWeight, IsSingle}
use Rattle.desks_bench.proofs.passes.join_all.Given as goal

abbrev pub invariant-loop-one : goal.invariant-loop-one
invariant-loop-one l = let rest = l.one-iterator in record {
  joined : ℕ;
  count : joined + length (into_iter_items rest) ≡ length l.fn.done.items;
  weight : HasWeight l.survey l.whole (1 + joined);
  all : All (λ d. IsSingle l.survey d.pass) (into_iter_items rest);
}
