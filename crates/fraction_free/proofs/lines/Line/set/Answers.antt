use Rattle.std.proofs.Common.{◌≡◌, ◌∙◌, ◌<◌, ℕ, ℤ, List, length, take, set, to_z, of_z, ap, arith}
use Rattle.std.proofs.Math.Seq.{take-set-lt}
use Rattle.std.proofs.lemmas.List.{length-take}
use Rattle.std.proofs.lemmas.Int.{to_z-of_z}
use Rattle.std.specs.Int.{w128}
use Rattle.fraction_free.proofs.lines.Line.set.Goals as goal

below_len : (n place : ℕ) (cells now : List ℤ) → take n cells ≡ now → place < length now → place < n
below_len n place cells now e h = omega (arith, ap length e, length-take n cells)

pub returns : goal.returns
returns c =
    take-set-lt c.self.inside.len c.self.inside.cells c.args.place (to_z w128 (of_z w128 c.args.value)) (below_len _ _ _ _ c.self.view_is c.requires)
    ∙ ap (λ (xs : List ℤ). set xs c.args.place (to_z w128 (of_z w128 c.args.value))) c.self.view_is
    ∙ ap (λ (v : ℤ). set c.args.self.now c.args.place v) (to_z-of_z w128 c.args.value c.ranges.value)
