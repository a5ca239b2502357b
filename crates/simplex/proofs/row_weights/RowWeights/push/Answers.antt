use Rattle.std.proofs.Common.{◌≡◌, ℤ, to_z, of_z, ap}
use mir.Syntax.{w128}
use Rattle.std.proofs.lemmas.Int.{to_z-of_z}
use Rattle.simplex.proofs.Pushes.{pushed}
use Rattle.simplex.proofs.row_weights.RowWeights.push.Goals as goal

pub invariant_of-self : goal.invariant_of-self
invariant_of-self c =
    let weight : to_z w128 (of_z w128 c.args.weight) ≡ c.args.weight = to_z-of_z w128 c.args.weight c.ranges.weight in
    pushed c.self.inside.len c.from.result c.self.inside.items c.args.self.now (record { row = c.args.row; weight = c.args.weight }) (record { row = c.args.row; weight = to_z w128 (of_z w128 c.args.weight) })
    c.from.ensures (ap (λ (z : ℤ). record { row = c.args.row; weight = z }) weight) c.self.invariant c.self.view_is c.requires.room
    (record { numbered = c.requires.numbered; positive = c.requires.positive; within = c.requires.within }) c.requires.after
