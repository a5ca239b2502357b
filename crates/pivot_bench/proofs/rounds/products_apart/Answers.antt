use Rattle.std.proofs.Common.{◌<◌, ◌^◌, ℤ, ◌-ℤ◌, ◌*ℤ◌, unsigned_abs, to_z, of_z, arith}
use Rattle.std.proofs.lemmas.Int.{ints}
use Rattle.std.specs.Int.{w128}
use Rattle.wide_step.specs.Quotient.{HasQuotient}
use Rattle.row_laws.proofs.Integers.{read_back, sub-mul}
use Rattle.pivot_bench.proofs.rounds.products_apart.Goals as goal

less : (x y : ℤ) → unsigned_abs x < 2 ^ 120 → unsigned_abs y < 2 ^ 120 → unsigned_abs (x -ℤ y) < 2 ^ 126
less x y h k = omega (arith, ints)

has_difference : (x y : ℤ) → unsigned_abs x < 2 ^ 120 → unsigned_abs y < 2 ^ 120
    → HasQuotient (to_z w128 (of_z w128 x) *ℤ to_z w128 (of_z w128 x) -ℤ to_z w128 (of_z w128 y) *ℤ to_z w128 (of_z w128 x)) (to_z w128 (of_z w128 x))
has_difference x y h k =
    rw (read_back w128 x (omega arith), read_back w128 y (omega arith))
    (record { quotient = x -ℤ y; exact = sub-mul x y x; size = less x y h k })

pub step-requires-clause-exact : goal.step-requires-clause-exact
step-requires-clause-exact c = has_difference c.args.number c.args.other c.requires.size c.requires.other_size
