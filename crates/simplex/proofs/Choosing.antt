-- What the searches for a row and for a weight end with.
use Rattle.std.proofs.Common.{◌≡◌, ℕ, ◌-◌, ◌<◌, ◌≤◌, length, Option, Some, None, MatchOption, ℤ, pos, ◌<ℤ◌, ◌≤ℤ◌, arith}
use Rattle.std.specs.Prelude.{slice_index}
use Rattle.std.proofs.lemmas.Int.{by_lt_z}
use Rattle.fraction_free.specs.Dictionary.{DictionaryView, IsDictionary, constant_in}
use Rattle.simplex.specs.Choice.{IsFeasible, IsLeavingRow}
use Rattle.simplex.proofs.Variables.{variables_of}

nonneg_if : (a : ℤ) → (a <ℤ pos 0 → ⊥) → pos 0 ≤ℤ a
nonneg_if a h = by_lt_z a (pos 0) (λ l. absurd (h l)) (λ l. l)

pub leaving_done : (d : DictionaryView) (found : Option ℕ) (least at : ℕ) → IsDictionary d → at ≡ length d.loaded
    → ((other : ℕ) → other < at → constant_in d other <ℤ pos 0 → least ≤ slice_index d.basic other)
    → MatchOption found (least ≡ 4294967295) (λ row. (1 ≤ row) × (row ≤ at) × (constant_in d (row - 1) <ℤ pos 0) × (least ≡ slice_index d.basic (row - 1)))
    → MatchOption found (IsFeasible d) (λ row. (1 ≤ row) × IsLeavingRow d (row - 1))
leaving_done d None least at is end below none =
    λ row lt. nonneg_if (constant_in d row) (λ neg.
    let high = (variables_of d is).basic_high row lt in
    let le : least ≤ slice_index d.basic row = below row (omega arith) neg in
    omega (arith, is.columns_most, is.columns_room, is.rows_room, is.rows_most, none, high, le))
leaving_done d (Some row) least at is end below found = (
  found.0,
  record {
    within = omega (arith, found.0, found.1);
    negative = found.2;
    least = λ other lt neg. let le : least ≤ slice_index d.basic other = below other (omega arith) neg in omega (arith, found.3);
  },
)
