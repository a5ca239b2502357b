-- What the loaded rows ask of a vector.
use Rattle.std.specs.Prelude.{ℕ, ◌≡◌, ◌<◌, List, length, All, ℤ, pos, ◌≤ℤ◌, unsigned_abs}
use Rattle.std.specs.Int.{◌∣◌}
use Rattle.row_laws.specs.Rows.{dot}
use Rattle.fraction_free.specs.declared.loaded.LoadedRow.{LoadedRow}
use Rattle.fraction_free.specs.Dictionary.{loaded_at}

-- a positive vector that meets each loaded row: the coefficients times the vector are at least the least
pub record MeetsRows (columns : ℕ) (loaded : List LoadedRow) (vector : List ℤ) : Type 0 where
  pub len : length vector ≡ columns
  pub positive : All (λ x. pos 1 ≤ℤ x) vector
  pub each : (row : ℕ) → row < length loaded → (loaded_at loaded row).least ≤ℤ dot (loaded_at loaded row).coefficients vector

-- no number above 1 divides each item
abbrev pub IsCoprime : List ℤ → Type 0
IsCoprime items = (d : ℕ) → All (λ x. d ∣ unsigned_abs x) items → d ≡ 1
