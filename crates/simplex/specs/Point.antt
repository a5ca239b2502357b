-- The vector of a dictionary where its nonbasic variables are 0.
use Rattle.std.specs.Prelude.{ℕ, ◌+◌, ◌-◌, ◌≡◌, ◌≢◌, ◌<◌, ◌≤◌, List, length, slice_index, slice_index_or, ℤ, pos, ◌+ℤ◌, ◌≤ℤ◌}
use Rattle.row_laws.specs.Rows.{times}
use Rattle.fraction_free.specs.Dictionary.{DictionaryView, constant_in}

-- each increment, times the scale: the scale, and the constant of its variable if that is basic
pub record IsScaledPoint (dictionary : DictionaryView) (vector : List ℤ) : Type 0 where
  pub len : length vector ≡ dictionary.columns
  pub basic : (row : ℕ) → row < length dictionary.loaded → slice_index dictionary.basic row ≤ dictionary.columns
      → slice_index_or vector (slice_index dictionary.basic row - 1) (pos 0) ≡ dictionary.scale +ℤ constant_in dictionary row
  pub nonbasic : (column : ℕ) → column < dictionary.columns → ((row : ℕ) → row < length dictionary.loaded → slice_index dictionary.basic row ≢ column + 1)
      → slice_index_or vector column (pos 0) ≡ dictionary.scale

-- the vector is that of the dictionary, over a common divisor
pub record IsPointOf (dictionary : DictionaryView) (vector : List ℤ) : Type 0 where
  pub factor : ℤ
  pub positive : pos 1 ≤ℤ factor
  pub scaled : IsScaledPoint dictionary (times factor vector)
