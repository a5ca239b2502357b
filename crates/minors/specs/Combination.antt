-- Rows that are, up to a scale, combinations of the rows of a square, and what an exchange of one row of the square makes of their factors: the exact division of fraction-free pivots (Edmonds 1967, Bareiss 1968).
use Rattle.std.specs.Prelude.{ℕ, ◌<◌, ◌≡◌, ◌≢◌, ℤ, pos, ◌-ℤ◌, ◌*ℤ◌, unsigned_abs, List, length, map}
use Rattle.row_laws.specs.Rows.{entry, dot}
use Rattle.minors.specs.Minor.{minor}

-- the numbers of the rows at a column
abbrev pub column_of : List (List ℤ) → ℕ → List ℤ
column_of rows column = map (λ row. entry row column) rows

-- the scale times the row is the sum of the square's rows, each times its factor
pub record IsCombination (scale : ℤ) (row factors : List ℤ) (rows : List (List ℤ)) : Type 0 where
  pub len : length factors ≡ length rows
  pub each : (column : ℕ) → column < length rows → scale *ℤ entry row column ≡ dot factors (column_of rows column)

-- the scale is not 0, and is the square's minor up to its sign
pub record IsScale (scale : ℤ) (rows : List (List ℤ)) : Type 0 where
  pub nonzero : scale ≢ pos 0
  pub size : unsigned_abs scale ≡ unsigned_abs (minor rows)

-- the factors of a row after the square's row at `place` is exchanged for the pivot row: that at `place` stays, and the scale divides each other exactly
pub record ExchangesFactors (scale : ℤ) (place : ℕ) (pivot factors new : List ℤ) : Type 0 where
  pub len : length new ≡ length factors
  pub kept : entry new place ≡ entry factors place
  pub divided : (other : ℕ) → other < length factors → other ≢ place
      → entry new other *ℤ scale ≡ entry pivot place *ℤ entry factors other -ℤ entry factors place *ℤ entry pivot other

-- the factors of the row that leaves the square
pub record IsLeaving (scale : ℤ) (place : ℕ) (pivot new : List ℤ) : Type 0 where
  pub len : length new ≡ length pivot
  pub kept : entry new place ≡ scale
  pub negated : (other : ℕ) → other < length pivot → other ≢ place → entry new other ≡ pos 0 -ℤ entry pivot other
