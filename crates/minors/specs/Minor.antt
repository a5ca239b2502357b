-- Minors: determinants of squares of whole numbers that are given as lists of rows, by Laplace's expansion along the first row.
use Rattle.std.specs.Prelude.{ℕ, zero, suc, ◌+◌, ◌*◌, ◌<◌, ◌≤◌, ◌≡◌, ◌≢◌, ℤ, pos, ◌-ℤ◌, ◌*ℤ◌, unsigned_abs, List, [], ◌∷◌, length, map}
use Rattle.std.specs.List.{range_with_len}
use Rattle.row_laws.specs.Rows.{entry}

-- the sum over the columns, with signs that alternate from plus on, of the row's number there times `rest` of the other columns
unfoldable pub expansion : (ℕ → ℤ) → (List ℕ → ℤ) → List ℕ → ℤ
expansion row rest [] = pos 0
expansion row rest (column ∷ columns) =
    row column *ℤ rest columns -ℤ expansion row (λ others. rest (column ∷ others)) columns

-- the minor of these rows, each given as its number at a column, at these columns
unfoldable pub minor_at : List (ℕ → ℤ) → List ℕ → ℤ
minor_at [] columns = pos 1
minor_at (row ∷ rows) columns = expansion row (minor_at rows) columns

-- the minor of a square: of its rows at as many columns, from the first on
unfoldable pub minor : List (List ℤ) → ℤ
minor rows = minor_at (map entry rows) (range_with_len 0 (length rows))

-- 1 times 2 times .. times n
unfoldable pub factorial : ℕ → ℕ
factorial zero = 1
factorial (suc n) = suc n * factorial n

-- a row of the identity: 1 at the given column and else 0, as far as the order goes
pub record IsUnit (order place : ℕ) (row : List ℤ) : Type 0 where
  pub one : place < order → entry row place ≡ pos 1
  pub zeros : (column : ℕ) → column < order → column ≢ place → entry row column ≡ pos 0

-- up to the order, each number of the row is at most 1 in size, but the last at most `most`
pub record HasSmallEntries (order most : ℕ) (row : List ℤ) : Type 0 where
  pub plain : (column : ℕ) → column + 1 < order → unsigned_abs (entry row column) ≤ 1
  pub last : (column : ℕ) → column + 1 ≡ order → unsigned_abs (entry row column) ≤ most
