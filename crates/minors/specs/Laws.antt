-- The laws of minors, each over squares of any order.
use Rattle.std.specs.Prelude.{ℕ, ◌*◌, ◌^◌, ◌<◌, ◌≤◌, ◌≡◌, ◌≢◌, ℤ, pos, neg_ℤ, ◌+ℤ◌, ◌-ℤ◌, ◌*ℤ◌, unsigned_abs, List, [], length, map, slice_set, slice_index_or, All}
use Rattle.minors.specs.Minor.{minor, factorial, IsUnit, HasSmallEntries}
use Rattle.row_laws.specs.Rows.{dot, entry}
use Rattle.minors.specs.Combination.{IsCombination, IsScale, ExchangesFactors, IsLeaving}

-- a minor is linear in each row: where a row is x times one row plus y times another, so are the minors
abbrev pub LinearInEachRow : Type 0
LinearInEachRow =
    (rows : List (List ℤ)) (place : ℕ) (x y : ℤ) (a b row : List ℤ)
    → place < length rows
    → ((column : ℕ) → column < length rows → entry row column ≡ x *ℤ entry a column +ℤ y *ℤ entry b column)
    → minor (slice_set rows place row) ≡ x *ℤ minor (slice_set rows place a) +ℤ y *ℤ minor (slice_set rows place b)

-- a minor is 0 where two rows are equal
abbrev pub ZeroAtEqualRows : Type 0
ZeroAtEqualRows =
    (rows : List (List ℤ)) (first second : ℕ)
    → first < second → second < length rows
    → slice_index_or rows first [] ≡ slice_index_or rows second []
    → minor rows ≡ pos 0

-- the minor of the identity is 1
abbrev pub OneAtIdentity : Type 0
OneAtIdentity =
    (rows : List (List ℤ))
    → ((place : ℕ) → place < length rows → IsUnit (length rows) place (slice_index_or rows place []))
    → minor rows ≡ pos 1

-- so 1 is its scale
abbrev pub ScaleOfIdentity : Type 0
ScaleOfIdentity =
    (rows : List (List ℤ))
    → ((place : ℕ) → place < length rows → IsUnit (length rows) place (slice_index_or rows place []))
    → IsScale (pos 1) rows

-- Cramer's rule: where the scale times a row is a combination of a square's rows, the scale times the minor with a row replaced by that row is its factor times the square's minor
abbrev pub ReplacedRow : Type 0
ReplacedRow =
    (scale : ℤ) (row factors : List ℤ) (rows : List (List ℤ)) (place : ℕ)
    → IsCombination scale row factors rows
    → place < length rows
    → scale *ℤ minor (slice_set rows place row) ≡ entry factors place *ℤ minor rows

-- so where the scale is the square's minor up to its sign, each factor is, up to its sign, the minor with the row replaced
abbrev pub FactorIsMinor : Type 0
FactorIsMinor =
    (scale : ℤ) (row factors : List ℤ) (rows : List (List ℤ)) (place : ℕ)
    → IsScale scale rows
    → IsCombination scale row factors rows
    → place < length rows
    → unsigned_abs (entry factors place) ≡ unsigned_abs (minor (slice_set rows place row))

-- a pivot's exchange of rows makes its factor the scale
abbrev pub ScaleAfterPivot : Type 0
ScaleAfterPivot =
    (scale : ℤ) (row pivot : List ℤ) (rows : List (List ℤ)) (place : ℕ)
    → IsScale scale rows
    → IsCombination scale row pivot rows
    → place < length rows
    → entry pivot place ≢ pos 0
    → IsScale (entry pivot place) (slice_set rows place row)

-- a pivot divides exactly: the old scale divides each difference of products
abbrev pub PivotDivides : Type 0
PivotDivides =
    (scale : ℤ) (entering pivot row factors : List ℤ) (rows : List (List ℤ)) (place other : ℕ)
    → IsScale scale rows
    → IsCombination scale entering pivot rows
    → IsCombination scale row factors rows
    → place < length rows → other < length rows → other ≢ place
    → entry pivot place ≢ pos 0
    → (quotient : ℤ)
    × (quotient *ℤ scale ≡ entry pivot place *ℤ entry factors other -ℤ entry factors place *ℤ entry pivot other)
    × (unsigned_abs quotient ≡ unsigned_abs (minor (slice_set (slice_set rows place entering) other row)))

-- with these quotients each row is a combination of the new square's rows
abbrev pub PivotKeepsCombination : Type 0
PivotKeepsCombination =
    (scale : ℤ) (entering pivot row factors new : List ℤ) (rows : List (List ℤ)) (place : ℕ)
    → scale ≢ pos 0
    → IsCombination scale entering pivot rows
    → IsCombination scale row factors rows
    → place < length rows
    → ExchangesFactors scale place pivot factors new
    → IsCombination (entry pivot place) row new (slice_set rows place entering)

-- and so is the row that leaves the square
abbrev pub LeavingRowIsCombination : Type 0
LeavingRowIsCombination =
    (scale : ℤ) (entering pivot new : List ℤ) (rows : List (List ℤ)) (place : ℕ)
    → IsCombination scale entering pivot rows
    → place < length rows
    → IsLeaving scale place pivot new
    → IsCombination (entry pivot place) (slice_index_or rows place []) new (slice_set rows place entering)

-- the square's own rows are combinations: the scale at the row's place, and 0 elsewhere
abbrev pub SquareRowIsCombination : Type 0
SquareRowIsCombination =
    (scale : ℤ) (factors : List ℤ) (rows : List (List ℤ)) (place : ℕ)
    → place < length rows
    → length factors ≡ length rows
    → entry factors place ≡ scale
    → ((other : ℕ) → other < length rows → other ≢ place → entry factors other ≡ pos 0)
    → IsCombination scale (slice_index_or rows place []) factors rows

-- where a row is x times one row plus y times another, so are its factors
abbrev pub SumOfCombinations : Type 0
SumOfCombinations =
    (scale x y : ℤ) (a b row : List ℤ) (of_a of_b factors : List ℤ) (rows : List (List ℤ))
    → IsCombination scale a of_a rows
    → IsCombination scale b of_b rows
    → ((column : ℕ) → column < length rows → entry row column ≡ x *ℤ entry a column +ℤ y *ℤ entry b column)
    → length factors ≡ length rows
    → ((place : ℕ) → place < length rows → entry factors place ≡ x *ℤ entry of_a place +ℤ y *ℤ entry of_b place)
    → IsCombination scale row factors rows

-- a combination of rows is one of their values at each point
abbrev pub CombinationAtPoint : Type 0
CombinationAtPoint =
    (scale : ℤ) (row factors point : List ℤ) (rows : List (List ℤ))
    → IsCombination scale row factors rows
    → length point ≤ length rows
    → scale *ℤ dot row point ≡ dot factors (map (λ r. dot r point) rows)

-- the signs of a scale and of all factors may be turned together
abbrev pub NegatedCombination : Type 0
NegatedCombination =
    (scale : ℤ) (row factors : List ℤ) (rows : List (List ℤ))
    → IsCombination scale row factors rows
    → IsCombination (neg_ℤ scale) row (map neg_ℤ factors) rows

abbrev pub NegatedScale : Type 0
NegatedScale = (scale : ℤ) (rows : List (List ℤ)) → IsScale scale rows → IsScale (neg_ℤ scale) rows

-- where only the last column has numbers above 1 in size, and these at most `most`, the minor is at most `most` times n!
abbrev pub MinorIsBounded : Type 0
MinorIsBounded =
    (rows : List (List ℤ)) (most : ℕ)
    → 1 ≤ most
    → All (HasSmallEntries (length rows) most) rows
    → unsigned_abs (minor rows) ≤ most * factorial (length rows)

-- and so is each factor of a row whose numbers are as small
abbrev pub FactorIsBounded : Type 0
FactorIsBounded =
    (scale : ℤ) (row factors : List ℤ) (rows : List (List ℤ)) (place most : ℕ)
    → IsScale scale rows
    → IsCombination scale row factors rows
    → 1 ≤ most
    → All (HasSmallEntries (length rows) most) rows
    → HasSmallEntries (length rows) most row
    → unsigned_abs (entry factors place) ≤ most * factorial (length rows)

-- and the scale of a square
abbrev pub ScaleIsBounded : Type 0
ScaleIsBounded =
    (scale : ℤ) (rows : List (List ℤ)) (most : ℕ)
    → IsScale scale rows
    → 1 ≤ most
    → All (HasSmallEntries (length rows) most) rows
    → unsigned_abs scale ≤ most * factorial (length rows)

-- up to order 25, with constants of at most 25, this bound is at most 25 times 25!, which is below 2 ^ 89
abbrev pub BoundIsSmall : Type 0
BoundIsSmall =
    ((order : ℕ) → order ≤ 25 → 25 * factorial order ≤ 25 * factorial 25) × (25 * factorial 25 < 2 ^ 89)
