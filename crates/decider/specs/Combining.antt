-- How the weighted rows of a clash become the cites of a combination.
use Rattle.std.specs.Prelude.{ℕ, ◌+◌, ◌-◌, ◌≡◌, ◌<◌, ◌≤◌, true, cond, List, [], ◌∷◌, ◌++◌, Some, length, take, map, sum_by, slice_get, slice_index_or, All, ℤ, pos, neg_ℤ, ◌+ℤ◌, ◌*ℤ◌, ◌≤ℤ◌, unsigned_abs}
use Rattle.std.specs.Int.{◌∣◌}
use Rattle.criteria_model.specs.declared.limits.TheConstants.{CERTIFICATE_BOUND}
use Rattle.criteria_model.specs.declared.pairs.Answer.{Answer}
use Rattle.criteria_model.specs.declared.pairs.Side.{Side}
use Rattle.criteria_model.specs.declared.pairs.Side.TheVariants.{Left, Right, Equal}
use Rattle.row_laws.specs.Rows.{times}
use Rattle.farkas_check.specs.declared.cites.Cite.{Cite}
use Rattle.farkas_check.specs.declared.combination.Combination.{Combination}
use Rattle.farkas_check.specs.Sums.{cited_side}
use Rattle.farkas_check.specs.Proof.{MayWeigh, IsThere}
use Rattle.simplex.specs.declared.row_weights.RowWeight.{RowWeight}
use Rattle.simplex.specs.declared.found.Clash.{Clash}
use Rattle.simplex.specs.Weights.{is_weight, no_weight, weighted}
use Rattle.wide_step.specs.declared.limits.TheConstants.{QUOTIENT_BOUND}

-- how many rows a ranking has
abbrev pub rows_for : Side → ℕ
rows_for Left = 1
rows_for Right = 1
rows_for Equal = 2

-- how many rows answers have
abbrev pub rows_in : List Answer → ℕ
rows_in answers = sum_by (λ answer. rows_for answer.side) answers

-- the first row of a numbered answer; rows and answers count from 1
abbrev pub first_row : List Answer → ℕ → ℕ
first_row answers number = rows_in (take (number - 1) answers) + 1

-- the row of the weight at a place
abbrev pub row_at : List RowWeight → ℕ → ℕ
row_at rows place = (slice_index_or rows place no_weight).row

-- the weights at these places and later are of this row and later ones
abbrev pub AreFrom : List RowWeight → ℕ → ℕ → Type 0
AreFrom rows taken row = (place : ℕ) → taken ≤ place → place < length rows → row ≤ row_at rows place

-- the next `more` of the weighted rows, one or none, are this row; it weighs `weight`
pub record TakesRow (rows : List RowWeight) (taken row : ℕ) (weight : ℤ) (more : ℕ) : Type 0 where
  pub within : taken + more ≤ length rows
  pub counted : is_weight weight ≡ true → 1 ≤ more
  pub nonneg : pos 0 ≤ℤ weight
  pub size : unsigned_abs weight < CERTIFICATE_BOUND
  pub later : AreFrom rows (taken + more) (row + 1)
  pub sum : (of : ℕ → ℤ) → weighted of (take (taken + more) rows) ≡ weighted of (take taken rows) +ℤ weight *ℤ of row

-- the next `more` of the weighted rows are those of this ranking, whose first row is `row`; together they weigh `weight` on that row
-- (the second row of an equal ranking is the first with its sign turned)
pub record TakesRanking (rows : List RowWeight) (taken row : ℕ) (side : Side) (weight : ℤ) (more : ℕ) : Type 0 where
  pub within : taken + more ≤ length rows
  pub counted : is_weight weight ≡ true → 1 ≤ more
  pub may : MayWeigh side weight
  pub size : unsigned_abs weight < CERTIFICATE_BOUND
  pub later : AreFrom rows (taken + more) (row + rows_for side)
  pub sum : (of : ℕ → ℤ) → (side ≡ Equal → of (row + 1) ≡ neg_ℤ (of row))
      → weighted of (take (taken + more) rows) ≡ weighted of (take taken rows) +ℤ weight *ℤ of row

-- a cite more, where the weight isn't 0
abbrev pub with_cite : List Cite → ℕ → ℤ → List Cite
with_cite cites answer weight = cond (is_weight weight) (cites ++ (record { answer = answer; weight = weight }) ∷ []) cites

-- a number for each row, where the second row of an equal answer has that of the first with its sign turned
abbrev pub IsOpposed : List Answer → (ℕ → ℤ) → Type 0
IsOpposed answers of = (number : ℕ) (answer : Answer) → slice_get answers (number - 1) ≡ Some answer → answer.side ≡ Equal
    → of (first_row answers number + 1) ≡ neg_ℤ (of (first_row answers number))

-- the sum of weight times what an answer has
abbrev pub cited_sum : (ℕ → ℤ) → List Cite → ℤ
cited_sum of [] = pos 0
cited_sum of (cite ∷ cites) = cite.weight *ℤ of cite.answer +ℤ cited_sum of cites

-- each weight is one that its answer's ranking may have
abbrev pub EachMayWeigh : List Answer → List Cite → Type 0
EachMayWeigh answers cites = All (λ cite. MayWeigh (cited_side answers cite) cite.weight) cites

-- the cites weigh the answers as their rows are weighted
pub record CitesRows (answers : List Answer) (rows : List RowWeight) (cites : List Cite) : Type 0 where
  pub cited : All (IsThere answers) cites
  pub weights : EachMayWeigh answers cites
  pub few : length cites ≤ length rows
  pub sums : (of : ℕ → ℤ) → IsOpposed answers of → cited_sum (λ number. of (first_row answers number)) cites ≡ weighted of rows

-- the greatest common divisor of numbers that aren't all 0
pub record IsGreatestDivisor (numbers : List ℤ) (divisor : ℤ) : Type 0 where
  pub positive : pos 1 ≤ℤ divisor
  pub size : unsigned_abs divisor < QUOTIENT_BOUND
  pub divides : All (λ x. unsigned_abs divisor ∣ unsigned_abs x) numbers
  pub greatest : (d : ℕ) → All (λ x. d ∣ unsigned_abs x) numbers → d ∣ unsigned_abs divisor

-- the same answers, with a multiple of each weight
abbrev pub times_cites : ℤ → List Cite → List Cite
times_cites factor cites = map (λ cite. record { answer = cite.answer; weight = factor *ℤ cite.weight }) cites

-- the last weighted row is that of a ranking after the rows of the answers
pub record EndsWithTried (answers : List Answer) (rows : List RowWeight) : Type 0 where
  pub some : 1 ≤ length rows
  pub last : row_at rows (length rows - 1) ≡ rows_in answers + 1

-- the combination, times a common divisor, weighs increments and answers as the clash does, and its scale is the tried row's weight
pub record Combines (answers : List Answer) (clash : Clash) (combination : Combination) : Type 0 where
  pub divisor : ℤ
  pub positive : pos 1 ≤ℤ divisor
  pub increments : clash.increments ≡ times divisor combination.increments
  pub scale : (slice_index_or clash.rows (length clash.rows - 1) no_weight).weight ≡ divisor *ℤ combination.scale
  pub cites : CitesRows answers (take (length clash.rows - 1) clash.rows) (times_cites divisor combination.answers)
