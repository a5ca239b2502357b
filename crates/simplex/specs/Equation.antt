-- A row's equation, with all variables on one side: places from 0 on have the basic variable and then the nonbasic ones.
use Rattle.std.specs.Prelude.{ℕ, zero, suc, ◌+◌, ◌-◌, ◌≡◌, ◌<◌, ◌≤◌, Bool, cond, ◌==◌, nat_lt, List, length, slice_index, slice_index_or, ℤ, pos, neg_ℤ, ◌*ℤ◌, ◌<ℤ◌}
use Rattle.least_index.specs.Dictionary.{sum_below}
use Rattle.least_index.specs.Rule.{first}
use Rattle.fraction_free.specs.Dictionary.{DictionaryView, entry_in}
use Rattle.simplex.specs.declared.row_weights.RowWeight.{RowWeight}
use Rattle.simplex.specs.declared.found.Clash.{Clash}
use Rattle.simplex.specs.Weights.{weighted}

-- the variable at a place
abbrev pub variable_at : DictionaryView → ℕ → ℕ → ℕ
variable_at dictionary row place = cond (place == 0) (slice_index dictionary.basic row) (slice_index dictionary.nonbasic (place - 1))

-- its weight: the scale, or an entry with its sign turned
abbrev pub weight_at : DictionaryView → ℕ → ℕ → ℤ
weight_at dictionary row place = cond (place == 0) dictionary.scale (neg_ℤ (entry_in dictionary row (place - 1)))

-- the place of a variable, or the number of places
abbrev pub place_in_equation : DictionaryView → ℕ → ℕ → ℕ
place_in_equation dictionary row variable = first (λ place. variable_at dictionary row place == variable) (dictionary.columns + 1)

-- the weight of a variable; 0 where the equation does not have it
abbrev pub weight_of : DictionaryView → ℕ → ℕ → ℤ
weight_of dictionary row variable = cond (nat_lt (place_in_equation dictionary row variable) (dictionary.columns + 1)) (weight_at dictionary row (place_in_equation dictionary row variable)) (pos 0)

-- the slack above `above` of least number with a positive weight
pub record IsNextWeight (dictionary : DictionaryView) (row above place : ℕ) : Type 0 where
  pub within : place ≤ dictionary.columns
  pub later : above < variable_at dictionary row place
  pub positive : pos 0 <ℤ weight_at dictionary row place
  pub least : (other : ℕ) → other ≤ dictionary.columns → above < variable_at dictionary row other → pos 0 <ℤ weight_at dictionary row other
      → variable_at dictionary row place ≤ variable_at dictionary row other

-- no variable above `above` has a positive weight
abbrev pub HasNoNextWeight : DictionaryView → ℕ → ℕ → Type 0
HasNoNextWeight dictionary row above =
    (other : ℕ) → other ≤ dictionary.columns → above < variable_at dictionary row other → pos 0 <ℤ weight_at dictionary row other → ⊥

-- the rows have the weights of their slacks
abbrev pub HasSlackWeights : DictionaryView → ℕ → ℕ → List RowWeight → Type 0
HasSlackWeights dictionary row bound rows =
    (of : ℕ → ℤ) → weighted of rows ≡ sum_below (λ variable. cond (nat_lt dictionary.columns variable) (weight_of dictionary row variable *ℤ of (variable - dictionary.columns)) (pos 0)) bound

-- the weights of a clash are those of the row's equation
pub record IsClashOf (dictionary : DictionaryView) (row : ℕ) (clash : Clash) : Type 0 where
  pub increments : (column : ℕ) → column < dictionary.columns → slice_index_or clash.increments column (pos 0) ≡ weight_of dictionary row (column + 1)
  pub rows : HasSlackWeights dictionary row (dictionary.columns + 1 + length dictionary.loaded) clash.rows

-- how many numbers below n pass a test
unfoldable pub how_many : (ℕ → Bool) → ℕ → ℕ
how_many test zero = 0
how_many test (suc n) = how_many test n + cond (test n) 1 0

-- a place has the variable of a slack, and not of an increment
abbrev pub has_slack : DictionaryView → ℕ → ℕ → Bool
has_slack dictionary row place = nat_lt dictionary.columns (variable_at dictionary row place)
