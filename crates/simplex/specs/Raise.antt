-- A row's variable raised by pivots that keep the others at least 0 (the ratio test of the primal simplex method, Dantzig 1951). Rows and columns are counted from 0.
use Rattle.std.specs.Prelude.{ℕ, ◌+◌, ◌-◌, ◌*◌, ◌≡◌, ◌≢◌, ◌⊎◌, ◌<◌, ◌≤◌, length, ℤ, pos, ◌<ℤ◌, ◌≤ℤ◌, unsigned_abs}
use Rattle.fraction_free.specs.Dictionary.{DictionaryView, entry_in, constant_in}
use Rattle.simplex.specs.declared.raise.Raised.{Raised}
use Rattle.simplex.specs.declared.raise.Raised.TheVariants.{Up, Reaches, Blocked, Unsettled}
use Rattle.simplex.specs.Choice.{IsBlocked}

-- as the nonbasic variable of a column rises from 0, the variable of this row comes to 0: it is that of the raised row, or it falls
abbrev pub ComesToZero : DictionaryView → ℕ → ℕ → ℕ → Type 0
ComesToZero dictionary raised column row = (row ≡ raised) ⊎ (entry_in dictionary row column <ℤ pos 0)

-- a row's variable comes to 0 no later than another's: the quotients of the sizes of constant and entry are in this order
abbrev pub IsNoLater : DictionaryView → ℕ → ℕ → ℕ → Type 0
IsNoLater dictionary column row other =
    unsigned_abs (constant_in dictionary row) * unsigned_abs (entry_in dictionary other column) ≤ unsigned_abs (constant_in dictionary other) * unsigned_abs (entry_in dictionary row column)

-- one of two rows, counted from 1, whose variable comes to 0 no later than the other's
pub record IsSooner (dictionary : DictionaryView) (column first row sooner : ℕ) : Type 0 where
  pub one : (sooner ≡ first) ⊎ (sooner ≡ row)
  pub than_first : IsNoLater dictionary column (sooner - 1) (first - 1)
  pub than_row : IsNoLater dictionary column (sooner - 1) (row - 1)

-- the row's variable comes to 0, and no later than each other that does
pub record IsFirstAtZero (dictionary : DictionaryView) (raised column row : ℕ) : Type 0 where
  pub within : row < length dictionary.loaded
  pub comes : ComesToZero dictionary raised column row
  pub first : (other : ℕ) → other < length dictionary.loaded → ComesToZero dictionary raised column other → IsNoLater dictionary column row other

-- what became of the raised row
abbrev pub IsRaised : DictionaryView → ℕ → Raised → Type 0
IsRaised dictionary raised Up = pos 0 ≤ℤ constant_in dictionary raised
IsRaised dictionary raised (Reaches col) = (1 ≤ col) × (constant_in dictionary raised <ℤ pos 0) × (pos 0 <ℤ entry_in dictionary raised (col - 1)) × IsFirstAtZero dictionary raised (col - 1) raised
IsRaised dictionary raised Blocked = (constant_in dictionary raised <ℤ pos 0) × IsBlocked dictionary raised
IsRaised dictionary raised Unsettled = Unit {0}

-- all basic variables but that of this row are at least 0
abbrev pub IsFeasibleBut : DictionaryView → ℕ → Type 0
IsFeasibleBut dictionary raised = (row : ℕ) → row < length dictionary.loaded → row ≢ raised → pos 0 ≤ℤ constant_in dictionary row
