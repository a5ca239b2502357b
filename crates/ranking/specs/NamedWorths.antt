-- Alternatives by their names, with what they are worth.
use Rattle.std.specs.Prelude.{ℕ, List, ℤ}

-- an alternative's name, and what it is worth
pub record NamedWorthView : Type 0 where
  pub name : List ℕ
  pub worth : ℤ
