-- What contracts see of a `Hello`.
use Rattle.std.specs.Prelude.{ℕ, List}

-- the respondent's name and code, and a desk
pub record HelloView : Type 0 where
  pub name : List ℕ
  pub code : List ℕ
  pub desk : ℕ
