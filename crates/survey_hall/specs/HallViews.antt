-- What clauses see of a hall.
use Rattle.std.specs.Prelude.{ℕ}
use Rattle.json_forms.specs.DefinitionViews.{DefinitionView}

-- the definition whose surveys it has, and how many eliminators it was built with
pub record HallView : Type 0 where
  pub definition : DefinitionView
  pub workers : ℕ
