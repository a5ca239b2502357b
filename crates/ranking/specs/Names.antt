-- What criteria and levels are called.
use Rattle.std.specs.Prelude.{◌≡◌, ℕ, ◌+◌, List, ◌∷◌, length, map, position, bytes_eq, codes, Option, option_map}
use Rattle.criteria_model.specs.Criteria.{Criteria}

-- a model, its criteria's names, and for each criterion its levels' names, the lowest first
pub record NamedCriteria : Type 0 where
  pub model : Criteria
  pub names : List (List ℕ)
  pub levels : List (List (List ℕ))

-- each criterion has a name, and each of its levels
pub record IsEachNamed (criteria : NamedCriteria) : Type 0 where
  pub criterion : length criteria.names ≡ length criteria.model.levels
  pub level : map length criteria.levels ≡ criteria.model.levels

-- the first of these levels with this name, counted from 1
abbrev pub level_named : List (List ℕ) → List ℕ → Option ℕ
level_named names name = option_map (λ place. place + 1) (position (bytes_eq name) names)

-- the first record of a table
abbrev pub header_of : NamedCriteria → List (List ℕ)
header_of criteria = codes "name" ∷ criteria.names
