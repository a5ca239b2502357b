-- The place of the class of two alternatives.
use Rattle.std.specs.Prelude.{◌≡◌, ℕ, ◌≤◌, List, [], ◌∷◌, Option, Some, ◌==◌, if◌then◌else◌}
use Rattle.row_laws.specs.Items.{item_at}
use Rattle.criteria_model.specs.declared.pairs.Pair.{Pair}
use Rattle.criteria_model.specs.Alternatives.{IsAlternative, IsUndominated, degree}
use Rattle.criteria_model.specs.Criteria.{Criteria}
use Rattle.criteria_model.specs.Pairs.{AreReplicas}
use Rattle.pair_enumeration.specs.declared.flips.Flip.{Flip}
use Rattle.pair_enumeration.specs.declared.flips.Flip.TheVariants.{Kept, Turned}
use Rattle.pair_enumeration.specs.Listed.{Listed, IsListed}

-- the two as they are, or with their sides exchanged
abbrev pub flipped : Flip → List ℕ → List ℕ → Pair
flipped Kept a b = record { left = a; right = b }
flipped Turned a b = record { left = b; right = a }

-- two alternatives that need a question: undominated, and of a degree within the limit
pub record NeedsQuestion (criteria : Criteria) (a b : List ℕ) : Type 0 where
  pub undominated : IsUndominated a b
  pub within : degree a b ≤ criteria.degree

-- the class at a place, counted from 1; there is none at place 0
abbrev pub class_at : List Pair → ℕ → Option Pair
class_at classes place = item_at classes place

-- at this place of the list stands a class of which the two alternatives, so turned, are a replica
pub record IsPlaceOf (listed : Listed) (a b : List ℕ) (place : ℕ) (flip : Flip) : Type 0 where
  pub pair : Pair
  pub stands : class_at listed.classes place ≡ Some pair
  pub replica : AreReplicas listed.criteria.levels pair (flipped flip a b)

-- the first list's levels, and 0 where the two agree
abbrev pub cancelled : List ℕ → List ℕ → List ℕ
cancelled [] b = []
cancelled (x ∷ a) [] = []
cancelled (x ∷ a) (y ∷ b) = (if x == y then 0 else x) ∷ cancelled a b

-- two alternatives that need a question have a place and a flip
abbrev pub EachPairHasPlace : Type 0
EachPairHasPlace =
    (listed : Listed) (a b : List ℕ) → IsListed listed → IsAlternative listed.criteria.levels a → IsAlternative listed.criteria.levels b
    → NeedsQuestion listed.criteria a b → (place : ℕ) × (flip : Flip) × IsPlaceOf listed a b place flip

-- and they have no other place or flip
abbrev pub EachPairHasOnePlace : Type 0
EachPairHasOnePlace =
    (listed : Listed) (a b : List ℕ) (place other_place : ℕ) (flip other_flip : Flip) → IsListed listed
    → IsAlternative listed.criteria.levels a → IsAlternative listed.criteria.levels b
    → IsPlaceOf listed a b place flip → IsPlaceOf listed a b other_place other_flip → (place ≡ other_place) × (flip ≡ other_flip)
