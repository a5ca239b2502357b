-- JSON values as the replies write them: compact, the members of an object in byte order of their names.
use Rattle.std.specs.Prelude.{ℕ, List, [], ◌∷◌, map, ℤ}
use Rattle.std.specs.Fmt.{signed_decimal}
use Rattle.serde_json.specs.Data.{Data, number, unsigned, string, array, object, item, no_items, Members, no_members, put}
use Rattle.serde_json.specs.View.{items_of}
use Rattle.farkas_check.specs.declared.cites.Cite.{Cite}

-- members, put in the byte order of their names
abbrev pub in_order : List (List ℕ × Data) → Members
in_order [] = no_members
in_order (first ∷ members) = put first.0 first.1 (in_order members)

-- an object with these members
abbrev pub object_with : List (List ℕ × Data) → Data
object_with members = object (in_order members)

-- an object with one member
abbrev pub named : List ℕ → Data → Data
named name d = object_with ((name, d) ∷ [])

-- an array of the items' values
abbrev pub array_of : {X : Type 0} → (X → Data) → List X → Data
array_of f items = array (items_of (map f items))

-- a whole number
abbrev pub whole : ℕ → Data
whole n = number (unsigned n)

-- a certificate number, which is written as a string
abbrev pub certificate : ℤ → Data
certificate z = string (signed_decimal z)

-- a cited answer's number and its weight
abbrev pub cite_json : Cite → Data
cite_json cite = array (item (whole cite.answer) (item (certificate cite.weight) no_items))
