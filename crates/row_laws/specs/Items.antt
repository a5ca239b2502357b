-- Items of a list by their numbers, counted from 1.
use Rattle.std.specs.Prelude.{ℕ, zero, suc, List, Option, None, slice_get}

-- the item with a number; none has the number 0
abbrev pub item_at : {X : Type 0} → List X → ℕ → Option X
item_at items zero = None
item_at items (suc k) = slice_get items k
