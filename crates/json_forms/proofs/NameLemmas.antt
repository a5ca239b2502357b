-- Tests of items that are seen through another type.
use Rattle.std.proofs.Common.{◌≡◌, List, map, Bool, true, false, ◌&&◌, sym}
use Rattle.std.specs.List.{list_all}
use Rattle.std.proofs.lemmas.List.Folds.{list_all-map}

pub all_seen : {X Y : Type 0} (test : Y → Bool) (shown : X → Y) (xs : List X) → list_all (λ x. test (shown x)) xs ≡ list_all test (map shown xs)
all_seen test shown xs = sym (list_all-map test shown xs)

pub and_true : (a b r : Bool) → a ≡ true → r ≡ b → r ≡ (a && b)
and_true a b r h k = rw h k

pub and_false : (a b r : Bool) → a ≡ false → r ≡ false → r ≡ (a && b)
and_false a b r h k = rw h k
