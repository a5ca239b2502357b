-- Two lists of equal length whose elements are related one by one.
use Rattle.std.proofs.Common.{◌≡◌, ℕ, zero, suc, List, [], ◌∷◌, Some, slice_get}
use Rattle.std.specs.Prelude.{slice_set}
use Rattle.std.specs.List.{AllZip}

pub zip_same : {X : Type 0} (R : X → X → Type 0) → ((x : X) → R x x) → (xs : List X) → AllZip R xs xs
zip_same R same [] = tt
zip_same R same (x ∷ xs) = (same x, zip_same R same xs)

pub zip_then : {X : Type 0} (R : X → X → Type 0) → ((x y z : X) → R x y → R y z → R x z) → (xs ys zs : List X) → AllZip R xs ys → AllZip R ys zs
    → AllZip R xs zs
zip_then R then [] [] zs p q = q
zip_then R then [] (y ∷ ys) zs p q = absurd p
zip_then R then (x ∷ xs) [] zs p q = absurd p
zip_then R then (x ∷ xs) (y ∷ ys) [] p q = absurd q
zip_then R then (x ∷ xs) (y ∷ ys) (z ∷ zs) p q = (then x y z p.0 q.0, zip_then R then xs ys zs p.1 q.1)

pub zip_set : {X : Type 0} (R : X → X → Type 0) → ((x : X) → R x x) → (xs : List X) (k : ℕ) (x y : X) → slice_get xs k ≡ Some x → R x y
    → AllZip R xs (slice_set xs k y)
zip_set R same [] k x y is r = tt
zip_set R same (z ∷ zs) zero x y is r = let e : z ≡ x = cc (is) in (rw e r, zip_same R same zs)
zip_set R same (z ∷ zs) (suc k) x y is r = (same z, zip_set R same zs k x y is r)
