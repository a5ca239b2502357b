-- A fact for each element of a list, or of two lists of one length, with its number.
use Rattle.std.specs.Prelude.{◌≡◌, ℕ, ◌+◌, List, [], ◌∷◌, ◌++◌}

abbrev pub EachFrom : {X : Type 0} → (ℕ → X → Type 0) → ℕ → List X → Type 0
EachFrom P n [] = Unit {0}
EachFrom P n (x ∷ xs) = P n x × EachFrom P (n + 1) xs

abbrev pub EachZipFrom : {X Y : Type 0} → (ℕ → X → Y → Type 0) → ℕ → List X → List Y → Type 0
EachZipFrom P n [] [] = Unit {0}
EachZipFrom P n [] (y ∷ ys) = ⊥
EachZipFrom P n (x ∷ xs) [] = ⊥
EachZipFrom P n (x ∷ xs) (y ∷ ys) = P n x y × EachZipFrom P (n + 1) xs ys

-- the same where the second list is a stack: its last element is the first one's
abbrev pub StackFrom : {X Y : Type 0} → (ℕ → X → Y → Type 0) → ℕ → List X → List Y → Type 0
StackFrom P n [] ys = ys ≡ []
StackFrom {X} {Y} P n (x ∷ xs) ys = (rest : List Y) × (y : Y) × (ys ≡ rest ++ y ∷ []) × P n x y × StackFrom P (n + 1) xs rest
