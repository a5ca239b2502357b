-- Lists that grow at the end.
use Rattle.std.proofs.Common.{◌≡◌, ◌⊎◌, List, [], ◌∷◌, ◌++◌, drop, refl, sym, ap, ◌∙◌, inl, inr}

snoc_not_empty : {X : Type 0} (xs : List X) (x : X) → xs ++ x ∷ [] ≡ [] → ⊥
snoc_not_empty [] x same = cc
snoc_not_empty (y ∷ xs) x same = cc

-- a list ends in one way
pub snoc_once : {X : Type 0} (xs : List X) (x : X) (ys : List X) (y : X) → xs ++ x ∷ [] ≡ ys ++ y ∷ [] → (xs ≡ ys) × (x ≡ y)
snoc_once [] x [] y same = (refl, cc)
snoc_once [] x (b ∷ ys) y same = absurd (snoc_not_empty ys y (sym (ap (drop 1) same)))
snoc_once (a ∷ xs) x [] y same = absurd (snoc_not_empty xs x (ap (drop 1) same))
snoc_once {X} (a ∷ xs) x (b ∷ ys) y same =
    let heads : a ≡ b = cc in
    let (fronts, lasts) = snoc_once xs x ys y (ap (drop 1) same) in
    (ap (λ (h : X). h ∷ xs) heads ∙ ap (λ (rest : List X). b ∷ rest) fronts, lasts)

-- a list is empty, or has a last element
pub snoc_cases : {X : Type 0} (xs : List X) → (xs ≡ []) ⊎ ((front : List X) × (last : X) × (xs ≡ front ++ last ∷ []))
snoc_cases [] = inl refl
snoc_cases {X} (x ∷ xs) = inr (elim (snoc_cases xs) [
  | inl none ↦ ([], x, ap (λ (rest : List X). x ∷ rest) none)
  | inr some ↦ (x ∷ some.0, some.1, ap (λ (rest : List X). x ∷ rest) some.2)
])
