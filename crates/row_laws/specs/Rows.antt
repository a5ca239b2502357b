-- Rows of whole numbers. A place that a row lacks counts as 0.
use Rattle.std.specs.Prelude.{ℕ, List, [], ◌∷◌, map, slice_index_or, ℤ, pos, ◌+ℤ◌, ◌-ℤ◌, ◌*ℤ◌, neg_ℤ}

-- the number at a place, counted from 0
abbrev pub entry : List ℤ → ℕ → ℤ
entry row place = slice_index_or row place (pos 0)

-- the sum of the products, place by place
abbrev pub dot : List ℤ → List ℤ → ℤ
dot [] ys = pos 0
dot (x ∷ xs) [] = pos 0
dot (x ∷ xs) (y ∷ ys) = x *ℤ y +ℤ dot xs ys

-- the sum, place by place
abbrev pub plus : List ℤ → List ℤ → List ℤ
plus [] ys = ys
plus (x ∷ xs) [] = x ∷ xs
plus (x ∷ xs) (y ∷ ys) = (x +ℤ y) ∷ plus xs ys

-- the difference, place by place
abbrev pub minus : List ℤ → List ℤ → List ℤ
minus [] ys = map neg_ℤ ys
minus (x ∷ xs) [] = x ∷ xs
minus (x ∷ xs) (y ∷ ys) = (x -ℤ y) ∷ minus xs ys

-- k times each place
abbrev pub times : ℤ → List ℤ → List ℤ
times k xs = map (λ x. k *ℤ x) xs
