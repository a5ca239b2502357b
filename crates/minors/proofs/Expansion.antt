-- Laplace's expansion: linear in its row and in what is left, turned in sign where two rows change places, and 0 at two equal rows.
use Rattle.std.proofs.Common.{◌≡◌, ℕ, ℤ, pos, ◌+ℤ◌, ◌-ℤ◌, ◌*ℤ◌, List, [], ◌∷◌, refl, ap, ◌∙◌, arith}
use Rattle.minors.specs.Minor.{expansion}
use Rattle.row_laws.proofs.Integers.{sums, mul-add, add-mul, mul-sub, mul_assoc, mul_left_comm, mul-zero}

row_step : (x y a b f p q : ℤ) → (x *ℤ a +ℤ y *ℤ b) *ℤ f -ℤ (x *ℤ p +ℤ y *ℤ q) ≡ x *ℤ (a *ℤ f -ℤ p) +ℤ y *ℤ (b *ℤ f -ℤ q)
row_step x y a b f p q = omega (arith, sums, add-mul (x *ℤ a) (y *ℤ b) f, mul_assoc x a f, mul_assoc y b f, mul-sub x (a *ℤ f) p, mul-sub y (b *ℤ f) q)

rest_step : (x y a f g p q : ℤ) → a *ℤ (x *ℤ f +ℤ y *ℤ g) -ℤ (x *ℤ p +ℤ y *ℤ q) ≡ x *ℤ (a *ℤ f -ℤ p) +ℤ y *ℤ (a *ℤ g -ℤ q)
rest_step x y a f g p q = omega (arith, sums, mul-add a (x *ℤ f) (y *ℤ g), mul_left_comm a x f, mul_left_comm a y g, mul-sub x (a *ℤ f) p, mul-sub y (a *ℤ g) q)

difference_step : (x a f g p q : ℤ) → a *ℤ (x *ℤ f -ℤ g) -ℤ (x *ℤ p -ℤ q) ≡ x *ℤ (a *ℤ f -ℤ p) -ℤ (a *ℤ g -ℤ q)
difference_step x a f g p q = omega (arith, sums, mul-sub a (x *ℤ f) g, mul_left_comm a x f, mul-sub x (a *ℤ f) p)

pub expansion_linear : (x y : ℤ) (a b : ℕ → ℤ) (rest : List ℕ → ℤ) (columns : List ℕ)
    → expansion (λ c. x *ℤ a c +ℤ y *ℤ b c) rest columns ≡ x *ℤ expansion a rest columns +ℤ y *ℤ expansion b rest columns
unfolding expansion
expansion_linear x y a b rest [] = omega (arith, sums, mul-zero x, mul-zero y)
expansion_linear x y a b rest (c ∷ columns) =
    ap (λ (n : ℤ). (x *ℤ a c +ℤ y *ℤ b c) *ℤ rest columns -ℤ n) (expansion_linear x y a b (λ others. rest (c ∷ others)) columns)
    ∙ row_step x y (a c) (b c) (rest columns) (expansion a (λ others. rest (c ∷ others)) columns) (expansion b (λ others. rest (c ∷ others)) columns)

pub expansion_rest_linear : (x y : ℤ) (a : ℕ → ℤ) (f g : List ℕ → ℤ) (columns : List ℕ)
    → expansion a (λ others. x *ℤ f others +ℤ y *ℤ g others) columns ≡ x *ℤ expansion a f columns +ℤ y *ℤ expansion a g columns
unfolding expansion
expansion_rest_linear x y a f g [] = omega (arith, sums, mul-zero x, mul-zero y)
expansion_rest_linear x y a f g (c ∷ columns) =
    ap (λ (n : ℤ). a c *ℤ (x *ℤ f columns +ℤ y *ℤ g columns) -ℤ n) (expansion_rest_linear x y a (λ others. f (c ∷ others)) (λ others. g (c ∷ others)) columns)
    ∙ rest_step x y (a c) (f columns) (g columns) (expansion a (λ others. f (c ∷ others)) columns) (expansion a (λ others. g (c ∷ others)) columns)

expansion_rest_difference : (x : ℤ) (a : ℕ → ℤ) (f g : List ℕ → ℤ) (columns : List ℕ)
    → expansion a (λ others. x *ℤ f others -ℤ g others) columns ≡ x *ℤ expansion a f columns -ℤ expansion a g columns
unfolding expansion
expansion_rest_difference x a f g [] = omega (arith, sums, mul-zero x)
expansion_rest_difference x a f g (c ∷ columns) =
    ap (λ (n : ℤ). a c *ℤ (x *ℤ f columns -ℤ g columns) -ℤ n) (expansion_rest_difference x a (λ others. f (c ∷ others)) (λ others. g (c ∷ others)) columns)
    ∙ difference_step x (a c) (f columns) (g columns) (expansion a (λ others. f (c ∷ others)) columns) (expansion a (λ others. g (c ∷ others)) columns)

swap_step : (p q r s : ℤ) → r +ℤ s ≡ pos 0 → (p -ℤ (q -ℤ r)) +ℤ (q -ℤ (p -ℤ s)) ≡ pos 0
swap_step p q r s h = omega (arith, sums)

-- two rows that change places turn the sign
pub expansion_swap : (a b : ℕ → ℤ) (rest : List ℕ → ℤ) (columns : List ℕ)
    → expansion a (expansion b rest) columns +ℤ expansion b (expansion a rest) columns ≡ pos 0
unfolding expansion
expansion_swap a b rest [] = refl
expansion_swap a b rest (c ∷ columns) =
    let f : List ℕ → ℤ = λ others. rest (c ∷ others) in
    let p : expansion a (λ others. b c *ℤ rest others -ℤ expansion b f others) columns ≡ b c *ℤ expansion a rest columns -ℤ expansion a (expansion b f) columns = expansion_rest_difference (b c) a rest (expansion b f) columns in
    let q : expansion b (λ others. a c *ℤ rest others -ℤ expansion a f others) columns ≡ a c *ℤ expansion b rest columns -ℤ expansion b (expansion a f) columns = expansion_rest_difference (a c) b rest (expansion a f) columns in
    ap (λ (n : ℤ). (a c *ℤ expansion b rest columns -ℤ n) +ℤ (b c *ℤ expansion a rest columns -ℤ expansion b (λ others. a c *ℤ rest others -ℤ expansion a f others) columns)) p
    ∙ ap (λ (n : ℤ). (a c *ℤ expansion b rest columns -ℤ (b c *ℤ expansion a rest columns -ℤ expansion a (expansion b f) columns)) +ℤ (b c *ℤ expansion a rest columns -ℤ n)) q
    ∙ swap_step (a c *ℤ expansion b rest columns) (b c *ℤ expansion a rest columns) (expansion a (expansion b f) columns) (expansion b (expansion a f) columns) (expansion_swap a b f columns)

half_zero : (n : ℤ) → n +ℤ n ≡ pos 0 → n ≡ pos 0
half_zero n h = omega (arith, sums)

pub expansion_twice : (a : ℕ → ℤ) (rest : List ℕ → ℤ) (columns : List ℕ) → expansion a (expansion a rest) columns ≡ pos 0
expansion_twice a rest columns = half_zero (expansion a (expansion a rest) columns) (expansion_swap a a rest columns)

zero_step : (a p : ℤ) → p ≡ pos 0 → a *ℤ pos 0 -ℤ p ≡ pos 0
zero_step a p h = omega (arith, sums, mul-zero a)

pub expansion_rest_zero : (a : ℕ → ℤ) (rest : List ℕ → ℤ) (columns : List ℕ) → ((others : List ℕ) → rest others ≡ pos 0) → expansion a rest columns ≡ pos 0
unfolding expansion
expansion_rest_zero a rest [] h = refl
expansion_rest_zero a rest (c ∷ columns) h =
    ap (λ (n : ℤ). a c *ℤ n -ℤ expansion a (λ others. rest (c ∷ others)) columns) (h columns)
    ∙ zero_step (a c) (expansion a (λ others. rest (c ∷ others)) columns) (expansion_rest_zero a (λ others. rest (c ∷ others)) columns (λ others. h (c ∷ others)))
