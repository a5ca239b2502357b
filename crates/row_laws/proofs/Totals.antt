-- A sum of products as a function of all its factors: linear in them, and what it is after one of the numbers is exchanged.
use Rattle.std.proofs.Common.{◌≡◌, ◌≢◌, ℕ, zero, suc, ◌<◌, ℤ, pos, ◌+ℤ◌, ◌*ℤ◌, List, [], ◌∷◌, length, get_or, set, refl, sym, ap, ◌∙◌, arith}
use Rattle.std.proofs.lemmas.List.{set-get_or}
use Rattle.row_laws.specs.Rows.{entry, dot}
use Rattle.row_laws.proofs.RowLemmas.{dot_comm}
use Rattle.row_laws.proofs.Integers.{sums, add-mul, mul-add, mul_assoc, zero-mul, mul-zero}

-- the sum over the numbers, each times its factor
abbrev pub total : (ℕ → ℤ) → List ℤ → ℤ
total factor [] = pos 0
total factor (number ∷ numbers) = factor 0 *ℤ number +ℤ total (λ i. factor (suc i)) numbers

pub total-zero : (numbers : List ℤ) → total (λ i. pos 0) numbers ≡ pos 0
total-zero [] = refl
total-zero (c ∷ numbers) = none (pos 0 *ℤ c) (total (λ i. pos 0) numbers) (zero-mul c) (total-zero numbers)
  where
    none : (p q : ℤ) → p ≡ pos 0 → q ≡ pos 0 → p +ℤ q ≡ pos 0
    none p q h k = omega (arith, sums)

-- a factor that a list lacks counts as 0
pub dot_is_total : (factors numbers : List ℤ) → dot factors numbers ≡ total (entry factors) numbers
dot_is_total [] numbers = sym (total-zero numbers)
dot_is_total (x ∷ factors) [] = refl
dot_is_total (x ∷ factors) (c ∷ numbers) = ap (λ (n : ℤ). x *ℤ c +ℤ n) (dot_is_total factors numbers)

pub total_same : (f g : ℕ → ℤ) (numbers : List ℤ) → ((i : ℕ) → i < length numbers → f i ≡ g i) → total f numbers ≡ total g numbers
total_same f g [] h = refl
total_same f g (c ∷ numbers) h =
    ap (λ (n : ℤ). n *ℤ c +ℤ total (λ i. f (suc i)) numbers) (h 0 (omega arith))
    ∙ ap (λ (n : ℤ). g 0 *ℤ c +ℤ n) (total_same (λ i. f (suc i)) (λ i. g (suc i)) numbers (λ i l. h (suc i) (omega arith)))

linear_step : (x y f g c p q : ℤ) → (x *ℤ f +ℤ y *ℤ g) *ℤ c +ℤ (x *ℤ p +ℤ y *ℤ q) ≡ x *ℤ (f *ℤ c +ℤ p) +ℤ y *ℤ (g *ℤ c +ℤ q)
linear_step x y f g c p q = omega (arith, sums, add-mul (x *ℤ f) (y *ℤ g) c, mul_assoc x f c, mul_assoc y g c, mul-add x (f *ℤ c) p, mul-add y (g *ℤ c) q)

pub total_linear : (x y : ℤ) (f g : ℕ → ℤ) (numbers : List ℤ)
    → total (λ i. x *ℤ f i +ℤ y *ℤ g i) numbers ≡ x *ℤ total f numbers +ℤ y *ℤ total g numbers
total_linear x y f g [] = omega (arith, sums, mul-zero x, mul-zero y)
total_linear x y f g (c ∷ numbers) =
    ap (λ (n : ℤ). (x *ℤ f 0 +ℤ y *ℤ g 0) *ℤ c +ℤ n) (total_linear x y (λ i. f (suc i)) (λ i. g (suc i)) numbers)
    ∙ linear_step x y (f 0) (g 0) c (total (λ i. f (suc i)) numbers) (total (λ i. g (suc i)) numbers)

-- two sums that differ only in the product at k
pub total_exchange : (f g : ℕ → ℤ) (numbers : List ℤ) (k : ℕ) (number : ℤ) → k < length numbers
    → ((i : ℕ) → i < length numbers → i ≢ k → f i ≡ g i)
    → total f (set numbers k number) +ℤ g k *ℤ get_or numbers k (pos 0) ≡ total g numbers +ℤ f k *ℤ number
total_exchange f g [] k number h same = absurd (omega arith)
total_exchange f g (c ∷ numbers) zero number h same =
    exchanged (f 0 *ℤ number) (g 0 *ℤ c) (total (λ i. f (suc i)) numbers) (total (λ i. g (suc i)) numbers)
    (total_same (λ i. f (suc i)) (λ i. g (suc i)) numbers (λ i l. same (suc i) (omega arith) (omega arith)))
  where
    exchanged : (p q r s : ℤ) → r ≡ s → (p +ℤ r) +ℤ q ≡ (q +ℤ s) +ℤ p
    exchanged p q r s e = omega (arith, sums)
total_exchange f g (c ∷ numbers) (suc k) number h same =
    later (f 0 *ℤ c) (g 0 *ℤ c) (total (λ i. f (suc i)) (set numbers k number)) (g (suc k) *ℤ get_or numbers k (pos 0)) (total (λ i. g (suc i)) numbers) (f (suc k) *ℤ number)
    (ap (λ (n : ℤ). n *ℤ c) (same 0 (omega arith) (omega arith)))
    (total_exchange (λ i. f (suc i)) (λ i. g (suc i)) numbers k number (omega arith) (λ i l ne. same (suc i) (omega arith) (omega arith)))
  where
    later : (p q r s t u : ℤ) → p ≡ q → r +ℤ s ≡ t +ℤ u → (p +ℤ r) +ℤ s ≡ (q +ℤ t) +ℤ u
    later p q r s t u e h = omega (arith, sums)

-- a sum of which only the product at k may be other than 0
pub total_single : (f : ℕ → ℤ) (numbers : List ℤ) (k : ℕ) → k < length numbers
    → ((i : ℕ) → i < length numbers → i ≢ k → f i ≡ pos 0)
    → total f numbers ≡ f k *ℤ get_or numbers k (pos 0)
total_single f numbers k h zeros =
    let number : ℤ = get_or numbers k (pos 0) in
    let e : total f (set numbers k number) +ℤ pos 0 *ℤ number ≡ total (λ i. pos 0) numbers +ℤ f k *ℤ number = total_exchange f (λ i. pos 0) numbers k number h zeros in
    ap (total f) (sym (set-get_or numbers k (pos 0)))
    ∙ alone (total f (set numbers k number)) (pos 0 *ℤ number) (total (λ i. pos 0) numbers) (f k *ℤ number) (zero-mul number) (total-zero numbers) e
  where
    alone : (p q r s : ℤ) → q ≡ pos 0 → r ≡ pos 0 → p +ℤ q ≡ r +ℤ s → p ≡ s
    alone p q r s h k e = omega (arith, sums)

-- a product depends on what the second row has at the places of the first
pub dot-same : (v a b : List ℤ) → ((place : ℕ) → place < length v → entry a place ≡ entry b place) → dot v a ≡ dot v b
dot-same v a b h =
    dot_comm v a ∙ dot_is_total a v ∙ total_same (entry a) (entry b) v h ∙ sym (dot_is_total b v) ∙ dot_comm b v
