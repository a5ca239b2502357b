-- Signs of whole numbers and of their products.
use Rattle.std.proofs.Common.{◌≡◌, ◌≢◌, zero, suc, ◌≤◌, ℤ, pos, negsuc, ◌*ℤ◌, ◌<ℤ◌, ◌≤ℤ◌, refl, arith, mul-le-mul}
use Rattle.std.proofs.lemmas.Int.{ints}
use borrow.Author.Differences.{product_is}

pub mul_nonneg : (a b : ℤ) → pos 0 ≤ℤ a → pos 0 ≤ℤ b → pos 0 ≤ℤ (a *ℤ b)
mul_nonneg (pos a) (pos b) h k = omega (arith, ints, product_is (pos a) (pos b))
mul_nonneg (negsuc a) b h k = absurd (omega (arith, ints))
mul_nonneg (pos a) (negsuc b) h k = absurd (omega (arith, ints))

pub mul_nonpos : (a b : ℤ) → a ≤ℤ pos 0 → pos 0 ≤ℤ b → (a *ℤ b) ≤ℤ pos 0
mul_nonpos (negsuc a) (pos b) h k = omega (arith, ints, product_is (negsuc a) (pos b))
mul_nonpos (pos zero) (pos b) h k = omega (arith, ints, product_is (pos 0) (pos b))
mul_nonpos (pos (suc a)) b h k = absurd (omega (arith, ints))
mul_nonpos (pos zero) (negsuc b) h k = absurd (omega (arith, ints))
mul_nonpos (negsuc a) (negsuc b) h k = absurd (omega (arith, ints))

pub mul_pos : (a b : ℤ) → pos 0 <ℤ a → pos 0 <ℤ b → pos 0 <ℤ (a *ℤ b)
mul_pos (pos (suc a)) (pos (suc b)) h k = omega (arith, ints, product_is (pos (suc a)) (pos (suc b)))
mul_pos (pos zero) b h k = absurd (omega (arith, ints))
mul_pos (pos (suc a)) (pos zero) h k = absurd (omega (arith, ints))
mul_pos (negsuc a) b h k = absurd (omega (arith, ints))
mul_pos (pos (suc a)) (negsuc b) h k = absurd (omega (arith, ints))

pub mul_neg : (a b : ℤ) → a <ℤ pos 0 → pos 0 <ℤ b → (a *ℤ b) <ℤ pos 0
mul_neg (negsuc a) (pos (suc b)) h k = omega (arith, ints, product_is (negsuc a) (pos (suc b)))
mul_neg (pos a) b h k = absurd (omega (arith, ints))
mul_neg (negsuc a) (pos zero) h k = absurd (omega (arith, ints))
mul_neg (negsuc a) (negsuc b) h k = absurd (omega (arith, ints))

pub positive_is_not_zero : (a : ℤ) → pos 0 <ℤ a → a ≢ pos 0
positive_is_not_zero a h e = omega (arith, ints)

pub nonneg_of_pos : (a : ℤ) → pos 0 <ℤ a → pos 0 ≤ℤ a
nonneg_of_pos a h = omega (arith, ints)

-- ---- numbers of at least 1
pub mul_positive : (a b : ℤ) → pos 1 ≤ℤ a → pos 1 ≤ℤ b → pos 1 ≤ℤ (a *ℤ b)
mul_positive (pos a) (pos b) h k =
    let p : 1 ≤ a = omega (arith, ints) in
    let q : 1 ≤ b = omega (arith, ints) in
    omega (arith, ints, mul-le-mul p q)
mul_positive (pos a) (negsuc b) h k = absurd (omega (arith, ints))
mul_positive (negsuc a) b h k = absurd (omega (arith, ints))

-- a factor of at least 1 keeps the sign
pub positive_from_multiple : (a b : ℤ) → pos 1 ≤ℤ a → pos 1 ≤ℤ (a *ℤ b) → pos 1 ≤ℤ b
positive_from_multiple (negsuc a) b h k = absurd (omega (arith, ints))
positive_from_multiple (pos a) (pos zero) h k = absurd (omega (arith, ints))
positive_from_multiple (pos a) (pos (suc b)) h k = omega (arith, ints)
positive_from_multiple (pos a) (negsuc b) h k = absurd (omega (arith, ints))

pub zero_from_multiple : (a b : ℤ) → pos 1 ≤ℤ a → a *ℤ b ≡ pos 0 → b ≡ pos 0
zero_from_multiple (negsuc a) b h k = absurd (omega (arith, ints))
zero_from_multiple (pos a) (pos zero) h k = refl
zero_from_multiple (pos a) (pos (suc b)) h k =
    let p : 1 ≤ a = omega (arith, ints) in
    let q : 1 ≤ suc b = omega arith in
    absurd (omega (arith, ints, mul-le-mul p q))
zero_from_multiple (pos a) (negsuc b) h k =
    let p : 1 ≤ a = omega (arith, ints) in
    let q : 1 ≤ suc b = omega arith in
    absurd (omega (arith, ints, mul-le-mul p q))
