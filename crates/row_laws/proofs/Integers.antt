-- The ring laws of the whole numbers, sizes and cancelling. A number is read as the difference `up - down`, and products are handed to `omega` by name.
use Rattle.std.proofs.Common.{◌≡◌, ◌≢◌, ◌⊎◌, inl, inr, ℕ, zero, suc, ◌+◌, ◌*◌, ◌/◌, ◌<◌, ◌≤◌, ◌^◌, ℤ, pos, negsuc, ◌+ℤ◌, ◌-ℤ◌, ◌*ℤ◌, neg_ℤ, unsigned_abs, to_z, of_z, refl, sym, ap, ◌∙◌, arith}
use Rattle.std.proofs.Math.IntN.{*ℤ_comm}
use Rattle.std.proofs.Math.Nat.{mul-div_cancel_left}
use Rattle.std.proofs.lemmas.Int.{unsigned_abs-mul, to_z-of_z, fits_signed_from_abs}
use Rattle.std.specs.Int.{Width}
use borrow.Author.Differences.{up, down, sum_is_lem, product_is, neg_is, same_in, same_out, abs_is}
use mir.Val.{hbits}

-- what `omega` needs for sums, differences and signs; a product stays an unknown
pub ruleset sums = (same_in, same_out, sum_is_lem, neg_is)

-- ---- the ring
pub mul-add : (a b c : ℤ) → a *ℤ (b +ℤ c) ≡ a *ℤ b +ℤ a *ℤ c
mul-add a b c =
    let s = sum_is_lem b c in
    same_in (a *ℤ (b +ℤ c)) (a *ℤ b +ℤ a *ℤ c)
    (omega (arith, product_is a (b +ℤ c), product_is a b, product_is a c, sum_is_lem (a *ℤ b) (a *ℤ c), ap (λ n. up a * n) s, ap (λ n. down a * n) s))

pub add-mul : (a b c : ℤ) → (a +ℤ b) *ℤ c ≡ a *ℤ c +ℤ b *ℤ c
add-mul a b c = omega (arith, sums, *ℤ_comm (a +ℤ b) c, *ℤ_comm a c, *ℤ_comm b c, mul-add c a b)

pub mul-neg : (a b : ℤ) → a *ℤ neg_ℤ b ≡ neg_ℤ (a *ℤ b)
mul-neg a b =
    let n = neg_is b in
    same_in (a *ℤ neg_ℤ b) (neg_ℤ (a *ℤ b))
    (omega (arith, product_is a (neg_ℤ b), product_is a b, neg_is (a *ℤ b), ap (λ n. up a * n) n.0, ap (λ n. up a * n) n.1, ap (λ n. down a * n) n.0, ap (λ n. down a * n) n.1))

pub neg-mul : (a b : ℤ) → neg_ℤ a *ℤ b ≡ neg_ℤ (a *ℤ b)
neg-mul a b = *ℤ_comm (neg_ℤ a) b ∙ mul-neg b a ∙ ap neg_ℤ (*ℤ_comm b a)

pub mul-sub : (a b c : ℤ) → a *ℤ (b -ℤ c) ≡ a *ℤ b -ℤ a *ℤ c
mul-sub a b c = mul-add a b (neg_ℤ c) ∙ ap (λ (n : ℤ). a *ℤ b +ℤ n) (mul-neg a c)

pub sub-mul : (a b c : ℤ) → (a -ℤ b) *ℤ c ≡ a *ℤ c -ℤ b *ℤ c
sub-mul a b c = add-mul a (neg_ℤ b) c ∙ ap (λ (n : ℤ). a *ℤ c +ℤ n) (neg-mul b c)

pub mul_assoc : (a b c : ℤ) → (a *ℤ b) *ℤ c ≡ a *ℤ (b *ℤ c)
mul_assoc a b c =
    let p = product_is a b in
    let q = product_is b c in
    same_in ((a *ℤ b) *ℤ c) (a *ℤ (b *ℤ c))
    (omega (arith, product_is (a *ℤ b) c, product_is a (b *ℤ c), ap (λ n. n * up c) p.0, ap (λ n. n * down c) p.0, ap (λ n. n * up c) p.1, ap (λ n. n * down c) p.1, ap (λ n. up a * n) q.0, ap (λ n. up a * n) q.1, ap (λ n. down a * n) q.0, ap (λ n. down a * n) q.1))

-- two factors change places
pub mul_left_comm : (a b c : ℤ) → a *ℤ (b *ℤ c) ≡ b *ℤ (a *ℤ c)
mul_left_comm a b c = sym (mul_assoc a b c) ∙ ap (λ (n : ℤ). n *ℤ c) (*ℤ_comm a b) ∙ mul_assoc b a c

pub zero-mul : (a : ℤ) → pos 0 *ℤ a ≡ pos 0
zero-mul a = let p = product_is (pos 0) a in same_in (pos 0 *ℤ a) (pos 0) (omega (arith, p))

pub mul-zero : (a : ℤ) → a *ℤ pos 0 ≡ pos 0
mul-zero a = *ℤ_comm a (pos 0) ∙ zero-mul a

pub one-mul : (a : ℤ) → pos 1 *ℤ a ≡ a
one-mul a = let p = product_is (pos 1) a in same_in (pos 1 *ℤ a) a (omega (arith, p))

pub mul-one : (a : ℤ) → a *ℤ pos 1 ≡ a
mul-one a = *ℤ_comm a (pos 1) ∙ one-mul a

-- ---- sizes
pub unsigned_abs-add : (a b : ℤ) → unsigned_abs (a +ℤ b) ≤ unsigned_abs a + unsigned_abs b
unsigned_abs-add a b = omega (arith, sum_is_lem a b, abs_is (a +ℤ b), abs_is a, abs_is b)

pub unsigned_abs-neg : (a : ℤ) → unsigned_abs (neg_ℤ a) ≡ unsigned_abs a
unsigned_abs-neg a = omega (arith, neg_is a, abs_is (neg_ℤ a), abs_is a)

pub unsigned_abs-sub : (a b : ℤ) → unsigned_abs (a -ℤ b) ≤ unsigned_abs a + unsigned_abs b
unsigned_abs-sub a b = omega (arith, unsigned_abs-add a (neg_ℤ b), unsigned_abs-neg b)

-- a number of size 0 is 0
pub zero_of_abs : (a : ℤ) → unsigned_abs a ≡ 0 → a ≡ pos 0
zero_of_abs (pos n) h = ap pos h
zero_of_abs (negsuc n) h = absurd (omega arith)

pub abs_positive : (a : ℤ) → a ≢ pos 0 → 0 < unsigned_abs a
abs_positive (pos zero) h = absurd (h refl)
abs_positive (pos (suc n)) h = omega arith
abs_positive (negsuc n) h = omega arith

-- numbers of one size are equal up to the sign
pub same_size : (a b : ℤ) → unsigned_abs a ≡ unsigned_abs b → (a ≡ b) ⊎ (a ≡ neg_ℤ b)
same_size (pos a) (pos b) e = inl (ap pos e)
same_size (pos a) (negsuc b) e = inr (ap pos e)
same_size (negsuc a) (pos b) e = inr (ap neg_ℤ (ap pos e))
same_size (negsuc a) (negsuc b) e = inl (omega (arith, sums))

-- a number that is small enough is read from its bits as it was
pub read_back : (w : Width) (z : ℤ) → unsigned_abs z < 2 ^ hbits w → to_z w (of_z w z) ≡ z
read_back w z h = to_z-of_z w z (fits_signed_from_abs w z h)

-- ---- cancelling a factor that is not 0
pub cancel_ℕ : (n a b : ℕ) → 0 < n → n * a ≡ n * b → a ≡ b
cancel_ℕ n a b h e = sym (mul-div_cancel_left a h) ∙ ap (λ x. x / n) e ∙ mul-div_cancel_left b h

pub cancel : (n a b : ℤ) → n ≢ pos 0 → n *ℤ a ≡ n *ℤ b → a ≡ b
cancel n a b h e =
    let none : n *ℤ (a -ℤ b) ≡ pos 0 = mul-sub n a b ∙ omega (arith, sums) in
    let size : unsigned_abs n * unsigned_abs (a -ℤ b) ≡ unsigned_abs n * 0 = sym (unsigned_abs-mul n (a -ℤ b)) ∙ ap unsigned_abs none ∙ omega arith in
    same a b (zero_of_abs (a -ℤ b) (cancel_ℕ (unsigned_abs n) (unsigned_abs (a -ℤ b)) 0 (abs_positive n h) size))
  where
    same : (a b : ℤ) → a -ℤ b ≡ pos 0 → a ≡ b
    same a b e = omega (arith, sums)
