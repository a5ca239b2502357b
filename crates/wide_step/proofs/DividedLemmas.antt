-- Numbers by their quotients and remainders: sums, signs, and what is left where the remainders cancel.
use Rattle.std.proofs.Common.{◌≡◌, ◌∙◌, ℕ, ◌+◌, ◌-◌, ◌*◌, ◌/◌, ◌%◌, ◌<◌, ◌≤◌, ◌^◌, ℤ, pos, neg_ℤ, ◌+ℤ◌, ◌-ℤ◌, ◌*ℤ◌, unsigned_abs, to_z, of_z, ap, arith}
use Rattle.std.proofs.lemmas.Int.{ints}
use Rattle.std.proofs.lemmas.Nat.{div-add-mod'}
use Rattle.row_laws.proofs.Integers.{add-mul, neg-mul, sub-mul, read_back}
use Rattle.wide_step.proofs.Integers.{same_quotient}
use Rattle.std.specs.Int.{w128}
use Rattle.wide_step.specs.declared.divided.Divided.{Divided}
use Rattle.wide_step.specs.Divided.{IsDivided}

pub of_exact : (n e : ℕ) → pos (n / e) *ℤ pos e +ℤ pos (n % e) ≡ pos n
of_exact n e = ap pos (div-add-mod' n e)

pub of_kept : (q : ℕ) → pos q ≡ pos q +ℤ pos 0 *ℤ pos (2 ^ 128)
of_kept q = omega (arith, ints)

-- a sum of two numbers has the sum of their quotients, and one more where the remainders carry
pub plus_exact : (p q x y : ℤ) (e r s t carry : ℕ) → p *ℤ pos e +ℤ pos r ≡ x → q *ℤ pos e +ℤ pos s ≡ y → r + s ≡ carry * e + t → (p +ℤ q +ℤ pos carry) *ℤ pos e +ℤ pos t ≡ x +ℤ y
plus_exact p q x y e r s t carry h k l =
    rw (add-mul (p +ℤ q) (pos carry) (pos e), add-mul p q (pos e)) (omega (arith, ints))

pub plus_kept : (p q k l : ℤ) (m n t carry over : ℕ) → pos m ≡ p +ℤ k *ℤ pos (2 ^ 128) → pos n ≡ q +ℤ l *ℤ pos (2 ^ 128) → m + n + carry ≡ over * 2 ^ 128 + t → pos t ≡ (p +ℤ q +ℤ pos carry) +ℤ (k +ℤ l -ℤ pos over) *ℤ pos (2 ^ 128)
plus_kept p q k l m n t carry over f g h = omega (arith, ints)

-- a number with its sign changed
pub neg_exact : (p x : ℤ) (e r : ℕ) → p *ℤ pos e +ℤ pos r ≡ x → r ≡ 0 → neg_ℤ p *ℤ pos e +ℤ pos 0 ≡ neg_ℤ x
neg_exact p x e r h z = rw (neg-mul p (pos e)) (omega (arith, ints))

pub neg_kept : (p k : ℤ) (m n over : ℕ) → pos m ≡ p +ℤ k *ℤ pos (2 ^ 128) → n + m ≡ over * 2 ^ 128 → pos n ≡ neg_ℤ p +ℤ (pos over -ℤ k) *ℤ pos (2 ^ 128)
neg_kept p k m n over f h = omega (arith, ints)

pub neg_over : (m n : ℕ) → (n + m) % 2 ^ 128 ≡ 0 → n + m ≡ ((n + m) / 2 ^ 128) * 2 ^ 128
neg_over m n e = omega arith

pub neg_exact_rest : (p x : ℤ) (e r : ℕ) → p *ℤ pos e +ℤ pos r ≡ x → r ≤ e → (neg_ℤ p -ℤ pos 1) *ℤ pos e +ℤ pos (e - r) ≡ neg_ℤ x
neg_exact_rest p x e r h l = rw (sub-mul (neg_ℤ p) (pos 1) (pos e), neg-mul p (pos e)) (omega (arith, ints))

pub neg_kept_rest : (p k : ℤ) (m : ℕ) → pos m ≡ p +ℤ k *ℤ pos (2 ^ 128) → m < 2 ^ 128 → pos (2 ^ 128 - 1 - m) ≡ (neg_ℤ p -ℤ pos 1) +ℤ (pos 1 -ℤ k) *ℤ pos (2 ^ 128)
neg_kept_rest p k m f h = omega (arith, ints)

-- where the remainders of two numbers cancel, the quotients' difference is the quotient
difference_exact : (p q k x y : ℤ) (e r s : ℕ) → 0 < e → r < e → s < e → p *ℤ pos e +ℤ pos r ≡ x → q *ℤ pos e +ℤ pos s ≡ y → k *ℤ pos e ≡ x -ℤ y → p -ℤ q ≡ k
difference_exact p q k x y e r s e_pos r_below s_below h i j =
    same_quotient (p -ℤ q) k (pos e) (rw (sub-mul p q (pos e)) (omega (arith, ints)))

difference_kept : (p q k l : ℤ) (m n : ℕ) → m < 2 ^ 128 → n < 2 ^ 128 → pos m ≡ p +ℤ k *ℤ pos (2 ^ 128) → pos n ≡ q +ℤ l *ℤ pos (2 ^ 128) → pos ((m + (2 ^ 128 - n)) % 2 ^ 128) ≡ (p -ℤ q) +ℤ (k -ℤ l +ℤ pos 1 -ℤ pos ((m + (2 ^ 128 - n)) / 2 ^ 128)) *ℤ pos (2 ^ 128)
difference_kept p q k l m n m_fits n_fits f g = omega (arith, ints)

-- a small number is known from its low 128 bits
small_by_bits : (q k : ℤ) (d : ℕ) → unsigned_abs q < 2 ^ 126 → d < 2 ^ 128 → pos d ≡ q +ℤ k *ℤ pos (2 ^ 128) → d ≡ of_z w128 q
small_by_bits q k d q_size d_fits h = omega (arith, ints)

pub signed_difference : (q x y : ℤ) (e : ℕ) (first second : Divided) → 0 < e → unsigned_abs q < 2 ^ 126 → first.quotient < 2 ^ 128 → second.quotient < 2 ^ 128 → IsDivided x e first → IsDivided y e second → q *ℤ pos e ≡ x -ℤ y → to_z w128 ((first.quotient + (2 ^ 128 - second.quotient)) % 2 ^ 128) ≡ q
signed_difference q x y e first second e_pos q_size m_fits n_fits f g h =
    let d = (first.quotient + (2 ^ 128 - second.quotient)) % 2 ^ 128 in
    let exact = difference_exact f.quotient g.quotient q x y e first.remainder second.remainder e_pos f.below g.below f.exact g.exact h in
    let kept = difference_kept f.quotient g.quotient f.wraps g.wraps first.quotient second.quotient m_fits n_fits f.kept g.kept in
    let wraps = f.wraps -ℤ g.wraps +ℤ pos 1 -ℤ pos ((first.quotient + (2 ^ 128 - second.quotient)) / 2 ^ 128) in
    let moved = kept ∙ ap (λ (z : ℤ). z +ℤ wraps *ℤ pos (2 ^ 128)) exact in
    let bits = small_by_bits q wraps d q_size (omega arith) moved in
    ap (to_z w128) bits ∙ read_back w128 q (omega arith)
