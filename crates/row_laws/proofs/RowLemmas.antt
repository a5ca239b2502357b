-- Sums, differences, multiples and products of rows.
use Rattle.std.proofs.Common.{◌≡◌, ℕ, zero, suc, ◌+◌, ◌<◌, ◌≤◌, max, List, [], ◌∷◌, ◌++◌, length, map, take, drop, replicate, set, All, ℤ, pos, ◌+ℤ◌, ◌-ℤ◌, ◌*ℤ◌, neg_ℤ, unsigned_abs, refl, ap, ap₂, sym, ◌∙◌, arith, get_or, length-take}
use Rattle.std.proofs.Math.IntN.{*ℤ_comm}
use Rattle.std.proofs.Math.Nat.{mul-le-mul}
use Rattle.std.proofs.lemmas.Int.{ints, unsigned_abs-mul}
use Rattle.std.proofs.lemmas.List.{take_more, length-map}
use Rattle.std.proofs.lemmas.List.Elements.{All-cons, All-head, All-tail, All-nil, All-weaker}
use Rattle.row_laws.specs.Rows.{entry, dot, plus, minus, times}
use Rattle.row_laws.specs.Laws.{EntryOfSum, EntryOfDifference, EntryOfMultiple}
use Rattle.row_laws.proofs.Integers.{mul-add, mul-neg, neg-mul, mul-sub, mul_left_comm, mul-zero, unsigned_abs-add}

-- ---- place by place
pub entry-plus : EntryOfSum
entry-plus [] b k = omega (arith, ints)
entry-plus (x ∷ a) [] k = omega (arith, ints)
entry-plus (x ∷ a) (y ∷ b) zero = refl
entry-plus (x ∷ a) (y ∷ b) (suc k) = entry-plus a b k

entry-neg : (b : List ℤ) (k : ℕ) → entry (map neg_ℤ b) k ≡ neg_ℤ (entry b k)
entry-neg [] k = refl
entry-neg (y ∷ b) zero = refl
entry-neg (y ∷ b) (suc k) = entry-neg b k

pub entry-minus : EntryOfDifference
entry-minus [] b k = omega (arith, ints, entry-neg b k)
entry-minus (x ∷ a) [] k = omega (arith, ints)
entry-minus (x ∷ a) (y ∷ b) zero = refl
entry-minus (x ∷ a) (y ∷ b) (suc k) = entry-minus a b k

pub entry-times : EntryOfMultiple
entry-times k [] place = sym (mul-zero k)
entry-times k (x ∷ row) zero = refl
entry-times k (x ∷ row) (suc place) = entry-times k row place

-- ---- the product may exchange its rows
pub dot_comm : (a b : List ℤ) → dot a b ≡ dot b a
dot_comm [] [] = refl
dot_comm [] (y ∷ b) = refl
dot_comm (x ∷ a) [] = refl
dot_comm (x ∷ a) (y ∷ b) = ap₂ (λ p s. p +ℤ s) (*ℤ_comm x y) (dot_comm a b)

-- ---- the product is linear in its second row
pub dot-nil : (v : List ℤ) → dot v [] ≡ pos 0
dot-nil [] = refl
dot-nil (x ∷ v) = refl

pub dot-plus : (v a b : List ℤ) → dot v (plus a b) ≡ dot v a +ℤ dot v b
dot-plus [] a b = refl
dot-plus (x ∷ v) [] b = omega (arith, ints)
dot-plus (x ∷ v) (a ∷ a') [] = omega (arith, ints)
dot-plus (x ∷ v) (a ∷ a') (b ∷ b') = omega (arith, ints, dot-plus v a' b', mul-add x a b)

pub dot-neg : (v a : List ℤ) → dot v (map neg_ℤ a) ≡ neg_ℤ (dot v a)
dot-neg [] a = refl
dot-neg (x ∷ v) [] = refl
dot-neg (x ∷ v) (a ∷ a') = omega (arith, ints, dot-neg v a', mul-neg x a)

pub dot-neg_left : (v a : List ℤ) → dot (map neg_ℤ v) a ≡ neg_ℤ (dot v a)
dot-neg_left [] a = refl
dot-neg_left (x ∷ v) [] = refl
dot-neg_left (x ∷ v) (a ∷ a') = omega (arith, ints, dot-neg_left v a', neg-mul x a)

pub dot-minus : (v a b : List ℤ) → dot v (minus a b) ≡ dot v a -ℤ dot v b
dot-minus [] a b = refl
dot-minus (x ∷ v) [] b = omega (arith, ints, dot-neg (x ∷ v) b)
dot-minus (x ∷ v) (a ∷ a') [] = omega (arith, ints)
dot-minus (x ∷ v) (a ∷ a') (b ∷ b') = omega (arith, ints, dot-minus v a' b', mul-sub x a b)

pub dot-times : (k : ℤ) (v a : List ℤ) → dot v (times k a) ≡ k *ℤ dot v a
dot-times k [] a = sym (mul-zero k)
dot-times k (x ∷ v) [] = sym (mul-zero k)
dot-times k (x ∷ v) (a ∷ a') = omega (arith, ints, dot-times k v a', mul_left_comm x k a, mul-add k (x *ℤ a) (dot v a'))

-- ---- lengths
pub length-plus : (a b : List ℤ) → length (plus a b) ≡ max (length a) (length b)
length-plus [] b = omega arith
length-plus (x ∷ a) [] = omega arith
length-plus (x ∷ a) (y ∷ b) = omega (arith, length-plus a b)

pub length-minus : (a b : List ℤ) → length (minus a b) ≡ max (length a) (length b)
length-minus [] b = omega (arith, length-map b neg_ℤ)
length-minus (x ∷ a) [] = omega arith
length-minus (x ∷ a) (y ∷ b) = omega (arith, length-minus a b)

pub length-times : (k : ℤ) (a : List ℤ) → length (times k a) ≡ length a
length-times k a = length-map a (λ x. k *ℤ x)

-- ---- rows put together
pub dot-append : (a b c d : List ℤ) → length a ≡ length c → dot (a ++ b) (c ++ d) ≡ dot a c +ℤ dot b d
dot-append [] b [] d e = omega (arith, ints)
dot-append [] b (y ∷ c) d e = absurd (omega arith)
dot-append (x ∷ a) b [] d e = absurd (omega arith)
dot-append (x ∷ a) b (y ∷ c) d e = omega (arith, ints, dot-append a b c d (omega arith))

pub minus-append : (a b c d : List ℤ) → length a ≡ length c → minus (a ++ b) (c ++ d) ≡ minus a c ++ minus b d
minus-append [] b [] d e = refl
minus-append [] b (y ∷ c) d e = absurd (omega arith)
minus-append (x ∷ a) b [] d e = absurd (omega arith)
minus-append (x ∷ a) b (y ∷ c) d e = ap (λ r. (x -ℤ y) ∷ r) (minus-append a b c d (omega arith))

pub plus-append : (a b c d : List ℤ) → length a ≡ length c → plus (a ++ b) (c ++ d) ≡ plus a c ++ plus b d
plus-append [] b [] d e = refl
plus-append [] b (y ∷ c) d e = absurd (omega arith)
plus-append (x ∷ a) b [] d e = absurd (omega arith)
plus-append (x ∷ a) b (y ∷ c) d e = ap (λ r. (x +ℤ y) ∷ r) (plus-append a b c d (omega arith))

pub dot-take_more : (a b : List ℤ) (i : ℕ) → i < length a → length b ≡ length a
    → dot (take (i + 1) a) (take (i + 1) b) ≡ dot (take i a) (take i b) +ℤ get_or a i (pos 0) *ℤ get_or b i (pos 0)
dot-take_more a b i l e =
    let m : i < length b = omega arith in
    let same : length (take i a) ≡ length (take i b) = simp length-take (omega arith) in
    rw (take_more a i (pos 0) l, take_more b i (pos 0) m)
    (dot-append (take i a) (get_or a i (pos 0) ∷ []) (take i b) (get_or b i (pos 0) ∷ []) same
    ∙ ap (λ z. dot (take i a) (take i b) +ℤ z) (omega (arith, ints)))

-- ---- zeros
pub minus-zeros : (a : List ℤ) → minus a (replicate (length a) (pos 0)) ≡ a
minus-zeros [] = refl
minus-zeros (x ∷ a) =
    let e : x -ℤ pos 0 ≡ x = omega (arith, ints) in
    ap₂ (λ y r. y ∷ r) e (minus-zeros a)

pub minus-self : (a : List ℤ) → minus a a ≡ replicate (length a) (pos 0)
minus-self [] = refl
minus-self (x ∷ a) =
    let e : x -ℤ x ≡ pos 0 = omega (arith, ints) in
    ap₂ (λ y r. y ∷ r) e (minus-self a)

dot-zeros : (v : List ℤ) (n : ℕ) → dot v (replicate n (pos 0)) ≡ pos 0
dot-zeros [] n = refl
dot-zeros (x ∷ v) zero = refl
dot-zeros (x ∷ v) (suc n) = omega (arith, ints, mul-zero x, dot-zeros v n)

-- zeros after a row change no product
pub dot-append_zeros : (v a : List ℤ) (n : ℕ) → dot v (a ++ replicate n (pos 0)) ≡ dot v a
dot-append_zeros v [] n = dot-zeros v n ∙ sym (dot-nil v)
dot-append_zeros [] (y ∷ a) n = refl
dot-append_zeros (x ∷ v) (y ∷ a) n = ap (λ (s : ℤ). x *ℤ y +ℤ s) (dot-append_zeros v a n)

-- ---- adding a row, one place after another
pub plus-nil : (a : List ℤ) → plus a [] ≡ a
plus-nil [] = refl
plus-nil (x ∷ a) = refl

-- a row leaves the places after it as they were
pub plus-read : (a r : List ℤ) (i : ℕ) → length r ≤ i → i < length a → get_or (plus a r) i (pos 0) ≡ get_or a i (pos 0)
plus-read [] r i h k = absurd (omega (arith, k))
plus-read (x ∷ a) [] i h k = refl
plus-read (x ∷ a) (y ∷ r) zero h k = absurd (omega (arith, h))
plus-read (x ∷ a) (y ∷ r) (suc i) h k = plus-read a r i (omega arith) (omega arith)

-- one place more of a row changes one sum more
pub plus-push : (a r : List ℤ) (y : ℤ) → length r < length a
    → plus a (r ++ y ∷ []) ≡ set (plus a r) (length r) (get_or (plus a r) (length r) (pos 0) +ℤ y)
plus-push [] r y h = absurd (omega (arith, h))
plus-push (x ∷ a) [] y h = ap (λ rest. (x +ℤ y) ∷ rest) (plus-nil a)
plus-push (x ∷ a) (z ∷ r) y h = ap (λ rest. (x +ℤ z) ∷ rest) (plus-push a r y (omega arith))

pub plus-zeros : (a : List ℤ) (n : ℕ) → n ≤ length a → plus a (replicate n (pos 0)) ≡ a
plus-zeros a zero h = plus-nil a
plus-zeros [] (suc n) h = absurd (omega (arith, h))
plus-zeros (x ∷ a) (suc n) h =
    let same : x +ℤ pos 0 ≡ x = omega (arith, ints) in
    ap₂ (λ y rest. y ∷ rest) same (plus-zeros a n (omega arith))

pub times-zeros : (k : ℤ) (n : ℕ) → times k (replicate n (pos 0)) ≡ replicate n (pos 0)
times-zeros k zero = refl
times-zeros k (suc n) = ap₂ (λ y rest. y ∷ rest) (mul-zero k) (times-zeros k n)

pub plus-split : (a s : List ℤ) → length s ≤ length a → plus a s ≡ plus (take (length s) a) s ++ drop (length s) a
plus-split [] [] h = refl
plus-split [] (y ∷ s) h = absurd (omega (arith, h))
plus-split (x ∷ a) [] h = refl
plus-split (x ∷ a) (y ∷ s) h = ap (λ rest. (x +ℤ y) ∷ rest) (plus-split a s (omega arith))

-- a row r and then a row s: s changes the places from the length of r on
pub plus-append_after : (a r s : List ℤ) → length r + length s ≤ length a
    → plus a (r ++ s) ≡ take (length r) (plus a r) ++ (plus (take (length s) (drop (length r) (plus a r))) s ++ drop (length r + length s) (plus a r))
plus-append_after a [] s h =
    let none : 0 + length s ≡ length s = omega arith in
    rw (plus-nil a, none) (plus-split a s (omega (arith, h)))
plus-append_after [] (z ∷ r) s h = absurd (omega (arith, h))
plus-append_after (x ∷ a) (z ∷ r) s h =
    let more : suc (length r) + length s ≡ suc (length r + length s) = omega arith in
    rw more (ap (λ rest. (x +ℤ z) ∷ rest) (plus-append_after a r s (omega arith)))

-- a multiple of a row of -1, 0 and 1 makes sums larger by its factor at most
pub plus-times_small : (a : List ℤ) (w : ℤ) (row : List ℤ) (b n : ℕ) → All (λ x. unsigned_abs x ≤ b) a → unsigned_abs w ≤ n
    → All (λ x. unsigned_abs x ≤ 1) row → length row ≤ length a
    → All (λ x. unsigned_abs x ≤ b + n) (plus a (times w row))
plus-times_small [] w [] b n small weight unit len = All-nil (λ x. unsigned_abs x ≤ b + n)
plus-times_small [] w (y ∷ row) b n small weight unit len = absurd (omega (arith, len))
plus-times_small (x ∷ a) w [] b n small weight unit len = All-weaker (λ x. unsigned_abs x ≤ b) (λ x. unsigned_abs x ≤ b + n) (λ x h. omega arith) (x ∷ a) small
plus-times_small (x ∷ a) w (y ∷ row) b n small weight unit len =
    let x_small = All-head (λ x. unsigned_abs x ≤ b) x a small in
    let y_small = All-head (λ x. unsigned_abs x ≤ 1) y row unit in
    let here : unsigned_abs (x +ℤ (w *ℤ y)) ≤ b + n =
    omega (arith, unsigned_abs-add x (w *ℤ y), unsigned_abs-mul w y, mul-le-mul weight y_small, x_small) in
    All-cons (λ x. unsigned_abs x ≤ b + n) (x +ℤ (w *ℤ y)) (plus a (times w row)) here
    (plus-times_small a w row b n (All-tail (λ x. unsigned_abs x ≤ b) x a small) weight (All-tail (λ x. unsigned_abs x ≤ 1) y row unit) (omega arith))

pub drop-plus : (a r : List ℤ) → length r ≤ length a → drop (length r) (plus a r) ≡ drop (length r) a
drop-plus a [] h = ap (drop 0) (plus-nil a)
drop-plus [] (y ∷ r) h = absurd (omega (arith, h))
drop-plus (x ∷ a) (y ∷ r) h = drop-plus a r (omega arith)
