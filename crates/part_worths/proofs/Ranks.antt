-- In a strict order of n places, min m n of them have fewer than m others before them.
use Rattle.std.proofs.Common.{◌≡◌, ◌≢◌, ◌⊎◌, inl, inr, ℕ, zero, suc, ◌+◌, ◌-◌, ◌<◌, ◌≤◌, min, Bool, true, false, cond, List, [], ◌∷◌, length, get_or, nat_lt, count_by, refl, ap, sym, subst, ◌∙◌, ⊎_elim, arith}
use Rattle.std.specs.List.{range_with_len}
use Rattle.std.proofs.lemmas.Bool.Decides.{nat_tests}
use Rattle.std.proofs.lemmas.List.FromFn.{length-range_with_len, get_or-range_with_len}
use Rattle.std.proofs.lemmas.List.Sums.{sum_by-cons, sum_by-le-sum_by, count_by-le-length}

-- `before i j` says that j comes before i
pub record IsOrder (before : ℕ → ℕ → Bool) : Type 0 where
  pub irreflexive : (i : ℕ) → before i i ≡ false
  pub transitive : (i j k : ℕ) → before i j ≡ true → before j k ≡ true → before i k ≡ true
  pub total : (i j : ℕ) → i ≢ j → before i j ≡ false → before j i ≡ true

abbrev pub Distinct : List ℕ → Type 0
Distinct [] = Unit {0}
Distinct (x ∷ xs) = ((k : ℕ) → k < length xs → get_or xs k 0 ≢ x) × Distinct xs

pub distinct_range : (a n : ℕ) → Distinct (range_with_len a n)
distinct_range a zero = tt
distinct_range a (suc n) = ((λ k l e. let at = get_or-range_with_len (a + 1) n k 0 (omega (arith, length-range_with_len (a + 1) n)) in absurd (omega arith)), distinct_range (a + 1) n)

pub either : (b : Bool) → (b ≡ true) ⊎ (b ≡ false)
either true = inl refl
either false = inr refl

abbrev bit : Bool → ℕ
bit b = cond b 1 0

bit_le : (a b : Bool) → (a ≡ true → b ≡ true) → cond a 1 0 ≤ cond b 1 0
bit_le true b h = let e = h refl in subst (λ (c : Bool). 1 ≤ cond c 1 0) (sym e) (omega arith)
bit_le false b h = omega arith

module _ (p q : ℕ → Bool) where
  count_le : (xs : List ℕ) → ((x : ℕ) → p x ≡ true → q x ≡ true) → count_by p xs ≤ count_by q xs
  count_le xs imp = sum_by-le-sum_by (λ y. cond (p y) 1 0) (λ y. cond (q y) 1 0) xs (λ x. bit_le (p x) (q x) (imp x))

  count_same : (xs : List ℕ) → ((k : ℕ) → k < length xs → p (get_or xs k 0) ≡ q (get_or xs k 0)) → count_by p xs ≡ count_by q xs
  count_same [] same = refl
  count_same (x ∷ xs) same =
      let here : bit (p x) ≡ bit (q x) = ap bit (same 0 (omega arith)) in
      let rest = count_same xs (λ k l. same (suc k) (omega arith)) in
      omega (arith, sum_by-cons (λ y. cond (p y) 1 0) x xs, sum_by-cons (λ y. cond (q y) 1 0) x xs)

  -- where p implies q, and one item passes only q
  count_less : (xs : List ℕ) (k : ℕ) → k < length xs → ((x : ℕ) → p x ≡ true → q x ≡ true) → p (get_or xs k 0) ≡ false → q (get_or xs k 0) ≡ true
      → count_by p xs < count_by q xs
  count_less [] k l imp fails passes = absurd (omega arith)
  count_less (x ∷ xs) zero l imp fails passes =
      let a : bit (p x) ≡ 0 = ap bit fails in let b : bit (q x) ≡ 1 = ap bit passes in
      omega (arith, count_le xs imp, sum_by-cons (λ y. cond (p y) 1 0) x xs, sum_by-cons (λ y. cond (q y) 1 0) x xs)
  count_less (x ∷ xs) (suc k) l imp fails passes =
      omega (arith, count_less xs k (omega arith) imp fails passes, bit_le (p x) (q x) (imp x), sum_by-cons (λ y. cond (p y) 1 0) x xs, sum_by-cons (λ y. cond (q y) 1 0) x xs)

module _ (before : ℕ → ℕ → Bool) (order : IsOrder before) where
  -- where x joins the others, an item has fewer than m before it exactly where it had fewer than this
  joins : (x y : ℕ) (xs : List ℕ) (k m : ℕ) → k < length xs → get_or xs k 0 ≡ y → y ≢ x
      → nat_lt (count_by (before y) (x ∷ xs)) m ≡ nat_lt (count_by (before y) xs) (cond (nat_lt (count_by (before x) xs) m) (m - 1) m)
  joins x y xs k m l at other =
      let total = sum_by-cons (λ z. cond (before y z) 1 0) x xs in
      ⊎_elim
      (λ (first : before y x ≡ true).
      let one : bit (before y x) ≡ 1 = ap bit first in
      let more = count_le (before x) (before y) xs (λ z h. order.transitive y x z first h) in
      grind (arith, nat_tests))
      (λ (later : before y x ≡ false).
      let zero' : bit (before y x) ≡ 0 = ap bit later in
      let ahead = order.total y x other later in
      let less = count_less (before y) (before x) xs k l (λ z h. order.transitive x y z ahead h)
      (subst (λ (z : ℕ). before y z ≡ false) (sym at) (order.irreflexive y)) (subst (λ (z : ℕ). before x z ≡ true) (sym at) ahead) in
      grind (arith, nat_tests))
      (either (before y x))

  pub count_ranked : (xs : List ℕ) (m : ℕ) → Distinct xs → count_by (λ i. nat_lt (count_by (before i) xs) m) xs ≡ min m (length xs)
  count_ranked [] m distinct = grind arith
  count_ranked (x ∷ xs) m distinct =
      let own : count_by (before x) (x ∷ xs) ≡ count_by (before x) xs = sum_by-cons (λ z. cond (before x z) 1 0) x xs ∙ ap (λ b. bit b + count_by (before x) xs) (order.irreflexive x) ∙ omega arith in
      let here : bit (nat_lt (count_by (before x) (x ∷ xs)) m) ≡ bit (nat_lt (count_by (before x) xs) m) = ap (λ n. bit (nat_lt n m)) own in
      let rest = count_same (λ i. nat_lt (count_by (before i) (x ∷ xs)) m) (λ i. nat_lt (count_by (before i) xs) (cond (nat_lt (count_by (before x) xs) m) (m - 1) m)) xs
      (λ k l. joins x (get_or xs k 0) xs k m l refl (distinct.0 k l)) in
      let less = count_ranked xs (cond (nat_lt (count_by (before x) xs) m) (m - 1) m) distinct.1 in
      let all = sum_by-cons (λ i. cond (nat_lt (count_by (before i) (x ∷ xs)) m) 1 0) x xs in
      let most = count_by-le-length (before x) xs in
      ⊎_elim
      (λ (e : nat_lt (count_by (before x) xs) m ≡ true). grind (arith, nat_tests))
      (λ (e : nat_lt (count_by (before x) xs) m ≡ false). grind (arith, nat_tests))
      (either (nat_lt (count_by (before x) xs) m))
