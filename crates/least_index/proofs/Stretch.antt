-- A stretch of pivots that exchange only variables below k has fewer than 2^k of them.
use Rattle.std.proofs.Common.{◌≡◌, ◌≢◌, ℕ, zero, suc, ◌+◌, ◌-◌, ◌^◌, ◌<◌, ◌≤◌, Bool, true, false, cond, ◌||◌, ◌⊎◌, inl, inr, ℤ, pos, ◌<ℤ◌, refl, sym, ap, subst, ◌∙◌, arith}
use Rattle.std.specs.Prelude.{nat_lt, ◌==◌}
use Rattle.std.proofs.Math.Nat.{two-pow-succ}
use Rattle.std.proofs.lemmas.Nat.{pow_pos}
use Rattle.std.proofs.lemmas.Bool.{cond-true, cond-false, cases_Bool, ltb-true, ltb-false, eq-eqb, eqb-true, true≢false, false≢true, false_from_ne_true}
use Rattle.least_index.specs.Dictionary.{RationalDictionary, IsSolution}
use Rattle.least_index.specs.Rule.{first, leaving, entering, is_end, next}
use Rattle.least_index.proofs.First.{first-below, first-passes}
use Rattle.least_index.proofs.Exchange.{exchange_keeps, exchange_reflects}
use Rattle.least_index.proofs.Choice.{IsChoice, chosen, choice_is_exchange, next_scale, next_size, next_basic, basic_solution}
use Rattle.least_index.proofs.Opposed.{not_opposed}

-- n pivots by the rule, one after another
pub record IsRun (at : ℕ → RationalDictionary) (n : ℕ) : Type 0 where
  pub positive : pos 0 <ℤ (at 0).scale
  pub going : (i : ℕ) → i < n → is_end (at i) ≡ false
  pub step : (i : ℕ) → i < n → at (suc i) ≡ next (at i)

-- the m pivots from a on exchange only variables below k
abbrev pub IsStretch : (ℕ → RationalDictionary) → ℕ → ℕ → ℕ → Type 0
IsStretch at k a m = (i : ℕ) → i < m → (entering (at (a + i)) < k) × (leaving (at (a + i)) < k)

scale_of : (at : ℕ → RationalDictionary) (n : ℕ) → IsRun at n → (i : ℕ) → i ≤ n → pos 0 <ℤ (at i).scale
scale_of at n run zero h = run.positive
scale_of at n run (suc i) h =
    subst (λ (t : RationalDictionary). pos 0 <ℤ t.scale) (sym (run.step i (omega arith))) (next_scale (at i) (scale_of at n run i (omega arith)) (run.going i (omega arith)))

size_of : (at : ℕ → RationalDictionary) (n : ℕ) → IsRun at n → (i : ℕ) → i ≤ n → (at i).size ≡ (at 0).size
size_of at n run zero h = refl
size_of at n run (suc i) h =
    ap (λ (t : RationalDictionary). t.size) (run.step i (omega arith)) ∙ next_size (at i) ∙ size_of at n run i (omega arith)

from_start : (at : ℕ → RationalDictionary) (n : ℕ) → IsRun at n → (one : ℤ) (x : ℕ → ℤ) (i : ℕ) → i ≤ n → IsSolution (at 0) one x → IsSolution (at i) one x
unfolding next
from_start at n run one x zero h sat = sat
from_start at n run one x (suc i) h sat =
    subst (λ (t : RationalDictionary). IsSolution t one x) (sym (run.step i (omega arith)))
    (exchange_keeps (at i) (leaving (at i)) (entering (at i)) one x (choice_is_exchange (at i) (scale_of at n run i (omega arith)) (run.going i (omega arith)))
    (from_start at n run one x i (omega arith) sat))

to_start : (at : ℕ → RationalDictionary) (n : ℕ) → IsRun at n → (one : ℤ) (x : ℕ → ℤ) (i : ℕ) → i ≤ n → IsSolution (at i) one x → IsSolution (at 0) one x
unfolding next
to_start at n run one x zero h sat = sat
to_start at n run one x (suc i) h sat =
    to_start at n run one x i (omega arith)
    (exchange_reflects (at i) (leaving (at i)) (entering (at i)) one x (choice_is_exchange (at i) (scale_of at n run i (omega arith)) (run.going i (omega arith)))
    (subst (λ (t : RationalDictionary). IsSolution t one x) (run.step i (omega arith)) sat))

-- what one pivot does to a variable's being basic
basic_after : (at : ℕ → RationalDictionary) (n : ℕ) → IsRun at n → (i v : ℕ) → i < n → (at (suc i)).is_basic v ≡ cond (v == entering (at i)) true (cond (v == leaving (at i)) false ((at i).is_basic v))
basic_after at n run i v h = ap (λ (t : RationalDictionary). t.is_basic v) (run.step i h) ∙ next_basic (at i) v

differs : (a b : ℕ) → a ≢ b → (b == a) ≡ false
differs a b ne = false_from_ne_true (b == a) (λ e. ne (sym (eqb-true b a e)))

-- a variable that no pivot of a stretch exchanges stays basic, or stays not basic
stays : (at : ℕ → RationalDictionary) (n : ℕ) → IsRun at n → (v a m : ℕ) → a + m ≤ n
    → ((i : ℕ) → i < m → (entering (at (a + i)) ≢ v) × (leaving (at (a + i)) ≢ v))
    → (at (a + m)).is_basic v ≡ (at a).is_basic v
stays at n run v a zero h none = let e : a + zero ≡ a = omega arith in ap (λ (i : ℕ). (at i).is_basic v) e
stays at n run v a (suc m) h none =
    let e : a + suc m ≡ suc (a + m) = omega arith in
    let lt : a + m < n = omega arith in
    let free : (entering (at (a + m)) ≢ v) × (leaving (at (a + m)) ≢ v) = none m (omega arith) in
    ap (λ (i : ℕ). (at i).is_basic v) e
    ∙ basic_after at n run (a + m) v lt
    ∙ cond-false (v == entering (at (a + m))) true (cond (v == leaving (at (a + m))) false ((at (a + m)).is_basic v)) (differs (entering (at (a + m))) v free.0)
    ∙ cond-false (v == leaving (at (a + m))) false ((at (a + m)).is_basic v) (differs (leaving (at (a + m))) v free.1)
    ∙ stays at n run v a m (omega arith) (λ i l. none i (omega arith))

-- in a stretch of variables up to k, k does not enter at one pivot and leave at another
enters_or_leaves : (at : ℕ → RationalDictionary) (n : ℕ) → IsRun at n → (k a m i j : ℕ) → a + m ≤ n → IsStretch at (suc k) a m → i < m → j < m
    → entering (at (a + i)) ≡ k → leaving (at (a + j)) ≡ k → ⊥
enters_or_leaves at n run k a m i j h stretch li lj enters leaves =
    not_opposed (at (a + i)) (at (a + j)) (leaving (at (a + i))) k k (entering (at (a + j)))
    (scale_of at n run (a + i) (omega arith)) (scale_of at n run (a + j) (omega arith))
    (subst (λ (c : ℕ). IsChoice (at (a + i)) (leaving (at (a + i))) c) enters (chosen (at (a + i)) (run.going (a + i) (omega arith))))
    (subst (λ (r : ℕ). IsChoice (at (a + j)) r (entering (at (a + j)))) leaves (chosen (at (a + j)) (run.going (a + j) (omega arith))))
    (let lt : leaving (at (a + i)) < suc k = (stretch i li).1 in omega arith)
    (λ w gt lt free. above w gt j lj ∙ sym (above w gt i li) ∙ free)
    (λ sat. from_start at n run (at (a + j)).scale (basic_solution (at (a + j))) (a + i) (omega arith)
    (to_start at n run (at (a + j)).scale (basic_solution (at (a + j))) (a + j) (omega arith) sat))
  where
    above : (w : ℕ) → k < w → (o : ℕ) → o < m → (at (a + o)).is_basic w ≡ (at a).is_basic w
    above w gt o lo = stays at n run w a o (omega arith) (λ p lp. (not_it w gt (entering (at (a + p))) (stretch p (omega arith)).0, not_it w gt (leaving (at (a + p))) (stretch p (omega arith)).1))
      where
        not_it : (w : ℕ) → k < w → (v : ℕ) → v < suc k → v ≢ w
        not_it w gt v lt e = omega arith

-- the pivot exchanges k
abbrev exchanges : (ℕ → RationalDictionary) → ℕ → ℕ → ℕ → Bool
exchanges at k a i = (entering (at (a + i)) == k) || (leaving (at (a + i)) == k)

neither : (x y k : ℕ) → ((x == k) || (y == k)) ≡ false → (x ≢ k) × (y ≢ k)
neither x y k h = (λ e. true≢false (sym (or_left (x == k) (y == k) (eq-eqb x k e)) ∙ h), λ e. true≢false (sym (or_right (x == k) (y == k) (eq-eqb y k e)) ∙ h))
  where
    or_left : (b c : Bool) → b ≡ true → (b || c) ≡ true
    or_left true c e = refl
    or_left false c e = absurd (false≢true e)

    or_right : (b c : Bool) → c ≡ true → (b || c) ≡ true
    or_right true c e = refl
    or_right false c e = e

either : (x y k : ℕ) → ((x == k) || (y == k)) ≡ true → (x ≡ k) ⊎ (y ≡ k)
either x y k h = from (x == k) (y == k) refl refl h
  where
    from : (b c : Bool) → (x == k) ≡ b → (y == k) ≡ c → (b || c) ≡ true → (x ≡ k) ⊎ (y ≡ k)
    from true c e f h = inl (eqb-true x k e)
    from false true e f h = inr (eqb-true y k f)
    from false false e f h = absurd (false≢true h)

-- a part of a stretch before its first exchange of k
smaller : (at : ℕ → RationalDictionary) (k a m i : ℕ) → IsStretch at (suc k) a m → i ≤ m → ((j : ℕ) → j < i → exchanges at k a j ≡ false) → IsStretch at k a i
smaller at k a m i stretch le none j lt =
    let ne : (entering (at (a + j)) ≢ k) × (leaving (at (a + j)) ≢ k) = neither (entering (at (a + j))) (leaving (at (a + j))) k (none j lt) in
    let bounds : (entering (at (a + j)) < suc k) × (leaving (at (a + j)) < suc k) = stretch j (omega arith) in
    (below (entering (at (a + j))) k bounds.0 ne.0, below (leaving (at (a + j))) k bounds.1 ne.1)
  where
    below : (v k : ℕ) → v < suc k → v ≢ k → v < k
    below v k lt ne = omega arith

-- a stretch from a later pivot on
later : (at : ℕ → RationalDictionary) (k a m i : ℕ) → IsStretch at k a m → i ≤ m → IsStretch at k (a + i) (m - i)
later at k a m i stretch le j lt =
    let e : a + (i + j) ≡ a + i + j = omega arith in
    subst (λ (o : ℕ). (entering (at o) < k) × (leaving (at o) < k)) e (stretch (i + j) (omega arith))

-- after one exchange of k there is no other
once : (at : ℕ → RationalDictionary) (n : ℕ) → IsRun at n → (k a m i j : ℕ) → a + m ≤ n → IsStretch at (suc k) a m → i < m → i + 1 + j < m
    → exchanges at k a i ≡ true → exchanges at k (a + (i + 1)) j ≡ true → ((o : ℕ) → o < j → exchanges at k (a + (i + 1)) o ≡ false) → ⊥
once at n run k a m i j h stretch li lj here there between =
    first_case (either (entering (at (a + i))) (leaving (at (a + i))) k here)
  where
    last : ℕ
    last = a + (i + 1) + j

    again : (entering (at (a + (i + 1) + j)) ≡ k) ⊎ (leaving (at (a + (i + 1) + j)) ≡ k)
    again = either (entering (at (a + (i + 1) + j))) (leaving (at (a + (i + 1) + j))) k there

    kept : (at (a + (i + 1) + j)).is_basic k ≡ (at (a + (i + 1))).is_basic k
    kept = stays at n run k (a + (i + 1)) j (omega arith) (λ o lt. neither (entering (at (a + (i + 1) + o))) (leaving (at (a + (i + 1) + o))) k (between o lt))

    moved : (at (a + (i + 1))).is_basic k ≡ cond (k == entering (at (a + i))) true (cond (k == leaving (at (a + i))) false ((at (a + i)).is_basic k))
    moved = let e : a + (i + 1) ≡ suc (a + i) = omega arith in
        ap (λ (o : ℕ). (at o).is_basic k) e ∙ basic_after at n run (a + i) k (omega arith)

    choice : IsChoice (at (a + (i + 1) + j)) (leaving (at (a + (i + 1) + j))) (entering (at (a + (i + 1) + j)))
    choice = chosen (at (a + (i + 1) + j)) (run.going (a + (i + 1) + j) (omega arith))

    early : IsChoice (at (a + i)) (leaving (at (a + i))) (entering (at (a + i)))
    early = chosen (at (a + i)) (run.going (a + i) (omega arith))

    place : a + (i + 1) + j ≡ a + (i + 1 + j)
    place = omega arith

    second_case : entering (at (a + i)) ≡ k → (entering (at (a + (i + 1) + j)) ≡ k) ⊎ (leaving (at (a + (i + 1) + j)) ≡ k) → ⊥
    second_case e (inl f) =
        true≢false (sym (kept ∙ moved ∙ cond-true (k == entering (at (a + i))) true (cond (k == leaving (at (a + i))) false ((at (a + i)).is_basic k)) (eq-eqb k (entering (at (a + i))) (sym e)))
        ∙ ap (at (a + (i + 1) + j)).is_basic (sym f) ∙ choice.entering_free)
    second_case e (inr f) =
        enters_or_leaves at n run k a m i (i + 1 + j) h stretch li lj e (ap (λ (o : ℕ). leaving (at o)) (sym place) ∙ f)

    third_case : leaving (at (a + i)) ≡ k → (entering (at (a + (i + 1) + j)) ≡ k) ⊎ (leaving (at (a + (i + 1) + j)) ≡ k) → ⊥
    third_case e (inl f) =
        enters_or_leaves at n run k a m (i + 1 + j) i h stretch lj li (ap (λ (o : ℕ). entering (at o)) (sym place) ∙ f) e
    third_case e (inr f) =
        let ne : entering (at (a + i)) ≢ k = λ g. true≢false (sym early.leaving_basic ∙ ap (at (a + i)).is_basic (e ∙ sym g) ∙ early.entering_free) in
        true≢false (sym choice.leaving_basic ∙ ap (at (a + (i + 1) + j)).is_basic f ∙ kept ∙ moved
        ∙ cond-false (k == entering (at (a + i))) true (cond (k == leaving (at (a + i))) false ((at (a + i)).is_basic k)) (differs (entering (at (a + i))) k ne)
        ∙ cond-true (k == leaving (at (a + i))) false ((at (a + i)).is_basic k) (eq-eqb k (leaving (at (a + i))) (sym e)))

    first_case : (entering (at (a + i)) ≡ k) ⊎ (leaving (at (a + i)) ≡ k) → ⊥
    first_case (inl e) = second_case e again
    first_case (inr e) = third_case e again

-- a stretch is two of smaller variables, and one pivot between them at most
longer : (at : ℕ → RationalDictionary) (n : ℕ) → IsRun at n → (k : ℕ) → ((a m : ℕ) → a + m ≤ n → IsStretch at k a m → m < 2 ^ k)
    → (a m : ℕ) → a + m ≤ n → IsStretch at (suc k) a m → m < 2 ^ suc k
longer at n run k short a m h stretch = found (first (exchanges at k a) m) refl (cases_Bool (nat_lt (first (exchanges at k a) m) m))
  where
    double : 2 ^ suc k ≡ 2 ^ k + 2 ^ k
    double = two-pow-succ k

    rest : (i : ℕ) → i < m → exchanges at k a i ≡ true → i < 2 ^ k
        → (nat_lt (first (exchanges at k (a + (i + 1))) (m - (i + 1))) (m - (i + 1)) ≡ true) ⊎ (nat_lt (first (exchanges at k (a + (i + 1))) (m - (i + 1))) (m - (i + 1)) ≡ false)
        → m < 2 ^ suc k
    rest i lt here few (inl e) =
        let below : first (exchanges at k (a + (i + 1))) (m - (i + 1)) < m - (i + 1) = ltb-true (first (exchanges at k (a + (i + 1))) (m - (i + 1))) (m - (i + 1)) e in
        absurd (once at n run k a m i (first (exchanges at k (a + (i + 1))) (m - (i + 1))) h stretch lt (omega arith) here
        (first-passes (exchanges at k (a + (i + 1))) (m - (i + 1)) below)
        (first-below (exchanges at k (a + (i + 1))) (m - (i + 1))))
    rest i lt here few (inr e) =
        let all : m - (i + 1) ≤ first (exchanges at k (a + (i + 1))) (m - (i + 1)) = ltb-false (first (exchanges at k (a + (i + 1))) (m - (i + 1))) (m - (i + 1)) e in
        let few_more : m - (i + 1) < 2 ^ k =
        short (a + (i + 1)) (m - (i + 1)) (omega arith)
        (smaller at k (a + (i + 1)) (m - (i + 1)) (m - (i + 1)) (later at (suc k) a m (i + 1) stretch (omega arith)) (omega arith)
        (λ j l. first-below (exchanges at k (a + (i + 1))) (m - (i + 1)) j (omega arith))) in
        omega (arith, double)

    found : (i : ℕ) → first (exchanges at k a) m ≡ i → (nat_lt (first (exchanges at k a) m) m ≡ true) ⊎ (nat_lt (first (exchanges at k a) m) m ≡ false) → m < 2 ^ suc k
    found i e (inl below) =
        let lt : first (exchanges at k a) m < m = ltb-true (first (exchanges at k a) m) m below in
        rest (first (exchanges at k a) m) lt (first-passes (exchanges at k a) m lt)
        (short a (first (exchanges at k a) m) (omega arith) (smaller at k a m (first (exchanges at k a) m) stretch (omega arith) (first-below (exchanges at k a) m)))
        (cases_Bool (nat_lt (first (exchanges at k (a + (first (exchanges at k a) m + 1))) (m - (first (exchanges at k a) m + 1))) (m - (first (exchanges at k a) m + 1))))
    found i e (inr all) =
        let ge : m ≤ first (exchanges at k a) m = ltb-false (first (exchanges at k a) m) m all in
        let few : m < 2 ^ k = short a m h (smaller at k a m m stretch (omega arith) (λ j lt. first-below (exchanges at k a) m j (omega arith))) in
        omega (arith, double)

pub stretch_is_short : (at : ℕ → RationalDictionary) (n : ℕ) → IsRun at n → (k a m : ℕ) → a + m ≤ n → IsStretch at k a m → m < 2 ^ k
stretch_is_short at n run zero a zero h stretch = pow_pos 0
stretch_is_short at n run zero a (suc m) h stretch = absurd (let lt : entering (at (a + 0)) < 0 = (stretch 0 (omega arith)).0 in omega arith)
stretch_is_short at n run (suc k) a m h stretch = longer at n run k (stretch_is_short at n run k) a m h stretch

-- a run has fewer than 2^size pivots
pub run_is_short : (at : ℕ → RationalDictionary) (n : ℕ) → IsRun at n → n < 2 ^ (at 0).size
run_is_short at n run = stretch_is_short at n run (at 0).size 0 n (omega arith) within
  where
    within : IsStretch at (at 0).size 0 n
    within i lt =
        let e : 0 + i ≡ i = omega arith in
        let is : IsChoice (at (0 + i)) (leaving (at (0 + i))) (entering (at (0 + i))) = chosen (at (0 + i)) (run.going (0 + i) (omega arith)) in
        let size : (at (0 + i)).size ≡ (at 0).size = size_of at n run (0 + i) (omega arith) in
        (omega (arith, size, is.entering_within), omega (arith, size, is.leaving_within))
