-- One answer and the increments as a combination.
use Rattle.std.proofs.Common.{◌≡◌, ◌⊎◌, inl, inr, ℕ, zero, suc, ◌+◌, ◌-◌, ◌^◌, ◌≤◌, ◌<◌, Bool, cond, true, false, List, [], ◌∷◌, ◌++◌, Some, length, get_or, take, ℤ, pos, negsuc, ◌-ℤ◌, ◌*ℤ◌, ◌≤ℤ◌, unsigned_abs, to_z, of_z, below_more, refl, ap, ap₂, sym, subst, ◌∙◌, arith}
use mir.Syntax.{w128}
use Rattle.std.specs.Prelude.{All, count_by, slice_get, slice_set}
use Rattle.std.specs.Option.{option_map_or}
use Rattle.std.proofs.lemmas.Int.{ints}
use Rattle.std.proofs.lemmas.List.Elements.{All-nil, All-cons, All-head, All-tail}
use Rattle.std.proofs.lemmas.List.Sums.{sum_by-append, sum_by-cons, count_by-le-length}
use Rattle.criteria_model.specs.declared.pairs.Pair.{Pair}
use Rattle.criteria_model.specs.declared.pairs.Answer.{Answer}
use Rattle.criteria_model.specs.declared.pairs.Side.{Side}
use Rattle.criteria_model.specs.declared.pairs.Side.TheVariants.{Left, Right, Equal}
use Rattle.criteria_model.specs.Lists.{IsRow, IsVector}
use Rattle.row_laws.specs.Rows.{dot, entry, minus}
use Rattle.criteria_model.specs.Worth.{IsValueVector}
use Rattle.criteria_model.specs.Pairs.{IsFit}
use Rattle.criteria_model.specs.Answers.{Meets, gain}
use Rattle.criteria_model.proofs.GainLemmas.{Favours, ranks_favours, length-gain}
use Rattle.row_laws.proofs.RowLemmas.{length-minus, entry-minus}
use Rattle.row_laws.proofs.Integers.{sums, one-mul}
use Rattle.farkas_check.specs.declared.cites.Cite.{Cite}
use Rattle.farkas_check.specs.Sums.{cited_side, cited_gain}
use Rattle.farkas_check.specs.Proof.{Proves, MayWeigh, IsStrict, IsThere, HasStrict, IsStrictEnough}
use Rattle.farkas_check.proofs.SumLemmas.{cited_gain-there}
use Rattle.simplex.specs.Weights.{is_weight}
use Rattle.simplex.proofs.Sizes.{kept}
use Rattle.row_laws.proofs.Signs.{mul_nonpos}
use Rattle.std.proofs.Math.IntN.{*ℤ_comm}
use Rattle.std.proofs.lemmas.Bool.{true≢false}
use Rattle.std.proofs.lemmas.Option.{slice_get_within}
use Rattle.std.proofs.lemmas.List.{get_or-set_other, get_or-set_same}
use Rattle.decider.specs.OneAnswer.{Suffices}

-- the numbered answer with weight 1, and what the pair gains more
pub with_proves : (levels : List ℕ) (answers : List Answer) (number : ℕ) (answer : Answer) (pair : Pair) (verdict : Side) (own : List ℤ) → 1 ≤ number → slice_get answers (number - 1) ≡ Some answer
    → IsFit levels answer.pair → IsFit levels pair → Suffices levels answer pair verdict → own ≡ minus (gain levels pair verdict) (gain levels answer.pair answer.side)
    → Proves levels answers (record { scale = pos 1; increments = own; answers = (record { answer = number; weight = pos 1 }) ∷ [] }) pair verdict
with_proves levels answers number answer pair verdict own low is fits pair_fits s own_is = record {
  len = ap length own_is ∙ omega (
    arith,
    length-minus (gain levels pair verdict) (gain levels answer.pair answer.side),
    length-gain levels pair verdict pair_fits,
    length-gain levels answer.pair answer.side fits,
  );
  scale = omega (arith, ints);
  own = subst (All (λ x. pos 0 ≤ℤ x)) (sym own_is) s.covers;
  cited = All-cons (IsThere answers) cite [] (low, omega (arith, low, slice_get_within answers (number - 1) answer is)) (All-nil (IsThere answers));
  weights = All-cons (λ (c : Cite). MayWeigh (cited_side answers c) c.weight) cite [] (subst (λ (s : Side). MayWeigh s (pos 1)) (sym side_is) (may answer.side))
      (All-nil (λ (c : Cite). MayWeigh (cited_side answers c) c.weight));
  sums = λ place lt.
      omega (
        arith,
        sums,
        ap (λ (row : List ℤ). entry row place) own_is,
        entry-minus (gain levels pair verdict) (gain levels answer.pair answer.side) place,
        ap (λ (row : List ℤ). entry row place) (cited_gain-there levels answers cite answer is),
        one-mul (entry (gain levels pair verdict) place),
        one-mul (entry (cited_gain levels answers cite) place),
      );
  strict = enough verdict s.verdict_strict (inr (0, cite, omega arith, refl, subst (λ (s : Side). IsStrict s (pos 1)) (sym side_is) (strict answer.side s.answer_strict)));
}
  where
    cite : Cite
    cite = record { answer = number; weight = pos 1 }

    side_is : cited_side answers cite ≡ answer.side
    side_is = ap (λ o. option_map_or (λ (a : Answer). a.side) o Equal) is

    may : (side : Side) → MayWeigh side (pos 1)
    may Left = omega (arith, ints)
    may Right = omega (arith, ints)
    may Equal = tt

    strict : (side : Side) → (side ≡ Equal → ⊥) → IsStrict side (pos 1)
    strict Left other = omega (arith, ints)
    strict Right other = omega (arith, ints)
    strict Equal other = absurd (other refl)

    enough : (side : Side) → (side ≡ Equal → ⊥) → HasStrict answers (record { scale = pos 1; increments = own; answers = cite ∷ [] })
        → IsStrictEnough answers (record { scale = pos 1; increments = own; answers = cite ∷ [] }) side
    enough Left other some = some
    enough Right other some = some
    enough Equal other some = absurd (other refl)

-- ---- the differences of two rows

pub difference_kept : (x y p q : ℤ) → p ≡ x → q ≡ y → unsigned_abs x ≤ 1 → unsigned_abs y ≤ 1 → to_z w128 (of_z w128 (to_z w128 (of_z w128 p) -ℤ to_z w128 (of_z w128 q))) ≡ x -ℤ y
difference_kept x y p q p_is q_is small also =
    ap (λ (n : ℤ). to_z w128 (of_z w128 n)) (ap₂ (λ (a b : ℤ). a -ℤ b) (ap (λ (n : ℤ). to_z w128 (of_z w128 n)) p_is ∙ kept x (omega arith))
    (ap (λ (n : ℤ). to_z w128 (of_z w128 n)) q_is ∙ kept y (omega arith)))
    ∙ kept (x -ℤ y) (omega (arith, ints))

pub difference_step : (items others cells : List ℤ) (place : ℕ) (q : ℤ) → place < length cells → q ≡ get_or items place (pos 0) -ℤ get_or others place (pos 0)
    → ((k : ℕ) → k < place → get_or cells k (pos 0) ≡ get_or items k (pos 0) -ℤ get_or others k (pos 0))
    → (k : ℕ) → k < place + 1 → get_or (slice_set cells place q) k (pos 0) ≡ get_or items k (pos 0) -ℤ get_or others k (pos 0)
difference_step items others cells place q lt here before =
    below_more (λ k. get_or (slice_set cells place q) k (pos 0) ≡ get_or items k (pos 0) -ℤ get_or others k (pos 0)) place
    (λ k l. get_or-set_other cells place k q (pos 0) (omega arith) ∙ before k l)
    (get_or-set_same cells place q (pos 0) lt ∙ here)

pub differences_are : (items others cells : List ℤ) → length items ≡ length others → length items ≤ length cells
    → ((k : ℕ) → k < length items → get_or cells k (pos 0) ≡ get_or items k (pos 0) -ℤ get_or others k (pos 0)) → take (length items) cells ≡ minus items others
differences_are [] [] cells e most each = refl
differences_are [] (y ∷ others) cells e most each = absurd (omega (arith, e))
differences_are (x ∷ items) [] cells e most each = absurd (omega (arith, e))
differences_are (x ∷ items) (y ∷ others) [] e most each = absurd (omega (arith, most))
differences_are (x ∷ items) (y ∷ others) (z ∷ cells) e most each =
    ap₂ (λ (a : ℤ) (b : List ℤ). a ∷ b) (each 0 (omega arith)) (differences_are items others cells (omega arith) (omega arith) (λ k l. each (suc k) (omega arith)))

pub differences_small : (a b : List ℤ) → length a ≡ length b → IsRow a → IsRow b → IsVector (minus a b)
differences_small a b e first second = record {
  some = omega (arith, length-minus a b, first.some);
  most = omega (arith, length-minus a b, first.most, second.most);
  within = small a b e first.within second.within;
}
  where
    small : (a b : List ℤ) → length a ≡ length b → All (λ x. unsigned_abs x ≤ 1) a → All (λ x. unsigned_abs x ≤ 1) b → All (λ x. unsigned_abs x < 2 ^ 96) (minus a b)
    small [] [] e h k = All-nil (λ x. unsigned_abs x < 2 ^ 96)
    small [] (y ∷ b) e h k = absurd (omega (arith, e))
    small (x ∷ a) [] e h k = absurd (omega (arith, e))
    small (x ∷ a) (y ∷ b) e h k =
        All-cons (λ x. unsigned_abs x < 2 ^ 96) (x -ℤ y) (minus a b)
        (let one = All-head (λ x. unsigned_abs x ≤ 1) x a h in let two = All-head (λ x. unsigned_abs x ≤ 1) y b k in omega (arith, ints, one, two))
        (small a b (omega arith) (All-tail (λ x. unsigned_abs x ≤ 1) x a h) (All-tail (λ x. unsigned_abs x ≤ 1) y b k))

-- ---- few weights

-- where each difference is a weight, the second row has nothing positive
few_over : (values g a : List ℤ) → length g ≡ length values → length a ≡ length values → All (λ x. pos 1 ≤ℤ x) values → All (λ x. unsigned_abs x ≤ 1) g → All (λ x. pos 0 ≤ℤ x) (minus g a)
    → (count_by is_weight (minus g a) < length g) ⊎ (dot values a ≤ℤ pos 0)
few_over [] g a e f positive small nonnegative = inr (omega (arith, ints))
few_over (v ∷ values) [] a e f positive small nonnegative = absurd (omega (arith, e))
few_over (v ∷ values) (x ∷ g) [] e f positive small nonnegative = absurd (omega (arith, f))
few_over (v ∷ values) (x ∷ g) (y ∷ a) e f positive small nonnegative =
    step (is_weight (x -ℤ y)) refl
    (few_over values g a (omega arith) (omega arith) (All-tail (λ z. pos 1 ≤ℤ z) v values positive) (All-tail (λ z. unsigned_abs z ≤ 1) x g small)
    (All-tail (λ z. pos 0 ≤ℤ z) (x -ℤ y) (minus g a) nonnegative))
    (sum_by-cons (λ (z : ℤ). cond (is_weight z) 1 0) (x -ℤ y) (minus g a))
  where
    short : count_by is_weight (minus g a) ≤ length g
    short = omega (arith, count_by-le-length is_weight (minus g a), length-minus g a, e, f)

    above : (z : ℤ) → is_weight z ≡ true → pos 0 ≤ℤ z → pos 1 ≤ℤ z
    above (pos zero) h k = absurd (true≢false (sym h))
    above (pos (suc n)) h k = omega (arith, ints)
    above (negsuc n) h k = absurd (omega (arith, ints))

    not_above : is_weight (x -ℤ y) ≡ true → (v *ℤ y) ≤ℤ pos 0
    not_above h =
        let d = above (x -ℤ y) h (All-head (λ z. pos 0 ≤ℤ z) (x -ℤ y) (minus g a) nonnegative) in
        let one = All-head (λ z. unsigned_abs z ≤ 1) x g small in
        let low = All-head (λ z. pos 1 ≤ℤ z) v values positive in
        let f : y ≤ℤ pos 0 = omega (arith, ints) in let e : pos 0 ≤ℤ v = omega (arith, ints) in subst (λ (z : ℤ). z ≤ℤ pos 0) (*ℤ_comm y v) (mul_nonpos y v f e)

    step : (b : Bool) → is_weight (x -ℤ y) ≡ b → (count_by is_weight (minus g a) < length g) ⊎ (dot values a ≤ℤ pos 0)
        → count_by is_weight (minus (x ∷ g) (y ∷ a)) ≡ cond (is_weight (x -ℤ y)) 1 0 + count_by is_weight (minus g a)
        → (count_by is_weight (minus (x ∷ g) (y ∷ a)) < length (x ∷ g)) ⊎ (dot (v ∷ values) (y ∷ a) ≤ℤ pos 0)
    step true w (inl lt) count = inl (omega (arith, count, ap {B = ℕ} (λ c. cond c 1 0) w))
    step true w (inr le) count = let h = not_above w in inr (omega (arith, ints, h, le))
    step false w rest count = inl (omega (arith, count, ap {B = ℕ} (λ c. cond c 1 0) w, short))

-- an answer that a vector meets gains somewhere, so that some increment has no weight of its own
pub few_with : (levels : List ℕ) (values : List ℤ) (answer : Answer) (pair : Pair) (verdict : Side) (own : List ℤ) → IsFit levels answer.pair → IsFit levels pair
    → Suffices levels answer pair verdict
    → IsRow (gain levels pair verdict) → own ≡ minus (gain levels pair verdict) (gain levels answer.pair answer.side) → IsValueVector levels values → Meets levels values answer
    → count_by is_weight (own ++ pos 1 ∷ []) ≤ 24
few_with levels values answer pair verdict own fits pair_fits s row own_is vector meets =
    from (few_over values g a (length-gain levels pair verdict pair_fits ∙ sym vector.len) (length-gain levels answer.pair answer.side fits ∙ sym vector.len) vector.positive row.within s.covers)
  where
    g : List ℤ
    g = gain levels pair verdict

    a : List ℤ
    a = gain levels answer.pair answer.side

    positive : (side : Side) → (side ≡ Equal → ⊥) → Favours side (dot values a) → pos 1 ≤ℤ dot values a
    positive Left other h = h
    positive Right other h = h
    positive Equal other h = absurd (other refl)

    from : (count_by is_weight (minus g a) < length g) ⊎ (dot values a ≤ℤ pos 0) → count_by is_weight (own ++ pos 1 ∷ []) ≤ 24
    from (inl lt) = omega (arith, sum_by-append (λ (z : ℤ). cond (is_weight z) 1 0) own (pos 1 ∷ []), ap (count_by is_weight) own_is, lt, row.most)
    from (inr le) = absurd (let h = positive answer.side s.answer_strict (ranks_favours levels values answer.pair answer.side meets) in omega (arith, ints, h, le))
