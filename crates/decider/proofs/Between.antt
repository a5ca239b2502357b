-- The vector between two that open a pair ranks it equal and meets the answers.
use Rattle.std.proofs.Common.{◌≡◌, ℕ, List, [], ◌∷◌, length, ℤ, pos, ◌+ℤ◌, ◌*ℤ◌, ◌≤ℤ◌, neg_ℤ, sym, ap, ap₂, subst, ◌∙◌, arith}
use Rattle.std.specs.Prelude.{All}
use Rattle.std.proofs.Math.IntN.{*ℤ_comm}
use Rattle.std.proofs.lemmas.Int.{ints}
use Rattle.std.proofs.lemmas.List.Elements.{All-nil, All-cons, All-head, All-tail}
use Rattle.criteria_model.specs.declared.pairs.Pair.{Pair}
use Rattle.criteria_model.specs.declared.pairs.Answer.{Answer}
use Rattle.criteria_model.specs.declared.pairs.Side.{Side}
use Rattle.criteria_model.specs.declared.pairs.Side.TheVariants.{Left, Right, Equal}
use Rattle.row_laws.specs.Rows.{dot, plus, times}
use Rattle.criteria_model.specs.Worth.{has}
use Rattle.criteria_model.specs.Answers.{Ranks, MeetsAll, Opens, gain}
use Rattle.row_laws.proofs.Integers.{mul-neg}
use Rattle.row_laws.proofs.Signs.{mul_positive}
use Rattle.row_laws.proofs.RowLemmas.{dot_comm, dot-plus, dot-times, dot-minus, length-plus, length-times}
use Rattle.criteria_model.proofs.GainLemmas.{Favours, ranks_favours, favours_ranks}

-- a multiple of one vector and a multiple of another
abbrev pub mixed : ℤ → List ℤ → ℤ → List ℤ → List ℤ
mixed a v b w = plus (times a v) (times b w)

sum_positive : (p q : ℤ) → pos 1 ≤ℤ p → pos 1 ≤ℤ q → pos 1 ≤ℤ (p +ℤ q)
sum_positive p q h k = omega (arith, ints)

dot-mixed : (a : ℤ) (v : List ℤ) (b : ℤ) (w row : List ℤ) → dot (mixed a v b w) row ≡ a *ℤ dot v row +ℤ b *ℤ dot w row
dot-mixed a v b w row =
    dot_comm (mixed a v b w) row ∙ dot-plus row (times a v) (times b w)
    ∙ ap₂ (λ (x y : ℤ). x +ℤ y) (dot-times a row v ∙ ap (λ (x : ℤ). a *ℤ x) (dot_comm row v)) (dot-times b row w ∙ ap (λ (x : ℤ). b *ℤ x) (dot_comm row w))

favours_mixed : (side : Side) (a x b y : ℤ) → pos 1 ≤ℤ a → pos 1 ≤ℤ b → Favours side x → Favours side y → Favours side (a *ℤ x +ℤ b *ℤ y)
favours_mixed Left a x b y low low' f g = sum_positive (a *ℤ x) (b *ℤ y) (mul_positive a x low f) (mul_positive b y low' g)
favours_mixed Right a x b y low low' f g = sum_positive (a *ℤ x) (b *ℤ y) (mul_positive a x low f) (mul_positive b y low' g)
favours_mixed Equal a x b y low low' f g = ap₂ (λ (x y : ℤ). a *ℤ x +ℤ b *ℤ y) f g ∙ none a b
  where
    none : (a b : ℤ) → a *ℤ pos 0 +ℤ b *ℤ pos 0 ≡ pos 0
    none a b = omega (arith, ints)

ranks_mixed : (levels : List ℕ) (a : ℤ) (v : List ℤ) (b : ℤ) (w : List ℤ) (pair : Pair) (side : Side) → pos 1 ≤ℤ a → pos 1 ≤ℤ b
    → Ranks levels v pair side → Ranks levels w pair side → Ranks levels (mixed a v b w) pair side
ranks_mixed levels a v b w pair side low low' f g =
    favours_ranks levels (mixed a v b w) pair side
    (subst (Favours side) (sym (dot-mixed a v b w (gain levels pair side)))
    (favours_mixed side a (dot v (gain levels pair side)) b (dot w (gain levels pair side)) low low' (ranks_favours levels v pair side f) (ranks_favours levels w pair side g)))

positive_mixed : (a : ℤ) (v : List ℤ) (b : ℤ) (w : List ℤ) → length v ≡ length w → pos 1 ≤ℤ a → pos 1 ≤ℤ b → All (λ x. pos 1 ≤ℤ x) v → All (λ x. pos 1 ≤ℤ x) w → All (λ x. pos 1 ≤ℤ x) (mixed a v b w)
positive_mixed a [] b [] e low low' f g = All-nil (λ x. pos 1 ≤ℤ x)
positive_mixed a [] b (y ∷ w) e low low' f g = absurd (omega arith)
positive_mixed a (x ∷ v) b [] e low low' f g = absurd (omega arith)
positive_mixed a (x ∷ v) b (y ∷ w) e low low' f g =
    All-cons (λ x. pos 1 ≤ℤ x) (a *ℤ x +ℤ b *ℤ y) (mixed a v b w)
    (sum_positive (a *ℤ x) (b *ℤ y) (mul_positive a x low (All-head (λ x. pos 1 ≤ℤ x) x v f)) (mul_positive b y low' (All-head (λ x. pos 1 ≤ℤ x) y w g)))
    (positive_mixed a v b w (omega arith) low low' (All-tail (λ x. pos 1 ≤ℤ x) x v f) (All-tail (λ x. pos 1 ≤ℤ x) y w g))

meets_mixed : (levels : List ℕ) (answers : List Answer) (a : ℤ) (v : List ℤ) (b : ℤ) (w : List ℤ) → pos 1 ≤ℤ a → pos 1 ≤ℤ b → MeetsAll levels answers v → MeetsAll levels answers w
    → MeetsAll levels answers (mixed a v b w)
meets_mixed levels answers a v b w low low' f g = record {
  vector = record {
    len = omega (arith, length-plus (times a v) (times b w), length-times a v, length-times b w, f.vector.len, g.vector.len);
    positive = positive_mixed a v b w (f.vector.len ∙ sym g.vector.len) low low' f.vector.positive g.vector.positive;
  };
  each = λ k d lt. ranks_mixed levels a v b w _ _ low low' (f.each k d lt) (g.each k d lt);
}

-- ---- between two that open a pair

abbrev pub between : List ℕ → Pair → List ℤ → List ℤ → List ℤ
between levels pair high low = mixed (dot high (gain levels pair Left)) low (dot low (gain levels pair Right)) high

turned_gain : (levels : List ℕ) (pair : Pair) (v : List ℤ) → dot v (gain levels pair Left) ≡ neg_ℤ (dot v (gain levels pair Right))
turned_gain levels pair v = omega (arith, ints, dot-minus v (has levels pair.left) (has levels pair.right), dot-minus v (has levels pair.right) (has levels pair.left))

cancels : (a b : ℤ) → a *ℤ neg_ℤ b +ℤ b *ℤ a ≡ pos 0
cancels a b = ap₂ (λ (x y : ℤ). x +ℤ y) (mul-neg a b) (*ℤ_comm b a) ∙ none (a *ℤ b)
  where
    none : (x : ℤ) → neg_ℤ x +ℤ x ≡ pos 0
    none x = omega (arith, ints)

pub between_equal : (levels : List ℕ) (pair : Pair) (high low : List ℤ) → Ranks levels (between levels pair high low) pair Equal
between_equal levels pair high low =
    favours_ranks levels (between levels pair high low) pair Equal
    (dot-mixed (dot high (gain levels pair Left)) low (dot low (gain levels pair Right)) high (gain levels pair Left)
    ∙ ap (λ (x : ℤ). dot high (gain levels pair Left) *ℤ x +ℤ dot low (gain levels pair Right) *ℤ dot high (gain levels pair Left)) (turned_gain levels pair low)
    ∙ cancels (dot high (gain levels pair Left)) (dot low (gain levels pair Right)))

pub between_meets : (levels : List ℕ) (answers : List Answer) (pair : Pair) (high low : List ℤ) → Opens levels answers pair high low → MeetsAll levels answers (between levels pair high low)
between_meets levels answers pair high low opens =
    meets_mixed levels answers (dot high (gain levels pair Left)) low (dot low (gain levels pair Right)) high
    (ranks_favours levels high pair Left opens.more) (ranks_favours levels low pair Right opens.less) opens.minus_meets opens.plus_meets
