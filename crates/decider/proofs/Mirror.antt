-- The set of vectors that meet answers is relatively open: beyond a vector that ranks a pair equal, seen from one that ranks it right, stands one that ranks it left.
use Rattle.std.proofs.Common.{◌≡◌, ℕ, ◌+◌, ◌*◌, ◌<◌, ◌≤◌, List, [], ◌∷◌, length, ℤ, pos, negsuc, ◌-ℤ◌, ◌*ℤ◌, ◌<ℤ◌, ◌≤ℤ◌, unsigned_abs, sym, ap, subst, ◌∙◌, arith, mul-le-mul_left}
use Rattle.std.specs.Prelude.{All}
use Rattle.std.proofs.lemmas.Int.{ints}
use Rattle.std.proofs.lemmas.List.Elements.{All-nil, All-cons, All-head, All-tail}
use Rattle.row_laws.proofs.Integers.{mul-zero}
use Rattle.criteria_model.specs.declared.pairs.Pair.{Pair}
use Rattle.criteria_model.specs.declared.pairs.Answer.{Answer}
use Rattle.criteria_model.specs.declared.pairs.Side.{Side}
use Rattle.criteria_model.specs.declared.pairs.Side.TheVariants.{Left, Right, Equal}
use Rattle.row_laws.specs.Rows.{dot, minus, times}
use Rattle.criteria_model.specs.Worth.{has, worth}
use Rattle.criteria_model.specs.Answers.{Ranks, Meets, MeetsAll, gain}
use Rattle.criteria_model.proofs.GainLemmas.{Favours, ranks_favours, favours_ranks}
use Rattle.row_laws.proofs.RowLemmas.{dot_comm, dot-minus, dot-times, length-minus, length-times}

-- a multiple of the one vector, without the other
abbrev pub mirror : ℕ → List ℤ → List ℤ → List ℤ
mirror k point other = minus (times (pos k) point) other

dot_mirror : (k : ℕ) (point other row : List ℤ) → dot (mirror k point other) row ≡ pos k *ℤ dot point row -ℤ dot other row
dot_mirror k point other row =
    dot_comm (mirror k point other) row ∙ dot-minus row (times (pos k) point) other
    ∙ ap (λ (n : ℤ). n -ℤ dot row other) (dot-times (pos k) row point ∙ ap (λ (n : ℤ). pos k *ℤ n) (dot_comm row point))
    ∙ ap (λ (n : ℤ). pos k *ℤ dot point row -ℤ n) (dot_comm row other)

at_least_factor : (k : ℕ) (x : ℤ) → pos 1 ≤ℤ x → pos k ≤ℤ (pos k *ℤ x)
at_least_factor k (pos n) h = let p : 1 ≤ n = omega (arith, ints) in let le : k * 1 ≤ k * n = mul-le-mul_left k p in omega (arith, ints)
at_least_factor k (negsuc n) h = absurd (omega (arith, ints))

above : (k : ℕ) (x y : ℤ) → unsigned_abs y < k → pos 1 ≤ℤ x → pos 1 ≤ℤ (pos k *ℤ x -ℤ y)
above k x y lt h = step (pos k *ℤ x) (at_least_factor k x h)
  where
    step : (a : ℤ) → pos k ≤ℤ a → pos 1 ≤ℤ (a -ℤ y)
    step a g = omega (arith, ints)

level : (k : ℕ) (x y : ℤ) → x ≡ pos 0 → y ≡ pos 0 → pos k *ℤ x -ℤ y ≡ pos 0
level k x y e f = step (pos k *ℤ x) y (ap (λ (n : ℤ). pos k *ℤ n) e ∙ mul-zero (pos k)) f
  where
    step : (a b : ℤ) → a ≡ pos 0 → b ≡ pos 0 → a -ℤ b ≡ pos 0
    step a b e f = omega (arith, ints)

favours_mirrored : (side : Side) (k : ℕ) (x y : ℤ) → unsigned_abs y < k → Favours side x → Favours side y → Favours side (pos k *ℤ x -ℤ y)
favours_mirrored Left k x y lt h g = above k x y lt h
favours_mirrored Right k x y lt h g = above k x y lt h
favours_mirrored Equal k x y lt h g = level k x y h g

-- from some multiple on it meets the answers
all_met : (levels : List ℕ) (point other : List ℤ) (answers : List Answer) → All (Meets levels point) answers → All (Meets levels other) answers
    → (least : ℕ) × ((k : ℕ) → least ≤ k → All (Meets levels (mirror k point other)) answers)
all_met levels point other [] met also = (0, λ k le. All-nil (Meets levels (mirror k point other)))
all_met levels point other (a ∷ answers) met also =
    let rest = all_met levels point other answers (All-tail (Meets levels point) a answers met) (All-tail (Meets levels other) a answers also) in (
      rest.0 + (unsigned_abs (dot other (gain levels a.pair a.side)) + 1),
      λ k le. All-cons (Meets levels (mirror k point other)) a answers
          (favours_ranks levels (mirror k point other) a.pair a.side
          (subst (Favours a.side) (sym (dot_mirror k point other (gain levels a.pair a.side)))
          (favours_mirrored a.side k (dot point (gain levels a.pair a.side)) (dot other (gain levels a.pair a.side)) (omega arith)
          (ranks_favours levels point a.pair a.side (All-head (Meets levels point) a answers met))
          (ranks_favours levels other a.pair a.side (All-head (Meets levels other) a answers also)))))
          (rest.1 k (omega arith)),
    )

all_positive : (point other : List ℤ) → length point ≡ length other → All (λ x. pos 1 ≤ℤ x) point
    → (least : ℕ) × ((k : ℕ) → least ≤ k → All (λ x. pos 1 ≤ℤ x) (mirror k point other))
all_positive [] [] len positive = (0, λ k le. All-nil (λ x. pos 1 ≤ℤ x))
all_positive [] (y ∷ other) len positive = absurd (omega arith)
all_positive (x ∷ point) [] len positive = absurd (omega arith)
all_positive (x ∷ point) (y ∷ other) len positive =
    let rest = all_positive point other (omega arith) (All-tail (λ z. pos 1 ≤ℤ z) x point positive) in (
      rest.0 + (unsigned_abs y + 1),
      λ k le. All-cons (λ z. pos 1 ≤ℤ z) (pos k *ℤ x -ℤ y) (mirror k point other) (above k x y (omega arith) (All-head (λ z. pos 1 ≤ℤ z) x point positive)) (rest.1 k (omega arith)),
    )

ranked_left : (levels : List ℕ) (k : ℕ) (point other : List ℤ) (pair : Pair) → Ranks levels point pair Equal → Ranks levels other pair Right → Ranks levels (mirror k point other) pair Left
ranked_left levels k point other pair same less =
    step (worth levels (mirror k point other) pair.left) (worth levels (mirror k point other) pair.right) (pos k *ℤ worth levels point pair.left) (pos k *ℤ worth levels point pair.right)
    (worth levels other pair.left) (worth levels other pair.right)
    (dot_mirror k point other (has levels pair.left)) (dot_mirror k point other (has levels pair.right)) (ap (λ (n : ℤ). pos k *ℤ n) same) less
  where
    step : (l r a b x y : ℤ) → l ≡ a -ℤ x → r ≡ b -ℤ y → a ≡ b → x <ℤ y → r <ℤ l
    step l r a b x y e f g h = omega (arith, ints)

pub mirrored : (levels : List ℕ) (answers : List Answer) (point other : List ℤ) (pair : Pair) → MeetsAll levels answers point → MeetsAll levels answers other
    → Ranks levels point pair Equal → Ranks levels other pair Right
    → (vector : List ℤ) × MeetsAll levels answers vector × Ranks levels vector pair Left
mirrored levels answers point other pair meets also same less =
    let met = all_met levels point other answers meets.each also.each in
    let positive = all_positive point other (meets.vector.len ∙ sym also.vector.len) meets.vector.positive in (
      mirror (met.0 + positive.0) point other,
      record {
        vector = record {
          len = omega (arith, length-minus (times (pos (met.0 + positive.0)) point) other, length-times (pos (met.0 + positive.0)) point, meets.vector.len, also.vector.len);
          positive = positive.1 (met.0 + positive.0) (omega arith);
        };
        each = met.1 (met.0 + positive.0) (omega arith);
      },
      ranked_left levels (met.0 + positive.0) point other pair same less,
    )
