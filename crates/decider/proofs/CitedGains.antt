-- The rows of answers and the gains that they stand for.
use Rattle.std.proofs.Common.{◌≡◌, ℕ, zero, suc, ◌+◌, ◌-◌, ◌<◌, List, [], ◌∷◌, ◌++◌, length, get_or, take, Some, ℤ, pos, neg_ℤ, ◌+ℤ◌, ◌-ℤ◌, ◌*ℤ◌, ◌≤ℤ◌, refl, sym, ap, ap₂, subst, ◌∙◌, arith, append_assoc}
use Rattle.std.specs.Prelude.{All, slice_get}
use Rattle.std.proofs.lemmas.Int.{ints}
use Rattle.std.proofs.lemmas.Option.{get_or_from_slice_get, slice_get_within, slice_get-get_or}
use Rattle.std.proofs.lemmas.List.{get_or_append_left, get_or-append-add, length-append}
use Rattle.std.proofs.lemmas.List.Elements.{All-nil, All-cons, All-append, All-head, All-tail}
use Rattle.std.proofs.lemmas.List.Sums.{sum_by-cons}
use Rattle.row_laws.proofs.Integers.{sums, mul-add, mul_assoc, mul-zero}
use Rattle.criteria_model.specs.declared.pairs.Pair.{Pair}
use Rattle.criteria_model.specs.declared.pairs.Answer.{Answer}
use Rattle.criteria_model.specs.declared.pairs.Side.{Side}
use Rattle.criteria_model.specs.declared.pairs.Side.TheVariants.{Left, Right, Equal}
use Rattle.row_laws.specs.Rows.{minus}
use Rattle.criteria_model.specs.Worth.{has}
use Rattle.criteria_model.specs.Answers.{gain}
use Rattle.farkas_check.specs.declared.cites.Cite.{Cite}
use Rattle.farkas_check.specs.Sums.{cited_gain, sum_of_cites}
use Rattle.farkas_check.proofs.SumLemmas.{cited_gain-there}
use Rattle.farkas_check.specs.Proof.{IsThere}
use Rattle.fraction_free.specs.declared.loaded.LoadedRow.{LoadedRow}
use Rattle.fraction_free.specs.Dictionary.{loaded_at, no_row}
use Rattle.simplex.specs.Results.{coefficient}
use Rattle.decider.specs.Standing.{rows_of, rows_of_answers}
use Rattle.decider.specs.Combining.{rows_for, rows_in, first_row, IsOpposed, cited_sum, times_cites}
use Rattle.decider.specs.Trying.{against}
use Rattle.decider.proofs.Citing.{rows_for-length}

-- ---- gains place by place

get_or-minus : (a b : List ℤ) (j : ℕ) → get_or (minus a b) j (pos 0) ≡ get_or a j (pos 0) -ℤ get_or b j (pos 0)
get_or-minus [] [] zero = refl
get_or-minus [] [] (suc j) = refl
get_or-minus [] (y ∷ b) zero = omega (arith, sums)
get_or-minus [] (y ∷ b) (suc j) = get_or-minus [] b j
get_or-minus (x ∷ a) [] zero = omega (arith, sums)
get_or-minus (x ∷ a) [] (suc j) = omega (arith, sums)
get_or-minus (x ∷ a) (y ∷ b) zero = refl
get_or-minus (x ∷ a) (y ∷ b) (suc j) = get_or-minus a b j

turned_at : (a b : List ℤ) (j : ℕ) → get_or (minus a b) j (pos 0) ≡ neg_ℤ (get_or (minus b a) j (pos 0))
turned_at a b j = get_or-minus a b j ∙ swap (get_or a j (pos 0)) (get_or b j (pos 0)) ∙ ap neg_ℤ (sym (get_or-minus b a j))
  where
    swap : (x y : ℤ) → x -ℤ y ≡ neg_ℤ (y -ℤ x)
    swap x y = omega (arith, sums)

-- the gain of a ranking and of the one that is tried against it
pub gain_against : (levels : List ℕ) (pair : Pair) (side : Side) (j : ℕ) → get_or (gain levels pair side) j (pos 0) ≡ neg_ℤ (get_or (gain levels pair (against side)) j (pos 0))
gain_against levels pair Left j = turned_at (has levels pair.left) (has levels pair.right) j
gain_against levels pair Right j = turned_at (has levels pair.right) (has levels pair.left) j
gain_against levels pair Equal j = turned_at (has levels pair.left) (has levels pair.right) j

-- ---- which rows are which answer's

pub rows_length : (levels : List ℕ) (answers : List Answer) → length (rows_of_answers levels answers) ≡ rows_in answers
rows_length levels [] = refl
rows_length levels (a ∷ answers) =
    length-append (rows_of levels a.pair a.side) (rows_of_answers levels answers)
    ∙ omega (arith, rows_for-length levels a.pair a.side, rows_length levels answers)
    ∙ sym (sum_by-cons (λ (b : Answer). rows_for b.side) a answers)

pub leasts_nonneg : (levels : List ℕ) (answers : List Answer) → All (λ row. pos 0 ≤ℤ row.least) (rows_of_answers levels answers)
leasts_nonneg levels [] = All-nil (λ row. pos 0 ≤ℤ row.least)
leasts_nonneg levels (a ∷ answers) = All-append (λ row. pos 0 ≤ℤ row.least) (rows_of levels a.pair a.side) (rows_of_answers levels answers) (of_ranking a.side) (leasts_nonneg levels answers)
  where
    P : LoadedRow → Type 0
    P row = pos 0 ≤ℤ row.least

    one : pos 0 ≤ℤ pos 1
    one = omega (arith, ints)

    none : pos 0 ≤ℤ pos 0
    none = omega (arith, ints)

    of_ranking : (side : Side) → All (λ row. pos 0 ≤ℤ row.least) (rows_of levels a.pair side)
    of_ranking Left = All-cons (λ row. pos 0 ≤ℤ row.least) (record { coefficients = gain levels a.pair Left; least = pos 1 }) [] one (All-nil (λ row. pos 0 ≤ℤ row.least))
    of_ranking Right = All-cons (λ row. pos 0 ≤ℤ row.least) (record { coefficients = gain levels a.pair Right; least = pos 1 }) [] one (All-nil (λ row. pos 0 ≤ℤ row.least))
    of_ranking Equal =
        All-cons (λ row. pos 0 ≤ℤ row.least) (record { coefficients = gain levels a.pair Left; least = pos 0 }) ((record { coefficients = gain levels a.pair Right; least = pos 0 }) ∷ []) none
        (All-cons (λ row. pos 0 ≤ℤ row.least) (record { coefficients = gain levels a.pair Right; least = pos 0 }) [] none (All-nil (λ row. pos 0 ≤ℤ row.least)))

rows_at : (levels : List ℕ) (answers : List Answer) (more : List LoadedRow) (k : ℕ) (answer : Answer) (i : ℕ) → slice_get answers k ≡ Some answer → i < rows_for answer.side
    → loaded_at (rows_of_answers levels answers ++ more) (rows_in (take k answers) + i) ≡ get_or (rows_of levels answer.pair answer.side) i no_row
rows_at levels [] more k answer i here lt = absurd (let w = slice_get_within [] k answer here in omega arith)
rows_at levels (a ∷ answers) more zero answer i here lt =
    let same : a ≡ answer = get_or_from_slice_get (a ∷ answers) zero answer answer here in
    let place : 0 + i ≡ i = omega arith in
    let short : i < length (rows_of levels a.pair a.side) = omega (arith, rows_for-length levels a.pair a.side, ap (λ (b : Answer). rows_for b.side) same) in
    ap (loaded_at ((rows_of levels a.pair a.side ++ rows_of_answers levels answers) ++ more)) place
    ∙ ap (λ (l : List LoadedRow). loaded_at l i) (append_assoc (rows_of levels a.pair a.side) (rows_of_answers levels answers) more)
    ∙ get_or_append_left (rows_of levels a.pair a.side) (rows_of_answers levels answers ++ more) no_row i short
    ∙ ap (λ (b : Answer). get_or (rows_of levels b.pair b.side) i no_row) same
rows_at levels (a ∷ answers) more (suc k) answer i here lt =
    let place : rows_in (a ∷ take k answers) + i ≡ length (rows_of levels a.pair a.side) + (rows_in (take k answers) + i) =
    omega (arith, sum_by-cons (λ (b : Answer). rows_for b.side) a (take k answers), rows_for-length levels a.pair a.side) in
    ap (loaded_at ((rows_of levels a.pair a.side ++ rows_of_answers levels answers) ++ more)) place
    ∙ ap (λ (l : List LoadedRow). loaded_at l (length (rows_of levels a.pair a.side) + (rows_in (take k answers) + i)))
    (append_assoc (rows_of levels a.pair a.side) (rows_of_answers levels answers) more)
    ∙ get_or-append-add (rows_of levels a.pair a.side) (rows_of_answers levels answers ++ more) (rows_in (take k answers) + i) no_row
    ∙ rows_at levels answers more k answer i here lt

first_gain : (levels : List ℕ) (pair : Pair) (side : Side) → (get_or (rows_of levels pair side) 0 no_row).coefficients ≡ gain levels pair side
first_gain levels pair Left = refl
first_gain levels pair Right = refl
first_gain levels pair Equal = refl

some_row : (side : Side) → 0 < rows_for side
some_row Left = omega arith
some_row Right = omega arith
some_row Equal = omega arith

-- the first row of an answer has its gain
pub first_coefficient : (levels : List ℕ) (answers : List Answer) (more : List LoadedRow) (j number : ℕ) (answer : Answer) → slice_get answers (number - 1) ≡ Some answer
    → coefficient (rows_of_answers levels answers ++ more) j (first_row answers number) ≡ get_or (gain levels answer.pair answer.side) j (pos 0)
first_coefficient levels answers more j number answer here =
    let place : rows_in (take (number - 1) answers) + 1 - 1 ≡ rows_in (take (number - 1) answers) + 0 = omega arith in
    ap (λ (n : ℕ). get_or (loaded_at (rows_of_answers levels answers ++ more) n).coefficients j (pos 0)) place
    ∙ ap (λ (row : LoadedRow). get_or row.coefficients j (pos 0)) (rows_at levels answers more (number - 1) answer 0 here (some_row answer.side))
    ∙ ap (λ (l : List ℤ). get_or l j (pos 0)) (first_gain levels answer.pair answer.side)

-- and the second one of an equal answer the gain turned
pub coefficients_opposed : (levels : List ℕ) (answers : List Answer) (more : List LoadedRow) (j : ℕ) → IsOpposed answers (coefficient (rows_of_answers levels answers ++ more) j)
coefficients_opposed levels answers more j number answer here equal =
    let place : rows_in (take (number - 1) answers) + 1 + 1 - 1 ≡ rows_in (take (number - 1) answers) + 1 = omega arith in
    ap (λ (n : ℕ). get_or (loaded_at (rows_of_answers levels answers ++ more) n).coefficients j (pos 0)) place
    ∙ ap (λ (row : LoadedRow). get_or row.coefficients j (pos 0)) (rows_at levels answers more (number - 1) answer 1 here (two answer.side equal))
    ∙ second answer.side equal
    ∙ ap neg_ℤ (sym (first_coefficient levels answers more j number answer here))
  where
    two : (side : Side) → side ≡ Equal → 1 < rows_for side
    two side e = subst (λ (s : Side). 1 < rows_for s) (sym e) (omega arith)

    second : (side : Side) → side ≡ Equal → get_or (get_or (rows_of levels answer.pair side) 1 no_row).coefficients j (pos 0) ≡ neg_ℤ (get_or (gain levels answer.pair side) j (pos 0))
    second side e =
        subst (λ (s : Side). get_or (get_or (rows_of levels answer.pair s) 1 no_row).coefficients j (pos 0) ≡ neg_ℤ (get_or (gain levels answer.pair s) j (pos 0))) (sym e)
        (turned_at (has levels answer.pair.right) (has levels answer.pair.left) j)

-- the first row after those of the answers
pub tried_coefficient : (levels : List ℕ) (answers : List Answer) (pair : Pair) (side : Side) (j : ℕ)
    → coefficient (rows_of_answers levels answers ++ rows_of levels pair side) j (rows_in answers + 1) ≡ get_or (gain levels pair side) j (pos 0)
tried_coefficient levels answers pair side j =
    let place : rows_in answers + 1 - 1 ≡ length (rows_of_answers levels answers) + 0 = omega (arith, rows_length levels answers) in
    ap (λ (n : ℕ). get_or (loaded_at (rows_of_answers levels answers ++ rows_of levels pair side) n).coefficients j (pos 0)) place
    ∙ ap (λ (row : LoadedRow). get_or row.coefficients j (pos 0)) (get_or-append-add (rows_of_answers levels answers) (rows_of levels pair side) 0 no_row)
    ∙ ap (λ (l : List ℤ). get_or l j (pos 0)) (first_gain levels pair side)

-- ---- sums of cites

pub sum_of_cites-is : (levels : List ℕ) (answers : List Answer) (cites : List Cite) (j : ℕ) (of : ℕ → ℤ) → All (λ cite. of cite.answer ≡ get_or (cited_gain levels answers cite) j (pos 0)) cites
    → sum_of_cites levels answers cites j ≡ cited_sum of cites
sum_of_cites-is levels answers [] j of same = refl
sum_of_cites-is levels answers (cite ∷ cites) j of same =
    ap₂ (λ (n s : ℤ). cite.weight *ℤ n +ℤ s)
    (sym (All-head (λ cite. of cite.answer ≡ get_or (cited_gain levels answers cite) j (pos 0)) cite cites same))
    (sum_of_cites-is levels answers cites j of (All-tail (λ cite. of cite.answer ≡ get_or (cited_gain levels answers cite) j (pos 0)) cite cites same))

-- a cite that is there has its answer
pub found : (answers : List Answer) (cite : Cite) → IsThere answers cite → (answer : Answer) × (slice_get answers (cite.answer - 1) ≡ Some answer)
found answers cite there = (get_or answers (cite.answer - 1) (first answers cite there), slice_get-get_or answers (cite.answer - 1) (first answers cite there) (omega (arith, there.0, there.1)))
  where
    first : (answers : List Answer) (cite : Cite) → IsThere answers cite → Answer
    first [] cite there = absurd (omega (arith, there.0, there.1))
    first (answer ∷ answers) cite there = answer

pub cited_coefficients : (levels : List ℕ) (answers : List Answer) (more : List LoadedRow) (j : ℕ) (cites : List Cite) → All (IsThere answers) cites
    → All (λ cite. coefficient (rows_of_answers levels answers ++ more) j (first_row answers cite.answer) ≡ get_or (cited_gain levels answers cite) j (pos 0)) cites
cited_coefficients levels answers more j cites there k x lt =
    let f = found answers (get_or cites k x) (there k x lt) in
    first_coefficient levels answers more j (get_or cites k x).answer f.0 f.1 ∙ ap (λ (l : List ℤ). get_or l j (pos 0)) (sym (cited_gain-there levels answers (get_or cites k x) f.0 f.1))

pub cited_sum-times : (of : ℕ → ℤ) (d : ℤ) (cites : List Cite) → cited_sum of (times_cites d cites) ≡ d *ℤ cited_sum of cites
cited_sum-times of d [] = sym (mul-zero d)
cited_sum-times of d (cite ∷ cites) =
    ap (λ (s : ℤ). (d *ℤ cite.weight) *ℤ of cite.answer +ℤ s) (cited_sum-times of d cites)
    ∙ ap (λ (n : ℤ). n +ℤ d *ℤ cited_sum of cites) (mul_assoc d cite.weight (of cite.answer))
    ∙ sym (mul-add d (cite.weight *ℤ of cite.answer) (cited_sum of cites))
