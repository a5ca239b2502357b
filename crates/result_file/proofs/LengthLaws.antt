-- How long lines are.
use Rattle.std.proofs.Common.{◌≡◌, ℕ, suc, ◌+◌, ◌-◌, ◌*◌, ◌<◌, ◌≤◌, ◌^◌, List, [], ◌∷◌, ◌++◌, length, arith, length-append, codes, ℤ, pos, negsuc}
use Rattle.std.specs.List.{All, flat_map}
use Rattle.std.specs.Fmt.{decimal, signed_decimal}
use Rattle.std.proofs.lemmas.Fmt.{length-decimal-le_wide}
use Rattle.std.proofs.lemmas.List.Elements.{All-cons}
use Rattle.std.proofs.lemmas.List.Sums.{sum_by-cons}
use Rattle.std.proofs.Math.Nat.{mul-le-mul_right}
use Rattle.text_fields.specs.Spelling.{listed, IsCertificate}
use Rattle.criteria_model.specs.declared.pairs.Pair.{Pair}
use Rattle.criteria_model.specs.declared.pairs.Answer.{Answer}
use Rattle.criteria_model.specs.declared.pairs.Side.{Side}
use Rattle.criteria_model.specs.declared.pairs.Side.TheVariants.{Left, Right, Equal}
use Rattle.criteria_model.specs.Worth.{increments}
use Rattle.criteria_model.specs.Criteria.{Criteria, IsModel}
use Rattle.farkas_check.specs.declared.cites.Cite.{Cite}
use Rattle.farkas_check.specs.declared.combination.Combination.{Combination}
use Rattle.result_file.specs.declared.limits.TheConstants.{MAX_LINE}
use Rattle.result_file.specs.declared.eliminations.Elimination.{Elimination}
use Rattle.result_file.specs.declared.entries.Entry.{Entry}
use Rattle.result_file.specs.declared.entries.Entry.TheVariants.{Eliminate, Issue, Commit, Close, Withdraw}
use Rattle.result_file.specs.declared.entries.Format.{Format}
use Rattle.result_file.specs.declared.entries.Format.TheVariants.{One, Two}
use Rattle.result_file.specs.Claims.{Claim, answered, eliminated}
use Rattle.result_file.specs.Entries.{HasDeskForm, HasNumberForm, HasVectorForm, HasEntryForm}
use Rattle.result_file.specs.Forms.{HasModelForm, HasPairForm, HasCombinationForm, HasEliminationForm}
use Rattle.result_file.specs.RightClaims.{HasForm}
use Rattle.result_file.proofs.ClaimLaws.{is_small}
use Rattle.result_file.specs.Texts.{model_line, pair_text, side_text, ranking_text, cite_text, cites_text, combination_text, elimination_line, claim_line, vector_text, vectors_text, numbers_text, entry_line}

-- ---- numbers and lists of them

decimal_most : (digits n : ℕ) → 0 < digits → n < 10 ^ digits → n < 10 ^ 64 → length (decimal n) ≤ digits
decimal_most digits n some below wide = length-decimal-le_wide digits n some below wide

-- 2^96 has 29 digits
certificate_most : (z : ℤ) → IsCertificate z → length (signed_decimal z) ≤ 30
certificate_most (pos n) h = omega (arith, decimal_most 29 n (omega arith) (omega (arith, h)) (omega (arith, h)))
certificate_most (negsuc n) h = omega (arith, decimal_most 29 (suc n) (omega arith) (omega (arith, h)) (omega (arith, h)))

others_most : {X : Type 0} (spell : X → List ℕ) (most : ℕ) (xs : List X) → All (λ x. length (spell x) ≤ most) xs
    → length (flat_map (λ y. 0x2C ∷ spell y) xs) ≤ length xs * (most + 1)
others_most spell most [] h = omega arith
others_most spell most (x ∷ xs) h =
    let first : length (spell x) ≤ most = h 0 x (omega arith) in
    let others : length (flat_map (λ y. 0x2C ∷ spell y) xs) ≤ length xs * (most + 1) = others_most spell most xs (λ k d lt. h (suc k) d (omega arith)) in
    omega (arith, length-append (spell x) (flat_map (λ y. 0x2C ∷ spell y) xs))

listed_most : {X : Type 0} (spell : X → List ℕ) (most : ℕ) (xs : List X) → All (λ x. length (spell x) ≤ most) xs
    → length (listed spell xs) ≤ length xs * (most + 1)
listed_most spell most [] h = omega arith
listed_most spell most (x ∷ xs) h =
    let first : length (spell x) ≤ most = h 0 x (omega arith) in
    let others : length (flat_map (λ y. 0x2C ∷ spell y) xs) ≤ length xs * (most + 1) = others_most spell most xs (λ k d lt. h (suc k) d (omega arith)) in
    omega (arith, length-append (spell x) (flat_map (λ y. 0x2C ∷ spell y) xs))

-- at most this many items
listed_within : {X : Type 0} (spell : X → List ℕ) (most count : ℕ) (xs : List X) → length xs ≤ count → All (λ x. length (spell x) ≤ most) xs
    → length (listed spell xs) ≤ count * (most + 1)
listed_within spell most count xs few h =
    let here : length (listed spell xs) ≤ length xs * (most + 1) = listed_most spell most xs h in
    let there : length xs * (most + 1) ≤ count * (most + 1) = mul-le-mul_right (most + 1) few in
    omega (arith, here, there)

-- texts one after another
length2 : (a b : List ℕ) → length (a ++ b) ≡ length a + length b
length2 a b = length-append a b

length3 : (a b c : List ℕ) → length (a ++ b ++ c) ≡ length a + length b + length c
length3 a b c = omega (arith, length-append (a ++ b) c, length-append a b)

length6 : (a b c d e f : List ℕ) → length (a ++ b ++ c ++ d ++ e ++ f) ≡ length a + length b + length c + length d + length e + length f
length6 a b c d e f = omega (arith, length3 (a ++ b ++ c ++ d) e f, length3 (a ++ b) c d, length2 a b)

-- ---- the model line

-- no criterion has more levels than there are increments, and one
pub levels_within : (levels : List ℕ) (most : ℕ) → increments levels ≤ most → All (λ n. n ≤ most + 1) levels
levels_within [] most few = λ k d within. absurd (omega arith)
levels_within (n ∷ levels) most few =
    let all : increments (n ∷ levels) ≡ (n - 1) + increments levels = sum_by-cons (λ (m : ℕ). m - 1) n levels in
    let others : All (λ n. n ≤ most + 1) levels = levels_within levels most (omega arith) in
    level_within n levels most (omega arith) others
  where
    level_within : (n : ℕ) (levels : List ℕ) (most : ℕ) → n ≤ most + 1 → All (λ n. n ≤ most + 1) levels → All (λ n. n ≤ most + 1) (n ∷ levels)
    level_within n levels most first others = All-cons (λ n. n ≤ most + 1) n levels first others

pub model_form : (criteria : Criteria) → IsModel criteria → HasModelForm criteria
model_form criteria m =
    let small = is_small criteria m in
    let levels : All (λ n. n ≤ 24 + 1) criteria.levels = levels_within criteria.levels 24 m.few_increments in
    record {
      some = m.some;
      levels = λ k d within. omega (arith, levels k d within);
      degree = omega (arith, m.degree_within, small.most);
    }

pub model_line_fits : (criteria : Criteria) → IsModel criteria → length (model_line criteria) ≤ MAX_LINE
model_line_fits criteria m =
    let small = is_small criteria m in
    let levels : All (λ n. n ≤ 24 + 1) criteria.levels = levels_within criteria.levels 24 m.few_increments in
    let each : All (λ n. length (decimal n) ≤ 2) criteria.levels =
    λ k d within. decimal_most 2 _ (omega arith) (omega (arith, levels k d within)) (omega (arith, levels k d within)) in
    let list : length (listed decimal criteria.levels) ≤ 24 * (2 + 1) = listed_within decimal 2 24 criteria.levels small.most each in
    let degree : length (decimal criteria.degree) ≤ 2 =
    decimal_most 2 criteria.degree (omega arith) (omega (arith, m.degree_within, small.most)) (omega (arith, m.degree_within, small.most)) in
    omega (arith, list, degree, length3 (codes "model " ++ listed decimal criteria.levels) (codes " degree ") (decimal criteria.degree), length2 (codes "model ") (listed decimal criteria.levels))

-- ---- fields

side_most : (side : Side) → length (side_text side) ≤ 5
side_most Left = omega arith
side_most Right = omega arith
side_most Equal = omega arith

levels_most : (levels : List ℕ) → length levels ≤ 24 → All (λ n. n ≤ 25) levels → length (listed decimal levels) ≤ 72
levels_most levels few h =
    let each : All (λ n. length (decimal n) ≤ 2) levels =
    λ k d within. decimal_most 2 _ (omega arith) (omega (arith, h k d within)) (omega (arith, h k d within)) in
    omega (arith, listed_within decimal 2 24 levels few each)

pair_most : (criteria : Criteria) (pair : Pair) → IsModel criteria → HasPairForm criteria pair → length (pair_text pair) ≤ 145
pair_most criteria pair m h =
    let small = is_small criteria m in
    let left : length (listed decimal pair.left) ≤ 72 = levels_most pair.left (omega (arith, h.left.len, small.most)) h.left.each in
    let right : length (listed decimal pair.right) ≤ 72 = levels_most pair.right (omega (arith, h.right.len, small.most)) h.right.each in
    omega (arith, left, right, length3 (listed decimal pair.left) (codes "/") (listed decimal pair.right))

ranking_most : (criteria : Criteria) (ranking : Answer) → IsModel criteria → HasPairForm criteria ranking.pair → length (ranking_text ranking) ≤ 151
ranking_most criteria ranking m h =
    omega (arith, pair_most criteria ranking.pair m h, side_most ranking.side, length3 (pair_text ranking.pair) (codes " ") (side_text ranking.side))

certificates_most : (numbers : List ℤ) → length numbers ≤ 24 → All IsCertificate numbers → length (listed signed_decimal numbers) ≤ 744
certificates_most numbers few h =
    omega (arith, listed_within signed_decimal 30 24 numbers few (λ k d within. certificate_most _ (h k d within)))

cite_most : (cite : Cite) → cite.answer ≤ 131072 → IsCertificate cite.weight → length (cite_text cite) ≤ 37
cite_most cite number weight =
    let answer : length (decimal cite.answer) ≤ 6 = decimal_most 6 cite.answer (omega arith) (omega (arith, number)) (omega (arith, number)) in
    omega (arith, answer, certificate_most cite.weight weight, length3 (decimal cite.answer) (codes ":") (signed_decimal cite.weight))

cites_most : (cites : List Cite) → length cites ≤ 24 → All (λ cite. length (cite_text cite) ≤ 37) cites → length (cites_text cites) ≤ 912
cites_most [] few h = omega arith
cites_most (cite ∷ cites) few h = omega (arith, listed_within cite_text 37 24 (cite ∷ cites) few h)

combination_most : (criteria : Criteria) (c : Combination) → IsModel criteria → HasCombinationForm criteria c → length (combination_text c) ≤ 1700
combination_most criteria c m h =
    let small = is_small criteria m in
    let scale : length (signed_decimal c.scale) ≤ 30 = certificate_most c.scale h.scale in
    let weights : length (listed signed_decimal c.increments) ≤ 744 =
    certificates_most c.increments (omega (arith, h.len, small.most_increments)) h.weights in
    let cites : length (cites_text c.answers) ≤ 912 =
    cites_most c.answers h.cites.most (λ k d within. cite_most _ (h.numbers k d within) (h.cites.each k d within).within) in
    omega (
      arith,
      scale,
      weights,
      cites,
      length3 (signed_decimal c.scale ++ codes " " ++ listed signed_decimal c.increments) (codes " ") (cites_text c.answers),
      length3 (signed_decimal c.scale) (codes " ") (listed signed_decimal c.increments),
    )

elimination_most : (criteria : Criteria) (e : Elimination) → IsModel criteria → HasEliminationForm criteria e → length (elimination_line e) ≤ MAX_LINE
elimination_most criteria e m h =
    let ranking : Answer = record { pair = e.pair; side = e.verdict } in
    let worker : length (decimal e.worker) ≤ 2 = decimal_most 2 e.worker (omega arith) (omega (arith, h.worker)) (omega (arith, h.worker)) in
    omega (
      arith,
      worker,
      ranking_most criteria ranking m h.pair,
      combination_most criteria e.combination m h.combination,
      length6 (codes "eliminate ") (decimal e.worker) (codes " ") (ranking_text ranking) (codes " ") (combination_text e.combination),
    )

vector_most : (criteria : Criteria) (vector : List ℤ) → IsModel criteria → HasVectorForm criteria vector → length (vector_text vector) ≤ 744
vector_most criteria vector m h =
    certificates_most vector (omega (arith, h.values.len, (is_small criteria m).most_increments)) h.numbers

vectors_most : (criteria : Criteria) (plus minus : List ℤ) → IsModel criteria → HasVectorForm criteria plus → HasVectorForm criteria minus
    → length (vectors_text plus minus) ≤ 1489
vectors_most criteria plus minus m plus_form minus_form =
    omega (
      arith,
      vector_most criteria plus m plus_form,
      vector_most criteria minus m minus_form,
      length3 (vector_text plus) (codes " ") (vector_text minus),
    )

desk_most : (desk : ℕ) → HasDeskForm desk → length (decimal desk) ≤ 1
desk_most desk h = decimal_most 1 desk (omega arith) (omega (arith, h.1)) (omega (arith, h.1))

numbers_most : (desk number : ℕ) → HasDeskForm desk → HasNumberForm number → length (numbers_text desk number) ≤ 8
numbers_most desk number desk_form number_form =
    let last : length (decimal number) ≤ 6 = decimal_most 6 number (omega arith) (omega (arith, number_form.1)) (omega (arith, number_form.1)) in
    omega (arith, desk_most desk desk_form, last, length3 (decimal desk) (codes " ") (decimal number))

-- ---- the lines of claims and entries

pub claim_line_fits : (criteria : Criteria) (claim : Claim) → IsModel criteria → HasForm criteria claim → length (claim_line claim) ≤ MAX_LINE
claim_line_fits criteria (answered answer) m h =
    omega (arith, ranking_most criteria answer m h, length2 (codes "answer ") (ranking_text answer))
claim_line_fits criteria (eliminated e) m h = elimination_most criteria e m h

pub entry_line_fits : (format : Format) (criteria : Criteria) (entry : Entry) → IsModel criteria → HasEntryForm format criteria entry
    → length (entry_line entry) ≤ MAX_LINE
entry_line_fits format criteria (Eliminate e) m h = elimination_most criteria e m h
entry_line_fits format criteria (Issue desk pair plus minus) m h =
    omega (
      arith,
      desk_most desk h.0,
      pair_most criteria pair m h.1,
      vectors_most criteria plus minus m h.2 h.3,
      length6 (codes "issue ") (decimal desk) (codes " ") (pair_text pair) (codes " ") (vectors_text plus minus),
    )
entry_line_fits format criteria (Commit desk question side plus minus point) m h =
    let front : List ℕ = codes "commit " ++ numbers_text desk question ++ codes " " ++ side_text side ++ codes " " ++ vectors_text plus minus in
    omega (
      arith,
      numbers_most desk question h.0 h.1,
      side_most side,
      vectors_most criteria plus minus m h.2 h.3,
      vector_most criteria point m h.4,
      length6 (codes "commit ") (numbers_text desk question) (codes " ") (side_text side) (codes " ") (vectors_text plus minus),
      length3 front (codes " ") (vector_text point),
    )
entry_line_fits format criteria (Close desk question) m h =
    omega (arith, numbers_most desk question h.0 h.1, length2 (codes "close ") (numbers_text desk question))
entry_line_fits One criteria (Withdraw desk answer) m h = absurd h
entry_line_fits Two criteria (Withdraw desk answer) m h =
    omega (arith, numbers_most desk answer h.0 h.1, length2 (codes "withdraw ") (numbers_text desk answer))
