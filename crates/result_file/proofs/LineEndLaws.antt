-- No line of a file has a line end within.
use Rattle.std.proofs.Common.{◌≡◌, ◌≢◌, ℕ, suc, ◌+◌, ◌%◌, ◌<◌, ◌≤◌, ◌^◌, Bool, true, false, not, ◌==◌, List, [], ◌∷◌, ◌++◌, refl, arith, codes, ℤ, pos, negsuc}
use Rattle.std.specs.List.{All, flat_map, list_all}
use Rattle.std.specs.Fmt.{decimal, signed_decimal}
use Rattle.std.proofs.lemmas.Fmt.{decimal_by_steps_wide}
use Rattle.std.proofs.lemmas.Bool.{not-true}
use Rattle.std.proofs.lemmas.Bool.Decides.{nat_tests}
use Rattle.std.proofs.lemmas.List.Folds.{list_all-append}
use Rattle.std.proofs.lemmas.List.Sums.{AllPass-from_list_all}
use Rattle.edges.specs.Line.{HasNoLineEnd, line_end}
use Rattle.text_fields.specs.Spelling.{IsCertificate, listed}
use Rattle.criteria_model.specs.declared.pairs.Pair.{Pair}
use Rattle.criteria_model.specs.declared.pairs.Answer.{Answer}
use Rattle.criteria_model.specs.declared.pairs.Side.{Side}
use Rattle.criteria_model.specs.declared.pairs.Side.TheVariants.{Left, Right, Equal}
use Rattle.criteria_model.specs.Criteria.{Criteria}
use Rattle.farkas_check.specs.declared.cites.Cite.{Cite}
use Rattle.farkas_check.specs.declared.combination.Combination.{Combination}
use Rattle.result_file.specs.declared.eliminations.Elimination.{Elimination}
use Rattle.result_file.specs.declared.entries.Entry.{Entry}
use Rattle.result_file.specs.declared.entries.Entry.TheVariants.{Eliminate, Issue, Commit, Close, Withdraw}
use Rattle.result_file.specs.declared.entries.Format.{Format}
use Rattle.result_file.specs.declared.entries.Format.TheVariants.{One, Two}
use Rattle.result_file.specs.declared.kinds.Kind.{Kind}
use Rattle.result_file.specs.declared.kinds.Kind.TheVariants.{Claims, Result}
use Rattle.result_file.specs.Claims.{Claim, answered, eliminated}
use Rattle.result_file.specs.RightClaims.{HasForm}
use Rattle.result_file.specs.Forms.{HasModelForm, HasPairForm, HasCombinationForm, HasEliminationForm}
use Rattle.result_file.specs.Entries.{HasDeskForm, HasNumberForm, HasVectorForm, HasEntryForm}
use Rattle.result_file.specs.Texts.{heading, end_line, model_line, answer_line, claim_line, pair_text, side_text, ranking_text, cite_text, cites_text, combination_text, elimination_line, vector_text, vectors_text, numbers_text, entry_line}

abbrev is_inner : ℕ → Bool
is_inner byte = not (byte == line_end)

-- no byte is a line end, as a test
abbrev is_unbroken : List ℕ → Bool
is_unbroken text = list_all is_inner text

digit_inner : (byte : ℕ) → 48 ≤ byte → is_inner byte ≡ true
digit_inner byte digit = let other : byte == line_end ≡ false = grind (arith, nat_tests) in rw other refl

-- ---- numbers and lists of them

decimal_unbroken : (n : ℕ) → n < 10 ^ 64 → is_unbroken (decimal n) ≡ true
decimal_unbroken n lt = decimal_by_steps_wide (λ (k : ℕ) (digits : List ℕ). is_unbroken digits ≡ true)
    (λ k small. rw (digit_inner (48 + k) (omega arith)) refl)
    (λ k digits big before. rw (list_all-append is_inner digits ((48 + k % 10) ∷ []), before, digit_inner (48 + k % 10) (omega arith)) refl)
    n lt

signed_unbroken : (z : ℤ) → IsCertificate z → is_unbroken (signed_decimal z) ≡ true
signed_unbroken (pos n) h = decimal_unbroken n (omega (arith, h))
signed_unbroken (negsuc n) h = decimal_unbroken (suc n) (omega (arith, h))

others_unbroken : {X : Type 0} (spell : X → List ℕ) (xs : List X) → All (λ x. is_unbroken (spell x) ≡ true) xs
    → is_unbroken (flat_map (λ y. 0x2C ∷ spell y) xs) ≡ true
others_unbroken spell [] h = refl
others_unbroken spell (x ∷ xs) h =
    let first = h 0 x (omega arith) in
    let others = others_unbroken spell xs (λ k d lt. h (suc k) d (omega arith)) in
    rw (list_all-append is_inner (spell x) (flat_map (λ y. 0x2C ∷ spell y) xs), first, others) refl

listed_unbroken : {X : Type 0} (spell : X → List ℕ) (xs : List X) → All (λ x. is_unbroken (spell x) ≡ true) xs → is_unbroken (listed spell xs) ≡ true
listed_unbroken spell [] h = refl
listed_unbroken spell (x ∷ xs) h =
    let first = h 0 x (omega arith) in
    let others = others_unbroken spell xs (λ k d lt. h (suc k) d (omega arith)) in
    rw (list_all-append is_inner (spell x) (flat_map (λ y. 0x2C ∷ spell y) xs), first, others) refl

-- ---- texts one after another

two_unbroken : (a b : List ℕ) → is_unbroken a ≡ true → is_unbroken b ≡ true → is_unbroken (a ++ b) ≡ true
two_unbroken a b p q = simp (list_all-append, p, q) refl

three_unbroken : (a b c : List ℕ) → is_unbroken a ≡ true → is_unbroken b ≡ true → is_unbroken c ≡ true → is_unbroken (a ++ b ++ c) ≡ true
three_unbroken a b c p q r = simp (list_all-append, p, q, r) refl

six_unbroken : (a b c d e f : List ℕ) → is_unbroken a ≡ true → is_unbroken b ≡ true → is_unbroken c ≡ true → is_unbroken d ≡ true
    → is_unbroken e ≡ true → is_unbroken f ≡ true → is_unbroken (a ++ b ++ c ++ d ++ e ++ f) ≡ true
six_unbroken a b c d e f p q r s t u = simp (list_all-append, p, q, r, s, t, u) refl

-- ---- fields

pair_unbroken : (criteria : Criteria) (pair : Pair) → HasPairForm criteria pair → is_unbroken (pair_text pair) ≡ true
pair_unbroken criteria pair h =
    let left = listed_unbroken decimal pair.left (λ k d lt. decimal_unbroken _ (omega (arith, h.left.each k d lt))) in
    let right = listed_unbroken decimal pair.right (λ k d lt. decimal_unbroken _ (omega (arith, h.right.each k d lt))) in
    simp (list_all-append, left, right) refl

side_unbroken : (side : Side) → is_unbroken (side_text side) ≡ true
side_unbroken Left = refl
side_unbroken Right = refl
side_unbroken Equal = refl

vector_unbroken : (criteria : Criteria) (vector : List ℤ) → HasVectorForm criteria vector → is_unbroken (vector_text vector) ≡ true
vector_unbroken criteria vector h = listed_unbroken signed_decimal vector (λ k d lt. signed_unbroken _ (h.numbers k d lt))

vectors_unbroken : (criteria : Criteria) (plus minus : List ℤ) → HasVectorForm criteria plus → HasVectorForm criteria minus
    → is_unbroken (vectors_text plus minus) ≡ true
vectors_unbroken criteria plus minus plus_form minus_form =
    let first = vector_unbroken criteria plus plus_form in
    let second = vector_unbroken criteria minus minus_form in
    simp (list_all-append, first, second) refl

numbers_unbroken : (desk number : ℕ) → HasDeskForm desk → HasNumberForm number → is_unbroken (numbers_text desk number) ≡ true
numbers_unbroken desk number desk_form number_form =
    let first = decimal_unbroken desk (omega (arith, desk_form.1)) in
    let second = decimal_unbroken number (omega (arith, number_form.1)) in
    simp (list_all-append, first, second) refl

cite_unbroken : (cite : Cite) → cite.answer ≤ 131072 → IsCertificate cite.weight → is_unbroken (cite_text cite) ≡ true
cite_unbroken cite number weight =
    let first = decimal_unbroken cite.answer (omega (arith, number)) in
    let second = signed_unbroken cite.weight weight in
    simp (list_all-append, first, second) refl

cites_unbroken : (cites : List Cite) → All (λ cite. is_unbroken (cite_text cite) ≡ true) cites → is_unbroken (cites_text cites) ≡ true
cites_unbroken [] h = refl
cites_unbroken (cite ∷ cites) h = listed_unbroken cite_text (cite ∷ cites) h

combination_unbroken : (criteria : Criteria) (combination : Combination) → HasCombinationForm criteria combination
    → is_unbroken (combination_text combination) ≡ true
combination_unbroken criteria combination h =
    let scale = signed_unbroken combination.scale h.scale in
    let weights = listed_unbroken signed_decimal combination.increments (λ k d lt. signed_unbroken _ (h.weights k d lt)) in
    let cites = cites_unbroken combination.answers (λ k d lt. cite_unbroken _ (h.numbers k d lt) (h.cites.each k d lt).within) in
    simp (list_all-append, scale, weights, cites) refl

ranking_unbroken : (criteria : Criteria) (ranking : Answer) → HasPairForm criteria ranking.pair → is_unbroken (ranking_text ranking) ≡ true
ranking_unbroken criteria ranking h =
    three_unbroken (pair_text ranking.pair) (codes " ") (side_text ranking.side) (pair_unbroken criteria ranking.pair h) refl (side_unbroken ranking.side)

elimination_unbroken : (criteria : Criteria) (e : Elimination) → HasEliminationForm criteria e → is_unbroken (elimination_line e) ≡ true
elimination_unbroken criteria e h =
    let ranking : Answer = record { pair = e.pair; side = e.verdict } in
    let worker = decimal_unbroken e.worker (omega (arith, h.worker)) in
    let combination = combination_unbroken criteria e.combination h.combination in
    six_unbroken (codes "eliminate ") (decimal e.worker) (codes " ") (ranking_text ranking) (codes " ") (combination_text e.combination) refl worker refl (ranking_unbroken criteria ranking h.pair) refl combination

-- ---- lines

entry_unbroken : (format : Format) (criteria : Criteria) (entry : Entry) → HasEntryForm format criteria entry → is_unbroken (entry_line entry) ≡ true
entry_unbroken format criteria (Eliminate e) h = elimination_unbroken criteria e h
entry_unbroken format criteria (Issue desk pair plus minus) h =
    let number = decimal_unbroken desk (omega (arith, h.0.1)) in
    let vectors = vectors_unbroken criteria plus minus h.2 h.3 in
    six_unbroken (codes "issue ") (decimal desk) (codes " ") (pair_text pair) (codes " ") (vectors_text plus minus) refl number refl (pair_unbroken criteria pair h.1) refl vectors
entry_unbroken format criteria (Commit desk question side plus minus point) h =
    let numbers = numbers_unbroken desk question h.0 h.1 in
    let vectors = vectors_unbroken criteria plus minus h.2 h.3 in
    let front : List ℕ = codes "commit " ++ numbers_text desk question ++ codes " " ++ side_text side ++ codes " " ++ vectors_text plus minus in
    let front_unbroken : is_unbroken front ≡ true = six_unbroken (codes "commit ") (numbers_text desk question) (codes " ") (side_text side) (codes " ") (vectors_text plus minus) refl numbers refl (side_unbroken side) refl vectors in
    three_unbroken front (codes " ") (vector_text point) front_unbroken refl (vector_unbroken criteria point h.4)
entry_unbroken format criteria (Close desk question) h =
    two_unbroken (codes "close ") (numbers_text desk question) refl (numbers_unbroken desk question h.0 h.1)
entry_unbroken One criteria (Withdraw desk answer) h = absurd h
entry_unbroken Two criteria (Withdraw desk answer) h =
    two_unbroken (codes "withdraw ") (numbers_text desk answer) refl (numbers_unbroken desk answer h.0 h.1)

inner_is : (byte : ℕ) → is_inner byte ≡ true → byte ≢ line_end
inner_is byte e = let other = not-true (byte == line_end) e in grind (arith, nat_tests)

unbroken_is : (text : List ℕ) → is_unbroken text ≡ true → HasNoLineEnd text
unbroken_is text h = let pass = AllPass-from_list_all is_inner text h in λ k d lt. inner_is _ (pass k d lt)

pub HasNoLineEnd-entry_line : (format : Format) (criteria : Criteria) (entry : Entry) → HasEntryForm format criteria entry → HasNoLineEnd (entry_line entry)
HasNoLineEnd-entry_line format criteria entry h =
    unbroken_is (entry_line entry) (entry_unbroken format criteria entry h)

pub HasNoLineEnd-claim_line : (criteria : Criteria) (claim : Claim) → HasForm criteria claim → HasNoLineEnd (claim_line claim)
HasNoLineEnd-claim_line criteria (answered answer) h =
    unbroken_is (answer_line answer) (two_unbroken (codes "answer ") (ranking_text answer) refl (ranking_unbroken criteria answer h))
HasNoLineEnd-claim_line criteria (eliminated e) h = unbroken_is (elimination_line e) (elimination_unbroken criteria e h)

pub HasNoLineEnd-model_line : (criteria : Criteria) → HasModelForm criteria → HasNoLineEnd (model_line criteria)
HasNoLineEnd-model_line criteria h =
    let levels = listed_unbroken decimal criteria.levels (λ k d lt. decimal_unbroken _ (omega (arith, h.levels k d lt))) in
    let degree = decimal_unbroken criteria.degree (omega (arith, h.degree)) in
    unbroken_is (model_line criteria)
    (three_unbroken (codes "model " ++ listed decimal criteria.levels) (codes " degree ") (decimal criteria.degree)
    (two_unbroken (codes "model ") (listed decimal criteria.levels) refl levels) refl degree)

pub HasNoLineEnd-heading : (kind : Kind) → HasNoLineEnd (heading kind)
HasNoLineEnd-heading Claims = unbroken_is (codes "paprika claims 1") refl
HasNoLineEnd-heading (Result One) = unbroken_is (codes "paprika result 1") refl
HasNoLineEnd-heading (Result Two) = unbroken_is (codes "paprika result 2") refl

pub HasNoLineEnd-end_line : HasNoLineEnd end_line
HasNoLineEnd-end_line = unbroken_is end_line refl
