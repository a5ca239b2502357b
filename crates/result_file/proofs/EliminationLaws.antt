-- What an eliminate line reads as is what it spells.
use Rattle.std.proofs.Common.{◌≡◌, ℕ, zero, suc, ◌<◌, ◌≤◌, ◌^◌, true, false, cond, List, [], ◌∷◌, ◌++◌, length, get_or, drop, refl, sym, ap, subst, ◌∙◌, arith, append-nil, Some, codes, lit<}
use Rattle.std.specs.List.{All, flat_map}
use Rattle.std.specs.Fmt.{decimal, signed_decimal}
use Rattle.std.proofs.lemmas.Fmt.{decimal_digit, decimal_nonempty, first_decimal}
use Rattle.std.proofs.lemmas.Bool.Decides.{nat_tests}
use Rattle.std.proofs.lemmas.List.Elements.{All-nil}
use Rattle.text_fields.specs.Spelling.{EndsNumber, IsCertificate, IsList, listed, is_next}
use Rattle.text_fields.specs.Reading.{read_word, read_number, read_certificate, read_list}
use Rattle.text_fields.specs.Laws.{IsField}
use Rattle.text_fields.proofs.NumberLaws.{numbers_field, certificates_field, starts_minus, bind_some, some_is}
use Rattle.text_fields.proofs.ListLaws.{list_field}
use Rattle.text_fields.proofs.WordLaws.{word_field}
use Rattle.criteria_model.specs.declared.pairs.Answer.{Answer}
use Rattle.farkas_check.specs.declared.cites.Cite.{Cite}
use Rattle.farkas_check.specs.declared.combination.Combination.{Combination}
use Rattle.result_file.specs.declared.eliminations.Elimination.{Elimination}
use Rattle.result_file.specs.Texts.{ranking_text, cite_text, cites_text, combination_text, elimination_line}
use Rattle.result_file.specs.Reading.{read_ranking, read_weights, read_cite, read_cites, read_combination, read_elimination}
use Rattle.result_file.proofs.LineLaws.{IsExactly, IsPair, EndsSide, exactly_field, ranking_field, at_end_some, regroup3, regroup4, regroup5, regroup6, joined3, joined5, joined6}

-- ---- cites

-- a cite as it is read
pub record IsReadCite (cite : Cite) : Type 0 where
  pub number : cite.answer ≤ 131072
  pub weight : IsCertificate cite.weight

pub cite_field : IsField read_cite cite_text IsReadCite EndsNumber
unfolding read_cite
cite_field = record {
  takes = λ text cite rest e.
      let a = bind_some (read_number 131072 text) _ (cite, rest) e in
      let c = bind_some (read_word (codes ":") a.0.1) _ (cite, rest) a.2 in
      let w = bind_some (read_certificate c.0.1) _ (cite, rest) c.2 in
      let answer = (numbers_field 131072 (lit< tt)).takes text a.0.0 a.0.1 a.1 in
      let colon = (word_field (codes ":")).takes a.0.1 c.0.0 c.0.1 c.1 in
      let weight = certificates_field.takes c.0.1 w.0.0 w.0.1 w.1 in
      subst (λ (found : Cite × List ℕ). (text ≡ cite_text found.0 ++ found.1) × IsReadCite found.0) (some_is _ _ w.2)
      (joined3 text (decimal a.0.0) (codes ":") (signed_decimal w.0.0) a.0.1 c.0.1 w.0.1 answer.0 colon.0 weight.0, record { number = answer.1; weight = weight.1 });
  again = λ cite rest h ends.
      let answer = (numbers_field 131072 (lit< tt)).again cite.answer (codes ":" ++ (signed_decimal cite.weight ++ rest)) h.number refl in
      let weight = certificates_field.again cite.weight rest h.weight ends in
      ap read_cite (sym (regroup3 (decimal cite.answer) (codes ":") (signed_decimal cite.weight) rest)) ∙ rw (answer, weight) refl;
}

-- a list of cites as it is read
pub record AreReadCites (cites : List Cite) : Type 0 where
  pub most : length cites ≤ 24
  pub each : All IsReadCite cites

-- a number begins with no minus
no_minus_in : (text rest : List ℕ) → 0 < length text → 48 ≤ get_or text 0 0 → is_next 45 (text ++ rest) ≡ false
no_minus_in [] rest some first = absurd (omega arith)
no_minus_in (b ∷ text) rest some first = grind (arith, nat_tests)

first_digit : (n : ℕ) → n < 2 ^ 64 → 48 ≤ get_or (decimal n) 0 0
first_digit zero lt = rw (decimal_digit 0 (omega arith)) (omega arith)
first_digit (suc n) lt = omega (arith, first_decimal (suc n) (omega arith) lt)

no_minus : (cite : Cite) (cites : List Cite) (rest : List ℕ) → IsReadCite cite → is_next 45 (listed cite_text (cite ∷ cites) ++ rest) ≡ false
no_minus cite cites rest h =
    let lt : cite.answer < 2 ^ 64 = omega (arith, h.number) in
    let others : List ℕ = flat_map (λ (y : Cite). 0x2C ∷ cite_text y) cites in
    let e : listed cite_text (cite ∷ cites) ++ rest ≡ decimal cite.answer ++ (codes ":" ++ (signed_decimal cite.weight ++ (others ++ rest))) =
    sym (regroup4 (decimal cite.answer) (codes ":") (signed_decimal cite.weight) others rest) in
    ap (is_next 45) e ∙ no_minus_in (decimal cite.answer) _ (decimal_nonempty cite.answer lt) (first_digit cite.answer lt)

-- a list with a cite is written as one
some_cites : (cites : List Cite) → 1 ≤ length cites → cites_text cites ≡ listed cite_text cites
some_cites [] some = absurd (omega arith)
some_cites (cite ∷ cites) some = refl

cite_lists : IsField (read_list read_cite 24) (listed cite_text) (IsList IsReadCite 24) EndsSide
cite_lists = list_field read_cite cite_text IsReadCite EndsNumber cite_field (λ _. refl) 24

AreCitesAt : List ℕ → List Cite × List ℕ → Type 0
AreCitesAt text found = (text ≡ cites_text found.0 ++ found.1) × AreReadCites found.0

cites_takes : (text : List ℕ) (found : List Cite × List ℕ) → read_cites text ≡ Some found → AreCitesAt text found
unfolding read_cites AreCitesAt
cites_takes text found e =
    elim (is_next 45 text) as (λ v. is_next 45 text ≡ v → cond v (Some ([], drop 1 text)) (read_list read_cite 24 text) ≡ Some found → AreCitesAt text found) [
      | true ↦ λ minus e'. subst (AreCitesAt text) (some_is _ _ e') (starts_minus text minus, record { most = omega arith; each = All-nil IsReadCite })
      | false ↦ λ _ e'.
          let t = cite_lists.takes text found.0 found.1 e' in
          (t.0 ∙ ap (λ (front : List ℕ). front ++ found.1) (sym (some_cites found.0 t.1.some)), record { most = t.1.most; each = t.1.each })
    ] refl e

cites_again : (cites : List Cite) (rest : List ℕ) → AreReadCites cites → EndsSide rest → read_cites (cites_text cites ++ rest) ≡ Some (cites, rest)
unfolding read_cites
cites_again [] rest h ends = refl
cites_again (cite ∷ cites) rest h ends =
    let none = no_minus cite cites rest (h.each 0 cite (omega arith)) in
    let again = cite_lists.again (cite ∷ cites) rest (record { some = omega arith; most = h.most; each = h.each }) ends in
    rw none again

pub cites_field : IsField read_cites cites_text AreReadCites EndsSide
unfolding AreCitesAt
cites_field = record {
  takes = λ text cites rest e. cites_takes text (cites, rest) e;
  again = cites_again;
}

-- ---- combinations

-- a combination as it is read
pub record IsReadCombination (increments : ℕ) (combination : Combination) : Type 0 where
  pub scale : IsCertificate combination.scale
  pub weights : IsExactly IsCertificate increments combination.increments
  pub cites : AreReadCites combination.answers

pub weights_field : (increments : ℕ) → 1 ≤ increments → increments ≤ 24
    → IsField (read_weights increments) (listed signed_decimal) (IsExactly IsCertificate increments) EndsSide
unfolding read_weights
weights_field increments low high = exactly_field read_certificate signed_decimal IsCertificate certificates_field increments low high

combination_field : (increments : ℕ) → 1 ≤ increments → increments ≤ 24
    → IsField (read_combination increments) combination_text (IsReadCombination increments) EndsSide
unfolding read_combination
combination_field increments low high = record {
  takes = λ text combination rest e.
      let s = bind_some (read_certificate text) _ (combination, rest) e in
      let b = bind_some (read_word (codes " ") s.0.1) _ (combination, rest) s.2 in
      let w = bind_some (read_weights increments b.0.1) _ (combination, rest) b.2 in
      let b' = bind_some (read_word (codes " ") w.0.1) _ (combination, rest) w.2 in
      let c = bind_some (read_cites b'.0.1) _ (combination, rest) b'.2 in
      let scale = certificates_field.takes text s.0.0 s.0.1 s.1 in
      let blank = (word_field (codes " ")).takes s.0.1 b.0.0 b.0.1 b.1 in
      let weights = (weights_field increments low high).takes b.0.1 w.0.0 w.0.1 w.1 in
      let second = (word_field (codes " ")).takes w.0.1 b'.0.0 b'.0.1 b'.1 in
      let cites = cites_field.takes b'.0.1 c.0.0 c.0.1 c.1 in
      subst (λ (found : Combination × List ℕ). (text ≡ combination_text found.0 ++ found.1) × IsReadCombination increments found.0) (some_is _ _ c.2) (
        joined5 text (signed_decimal s.0.0) (codes " ") (listed signed_decimal w.0.0) (codes " ") (cites_text c.0.0) s.0.1 b.0.1 w.0.1 b'.0.1 c.0.1 scale.0 blank.0 weights.0 second.0 cites.0,
        record { scale = scale.1; weights = weights.1; cites = cites.1 },
      );
  again = λ combination rest h ends.
      let scale = certificates_field.again combination.scale (codes " " ++ (listed signed_decimal combination.increments ++ (codes " " ++ (cites_text combination.answers ++ rest)))) h.scale refl in
      let weights = (weights_field increments low high).again combination.increments (codes " " ++ (cites_text combination.answers ++ rest)) h.weights (refl, refl) in
      let cites = cites_field.again combination.answers rest h.cites ends in
      ap (read_combination increments) (sym (regroup5 (signed_decimal combination.scale) (codes " ") (listed signed_decimal combination.increments)
      (codes " ") (cites_text combination.answers) rest)) ∙ rw (scale, weights, cites) refl;
}

-- ---- eliminate lines

-- an elimination as it is read
pub record IsReadElimination (criteria increments : ℕ) (elimination : Elimination) : Type 0 where
  pub worker : elimination.worker ≤ 16
  pub pair : IsPair criteria elimination.pair
  pub combination : IsReadCombination increments elimination.combination

abbrev ranking_of : Elimination → Answer
ranking_of elimination = record { pair = elimination.pair; side = elimination.verdict }

pub elimination_takes : (criteria increments : ℕ) (line : List ℕ) (elimination : Elimination) → 1 ≤ criteria → criteria ≤ 24 → 1 ≤ increments
    → increments ≤ 24 → read_elimination criteria increments line ≡ Some elimination
    → (line ≡ elimination_line elimination) × IsReadElimination criteria increments elimination
unfolding read_elimination
elimination_takes criteria increments line elimination low high low' high' e =
    let w = bind_some (read_word (codes "eliminate ") line) _ elimination e in
    let n = bind_some (read_number 16 w.0.1) _ elimination w.2 in
    let b = bind_some (read_word (codes " ") n.0.1) _ elimination n.2 in
    let r = bind_some (read_ranking criteria b.0.1) _ elimination b.2 in
    let b' = bind_some (read_word (codes " ") r.0.1) _ elimination r.2 in
    let c = bind_some (read_combination increments b'.0.1) _ elimination b'.2 in
    let found : Elimination = record { worker = n.0.0; pair = r.0.0.pair; verdict = r.0.0.side; combination = c.0.0 } in
    let end = at_end_some found elimination c.0.1 c.2 in
    let word = (word_field (codes "eliminate ")).takes line w.0.0 w.0.1 w.1 in
    let worker = (numbers_field 16 (lit< tt)).takes w.0.1 n.0.0 n.0.1 n.1 in
    let blank = (word_field (codes " ")).takes n.0.1 b.0.0 b.0.1 b.1 in
    let ranking = (ranking_field criteria low high).takes b.0.1 r.0.0 r.0.1 r.1 in
    let second = (word_field (codes " ")).takes r.0.1 b'.0.0 b'.0.1 b'.1 in
    let combination = (combination_field increments low' high').takes b'.0.1 c.0.0 c.0.1 c.1 in
    let whole = joined6 line (codes "eliminate ") (decimal n.0.0) (codes " ") (ranking_text r.0.0) (codes " ")
    (combination_text c.0.0) w.0.1 n.0.1 b.0.1 r.0.1 b'.0.1 c.0.1 word.0 worker.0 blank.0 ranking.0 second.0 combination.0 in
    let line_is : line ≡ elimination_line found = whole ∙ rw end.0 (append-nil _) in
    subst (λ (x : Elimination). (line ≡ elimination_line x) × IsReadElimination criteria increments x) end.1
    (line_is, record { worker = worker.1; pair = ranking.1; combination = combination.1 })

pub elimination_again : (criteria increments : ℕ) (elimination : Elimination) → 1 ≤ criteria → criteria ≤ 24 → 1 ≤ increments → increments ≤ 24
    → IsReadElimination criteria increments elimination → read_elimination criteria increments (elimination_line elimination) ≡ Some elimination
unfolding read_elimination
elimination_again criteria increments elimination low high low' high' h =
    let worker = (numbers_field 16 (lit< tt)).again elimination.worker (codes " " ++ (ranking_text (ranking_of elimination)
    ++ (codes " " ++ (combination_text elimination.combination ++ [])))) h.worker refl in
    let ranking = (ranking_field criteria low high).again (ranking_of elimination) (codes " " ++ (combination_text elimination.combination ++ [])) h.pair tt in
    let combination = (combination_field increments low' high').again elimination.combination [] h.combination (tt, refl) in
    ap (read_elimination criteria increments) (sym (append-nil (elimination_line elimination))
    ∙ sym (regroup6 (codes "eliminate ") (decimal elimination.worker) (codes " ") (ranking_text (ranking_of elimination)) (codes " ")
    (combination_text elimination.combination) [])) ∙ rw (worker, ranking, combination) refl
