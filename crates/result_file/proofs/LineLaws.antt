-- What a line reads as is what it spells.
use Rattle.std.proofs.Common.{◌≡◌, ℕ, suc, ◌+◌, ◌<◌, ◌≤◌, ◌^◌, true, false, cond, ◌==◌, List, [], ◌∷◌, ◌++◌, length, ◌*◌, length-append, refl, sym, ap, subst, ◌∙◌, arith, append_assoc, append-nil, Option, Some, None, ◌⊎◌, inl, inr, codes, ℤ, lit<}
use Rattle.std.specs.List.{All, flat_map}
use Rattle.std.specs.Fmt.{decimal, signed_decimal}
use Rattle.text_fields.specs.Spelling.{EndsNumber, IsCertificate, IsList, is_next, listed}
use Rattle.text_fields.specs.Reading.{read_certificate, read_list, read_number, read_word}
use Rattle.text_fields.specs.Laws.{IsField}
use Rattle.text_fields.proofs.NumberLaws.{numbers_field, certificates_field, bind_some, some_is}
use Rattle.text_fields.proofs.ListLaws.{list_field}
use Rattle.text_fields.proofs.WordLaws.{word_field}
use Rattle.std.proofs.lemmas.Bool.Decides.{nat_tests}
use Rattle.std.proofs.lemmas.Option.{cond_some}
use Rattle.std.proofs.lemmas.Fmt.{decimal_nonempty}
use Rattle.criteria_model.specs.declared.pairs.Pair.{Pair}
use Rattle.criteria_model.specs.Lists.{IsTuple, IsVector}
use Rattle.criteria_model.specs.declared.pairs.Answer.{Answer}
use Rattle.criteria_model.specs.declared.pairs.Side.{Side}
use Rattle.criteria_model.specs.declared.pairs.Side.TheVariants.{Left, Right, Equal}
use Rattle.result_file.specs.Texts.{pair_text, side_text, ranking_text, answer_line, model_line}
use Rattle.result_file.specs.Forms.{HasModelForm}
use Rattle.criteria_model.specs.Criteria.{Criteria}
use Rattle.result_file.specs.Reading.{at_end, or_else, exactly, read_tuple, read_pair, side_behind, read_side, read_ranking, read_answer, read_model}

-- numbers up to a limit, joined by commas
list_numbers : (most room : ℕ) → most < 10 ^ 64
    → IsField (read_list (read_number most) room) (listed decimal) (IsList (λ n. n ≤ most) room) (λ t. EndsNumber t × (is_next 0x2C t ≡ false))
list_numbers most room wide = list_field _ _ _ _ (numbers_field most wide) (λ _. refl) room

pub tuple_of_list : (text items rest : List ℕ) → read_list (read_number 25) 24 text ≡ Some (items, rest) → IsTuple items
tuple_of_list text items rest e =
    let h = ((list_numbers 25 24 (lit< tt)).takes text items rest e).1 in
    record { some = h.some; most = h.most; within = h.each }

-- ---- texts put together

pub regroup3 : {X : Type 0} (a b c d : List X) → a ++ (b ++ (c ++ d)) ≡ ((a ++ b) ++ c) ++ d
regroup3 a b c d = sym (append_assoc a b (c ++ d)) ∙ sym (append_assoc (a ++ b) c d)

pub regroup4 : {X : Type 0} (a b c d e : List X) → a ++ (b ++ (c ++ (d ++ e))) ≡ (((a ++ b) ++ c) ++ d) ++ e
regroup4 a b c d e = regroup3 a b c (d ++ e) ∙ sym (append_assoc ((a ++ b) ++ c) d e)

-- the parts of a text that is read field by field
pub joined3 : {X : Type 0} (t a b c t1 t2 rest : List X) → t ≡ a ++ t1 → t1 ≡ b ++ t2 → t2 ≡ c ++ rest → t ≡ ((a ++ b) ++ c) ++ rest
joined3 {X} t a b c t1 t2 rest p q r = p ∙ ap (λ (u : List X). a ++ u) (q ∙ ap (λ (u : List X). b ++ u) r) ∙ regroup3 a b c rest

pub joined4 : {X : Type 0} (t a b c d t1 t2 t3 rest : List X) → t ≡ a ++ t1 → t1 ≡ b ++ t2 → t2 ≡ c ++ t3 → t3 ≡ d ++ rest → t ≡ (((a ++ b) ++ c) ++ d) ++ rest
joined4 {X} t a b c d t1 t2 t3 rest p q r s = p ∙ ap (λ (u : List X). a ++ u) (q ∙ ap (λ (u : List X). b ++ u) (r ∙ ap (λ (u : List X). c ++ u) s)) ∙ regroup4 a b c d rest

pub regroup5 : {X : Type 0} (a b c d e f : List X) → a ++ (b ++ (c ++ (d ++ (e ++ f)))) ≡ ((((a ++ b) ++ c) ++ d) ++ e) ++ f
regroup5 a b c d e f = regroup4 a b c d (e ++ f) ∙ sym (append_assoc (((a ++ b) ++ c) ++ d) e f)

pub regroup6 : {X : Type 0} (a b c d e f g : List X) → a ++ (b ++ (c ++ (d ++ (e ++ (f ++ g))))) ≡ (((((a ++ b) ++ c) ++ d) ++ e) ++ f) ++ g
regroup6 a b c d e f g = regroup5 a b c d e (f ++ g) ∙ sym (append_assoc ((((a ++ b) ++ c) ++ d) ++ e) f g)

pub joined5 : {X : Type 0} (t a b c d e t1 t2 t3 t4 rest : List X) → t ≡ a ++ t1 → t1 ≡ b ++ t2 → t2 ≡ c ++ t3 → t3 ≡ d ++ t4 → t4 ≡ e ++ rest
    → t ≡ ((((a ++ b) ++ c) ++ d) ++ e) ++ rest
joined5 {X} t a b c d e t1 t2 t3 t4 rest p q r s v =
    joined4 t a b c d t1 t2 t3 t4 p q r s ∙ ap (λ (u : List X). (((a ++ b) ++ c) ++ d) ++ u) v ∙ sym (append_assoc (((a ++ b) ++ c) ++ d) e rest)

pub joined6 : {X : Type 0} (t a b c d e f t1 t2 t3 t4 t5 rest : List X) → t ≡ a ++ t1 → t1 ≡ b ++ t2 → t2 ≡ c ++ t3 → t3 ≡ d ++ t4 → t4 ≡ e ++ t5
    → t5 ≡ f ++ rest → t ≡ (((((a ++ b) ++ c) ++ d) ++ e) ++ f) ++ rest
joined6 {X} t a b c d e f t1 t2 t3 t4 t5 rest p q r s v w =
    joined5 t a b c d e t1 t2 t3 t4 t5 p q r s v ∙ ap (λ (u : List X). ((((a ++ b) ++ c) ++ d) ++ e) ++ u) w ∙ sym (append_assoc ((((a ++ b) ++ c) ++ d) ++ e) f rest)

pub joined2 : {X : Type 0} (t a b t1 rest : List X) → t ≡ a ++ t1 → t1 ≡ b ++ rest → t ≡ (a ++ b) ++ rest
joined2 {X} t a b t1 rest p q = p ∙ ap (λ (u : List X). a ++ u) q ∙ sym (append_assoc a b rest)

pub at_end_some : {X : Type 0} (x y : X) (text : List ℕ) → at_end x text ≡ Some y → (text ≡ []) × (x ≡ y)
at_end_some x y [] e = (refl, some_is x y e)
at_end_some x y (b ∷ text) e = absurd cc

-- ---- lists of a given length

-- a list of this many items, each such as P says
pub record IsExactly {X : Type 0} (P : X → Type 0) (count : ℕ) (xs : List X) : Type 0 where
  pub len : length xs ≡ count
  pub each : All P xs

abbrev pub EndsSide : List ℕ → Type 0
EndsSide t = EndsNumber t × (is_next 0x2C t ≡ false)

pub exactly_field : {X : Type 0} (item : List ℕ → Option (X × List ℕ)) (spell : X → List ℕ) (P : X → Type 0) → IsField item spell P EndsNumber
    → (count : ℕ) → 1 ≤ count → count ≤ 24 → IsField (λ text. exactly count (read_list item 24 text)) (listed spell) (IsExactly P count) EndsSide
exactly_field {X} item spell P field count low high =
    let lists = list_field item spell P EndsNumber field (λ _. refl) 24 in
    record {
      takes = λ text xs rest e.
          let b = bind_some (read_list item 24 text) (λ found. cond (length found.0 == count) (Some found) None) (xs, rest) e in
          let c = cond_some (length b.0.0 == count) b.0 (xs, rest) b.2 in
          let t = lists.takes text b.0.0 b.0.1 b.1 in
          let len : length b.0.0 ≡ count = grind (arith, nat_tests) in
          subst (λ (found : List X × List ℕ). (text ≡ listed spell found.0 ++ found.1) × IsExactly P count found.0) c.1 (t.0, record { len = len; each = t.1.each });
      again = λ xs rest h ends.
          let again = lists.again xs rest (record { some = omega (arith, h.len); most = omega (arith, h.len); each = h.each }) ends in
          let same : (length xs == count) ≡ true = let len = h.len in grind (arith, nat_tests) in
          rw (again, same) refl;
    }

pub vector_of_list : (text : List ℕ) (items : List ℤ) (rest : List ℕ) → read_list read_certificate 24 text ≡ Some (items, rest) → IsVector items
vector_of_list text items rest e =
    let h = ((list_field read_certificate signed_decimal IsCertificate EndsNumber certificates_field (λ _. refl) 24).takes text items rest e).1 in
    record { some = h.some; most = h.most; within = h.each }

-- ---- a pair and a side of it

tuple_field : (criteria : ℕ) → 1 ≤ criteria → criteria ≤ 24 → IsField (read_tuple criteria) (listed decimal) (IsExactly (λ n. n ≤ 25) criteria) EndsSide
unfolding read_tuple
tuple_field criteria low high = exactly_field (read_number 25) decimal (λ n. n ≤ 25) (numbers_field 25 (lit< tt)) criteria low high

pub record IsPair (criteria : ℕ) (pair : Pair) : Type 0 where
  pub left : IsExactly (λ n. n ≤ 25) criteria pair.left
  pub right : IsExactly (λ n. n ≤ 25) criteria pair.right

pub pair_field : (criteria : ℕ) → 1 ≤ criteria → criteria ≤ 24 → IsField (read_pair criteria) pair_text (IsPair criteria) EndsSide
unfolding read_pair
pair_field criteria low high = record {
  takes = λ text pair rest e.
      let side = tuple_field criteria low high in
      let b = bind_some (read_tuple criteria text) _ (pair, rest) e in
      let w = bind_some (read_word (codes "/") b.0.1) _ (pair, rest) b.2 in
      let r = bind_some (read_tuple criteria w.0.1) _ (pair, rest) w.2 in
      let left = side.takes text b.0.0 b.0.1 b.1 in
      let slash = (word_field (codes "/")).takes b.0.1 w.0.0 w.0.1 w.1 in
      let right = side.takes w.0.1 r.0.0 r.0.1 r.1 in
      subst (λ (found : Pair × List ℕ). (text ≡ pair_text found.0 ++ found.1) × IsPair criteria found.0) (some_is _ _ r.2)
      (joined3 text (listed decimal b.0.0) (codes "/") (listed decimal r.0.0) b.0.1 w.0.1 r.0.1 left.0 slash.0 right.0, record { left = left.1; right = right.1 });
  again = λ pair rest h ends.
      let side = tuple_field criteria low high in
      let first = side.again pair.left (codes "/" ++ (listed decimal pair.right ++ rest)) h.left (refl, refl) in
      let second = side.again pair.right rest h.right ends in
      ap (read_pair criteria) (sym (regroup3 (listed decimal pair.left) (codes "/") (listed decimal pair.right) rest)) ∙ rw (first, second) refl;
}

-- ---- a side

side_behind_takes : (side : Side) (word text : List ℕ) (found : Side × List ℕ) → side_behind side word text ≡ Some found
    → (found.0 ≡ side) × (text ≡ word ++ found.1)
side_behind_takes side word text found e =
    let b = bind_some (read_word word text) _ found e in
    let t = (word_field word).takes text b.0.0 b.0.1 b.1 in
    subst (λ (x : Side × List ℕ). (x.0 ≡ side) × (text ≡ word ++ x.1)) (some_is _ _ b.2) (refl, t.0)

pub or_else_some : {X : Type 0} (a b : Option X) (x : X) → or_else a b ≡ Some x → (a ≡ Some x) ⊎ (b ≡ Some x)
or_else_some None b x e = inr e
or_else_some (Some y) b x e = inl e

IsSideAt : List ℕ → Side × List ℕ → Type 0
IsSideAt text found = text ≡ side_text found.0 ++ found.1

side_is : (side : Side) (text : List ℕ) (found : Side × List ℕ) → side_behind side (side_text side) text ≡ Some found → IsSideAt text found
unfolding IsSideAt
side_is side text found e =
    let t = side_behind_takes side (side_text side) text found e in
    rw t.0 t.1

pub side_field : IsField read_side side_text (λ _. Unit {0}) (λ _. Unit {0})
unfolding read_side IsSideAt
side_field = record {
  takes = λ text side rest e.
      let found : IsSideAt text (side, rest) = elim (or_else_some (side_behind Left (codes "left") text) _ (side, rest) e) [
        | inl left ↦ side_is Left text (side, rest) left
        | inr other ↦ elim (or_else_some (side_behind Right (codes "right") text) (side_behind Equal (codes "equal") text) (side, rest) other) [
          | inl right ↦ side_is Right text (side, rest) right
          | inr equal ↦ side_is Equal text (side, rest) equal
        ]
      ] in
      (found, tt);
  again = λ side rest h ends. side_again side rest;
}
  where
    side_again : (side : Side) (rest : List ℕ) → read_side (side_text side ++ rest) ≡ Some (side, rest)
    side_again Left rest = refl
    side_again Right rest = refl
    side_again Equal rest = refl

-- ---- rankings and answer lines

pub ranking_field : (criteria : ℕ) → 1 ≤ criteria → criteria ≤ 24
    → IsField (read_ranking criteria) ranking_text (λ answer. IsPair criteria answer.pair) (λ _. Unit {0})
unfolding read_ranking
ranking_field criteria low high = record {
  takes = λ text ranking rest e.
      let p = bind_some (read_pair criteria text) _ (ranking, rest) e in
      let b = bind_some (read_word (codes " ") p.0.1) _ (ranking, rest) p.2 in
      let s = bind_some (read_side b.0.1) _ (ranking, rest) b.2 in
      let pair = (pair_field criteria low high).takes text p.0.0 p.0.1 p.1 in
      let blank = (word_field (codes " ")).takes p.0.1 b.0.0 b.0.1 b.1 in
      let side = side_field.takes b.0.1 s.0.0 s.0.1 s.1 in
      subst (λ (found : Answer × List ℕ). (text ≡ ranking_text found.0 ++ found.1) × IsPair criteria found.0.pair) (some_is _ _ s.2)
      (joined3 text (pair_text p.0.0) (codes " ") (side_text s.0.0) p.0.1 b.0.1 s.0.1 pair.0 blank.0 side.0, pair.1);
  again = λ ranking rest h ends.
      let first = (pair_field criteria low high).again ranking.pair (codes " " ++ (side_text ranking.side ++ rest)) h (refl, refl) in
      let second = side_field.again ranking.side rest tt tt in
      ap (read_ranking criteria) (sym (regroup3 (pair_text ranking.pair) (codes " ") (side_text ranking.side) rest)) ∙ rw (first, second) refl;
}

pub answer_takes : (criteria : ℕ) (line : List ℕ) (answer : Answer) → 1 ≤ criteria → criteria ≤ 24 → read_answer criteria line ≡ Some answer
    → (line ≡ answer_line answer) × IsPair criteria answer.pair
unfolding read_answer
answer_takes criteria line answer low high e =
    let w = bind_some (read_word (codes "answer ") line) _ answer e in
    let r = bind_some (read_ranking criteria w.0.1) _ answer w.2 in
    let end = at_end_some r.0.0 answer r.0.1 r.2 in
    let word = (word_field (codes "answer ")).takes line w.0.0 w.0.1 w.1 in
    let ranking = (ranking_field criteria low high).takes w.0.1 r.0.0 r.0.1 r.1 in
    let whole = joined2 line (codes "answer ") (ranking_text r.0.0) w.0.1 r.0.1 word.0 ranking.0 in
    let line_is : line ≡ answer_line r.0.0 = whole ∙ rw end.0 (append-nil _) in
    subst (λ (found : Answer). (line ≡ answer_line found) × IsPair criteria found.pair) end.1 (line_is, ranking.1)

pub answer_again : (criteria : ℕ) (answer : Answer) → 1 ≤ criteria → criteria ≤ 24 → IsPair criteria answer.pair
    → read_answer criteria (answer_line answer) ≡ Some answer
unfolding read_answer
answer_again criteria answer low high h =
    let ranking = (ranking_field criteria low high).again answer [] h tt in
    ap (read_answer criteria) (sym (append-nil (answer_line answer)) ∙ append_assoc (codes "answer ") (ranking_text answer) []) ∙ rw ranking refl

-- ---- the model line

pub model_takes : (line levels : List ℕ) (degree : ℕ) → read_model line ≡ Some (levels, degree)
    → (line ≡ model_line (record { levels = levels; degree = degree })) × HasModelForm (record { levels = levels; degree = degree })
unfolding read_model
model_takes line levels degree e =
    let w = bind_some (read_word (codes "model ") line) _ (levels, degree) e in
    let l = bind_some (read_list (read_number 999) 2048 w.0.1) _ (levels, degree) w.2 in
    let b = bind_some (read_word (codes " degree ") l.0.1) _ (levels, degree) l.2 in
    let d = bind_some (read_number 999 b.0.1) _ (levels, degree) b.2 in
    let end = at_end_some _ (levels, degree) d.0.1 d.2 in
    let word = (word_field (codes "model ")).takes line w.0.0 w.0.1 w.1 in
    let list = (list_numbers 999 2048 (lit< tt)).takes w.0.1 l.0.0 l.0.1 l.1 in
    let blank = (word_field (codes " degree ")).takes l.0.1 b.0.0 b.0.1 b.1 in
    let number = (numbers_field 999 (lit< tt)).takes b.0.1 d.0.0 d.0.1 d.1 in
    let whole = joined4 line (codes "model ") (listed decimal l.0.0) (codes " degree ") (decimal d.0.0) w.0.1 l.0.1 b.0.1 d.0.1 word.0 list.0 blank.0 number.0 in
    let whole' : line ≡ model_line (record { levels = l.0.0; degree = d.0.0 }) = whole ∙ rw end.0 (append-nil _) in
    subst (λ (found : List ℕ × ℕ). (line ≡ model_line (record { levels = found.0; degree = found.1 })) × HasModelForm (record { levels = found.0; degree = found.1 })) end.1
    (whole', record { some = list.1.some; levels = list.1.each; degree = number.1 })

-- a list of numbers takes two bytes for each number but one
others_len : (xs : List ℕ) → All (λ n. n ≤ 999) xs → 2 * length xs ≤ length (flat_map (λ y. 0x2C ∷ decimal y) xs)
others_len [] h = omega arith
others_len (x ∷ xs) h =
    let some = decimal_nonempty x (omega (arith, h 0 x (omega arith))) in
    let others = others_len xs (λ k d lt. h (suc k) d (omega arith)) in
    omega (arith, length-append (decimal x) (flat_map (λ y. 0x2C ∷ decimal y) xs))

listed_len : (xs : List ℕ) → All (λ n. n ≤ 999) xs → 2 * length xs ≤ length (listed decimal xs) + 1
listed_len [] h = omega arith
listed_len (x ∷ xs) h =
    let some = decimal_nonempty x (omega (arith, h 0 x (omega arith))) in
    let others = others_len xs (λ k d lt. h (suc k) d (omega arith)) in
    omega (arith, length-append (decimal x) (flat_map (λ y. 0x2C ∷ decimal y) xs))

few_levels : (criteria : Criteria) → HasModelForm criteria → length (model_line criteria) ≤ 4096 → length criteria.levels ≤ 2048
few_levels criteria h short =
    let len = listed_len criteria.levels h.levels in
    let a = length-append (codes "model " ++ listed decimal criteria.levels) (codes " degree ") in
    let b = length-append ((codes "model " ++ listed decimal criteria.levels) ++ codes " degree ") (decimal criteria.degree) in
    let c = length-append (codes "model ") (listed decimal criteria.levels) in
    omega (arith, a, b, c)

pub model_again : (criteria : Criteria) → HasModelForm criteria → length (model_line criteria) ≤ 4096
    → read_model (model_line criteria) ≡ Some (criteria.levels, criteria.degree)
unfolding read_model
model_again criteria h short =
    let list = (list_numbers 999 2048 (lit< tt)).again criteria.levels (codes " degree " ++ (decimal criteria.degree ++ [])) (record { some = h.some; most = few_levels criteria h short; each = h.levels }) (refl, refl) in
    let degree = (numbers_field 999 (lit< tt)).again criteria.degree [] h.degree tt in
    ap read_model (sym (append-nil (model_line criteria)) ∙ sym (regroup4 (codes "model ") (listed decimal criteria.levels) (codes " degree ") (decimal criteria.degree) [])) ∙ rw (list, degree) refl
