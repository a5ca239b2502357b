-- What a line of a result reads as is what it spells.
use Rattle.std.proofs.Common.{◌≡◌, ◌≢◌, ℕ, ◌<◌, ◌≤◌, ◌^◌, Bool, true, cond, nat_le, int_le, List, [], ◌++◌, length, get_or, refl, sym, ap, subst, ◌∙◌, arith, append-nil, append_assoc, Option, Some, None, IfSome, inl, inr, codes, ℤ, pos, negsuc, ◌≤ℤ◌, lit<}
use Rattle.std.specs.List.{AllPass, list_all}
use Rattle.std.specs.Fmt.{decimal, signed_decimal}
use Rattle.std.proofs.lemmas.Bool.{leb-true, le-leb}
use Rattle.std.proofs.lemmas.Option.{cond_some}
use Rattle.std.proofs.lemmas.Int.{ints}
use Rattle.std.proofs.lemmas.List.Sums.{AllPass-from_list_all, list_all-from_AllPass}
use Rattle.text_fields.specs.Spelling.{EndsNumber, IsCertificate, listed}
use Rattle.text_fields.specs.Reading.{read_word, read_number}
use Rattle.text_fields.specs.Laws.{IsField}
use Rattle.text_fields.proofs.NumberLaws.{numbers_field, bind_some, some_is}
use Rattle.text_fields.proofs.WordLaws.{word_field}
use Rattle.criteria_model.specs.declared.pairs.Pair.{Pair}
use Rattle.criteria_model.specs.declared.pairs.Side.{Side}
use Rattle.criteria_model.specs.Criteria.{Criteria, IsModel}
use Rattle.criteria_model.specs.Worth.{increments}
use Rattle.farkas_check.specs.Cited.{AreCites}
use Rattle.result_file.specs.declared.eliminations.Elimination.{Elimination}
use Rattle.result_file.specs.declared.entries.Entry.{Entry}
use Rattle.result_file.specs.declared.entries.Entry.TheVariants.{Eliminate, Issue, Commit, Close, Withdraw}
use Rattle.result_file.specs.declared.entries.Format.{Format}
use Rattle.result_file.specs.declared.entries.Format.TheVariants.{One, Two}
use Rattle.result_file.specs.Forms.{HasPairForm}
use Rattle.result_file.specs.Entries.{HasDeskForm, HasNumberForm, HasVectorForm, HasEntryForm, ReadsEntry}
use Rattle.result_file.specs.Eliminations.{Reads}
use Rattle.result_file.specs.Texts.{end_line, pair_text, side_text, vector_text, vectors_text, numbers_text, issue_line, commit_line, close_line, withdraw_line, entry_line}
use Rattle.result_file.specs.Reading.{read_pair, read_side, read_weights, read_elimination, passing, read_counted, read_desk, read_numbers, read_vector, read_vectors, read_issue, read_commit, read_close, read_withdraw, withdrawal_in, read_step}
use Rattle.result_file.proofs.LineLaws.{IsExactly, EndsSide, pair_field, side_field, or_else_some, at_end_some, regroup3, regroup6, joined2, joined3, joined6}
use Rattle.result_file.proofs.EliminationLaws.{weights_field}
use Rattle.result_file.proofs.ClaimLaws.{is_small, pair_form, pair_read, elimination_line_takes, elimination_line_again}

-- ---- fields that pass a test

passing_field : {X : Type 0} (item : List ℕ → Option (X × List ℕ)) (spell : X → List ℕ) (P : X → Type 0) (Ends : List ℕ → Type 0)
    → IsField item spell P Ends → (test : X → Bool) → IsField (λ text. passing test (item text)) spell (λ x. P x × (test x ≡ true)) Ends
passing_field {X} item spell P Ends field test = record {
  takes = λ text x rest e.
      let b = bind_some (item text) (λ found. cond (test found.0) (Some found) None) (x, rest) e in
      let c = cond_some (test b.0.0) b.0 (x, rest) b.2 in
      let t = field.takes text b.0.0 b.0.1 b.1 in
      subst (λ (found : X × List ℕ). (text ≡ spell found.0 ++ found.1) × (P found.0 × (test found.0 ≡ true))) c.1 (t.0, (t.1, c.0));
  again = λ x rest h ends. rw (field.again x rest h.0 ends, h.1) refl;
}

-- a number from 1 on
counted_field : (most : ℕ) → most < 10 ^ 64 → IsField (read_counted most) decimal (λ n. (1 ≤ n) × (n ≤ most)) EndsNumber
counted_field most wide =
    let field = passing_field (read_number most) decimal (λ n. n ≤ most) EndsNumber (numbers_field most wide) (nat_le 1) in
    record {
      takes = λ text n rest e. let t = field.takes text n rest e in (t.0, (leb-true 1 n t.1.1, t.1.0));
      again = λ n rest h ends. field.again n rest (h.1, le-leb 1 n h.0) ends;
    }

desk_field : IsField read_desk decimal HasDeskForm EndsNumber
unfolding read_desk
desk_field = counted_field 4 (lit< tt)

number_field : IsField (read_counted 131072) decimal HasNumberForm EndsNumber
number_field = counted_field 131072 (lit< tt)

-- a desk and a number
desk_number_field : IsField read_numbers (λ found. numbers_text found.0 found.1) (λ found. HasDeskForm found.0 × HasNumberForm found.1) EndsNumber
unfolding read_numbers
desk_number_field = record {
  takes = λ text found rest e.
      let d = bind_some (read_desk text) _ (found, rest) e in
      let b = bind_some (read_word (codes " ") d.0.1) _ (found, rest) d.2 in
      let n = bind_some (read_counted 131072 b.0.1) _ (found, rest) b.2 in
      let desk = desk_field.takes text d.0.0 d.0.1 d.1 in
      let blank = (word_field (codes " ")).takes d.0.1 b.0.0 b.0.1 b.1 in
      let number = number_field.takes b.0.1 n.0.0 n.0.1 n.1 in
      subst (λ (x : (ℕ × ℕ) × List ℕ). (text ≡ numbers_text x.0.0 x.0.1 ++ x.1) × (HasDeskForm x.0.0 × HasNumberForm x.0.1)) (some_is _ _ n.2)
      (joined3 text (decimal d.0.0) (codes " ") (decimal n.0.0) d.0.1 b.0.1 n.0.1 desk.0 blank.0 number.0, (desk.1, number.1));
  again = λ found rest h ends.
      let desk = desk_field.again found.0 (codes " " ++ (decimal found.1 ++ rest)) h.0 refl in
      let number = number_field.again found.1 rest h.1 ends in
      ap read_numbers (sym (regroup3 (decimal found.0) (codes " ") (decimal found.1) rest)) ∙ rw (desk, number) refl;
}

-- ---- vectors

is_from_one : (z : ℤ) → int_le (pos 1) z ≡ true → pos 1 ≤ℤ z
is_from_one (pos n) e = omega (arith, ints, leb-true 1 n e)
is_from_one (negsuc n) e = absurd cc

tests_from_one : (z : ℤ) → pos 1 ≤ℤ z → int_le (pos 1) z ≡ true
tests_from_one (pos n) h = le-leb 1 n (omega (arith, ints, h))
tests_from_one (negsuc n) h = absurd (omega (arith, ints, h))

vector_field : (criteria : Criteria) → IsModel criteria → IsField (read_vector (increments criteria.levels)) vector_text (HasVectorForm criteria) EndsSide
unfolding read_vector
vector_field criteria m =
    let count : ℕ = increments criteria.levels in
    let s = is_small criteria m in
    let weights = weights_field count s.some_increments s.most_increments in
    let field = passing_field (read_weights count) (listed signed_decimal) (IsExactly IsCertificate count) EndsSide weights (list_all (int_le (pos 1))) in
    record {
      takes = λ text vector rest e.
          let t = field.takes text vector rest e in
          let pass : AllPass (int_le (pos 1)) vector = AllPass-from_list_all (int_le (pos 1)) vector t.1.1 in (
            t.0,
            record {
              values = record { len = t.1.0.len; positive = λ k d lt. is_from_one _ (pass k d lt) };
              numbers = t.1.0.each;
            },
          );
      again = λ vector rest h ends.
          let pass : AllPass (int_le (pos 1)) vector = λ k d lt. tests_from_one _ (h.values.positive k d lt) in
          field.again vector rest (record { len = h.values.len; each = h.numbers }, list_all-from_AllPass (int_le (pos 1)) vector pass) ends;
    }

-- the two vectors that open a pair
vectors_field : (criteria : Criteria) → IsModel criteria
    → IsField (read_vectors (increments criteria.levels)) (λ found. vectors_text found.0 found.1) (λ found. HasVectorForm criteria found.0 × HasVectorForm criteria found.1) EndsSide
unfolding read_vectors
vectors_field criteria m = record {
  takes = λ text found rest e.
      let vector = vector_field criteria m in
      let p = bind_some (read_vector (increments criteria.levels) text) _ (found, rest) e in
      let b = bind_some (read_word (codes " ") p.0.1) _ (found, rest) p.2 in
      let q = bind_some (read_vector (increments criteria.levels) b.0.1) _ (found, rest) b.2 in
      let plus = vector.takes text p.0.0 p.0.1 p.1 in
      let blank = (word_field (codes " ")).takes p.0.1 b.0.0 b.0.1 b.1 in
      let minus = vector.takes b.0.1 q.0.0 q.0.1 q.1 in
      subst (λ (x : (List ℤ × List ℤ) × List ℕ). (text ≡ vectors_text x.0.0 x.0.1 ++ x.1) × (HasVectorForm criteria x.0.0 × HasVectorForm criteria x.0.1)) (some_is _ _ q.2)
      (joined3 text (vector_text p.0.0) (codes " ") (vector_text q.0.0) p.0.1 b.0.1 q.0.1 plus.0 blank.0 minus.0, (plus.1, minus.1));
  again = λ found rest h ends.
      let vector = vector_field criteria m in
      let plus = vector.again found.0 (codes " " ++ (vector_text found.1 ++ rest)) h.0 (refl, refl) in
      let minus = vector.again found.1 rest h.1 ends in
      ap (read_vectors (increments criteria.levels)) (sym (regroup3 (vector_text found.0) (codes " ") (vector_text found.1) rest)) ∙ rw (plus, minus) refl;
}

-- ---- lines

-- the line is that of the entry, which has the form
abbrev Spells : Format → Criteria → List ℕ → Entry → Type 0
Spells format criteria line entry = (line ≡ entry_line entry) × HasEntryForm format criteria entry

issue_takes : (format : Format) (criteria : Criteria) (line : List ℕ) (entry : Entry) → IsModel criteria
    → read_issue (length criteria.levels) (increments criteria.levels) line ≡ Some entry → Spells format criteria line entry
unfolding read_issue
issue_takes format criteria line entry m e =
    let s = is_small criteria m in
    let w = bind_some (read_word (codes "issue ") line) _ entry e in
    let d = bind_some (read_desk w.0.1) _ entry w.2 in
    let b = bind_some (read_word (codes " ") d.0.1) _ entry d.2 in
    let p = bind_some (read_pair (length criteria.levels) b.0.1) _ entry b.2 in
    let b' = bind_some (read_word (codes " ") p.0.1) _ entry p.2 in
    let v = bind_some (read_vectors (increments criteria.levels) b'.0.1) _ entry b'.2 in
    let found : Entry = Issue d.0.0 p.0.0 v.0.0.0 v.0.0.1 in
    let end = at_end_some found entry v.0.1 v.2 in
    let word = (word_field (codes "issue ")).takes line w.0.0 w.0.1 w.1 in
    let desk = desk_field.takes w.0.1 d.0.0 d.0.1 d.1 in
    let blank = (word_field (codes " ")).takes d.0.1 b.0.0 b.0.1 b.1 in
    let pair = (pair_field (length criteria.levels) s.some s.most).takes b.0.1 p.0.0 p.0.1 p.1 in
    let second = (word_field (codes " ")).takes p.0.1 b'.0.0 b'.0.1 b'.1 in
    let vectors = (vectors_field criteria m).takes b'.0.1 v.0.0 v.0.1 v.1 in
    let whole = joined6 line (codes "issue ") (decimal d.0.0) (codes " ") (pair_text p.0.0) (codes " ")
    (vectors_text v.0.0.0 v.0.0.1) w.0.1 d.0.1 b.0.1 p.0.1 b'.0.1 v.0.1 word.0 desk.0 blank.0 pair.0 second.0 vectors.0 in
    let line_is : line ≡ entry_line found = whole ∙ rw end.0 (append-nil _) in
    subst (Spells format criteria line) end.1 (line_is, (desk.1, pair_form criteria p.0.0 pair.1, vectors.1.0, vectors.1.1))

issue_again : (criteria : Criteria) (desk : ℕ) (pair : Pair) (plus minus : List ℤ) → IsModel criteria → HasDeskForm desk → HasPairForm criteria pair
    → HasVectorForm criteria plus → HasVectorForm criteria minus
    → read_issue (length criteria.levels) (increments criteria.levels) (issue_line desk pair plus minus) ≡ Some (Issue desk pair plus minus)
unfolding read_issue
issue_again criteria desk pair plus minus m desk_form pair_has plus_form minus_form =
    let s = is_small criteria m in
    let tail : List ℕ = codes " " ++ (vectors_text plus minus ++ []) in
    let d = desk_field.again desk (codes " " ++ (pair_text pair ++ tail)) desk_form refl in
    let p = (pair_field (length criteria.levels) s.some s.most).again pair tail (pair_read criteria pair pair_has) (refl, refl) in
    let v = (vectors_field criteria m).again (plus, minus) [] (plus_form, minus_form) (tt, refl) in
    ap (read_issue (length criteria.levels) (increments criteria.levels)) (sym (append-nil (issue_line desk pair plus minus))
    ∙ sym (regroup6 (codes "issue ") (decimal desk) (codes " ") (pair_text pair) (codes " ") (vectors_text plus minus) [])) ∙ rw (d, p, v) refl

regroup8 : {X : Type 0} (a b c d e f g h t : List X)
    → a ++ (b ++ (c ++ (d ++ (e ++ (f ++ (g ++ (h ++ t))))))) ≡ (((((((a ++ b) ++ c) ++ d) ++ e) ++ f) ++ g) ++ h) ++ t
regroup8 a b c d e f g h t = regroup6 a b c d e f (g ++ (h ++ t)) ∙ regroup3 (((((a ++ b) ++ c) ++ d) ++ e) ++ f) g h t

commit_takes : (format : Format) (criteria : Criteria) (line : List ℕ) (entry : Entry) → IsModel criteria
    → read_commit (increments criteria.levels) line ≡ Some entry → Spells format criteria line entry
unfolding read_commit
commit_takes format criteria line entry m e =
    let count : ℕ = increments criteria.levels in
    let w = bind_some (read_word (codes "commit ") line) _ entry e in
    let n = bind_some (read_numbers w.0.1) _ entry w.2 in
    let b = bind_some (read_word (codes " ") n.0.1) _ entry n.2 in
    let s = bind_some (read_side b.0.1) _ entry b.2 in
    let b' = bind_some (read_word (codes " ") s.0.1) _ entry s.2 in
    let v = bind_some (read_vectors count b'.0.1) _ entry b'.2 in
    let b'' = bind_some (read_word (codes " ") v.0.1) _ entry v.2 in
    let p = bind_some (read_vector count b''.0.1) _ entry b''.2 in
    let found : Entry = Commit n.0.0.0 n.0.0.1 s.0.0 v.0.0.0 v.0.0.1 p.0.0 in
    let end = at_end_some found entry p.0.1 p.2 in
    let word = (word_field (codes "commit ")).takes line w.0.0 w.0.1 w.1 in
    let numbers = desk_number_field.takes w.0.1 n.0.0 n.0.1 n.1 in
    let blank = (word_field (codes " ")).takes n.0.1 b.0.0 b.0.1 b.1 in
    let side = side_field.takes b.0.1 s.0.0 s.0.1 s.1 in
    let second = (word_field (codes " ")).takes s.0.1 b'.0.0 b'.0.1 b'.1 in
    let vectors = (vectors_field criteria m).takes b'.0.1 v.0.0 v.0.1 v.1 in
    let third = (word_field (codes " ")).takes v.0.1 b''.0.0 b''.0.1 b''.1 in
    let point = (vector_field criteria m).takes b''.0.1 p.0.0 p.0.1 p.1 in
    let front : List ℕ = codes "commit " ++ numbers_text n.0.0.0 n.0.0.1 ++ codes " " ++ side_text s.0.0 ++ codes " " ++ vectors_text v.0.0.0 v.0.0.1 in
    let front_is = joined6 line (codes "commit ") (numbers_text n.0.0.0 n.0.0.1) (codes " ") (side_text s.0.0) (codes " ")
    (vectors_text v.0.0.0 v.0.0.1) w.0.1 n.0.1 b.0.1 s.0.1 b'.0.1 v.0.1 word.0 numbers.0 blank.0 side.0 second.0 vectors.0 in
    let whole = joined3 line front (codes " ") (vector_text p.0.0) v.0.1 b''.0.1 p.0.1 front_is third.0 point.0 in
    let line_is : line ≡ entry_line found = whole ∙ rw end.0 (append-nil _) in
    subst (Spells format criteria line) end.1 (line_is, (numbers.1.0, numbers.1.1, vectors.1.0, vectors.1.1, point.1))

commit_again : (criteria : Criteria) (desk question : ℕ) (side : Side) (plus minus point : List ℤ) → IsModel criteria → HasDeskForm desk
    → HasNumberForm question → HasVectorForm criteria plus → HasVectorForm criteria minus → HasVectorForm criteria point
    → read_commit (increments criteria.levels) (commit_line desk question side plus minus point) ≡ Some (Commit desk question side plus minus point)
unfolding read_commit
commit_again criteria desk question side plus minus point m desk_form question_form plus_form minus_form point_form =
    let behind_vectors : List ℕ = codes " " ++ (vector_text point ++ []) in
    let behind_side : List ℕ = codes " " ++ (vectors_text plus minus ++ behind_vectors) in
    let n = desk_number_field.again (desk, question) (codes " " ++ (side_text side ++ behind_side)) (desk_form, question_form) refl in
    let s = side_field.again side behind_side tt tt in
    let v = (vectors_field criteria m).again (plus, minus) behind_vectors (plus_form, minus_form) (refl, refl) in
    let p = (vector_field criteria m).again point [] point_form (tt, refl) in
    ap (read_commit (increments criteria.levels)) (sym (append-nil (commit_line desk question side plus minus point))
    ∙ sym (regroup8 (codes "commit ") (numbers_text desk question) (codes " ") (side_text side) (codes " ") (vectors_text plus minus) (codes " ")
    (vector_text point) [])) ∙ rw (n, s, v, p) refl

close_takes : (format : Format) (criteria : Criteria) (line : List ℕ) (entry : Entry) → read_close line ≡ Some entry → Spells format criteria line entry
unfolding read_close
close_takes format criteria line entry e =
    let w = bind_some (read_word (codes "close ") line) _ entry e in
    let n = bind_some (read_numbers w.0.1) _ entry w.2 in
    let found : Entry = Close n.0.0.0 n.0.0.1 in
    let end = at_end_some found entry n.0.1 n.2 in
    let word = (word_field (codes "close ")).takes line w.0.0 w.0.1 w.1 in
    let numbers = desk_number_field.takes w.0.1 n.0.0 n.0.1 n.1 in
    let whole = joined2 line (codes "close ") (numbers_text n.0.0.0 n.0.0.1) w.0.1 n.0.1 word.0 numbers.0 in
    let line_is : line ≡ entry_line found = whole ∙ rw end.0 (append-nil _) in
    subst (Spells format criteria line) end.1 (line_is, numbers.1)

close_again : (desk question : ℕ) → HasDeskForm desk → HasNumberForm question → read_close (close_line desk question) ≡ Some (Close desk question)
unfolding read_close
close_again desk question desk_form question_form =
    let n = desk_number_field.again (desk, question) [] (desk_form, question_form) tt in
    ap read_close (sym (append-nil (close_line desk question)) ∙ append_assoc (codes "close ") (numbers_text desk question) []) ∙ rw n refl

withdraw_takes : (criteria : Criteria) (line : List ℕ) (entry : Entry) → read_withdraw line ≡ Some entry → Spells Two criteria line entry
unfolding read_withdraw
withdraw_takes criteria line entry e =
    let w = bind_some (read_word (codes "withdraw ") line) _ entry e in
    let n = bind_some (read_numbers w.0.1) _ entry w.2 in
    let found : Entry = Withdraw n.0.0.0 n.0.0.1 in
    let end = at_end_some found entry n.0.1 n.2 in
    let word = (word_field (codes "withdraw ")).takes line w.0.0 w.0.1 w.1 in
    let numbers = desk_number_field.takes w.0.1 n.0.0 n.0.1 n.1 in
    let whole = joined2 line (codes "withdraw ") (numbers_text n.0.0.0 n.0.0.1) w.0.1 n.0.1 word.0 numbers.0 in
    let line_is : line ≡ entry_line found = whole ∙ rw end.0 (append-nil _) in
    subst (Spells Two criteria line) end.1 (line_is, numbers.1)

withdraw_again : (desk answer : ℕ) → HasDeskForm desk → HasNumberForm answer → read_withdraw (withdraw_line desk answer) ≡ Some (Withdraw desk answer)
unfolding read_withdraw
withdraw_again desk answer desk_form answer_form =
    let n = desk_number_field.again (desk, answer) [] (desk_form, answer_form) tt in
    ap read_withdraw (sym (append-nil (withdraw_line desk answer)) ∙ append_assoc (codes "withdraw ") (numbers_text desk answer) []) ∙ rw n refl

withdrawal_takes : (format : Format) (criteria : Criteria) (line : List ℕ) (entry : Entry) → withdrawal_in format line ≡ Some entry
    → Spells format criteria line entry
withdrawal_takes One criteria line entry e = absurd cc
withdrawal_takes Two criteria line entry e = withdraw_takes criteria line entry e

-- ---- the contract of the reader

step_takes : (format : Format) (criteria : Criteria) (line : List ℕ) (entry : Entry) → IsModel criteria
    → read_step format (length criteria.levels) (increments criteria.levels) line ≡ Some entry → Spells format criteria line entry
unfolding read_step
step_takes format criteria line entry m e =
    elim (or_else_some (read_issue (length criteria.levels) (increments criteria.levels) line) _ entry e) [
      | inl issue ↦ issue_takes format criteria line entry m issue
      | inr other ↦ elim (or_else_some (read_commit (increments criteria.levels) line) _ entry other) [
        | inl commit ↦ commit_takes format criteria line entry m commit
        | inr other' ↦ elim (or_else_some (read_close line) (withdrawal_in format line) entry other') [
          | inl close ↦ close_takes format criteria line entry close
          | inr withdrawal ↦ withdrawal_takes format criteria line entry withdrawal
        ]
      ]
    ]

-- an entry that is no elimination
abbrev pub IsStep : Entry → Type 0
IsStep (Eliminate e) = ⊥
IsStep _ = Unit {0}

step_again : (format : Format) (criteria : Criteria) (entry : Entry) → IsModel criteria → HasEntryForm format criteria entry → IsStep entry
    → read_step format (length criteria.levels) (increments criteria.levels) (entry_line entry) ≡ Some entry
unfolding read_step read_issue read_commit read_close
step_again format criteria (Eliminate e) m form step = absurd step
step_again format criteria (Issue desk pair plus minus) m form step =
    rw (issue_again criteria desk pair plus minus m form.0 form.1 form.2 form.3) refl
step_again format criteria (Commit desk question side plus minus point) m form step =
    rw (commit_again criteria desk question side plus minus point m form.0 form.1 form.2 form.3 form.4) refl
step_again format criteria (Close desk question) m form step = rw (close_again desk question form.0 form.1) refl
step_again One criteria (Withdraw desk answer) m form step = absurd form
step_again Two criteria (Withdraw desk answer) m form step = rw (withdraw_again desk answer form.0 form.1) refl

-- the line of such an entry is no eliminate line
pub read_no_elimination : (criteria steps : ℕ) (entry : Entry) → IsStep entry → read_elimination criteria steps (entry_line entry) ≡ None
unfolding read_elimination
read_no_elimination criteria steps (Eliminate e) step = absurd step
read_no_elimination criteria steps (Issue desk pair plus minus) step = refl
read_no_elimination criteria steps (Commit desk question side plus minus point) step = refl
read_no_elimination criteria steps (Close desk question) step = refl
read_no_elimination criteria steps (Withdraw desk answer) step = refl

if_some : {X : Type 0} (o : Option X) (P : X → Type 0) → ((x : X) → o ≡ Some x → P x) → IfSome o P
if_some None P h = tt
if_some (Some x) P h = h x refl

not_both : {X : Type 0} (o : Option X) (x : X) → o ≡ Some x → o ≡ None → ⊥
not_both None x some none = absurd cc
not_both (Some y) x some none = absurd cc

-- an eliminate line was read
pub reads_elimination : (format : Format) (criteria : Criteria) (line : List ℕ) (e : Elimination) → IsModel criteria
    → read_elimination (length criteria.levels) (increments criteria.levels) line ≡ Some e → AreCites e.combination.answers
    → ReadsEntry format criteria line (Some (Eliminate e))
reads_elimination format criteria line e m read cites = record {
  sound = elimination_line_takes criteria line e m read cites;
  complete = complete;
}
  where
    none : (entry : Entry) → line ≡ entry_line entry → IsStep entry → ⊥
    none entry spelled step =
        not_both _ e read (rw spelled (read_no_elimination (length criteria.levels) (increments criteria.levels) entry step))

    complete : (entry : Entry) → line ≡ entry_line entry → HasEntryForm format criteria entry → Some (Eliminate e) ≡ Some entry
    complete (Eliminate e') spelled form =
        let again : read_elimination (length criteria.levels) (increments criteria.levels) line ≡ Some e' = rw spelled (elimination_line_again criteria e' m form) in
        ap (λ (x : Elimination). Some (Eliminate x)) (some_is e e' (sym read ∙ again))
    complete entry spelled form = absurd (none entry spelled tt)

-- no eliminate line was read
pub reads_step : (format : Format) (criteria : Criteria) (line : List ℕ) → IsModel criteria
    → Reads None (read_elimination (length criteria.levels) (increments criteria.levels) line)
    → ReadsEntry format criteria line (read_step format (length criteria.levels) (increments criteria.levels) line)
reads_step format criteria line m no_elimination = record {
  sound = if_some _ _ (λ entry e. step_takes format criteria line entry m e);
  complete = complete;
}
  where
    complete : (entry : Entry) → line ≡ entry_line entry → HasEntryForm format criteria entry
        → read_step format (length criteria.levels) (increments criteria.levels) line ≡ Some entry
    complete (Eliminate e) spelled form =
        absurd (no_elimination e (rw spelled (elimination_line_again criteria e m form)) form.combination.cites)
    complete entry spelled form = rw spelled (step_again format criteria entry m form tt)

-- ---- what a file's reader needs besides

-- where nothing was read, the line is that of no entry
pub no_entry : (format : Format) (criteria : Criteria) (line : List ℕ) → ReadsEntry format criteria line None → (entry : Entry)
    → HasEntryForm format criteria entry → line ≢ entry_line entry
no_entry format criteria line reads entry form spelled = not_both None entry (reads.complete entry spelled form) refl

-- no entry has the end line
pub entry_line-is_not_end : (entry : Entry) → entry_line entry ≢ end_line
entry_line-is_not_end (Eliminate e) same = absurd (omega (arith, ap (λ (text : List ℕ). get_or text 1 0) same))
entry_line-is_not_end (Issue desk pair plus minus) same = absurd (omega (arith, ap (λ (text : List ℕ). get_or text 0 0) same))
entry_line-is_not_end (Commit desk question side plus minus point) same = absurd (omega (arith, ap (λ (text : List ℕ). get_or text 0 0) same))
entry_line-is_not_end (Close desk question) same = absurd (omega (arith, ap (λ (text : List ℕ). get_or text 0 0) same))
entry_line-is_not_end (Withdraw desk answer) same = absurd (omega (arith, ap (λ (text : List ℕ). get_or text 0 0) same))
