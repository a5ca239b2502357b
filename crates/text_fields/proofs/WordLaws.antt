-- A word is read where it stands.
use Rattle.std.proofs.Common.{◌≡◌, ℕ, true, nat_eq, List, ◌++◌, length, drop, refl, ap, ◌∙◌}
use Rattle.std.specs.List.{starts_with}
use Rattle.std.proofs.lemmas.Slice.Eq.{starts_is}
use Rattle.std.proofs.lemmas.Bool.Decides.{Decides-eqb}
use Rattle.std.proofs.lemmas.Option.{cond_some}
use Rattle.std.proofs.lemmas.List.{drop_at}
use Rattle.text_fields.specs.Laws.{IsField}
use Rattle.text_fields.specs.Reading.{read_word}

pub word_field : (word : List ℕ) → IsField (read_word word) (λ _. word) (λ _. Unit {0}) (λ _. Unit {0})
word_field word = record {
  takes = λ text x rest e.
      let t = cond_some (starts_with nat_eq text word) (tt, drop (length word) text) (x, rest) e in
      let is = (starts_is Decides-eqb text word (starts_with nat_eq text word) refl).0 t.0 in
      (is ∙ ap (λ (found : Unit {0} × List ℕ). word ++ found.1) t.1, tt);
  again = λ x rest h ends.
      let starts : starts_with nat_eq (word ++ rest) word ≡ true = (starts_is Decides-eqb (word ++ rest) word (starts_with nat_eq (word ++ rest) word) refl).1 rest refl in
      rw (starts, drop_at word rest (length word) refl) refl;
}
