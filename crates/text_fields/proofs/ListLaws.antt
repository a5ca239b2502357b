-- Lists that are read are spelled so, and lists that are spelled so are read.
use Rattle.std.proofs.Common.{◌≡◌, ℕ, zero, suc, ◌≤◌, true, false, cond, List, [], ◌∷◌, ◌++◌, length, drop, refl, sym, ap, subst, ◌∙◌, arith, append_assoc, Option, Some}
use Rattle.std.specs.List.{All, flat_map}
use Rattle.std.proofs.lemmas.List.Elements.{All-nil, All-cons}
use Rattle.std.proofs.lemmas.Bool.Decides.{nat_tests}
use Rattle.text_fields.specs.Spelling.{is_next, listed, IsList}
use Rattle.text_fields.specs.Reading.{◌>>=◌, read_more, read_list}
use Rattle.text_fields.specs.Laws.{IsField}
use Rattle.text_fields.proofs.NumberLaws.{bind_some, some_is}

-- the items after the first, each after a comma
abbrev others_text : {X : Type 0} → (X → List ℕ) → List X → List ℕ
others_text spell xs = flat_map (λ y. 0x2C ∷ spell y) xs

record AreOthers {X : Type 0} (spell : X → List ℕ) (P : X → Type 0) (room : ℕ) (text : List ℕ) (found : List X × List ℕ) : Type 0 where
  spelled : text ≡ others_text spell found.0 ++ found.1
  each : All P found.0
  most : length found.0 ≤ room

starts_comma : (text : List ℕ) → is_next 0x2C text ≡ true → text ≡ 0x2C ∷ drop 1 text
starts_comma [] e = absurd cc
starts_comma (b ∷ text) e = let same : b ≡ 0x2C = grind (arith, nat_tests) in ap (λ (x : ℕ). x ∷ text) same

more_takes : {X : Type 0} (item : List ℕ → Option (X × List ℕ)) (spell : X → List ℕ) (P : X → Type 0) (Ends : List ℕ → Type 0)
    → IsField item spell P Ends → (room : ℕ) (text : List ℕ) (found : List X × List ℕ) → read_more item room text ≡ Some found
    → AreOthers spell P room text found
unfolding read_more
more_takes item spell P Ends field zero text found e =
    subst (AreOthers spell P zero text) (some_is _ _ e) (record { spelled = refl; each = All-nil P; most = omega arith })
more_takes {X} item spell P Ends field (suc room) text found e =
    elim (is_next 0x2C text) as (λ v. is_next 0x2C text ≡ v → cond v (item (drop 1 text) >>= λ first. read_more item room first.1 >>= λ others.
    Some (first.0 ∷ others.0, others.1)) (Some ([], text)) ≡ Some found → AreOthers spell P (suc room) text found) [
      | true ↦ λ comma e'.
          let b = bind_some (item (drop 1 text)) (λ first. read_more item room first.1 >>= λ others. Some (first.0 ∷ others.0, others.1)) found e' in
          let b' = bind_some (read_more item room b.0.1) (λ others. Some (b.0.0 ∷ others.0, others.1)) found b.2 in
          let t = field.takes (drop 1 text) b.0.0 b.0.1 b.1 in
          let h = more_takes item spell P Ends field room b.0.1 b'.0 b'.1 in
          let spelled : text ≡ (0x2C ∷ (spell b.0.0 ++ others_text spell b'.0.0)) ++ b'.0.1 =
          starts_comma text comma ∙ ap (λ (t : List ℕ). 0x2C ∷ t) (t.0 ∙ ap (λ (t : List ℕ). spell b.0.0 ++ t) h.spelled ∙ sym (append_assoc (spell b.0.0) (others_text spell b'.0.0) b'.0.1)) in
          subst (AreOthers spell P (suc room) text) (some_is _ _ b'.2) (record { spelled = spelled; each = All-cons P b.0.0 b'.0.0 t.1 h.each; most = omega (arith, h.most) })
      | false ↦ λ _ e'.
          subst (AreOthers spell P (suc room) text) (some_is _ _ e') (record { spelled = refl; each = All-nil P; most = omega arith })
    ] refl e

-- the text after an item ends it
others_end : {X : Type 0} (spell : X → List ℕ) (Ends : List ℕ → Type 0) (comma : (t : List ℕ) → Ends (0x2C ∷ t)) (xs : List X) (rest : List ℕ) → Ends rest → Ends (others_text spell xs ++ rest)
others_end spell Ends comma [] rest ends = ends
others_end spell Ends comma (x ∷ xs) rest ends = comma _

more_again : {X : Type 0} (item : List ℕ → Option (X × List ℕ)) (spell : X → List ℕ) (P : X → Type 0) (Ends : List ℕ → Type 0)
    → IsField item spell P Ends → (comma : (t : List ℕ) → Ends (0x2C ∷ t)) → (room : ℕ) (xs : List X) (rest : List ℕ) → length xs ≤ room → All P xs
    → Ends rest → is_next 0x2C rest ≡ false → read_more item room (others_text spell xs ++ rest) ≡ Some (xs, rest)
unfolding read_more
more_again item spell P Ends field comma zero [] rest le each ends none = refl
more_again item spell P Ends field comma (suc room) [] rest le each ends none = rw none refl
more_again item spell P Ends field comma zero (x ∷ xs) rest le each ends none = absurd (omega arith)
more_again item spell P Ends field comma (suc room) (x ∷ xs) rest le each ends none =
    let first = field.again x (others_text spell xs ++ rest) (each 0 x (omega arith)) (others_end spell Ends comma xs rest ends) in
    let others = more_again item spell P Ends field comma room xs rest (omega arith) (λ k d lt. each (suc k) d (omega arith)) ends none in
    let first' : item ((spell x ++ others_text spell xs) ++ rest) ≡ Some (x, others_text spell xs ++ rest) = rw append_assoc first in
    rw (first', others) refl

IsListAt : {X : Type 0} → (X → List ℕ) → (X → Type 0) → ℕ → List ℕ → List X × List ℕ → Type 0
IsListAt spell P room text found = (text ≡ listed spell found.0 ++ found.1) × IsList P room found.0

list_takes : {X : Type 0} (item : List ℕ → Option (X × List ℕ)) (spell : X → List ℕ) (P : X → Type 0) (Ends : List ℕ → Type 0)
    → IsField item spell P Ends → (room : ℕ) (text : List ℕ) (found : List X × List ℕ) → read_list item room text ≡ Some found
    → IsListAt spell P room text found
unfolding read_list IsListAt
list_takes item spell P Ends field zero text found e = absurd cc
list_takes item spell P Ends field (suc room) text found e =
    let b = bind_some (item text) (λ first. read_more item room first.1 >>= λ others. Some (first.0 ∷ others.0, others.1)) found e in
    let b' = bind_some (read_more item room b.0.1) (λ others. Some (b.0.0 ∷ others.0, others.1)) found b.2 in
    let t = field.takes text b.0.0 b.0.1 b.1 in
    let h = more_takes item spell P Ends field room b.0.1 b'.0 b'.1 in
    let spelled : text ≡ (spell b.0.0 ++ others_text spell b'.0.0) ++ b'.0.1 =
    t.0 ∙ ap (λ (t : List ℕ). spell b.0.0 ++ t) h.spelled ∙ sym (append_assoc (spell b.0.0) (others_text spell b'.0.0) b'.0.1) in
    subst (IsListAt spell P (suc room) text) (some_is _ _ b'.2) (spelled, record { some = omega arith; most = omega (arith, h.most); each = All-cons P b.0.0 b'.0.0 t.1 h.each })

list_again : {X : Type 0} (item : List ℕ → Option (X × List ℕ)) (spell : X → List ℕ) (P : X → Type 0) (Ends : List ℕ → Type 0)
    → IsField item spell P Ends → (comma : (t : List ℕ) → Ends (0x2C ∷ t)) → (room : ℕ) (xs : List X) (rest : List ℕ) → IsList P room xs → Ends rest
    → is_next 0x2C rest ≡ false → read_list item room (listed spell xs ++ rest) ≡ Some (xs, rest)
unfolding read_list
list_again item spell P Ends field comma room [] rest h ends none = absurd (omega (arith, h.some))
list_again item spell P Ends field comma zero (x ∷ xs) rest h ends none = absurd (omega (arith, h.most))
list_again item spell P Ends field comma (suc room) (x ∷ xs) rest h ends none =
    let first = field.again x (others_text spell xs ++ rest) (h.each 0 x (omega arith)) (others_end spell Ends comma xs rest ends) in
    let first' : item ((spell x ++ others_text spell xs) ++ rest) ≡ Some (x, others_text spell xs ++ rest) = rw append_assoc first in
    let others = more_again item spell P Ends field comma room xs rest (omega (arith, h.most)) (λ k d lt. h.each (suc k) d (omega arith)) ends none in
    rw (first', others) refl

pub list_field : {X : Type 0} (item : List ℕ → Option (X × List ℕ)) (spell : X → List ℕ) (P : X → Type 0) (Ends : List ℕ → Type 0)
    → IsField item spell P Ends → (comma : (t : List ℕ) → Ends (0x2C ∷ t)) → (room : ℕ)
    → IsField (read_list item room) (listed spell) (IsList P room) (λ t. Ends t × (is_next 0x2C t ≡ false))
unfolding IsListAt
list_field item spell P Ends field comma room = record {
  takes = λ text xs rest e. list_takes item spell P Ends field room text (xs, rest) e;
  again = λ xs rest h ends. list_again item spell P Ends field comma room xs rest h ends.0 ends.1;
}
