-- The steps of reading a line as JSON and of looking up a member of an object.
use Rattle.std.proofs.Common.{◌≡◌, ℕ, ◌==◌, List, [], ◌∷◌, length, slice_get, String, Global, string_bytes, Bool, true, false, if◌then◌else◌, Option, Some, None, ◌∙◌, ap, sym, subst, refl, arith}
use Rattle.std.specs.Str.{IsUtf8, is_utf8}
use Rattle.std.proofs.lemmas.Str.{IsUtf8-from_is_utf8, is_utf8-from_IsUtf8}
use Rattle.std.proofs.lemmas.Bool.{eq-eqb, eqb-true}
use Rattle.serde_json.specs.Data.{Data, Members}
use Rattle.serde_json.specs.Find.{get, as_object}
use Rattle.serde_json.specs.Events.{members_len}
use Rattle.serde_json.specs.Read.{read}
use Rattle.serde_json.specs.View.{view, members_view}
use Rattle.serde_json.specs.declared.value.Value.{Value}
use Rattle.json_forms.specs.Members.{json_of, member_at, single_member, only_of, ◌>>=◌}

chosen : {A : Type 0} (b : Bool) (x y : A) → b ≡ true → (if b then x else y) ≡ x
chosen b x y h = rw h

pub json-read : (line : List ℕ) (d : Data) → IsUtf8 line → read line ≡ Some d → json_of line ≡ Some d
json-read line d utf8 is = chosen (is_utf8 line) (read line) None (is_utf8-from_IsUtf8 line utf8) ∙ is

refused_at : (b : Bool) (found : Option Data) → (b ≡ true → found ≡ None) → (if b then found else None) ≡ None
refused_at true found h = h refl
refused_at false found h = refl

pub json-refused : (line : List ℕ) → (IsUtf8 line → read line ≡ None) → json_of line ≡ None
json-refused line h = refused_at (is_utf8 line) (read line) (λ is. h (IsUtf8-from_is_utf8 line is))

found_at : (o : Option Members) (members : Members) (count : ℕ) (found : Option Data) → Some members ≡ o → members_len members ≡ count
    → (o >>= λ ms. if members_len ms == count then found else None) ≡ found
found_at o members count found is len =
    let P : Option Members → Type 0 = λ v. (v >>= λ ms. if members_len ms == count then found else None) ≡ found in
    subst P is (chosen (members_len members == count) found None (eq-eqb (members_len members) count len))

pub member_at-found : (count : ℕ) (name : List ℕ) (d : Data) (members : Members) → Some members ≡ as_object d → members_len members ≡ count
    → member_at count name d ≡ get name d
member_at-found count name d members is len = found_at (as_object d) members count (get name d) is len

other_count : (b : Bool) (found : Option Data) → (b ≡ true → None ≡ found) → (if b then found else None) ≡ None
other_count true found h = sym (h refl)
other_count false found h = refl

other_at : (o : Option Members) (members : Members) (count : ℕ) (found : Option Data) → Some members ≡ o → (members_len members ≡ count → None ≡ found)
    → (o >>= λ ms. if members_len ms == count then found else None) ≡ None
other_at o members count found is differs =
    let P : Option Members → Type 0 = λ v. (v >>= λ ms. if members_len ms == count then found else None) ≡ None in
    subst P is (other_count (members_len members == count) found (λ same. differs (eqb-true (members_len members) count same)))

pub member_at-other : (count : ℕ) (name : List ℕ) (d : Data) (members : Members) → Some members ≡ as_object d → (members_len members ≡ count → None ≡ get name d)
    → member_at count name d ≡ None
member_at-other count name d members is differs = other_at (as_object d) members count (get name d) is differs

only-other : (es : List (String Global × Value)) → (length es ≡ 1 → ⊥) → only_of (members_view es) ≡ None
only-other [] differs = refl
only-other (e ∷ []) differs = absurd (differs refl)
only-other (e ∷ f ∷ es) differs = refl

pub single-other : (d : Data) (es : List (String Global × Value)) → Some (members_view es) ≡ as_object d → (length es ≡ 1 → ⊥) → None ≡ single_member d
single-other d es is differs =
    let P : Option Members → Type 0 = λ o. None ≡ (o >>= only_of) in
    subst P is (sym (only-other es differs))

only-found : (es : List (String Global × Value)) (name : String Global) (inner : Value) → length es ≡ 1 → slice_get es 0 ≡ Some (name, inner)
    → only_of (members_view es) ≡ Some (string_bytes name, view inner)
only-found [] name inner one first = absurd (omega (arith, one))
only-found (e ∷ []) name inner one first =
    let same : e ≡ (name, inner) = cc first in ap (λ p. Some (string_bytes p.0, view p.1)) same
only-found (e ∷ f ∷ es) name inner one first = absurd (omega (arith, one))

pub single-found : (d : Data) (es : List (String Global × Value)) (name : String Global) (inner : Value) (text : List ℕ) → Some (members_view es) ≡ as_object d → length es ≡ 1
    → slice_get es 0 ≡ Some (name, inner) → text ≡ string_bytes name → Some (text, view inner) ≡ single_member d
single-found d es name inner text is one first same =
    let P : Option Members → Type 0 = λ o. Some (text, view inner) ≡ (o >>= only_of) in
    subst P is (rw same (sym (only-found es name inner one first)))
