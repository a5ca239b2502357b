-- Whether there are as many items as increments.
use Rattle.std.proofs.Common.{◌≡◌, ℕ, ◌==◌, List, length, Bool, true, false, if◌then◌else◌, Option, None, ◌∙◌, sym, refl}
use Rattle.std.proofs.lemmas.Bool.{eq-eqb, eqb-true}
use Rattle.serde_json.specs.Events.{items_len}
use Rattle.serde_json.specs.View.{items_view}
use Rattle.serde_json.specs.declared.value.Value.{Value}
use Rattle.serde_json.proofs.Views.{items_len-items_view}
use Rattle.json_forms.specs.Members.{each}
use Rattle.json_forms.specs.Vectors.{positive_in, positives_of}

as_many : {A : Type 0} (b : Bool) (found : Option A) → b ≡ true → (if b then found else None) ≡ found
as_many b found h = rw h refl

others : {A : Type 0} (b : Bool) (found : Option A) → (b ≡ true → ⊥) → None ≡ (if b then found else None)
others true found h = absurd (h refl)
others false found h = refl

pub positives-as_many : (vs : List Value) (count : ℕ) → length vs ≡ count → positives_of count (items_view vs) ≡ each positive_in (items_view vs)
positives-as_many vs count same =
    as_many (items_len (items_view vs) == count) (each positive_in (items_view vs)) (eq-eqb (items_len (items_view vs)) count (items_len-items_view vs ∙ same))

pub positives-others : (vs : List Value) (count : ℕ) → (length vs ≡ count → ⊥) → None ≡ positives_of count (items_view vs)
positives-others vs count differs =
    others (items_len (items_view vs) == count) (each positive_in (items_view vs)) (λ same. differs (sym (items_len-items_view vs) ∙ eqb-true (items_len (items_view vs)) count same))
