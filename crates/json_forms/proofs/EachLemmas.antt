-- Steps of reading an array item by item.
use Rattle.std.proofs.Common.{◌≡◌, ℕ, ◌+◌, ◌<◌, ◌≤◌, List, [], ◌∷◌, ◌++◌, length, map, get_or, drop, Option, Some, None, option_map, ◌∙◌, ap, sym, subst, refl, append_assoc}
use Rattle.std.proofs.lemmas.List.{at_drop_more, drop_all, append-nil, map-append}
use Rattle.serde_json.specs.Data.{Data, Items}
use Rattle.serde_json.specs.Find.{as_array}
use Rattle.serde_json.specs.View.{view, items_view}
use Rattle.serde_json.specs.declared.value.Value.{Value}
use Rattle.json_forms.specs.Members.{each, ◌>>=◌}

-- the items so far were read, and the rest is still to be read
abbrev pub IsReadTo : {X : Type 0} → (Data → Option X) → List Value → ℕ → List X → Type 0
IsReadTo f vs i out = each f (items_view vs) ≡ option_map (λ more. out ++ more) (each f (items_view (drop i vs)))

kept : {X : Type 0} (o : Option (List X)) → o ≡ option_map (λ more. [] ++ more) o
kept None = refl
kept (Some xs) = refl

pub IsReadTo-start : {X : Type 0} (f : Data → Option X) (vs : List Value) → IsReadTo f vs 0 []
IsReadTo-start f vs = kept (each f (items_view vs))

-- the front item is of the form
taken : {X : Type 0} (first : Option X) (x : X) (rest : Option (List X)) (out : List X) → first ≡ Some x
    → option_map (λ more. out ++ more) (first >>= λ y. rest >>= λ ys. Some (y ∷ ys)) ≡ option_map (λ more. (out ++ x ∷ []) ++ more) rest
taken first x None out is = rw is refl
taken first x (Some ys) out is = rw is (ap Some (sym (append_assoc out (x ∷ []) ys)))

pub IsReadTo-next : {X : Type 0} (f : Data → Option X) (vs : List Value) (i : ℕ) (out : List X) (v : Value) (x : X) → i < length vs → v ≡ get_or vs i v → f (view v) ≡ Some x
    → IsReadTo f vs i out → IsReadTo f vs (i + 1) (out ++ x ∷ [])
IsReadTo-next {X = X} f vs i out v x within is found h =
    let Q : Value → Type 0 = λ w. f (view w) ≡ Some x in
    let F : List Value → Option (List X) = λ ws. option_map (λ more. out ++ more) (each f (items_view ws)) in
    h ∙ at_drop_more F vs i v within ∙ taken (f (view (get_or vs i v))) x (each f (items_view (drop (i + 1) vs))) out (subst Q is found)

-- the same where the code holds ys, which are seen through `shown`
pub IsReadTo-push : {X Y : Type 0} (f : Data → Option X) (shown : Y → X) (vs : List Value) (i : ℕ) (ys now : List Y) (y : Y) (v : Value) → i < length vs → v ≡ get_or vs i v
    → f (view v) ≡ Some (shown y) → now ≡ ys ++ y ∷ [] → IsReadTo f vs i (map shown ys) → IsReadTo f vs (i + 1) (map shown now)
IsReadTo-push f shown vs i ys now y v within is found pushed h =
    subst (IsReadTo f vs (i + 1)) (sym (ap (map shown) pushed ∙ map-append shown ys (y ∷ []))) (IsReadTo-next f vs i (map shown ys) v (shown y) within is found h)

gone : {X : Type 0} (first : Option X) (rest : Option (List X)) (out : List X) → first ≡ None
    → option_map (λ more. out ++ more) (first >>= λ y. rest >>= λ ys. Some (y ∷ ys)) ≡ None
gone first rest out is = rw is refl

-- the front item is not of the form
pub IsReadTo-none : {X : Type 0} (f : Data → Option X) (vs : List Value) (i : ℕ) (out : List X) (v : Value) → i < length vs → v ≡ get_or vs i v → f (view v) ≡ None
    → IsReadTo f vs i out → each f (items_view vs) ≡ None
IsReadTo-none {X = X} f vs i out v within is found h =
    let Q : Value → Type 0 = λ w. f (view w) ≡ None in
    let F : List Value → Option (List X) = λ ws. option_map (λ more. out ++ more) (each f (items_view ws)) in
    h ∙ at_drop_more F vs i v within ∙ gone (f (view (get_or vs i v))) (each f (items_view (drop (i + 1) vs))) out (subst Q is found)

pub IsReadTo-end : {X : Type 0} (f : Data → Option X) (vs : List Value) (i : ℕ) (out : List X) → length vs ≤ i → IsReadTo f vs i out → each f (items_view vs) ≡ Some out
IsReadTo-end {X = X} f vs i out past h =
    let F : List Value → Option (List X) = λ ws. option_map (λ more. out ++ more) (each f (items_view ws)) in
    h ∙ ap F (drop_all i vs past) ∙ ap Some (append-nil out)

-- what was read of the values of an array is what the array is read as
pub array_read : {X : Type 0} (f : Data → Option X) (d : Data) (vs ws : List Value) (r : Option (List X)) → Some (items_view ws) ≡ as_array d → vs ≡ ws → each f (items_view vs) ≡ r
    → r ≡ (as_array d >>= each f)
array_read {X = X} f d vs ws r is same read =
    let P : Option Items → Type 0 = λ o. r ≡ (o >>= each f) in
    subst P is (sym read ∙ ap (λ l. each f (items_view l)) same)
