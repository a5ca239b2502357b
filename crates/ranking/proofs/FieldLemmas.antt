-- The fields of a record, and items of lists by their places.
use Rattle.std.proofs.Common.{◌≡◌, ℕ, ◌+◌, ◌<◌, zero, suc, List, [], ◌∷◌, length, drop, refl, ap, ◌∙◌, arith}
use Rattle.std.specs.Prelude.{slice_get, Some}
use Rattle.row_laws.specs.Items.{item_at}
use Rattle.csv.specs.Records.{field_at}

-- the field at a place is the item there
pub field_at-get : (fields : List (List ℕ)) (place : ℕ) → field_at fields place ≡ slice_get fields place
unfolding field_at
field_at-get [] place = refl
field_at-get (field ∷ fields) zero = refl
field_at-get (field ∷ fields) (suc place) = field_at-get fields place

-- what is left from a place on begins with the item there
pub drop-get : {X : Type 0} (items : List X) (place : ℕ) (x : X) → slice_get items place ≡ Some x → drop place items ≡ x ∷ drop (place + 1) items
drop-get [] place x is = cc
drop-get {X} (item ∷ items) zero x is = let same : item ≡ x = cc in ap (λ (y : X). y ∷ items) same
drop-get (item ∷ items) (suc place) x is = let next : suc place + 1 ≡ suc (place + 1) = omega arith in rw next (drop-get items place x is)

-- the item after the first
pub get-drop : {X : Type 0} (items : List X) (place : ℕ) → slice_get (drop 1 items) place ≡ slice_get items (place + 1)
get-drop [] place = refl
get-drop (item ∷ items) place = let next : place + 1 ≡ suc place = omega arith in rw next refl

-- lists of one length that have the same item at each place are the same
pub same_items : {X : Type 0} (items others : List X) → length items ≡ length others → ((k : ℕ) → k < length others → slice_get items k ≡ slice_get others k) → items ≡ others
same_items [] [] len same = refl
same_items [] (other ∷ others) len same = absurd (omega arith)
same_items (item ∷ items) [] len same = absurd (omega arith)
same_items {X} (item ∷ items) (other ∷ others) len same =
    let first : Some item ≡ Some other = same 0 (omega arith) in
    let front : item ≡ other = cc in
    let rest : items ≡ others = same_items items others (omega arith) (λ k within. same (suc k) (omega arith)) in
    ap (λ (x : X). x ∷ items) front ∙ ap (λ (xs : List X). other ∷ xs) rest

-- a list is its first item and what is left without it
pub first_and_rest : {X : Type 0} (items : List X) (x : X) → slice_get items 0 ≡ Some x → items ≡ x ∷ drop 1 items
first_and_rest items x is = drop-get items 0 x is

-- the item of a number is the one at the place before
pub item_at-next : {X : Type 0} (items : List X) (place : ℕ) → item_at items (place + 1) ≡ slice_get items place
item_at-next items place = let next : place + 1 ≡ suc place = omega arith in rw next refl

-- a header is the name of its first column and then the others
pub header_is : (fields names : List (List ℕ)) (name first : List ℕ) → slice_get fields 0 ≡ Some first → first ≡ name → drop 1 fields ≡ names → fields ≡ name ∷ names
header_is [] names name first at same rest = cc
header_is (field ∷ fields) names name first at same rest =
    let one : field ≡ name = cc in ap (λ (x : List ℕ). x ∷ fields) one ∙ ap (λ (xs : List (List ℕ)). name ∷ xs) rest
