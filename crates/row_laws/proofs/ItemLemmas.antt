-- Items by their numbers, counted from 1.
use Rattle.std.proofs.Common.{◌≡◌, ℕ, zero, suc, ◌-◌, ◌<◌, ◌≤◌, List, [], ◌∷◌, ◌++◌, length, Some, slice_get, refl, sym, ap, ◌∙◌, arith}
use Rattle.std.proofs.lemmas.Option.{none-some, slice_get_within}
use Rattle.row_laws.specs.Items.{item_at}

one_back : (k : ℕ) → suc k - 1 ≡ k
one_back k = omega arith

pub item_of : {X : Type 0} (items : List X) (n : ℕ) (x : X) → 1 ≤ n → slice_get items (n - 1) ≡ Some x → item_at items n ≡ Some x
item_of items zero x from_one at = absurd (omega arith)
item_of items (suc k) x from_one at = ap (λ j. slice_get items j) (sym (one_back k)) ∙ at

pub item_positive : {X : Type 0} (items : List X) (n : ℕ) (x : X) → item_at items n ≡ Some x → 1 ≤ n
item_positive items zero x at = absurd (none-some x at)
item_positive items (suc k) x at = omega arith

pub item_found : {X : Type 0} (items : List X) (n : ℕ) (x : X) → item_at items n ≡ Some x → slice_get items (n - 1) ≡ Some x
item_found items zero x at = absurd (none-some x at)
item_found items (suc k) x at = ap (λ j. slice_get items j) (one_back k) ∙ at

pub item_within : {X : Type 0} (items : List X) (n : ℕ) (x : X) → item_at items n ≡ Some x → n ≤ length items
item_within items n x at =
    omega (arith, item_positive items n x at, slice_get_within items (n - 1) x (item_found items n x at))

pub slice_get-append : {X : Type 0} (items more : List X) (k : ℕ) (x : X) → slice_get items k ≡ Some x → slice_get (items ++ more) k ≡ Some x
slice_get-append [] more k x h = absurd (none-some x h)
slice_get-append (y ∷ items) more zero x h = h
slice_get-append (y ∷ items) more (suc k) x h = slice_get-append items more k x h

pub item_at-append : {X : Type 0} (items more : List X) (n : ℕ) (x : X) → item_at items n ≡ Some x → item_at (items ++ more) n ≡ Some x
item_at-append items more zero x at = at
item_at-append items more (suc k) x at = slice_get-append items more k x at

pub slice_get_inside : {X : Type 0} (items : List X) (k : ℕ) → k < length items → (x : X) × (slice_get items k ≡ Some x)
slice_get_inside [] k h = absurd (omega arith)
slice_get_inside (x ∷ items) zero h = (x, refl)
slice_get_inside (x ∷ items) (suc k) h = slice_get_inside items k (omega arith)

pub item_inside : {X : Type 0} (items : List X) (n : ℕ) → 1 ≤ n → n ≤ length items → (x : X) × (item_at items n ≡ Some x)
item_inside items zero from_one within = absurd (omega arith)
item_inside items (suc k) from_one within = slice_get_inside items k (omega arith)
