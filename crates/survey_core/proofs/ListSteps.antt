-- Lists, element by element.
use Rattle.std.proofs.Common.{◌≡◌, ◌⊎◌, ℕ, zero, suc, ◌+◌, ◌<◌, ◌≤◌, ◌==◌, Bool, true, false, cond, ◌||◌, List, [], ◌∷◌, ◌++◌, length, take, get_or, All, Contains, Option, Some, None, slice_get, IsSomeAnd, refl, ap, sym, subst, ◌∙◌, inl, inr, arith}
use Rattle.std.specs.Option.{option_and_then}
use Rattle.std.proofs.lemmas.Bool.{eq-eqb}
use Rattle.std.proofs.lemmas.Option.{none-some, same_Some}
use Rattle.std.proofs.lemmas.List.Elements.{filter-append}
use Rattle.std.proofs.lemmas.List.Concat.{flat_map-cons}
use Rattle.std.specs.List.{fold, filter, filter_map, flat_map, cons_option, list_any, range_with_len}
pub use Rattle.row_laws.proofs.ItemLemmas.{slice_get-append, slice_get_inside}

-- P holds of each element
abbrev pub Each : {X : Type 0} → (X → Type 0) → List X → Type 0
Each P [] = Unit {0}
Each P (x ∷ xs) = P x × Each P xs

pub Each-append : {X : Type 0} (P : X → Type 0) (xs ys : List X) → Each P xs → Each P ys → Each P (xs ++ ys)
Each-append P [] ys hs h = h
Each-append P (x ∷ xs) ys hs h = (hs.0, Each-append P xs ys hs.1 h)

pub Each-map : {X : Type 0} (P Q : X → Type 0) → ((x : X) → P x → Q x) → (xs : List X) → Each P xs → Each Q xs
Each-map P Q f [] hs = tt
Each-map P Q f (x ∷ xs) hs = (f x hs.0, Each-map P Q f xs hs.1)

-- what passes the test has the fact, and meets the test
pub Each-filter : {X : Type 0} (P : X → Type 0) (p : X → Bool) (xs : List X) → Each P xs → Each (λ x. P x × (p x ≡ true)) (filter p xs)
Each-filter {X} P p [] hs = tt
Each-filter {X} P p (x ∷ xs) hs =
    let go : (b : Bool) → p x ≡ b → Each (λ x. P x × (p x ≡ true)) (cond b (x ∷ filter p xs) (filter p xs)) =
    λ b e. elim b as (λ b. p x ≡ b → Each (λ x. P x × (p x ≡ true)) (cond b (x ∷ filter p xs) (filter p xs))) [
      | true ↦ λ yes. ((hs.0, yes), Each-filter P p xs hs.1)
      | false ↦ λ no. Each-filter P p xs hs.1
    ] e
    in go (p x) refl

pub fold-push : {A B : Type 0} (f : B → A → B) (b : B) (xs : List A) (x : A) → fold f b (xs ++ x ∷ []) ≡ f (fold f b xs) x
fold-push f b [] x = refl
fold-push f b (y ∷ xs) x = fold-push f (f b y) xs x

-- a filter of a list that is made element by element, where each part passes or fails as a whole
pub flat_map-filter : {X Y : Type 0} (f : X → List Y) (p : X → Bool) (q : Y → Bool) → ((x : X) → filter q (f x) ≡ cond (p x) (f x) [])
    → (xs : List X) → flat_map f (filter p xs) ≡ filter q (flat_map f xs)
flat_map-filter f p q h [] = refl
flat_map-filter f p q h (x ∷ xs) =
    let go : (b : Bool) → filter q (f x) ≡ cond b (f x) [] → flat_map f (cond b (x ∷ filter p xs) (filter p xs)) ≡ filter q (f x ++ flat_map f xs) =
    λ b. elim b as (λ b. filter q (f x) ≡ cond b (f x) [] → flat_map f (cond b (x ∷ filter p xs) (filter p xs)) ≡ filter q (f x ++ flat_map f xs)) [
      | true ↦ λ e. rw (filter-append q (f x) (flat_map f xs), e, flat_map-cons f x (filter p xs), flat_map-filter f p q h xs) refl
      | false ↦ λ e. rw (filter-append q (f x) (flat_map f xs), e, flat_map-filter f p q h xs) refl
    ]
    in rw (flat_map-cons f x xs) (go (p x) (h x))

pub Each-All : {X : Type 0} (P : X → Type 0) (xs : List X) → Each P xs → All P xs
Each-All P [] hs k d h = absurd (omega arith)
Each-All P (x ∷ xs) hs zero d h = hs.0
Each-All P (x ∷ xs) hs (suc k) d h = Each-All P xs hs.1 k d (omega arith)

pub All-Each : {X : Type 0} (P : X → Type 0) (xs : List X) → All P xs → Each P xs
All-Each P [] hs = tt
All-Each P (x ∷ xs) hs = (hs 0 x (omega arith), All-Each P xs (λ k d h. hs (suc k) d (omega arith)))

pub Each-at : {X : Type 0} (P : X → Type 0) (xs : List X) (k : ℕ) (x : X) → Each P xs → slice_get xs k ≡ Some x → P x
Each-at P [] k x each at = absurd (none-some x at)
Each-at P (y ∷ xs) zero x each at = subst P (same_Some y x at) each.0
Each-at P (y ∷ xs) (suc k) x each at = Each-at P xs k x each.1 at

pub slice_get-take : {X : Type 0} (n : ℕ) (xs : List X) (k : ℕ) → k < n → slice_get (take n xs) k ≡ slice_get xs k
slice_get-take zero xs k h = absurd (omega arith)
slice_get-take (suc n) [] k h = refl
slice_get-take (suc n) (x ∷ xs) zero h = refl
slice_get-take (suc n) (x ∷ xs) (suc k) h = slice_get-take n xs k (omega arith)

-- an element of a longer list stands in the first part, or is the new one
pub slice_get-push : {X : Type 0} (xs : List X) (y : X) (k : ℕ) (x : X) → slice_get (xs ++ y ∷ []) k ≡ Some x
    → (slice_get xs k ≡ Some x) ⊎ ((k ≡ length xs) × (y ≡ x))
slice_get-push [] y zero x h = inr (refl, same_Some y x h)
slice_get-push [] y (suc k) x h = absurd (none-some x h)
slice_get-push (z ∷ xs) y zero x h = inl h
slice_get-push (z ∷ xs) y (suc k) x h =
    elim (slice_get-push xs y k x h) [ inl found ↦ inl found | inr last ↦ inr (omega (arith, last.0), last.1) ]

pub slice_get-last : {X : Type 0} (xs : List X) (y : X) → slice_get (xs ++ y ∷ []) (length xs) ≡ Some y
slice_get-last [] y = refl
slice_get-last (x ∷ xs) y = slice_get-last xs y

pub take-take : {X : Type 0} (l n : ℕ) (xs : List X) → l ≤ n → take l (take n xs) ≡ take l xs
take-take zero n xs h = refl
take-take (suc l) zero xs h = absurd (omega arith)
take-take (suc l) (suc n) [] h = refl
take-take (suc l) (suc n) (x ∷ xs) h = ap (λ rest. x ∷ rest) (take-take l n xs (omega arith))

pub filter_map-same : {X Y : Type 0} (f g : X → Option Y) (xs : List X) → Each (λ x. f x ≡ g x) xs → filter_map f xs ≡ filter_map g xs
filter_map-same f g [] hs = refl
filter_map-same f g (x ∷ xs) hs = ap (λ o. cons_option o (filter_map f xs)) hs.0 ∙ ap (λ rest. cons_option (g x) rest) (filter_map-same f g xs hs.1)

pub take_next : {X : Type 0} (xs : List X) (k : ℕ) (x : X) → slice_get xs k ≡ Some x → take (suc k) xs ≡ take k xs ++ x ∷ []
take_next [] k x h = absurd (none-some x h)
take_next (y ∷ xs) zero x h = ap (λ z. z ∷ []) (same_Some y x h)
take_next (y ∷ xs) (suc k) x h = ap (λ rest. y ∷ rest) (take_next xs k x h)

-- a value of an option that has one
pub some_and : {X : Type 0} (o : Option X) (P : X → Type 0) → IsSomeAnd o P → (x : X) × (o ≡ Some x) × P x
some_and None P h = absurd h
some_and (Some x) P h = (x, refl, h)

pub and_then_some : {X Y : Type 0} (f : X → Option Y) (o : Option X) (y : Y) → option_and_then f o ≡ Some y → (x : X) × (o ≡ Some x) × (f x ≡ Some y)
and_then_some f None y h = absurd (none-some y h)
and_then_some f (Some x) y h = (x, refl, h)

or_true : (b : Bool) → (b || true) ≡ true
or_true true = refl
or_true false = refl

-- the list has the number
pub any_at : (xs : List ℕ) (k n : ℕ) → slice_get xs k ≡ Some n → list_any (λ x. x == n) xs ≡ true
any_at [] k n h = absurd (none-some n h)
any_at (x ∷ xs) zero n h = ap (λ b. b || list_any (λ x. x == n) xs) (eq-eqb x n (same_Some x n h))
any_at (x ∷ xs) (suc k) n h = ap (λ b. (x == n) || b) (any_at xs k n h) ∙ or_true (x == n)

pub Each-range : (from n : ℕ) → Each (λ q. (from ≤ q) × (q < from + n)) (range_with_len from n)
Each-range from zero = tt
Each-range from (suc n) = (
  (omega arith, omega arith),
  Each-map (λ q. (from + 1 ≤ q) × (q < from + 1 + n)) (λ q. (from ≤ q) × (q < from + suc n)) (λ q h. (omega (arith, h.0), omega (arith, h.1))) (range_with_len (from + 1) n) (Each-range (from + 1) n),
)

-- a number that a filter of a range contains
pub filtered_range : (p : ℕ → Bool) (from n q : ℕ) → Contains (filter p (range_with_len from n)) q → (from ≤ q) × (q < from + n) × (p q ≡ true)
filtered_range p from n q (k, within, at) =
    let Range : ℕ → Type 0 = λ q. (from ≤ q) × (q < from + n) in
    let found : Range (get_or (filter p (range_with_len from n)) k q) × (p (get_or (filter p (range_with_len from n)) k q) ≡ true) =
    Each-All (λ q. Range q × (p q ≡ true)) (filter p (range_with_len from n)) (Each-filter Range p (range_with_len from n) (Each-range from n)) k q within in
    let here : Range q × (p q ≡ true) = subst (λ (x : ℕ). Range x × (p x ≡ true)) at found in
    (here.0.0, here.0.1, here.1)

pub take_whole : {X : Type 0} (n : ℕ) (xs : List X) → length xs ≤ n → take n xs ≡ xs
take_whole zero [] h = refl
take_whole zero (x ∷ xs) h = absurd (omega arith)
take_whole (suc n) [] h = refl
take_whole (suc n) (x ∷ xs) h = ap (λ rest. x ∷ rest) (take_whole n xs (omega arith))

pub some_at : {X : Type 0} (o : Option X) (P : X → Type 0) (x : X) → o ≡ Some x → P x → IsSomeAnd o P
some_at o P x at h = subst (λ o. IsSomeAnd o P) (sym at) h

pub at_some : {X : Type 0} (o : Option X) (P : X → Type 0) (x : X) → o ≡ Some x → IsSomeAnd o P → P x
at_some o P x at h = subst (λ o. IsSomeAnd o P) at h

pub Each-front : {X : Type 0} (P : X → Type 0) (xs ys : List X) → Each P (xs ++ ys) → Each P xs
Each-front P [] ys hs = tt
Each-front P (x ∷ xs) ys hs = (hs.0, Each-front P xs ys hs.1)

pub Each-back : {X : Type 0} (P : X → Type 0) (xs ys : List X) → Each P (xs ++ ys) → Each P ys
Each-back P [] ys hs = hs
Each-back P (x ∷ xs) ys hs = Each-back P xs ys hs.1
