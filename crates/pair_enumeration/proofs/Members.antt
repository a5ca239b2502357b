-- Elements and order of lists that are put together.
use Rattle.std.proofs.Common.{◌≡◌, ◌⊎◌, inl, inr, ℕ, zero, suc, ◌+◌, ◌≤◌, ◌<◌, List, [], ◌∷◌, ◌++◌, length, map, flat_map, get_or, Contains, AllPairs, refl, ap, sym, subst, arith, eq-or-lt_of_le}
use Rattle.std.specs.List.{range_with_len}

-- x is an element of the list
abbrev pub Among : {X : Type 0} → X → List X → Type 0
Among x [] = ⊥
Among x (y ∷ ys) = (y ≡ x) ⊎ Among x ys

pub among-append_left : {X : Type 0} (x : X) (xs ys : List X) → Among x xs → Among x (xs ++ ys)
among-append_left x [] ys h = absurd h
among-append_left x (z ∷ xs) ys (inl e) = inl e
among-append_left x (z ∷ xs) ys (inr h) = inr (among-append_left x xs ys h)

pub among-append_right : {X : Type 0} (x : X) (xs ys : List X) → Among x ys → Among x (xs ++ ys)
among-append_right x [] ys h = h
among-append_right x (z ∷ xs) ys h = inr (among-append_right x xs ys h)

pub among-append : {X : Type 0} (x : X) (xs ys : List X) → Among x (xs ++ ys) → Among x xs ⊎ Among x ys
among-append x [] ys h = inr h
among-append x (z ∷ xs) ys (inl e) = inl (inl e)
among-append x (z ∷ xs) ys (inr h) = elim (among-append x xs ys h) [ inl a ↦ inl (inr a) | inr b ↦ inr b ]

pub among-map : {X Y : Type 0} (f : X → Y) (y : Y) (xs : List X) → Among y (map f xs) → (x : X) × Among x xs × (f x ≡ y)
among-map f y [] h = absurd h
among-map f y (x ∷ xs) (inl e) = (x, inl refl, e)
among-map f y (x ∷ xs) (inr h) = let r = among-map f y xs h in (r.0, inr r.1, r.2)

pub among-map_in : {X Y : Type 0} (f : X → Y) (x : X) (xs : List X) → Among x xs → Among (f x) (map f xs)
among-map_in f x [] h = absurd h
among-map_in f x (z ∷ xs) (inl e) = inl (ap f e)
among-map_in f x (z ∷ xs) (inr h) = inr (among-map_in f x xs h)

pub among-flat_map : {X Y : Type 0} (f : X → List Y) (y : Y) (xs : List X) → Among y (flat_map f xs) → (x : X) × Among x xs × Among y (f x)
among-flat_map f y [] h = absurd h
among-flat_map f y (x ∷ xs) h = elim (among-append y (f x) (flat_map f xs) h) [
  | inl a ↦ (x, inl refl, a)
  | inr b ↦ let r = among-flat_map f y xs b in (r.0, inr r.1, r.2)
]

pub among-flat_map_in : {X Y : Type 0} (f : X → List Y) (x : X) (y : Y) (xs : List X) → Among x xs → Among y (f x) → Among y (flat_map f xs)
among-flat_map_in f x y [] h k = absurd h
among-flat_map_in f x y (z ∷ xs) (inl e) k = among-append_left y (f z) (flat_map f xs) (subst (λ w. Among y (f w)) (sym e) k)
among-flat_map_in f x y (z ∷ xs) (inr h) k = among-append_right y (f z) (flat_map f xs) (among-flat_map_in f x y xs h k)

pub among-range : (k a n : ℕ) → Among k (range_with_len a n) → (a ≤ k) × (k < a + n)
among-range k a zero h = absurd h
among-range k a (suc n) (inl e) = (omega (arith, e), omega (arith, e))
among-range k a (suc n) (inr h) = let r = among-range k (a + 1) n h in (omega (arith, r.0), omega (arith, r.1))

eq_or_above : (a k : ℕ) → a ≤ k → (a ≡ k) ⊎ (a < k)
eq_or_above a k l = eq-or-lt_of_le l

pub among-range_in : (k a n : ℕ) → a ≤ k → k < a + n → Among k (range_with_len a n)
among-range_in k a zero l h = absurd (omega arith)
among-range_in k a (suc n) l h = elim (eq_or_above a k l) [ inl e ↦ inl e | inr m ↦ inr (among-range_in k (a + 1) n (omega (arith, m)) (omega arith)) ]

pub among-Contains : {X : Type 0} (x : X) (xs : List X) → Among x xs → Contains xs x
among-Contains x [] h = absurd h
among-Contains x (z ∷ xs) (inl e) = (0, omega arith, e)
among-Contains x (z ∷ xs) (inr h) = let r = among-Contains x xs h in (suc r.0, omega (arith, r.1), r.2)

pub among-get : {X : Type 0} (xs : List X) (k : ℕ) (d : X) → k < length xs → Among (get_or xs k d) xs
among-get [] k d l = absurd (omega arith)
among-get (x ∷ xs) zero d l = inl refl
among-get (x ∷ xs) (suc k) d l = inr (among-get xs k d (omega arith))

pub Contains-among : {X : Type 0} (x : X) (xs : List X) → Contains xs x → Among x xs
Contains-among x xs (k, l, e) = subst (λ w. Among w xs) e (among-get xs k x l)

-- ---- order: each element stands before each later one
abbrev pub Sorted : {X : Type 0} → (X → X → Type 0) → List X → Type 0
Sorted R [] = Unit {0}
Sorted {X} R (x ∷ xs) = ((y : X) → Among y xs → R x y) × Sorted R xs

pub sorted-append : {X : Type 0} (R : X → X → Type 0) (xs ys : List X) → Sorted R xs → Sorted R ys → ((x y : X) → Among x xs → Among y ys → R x y)
    → Sorted R (xs ++ ys)
sorted-append R [] ys h k r = k
sorted-append R (x ∷ xs) ys h k r = (
  λ y m. elim (among-append y xs ys m) [ inl a ↦ h.0 y a | inr b ↦ r x y (inl refl) b ],
  sorted-append R xs ys h.1 k (λ a b m n. r a b (inr m) n),
)

pub sorted-flat_map-range : {X : Type 0} (R : X → X → Type 0) (f : ℕ → List X) (a n : ℕ)
    → ((k : ℕ) → a ≤ k → k < a + n → Sorted R (f k))
    → ((i j : ℕ) (x y : X) → a ≤ i → i < j → j < a + n → Among x (f i) → Among y (f j) → R x y)
    → Sorted R (flat_map f (range_with_len a n))
sorted-flat_map-range R f a zero h r = tt
sorted-flat_map-range R f a (suc n) h r =
    sorted-append R (f a) (flat_map f (range_with_len (a + 1) n)) (h a (omega arith) (omega arith))
    (sorted-flat_map-range R f (a + 1) n (λ k l m. h k (omega arith) (omega arith)) (λ i j x y l m o p q. r i j x y (omega arith) m (omega arith) p q))
    (λ x y p q.
    let w = among-flat_map f y (range_with_len (a + 1) n) q in
    let b = among-range w.0 (a + 1) n w.1 in
    r a w.0 x y (omega arith) (omega (arith, b.0)) (omega (arith, b.1)) p w.2)

pub sorted-map : {X Y : Type 0} (R : X → X → Type 0) (S : Y → Y → Type 0) (f : X → Y) (xs : List X)
    → ((x y : X) → Among x xs → Among y xs → R x y → S (f x) (f y)) → Sorted R xs → Sorted S (map f xs)
sorted-map R S f [] r h = tt
sorted-map R S f (x ∷ xs) r h = (
  λ y m. let w = among-map f y xs m in subst (S (f x)) w.2 (r x w.0 (inl refl) (inr w.1) (h.0 w.0 w.1)),
  sorted-map R S f xs (λ a b m n. r a b (inr m) (inr n)) h.1,
)

pub sorted-AllPairs : {X : Type 0} (R : X → X → Type 0) (xs : List X) → Sorted R xs → AllPairs R xs
sorted-AllPairs R [] h i j d l m = absurd (omega arith)
sorted-AllPairs R (x ∷ xs) h i zero d l m = absurd (omega arith)
sorted-AllPairs R (x ∷ xs) h zero (suc j) d l m = h.0 (get_or xs j d) (among-get xs j d (omega arith))
sorted-AllPairs R (x ∷ xs) h (suc i) (suc j) d l m = sorted-AllPairs R xs h.1 i j d (omega arith) (omega arith)
