-- The first item that passes a test, and how it moves where an item changes.
use Rattle.std.proofs.Common.{◌≡◌, ◌⊎◌, inl, inr, ⊎_elim, ℕ, zero, suc, ◌+◌, ◌<◌, ◌≤◌, min, Bool, true, false, not, cond, List, [], ◌∷◌, length, get_or, set, slice_get, Some, refl, ap, sym, ◌∙◌, arith}
use Rattle.std.specs.List.{position_or_len}
use Rattle.std.proofs.lemmas.List.Sums.{prefix_len-le-length}

pub either : (b : Bool) → (b ≡ true) ⊎ (b ≡ false)
either true = inl refl
either false = inr refl

module _ {X : Type 0} (p : X → Bool) where
  passing : (x : X) (xs : List X) → p x ≡ true → position_or_len p (x ∷ xs) ≡ 0
  passing x xs e = ap (λ b. cond (not b) (1 + position_or_len p xs) 0) e

  failing : (x : X) (xs : List X) → p x ≡ false → position_or_len p (x ∷ xs) ≡ 1 + position_or_len p xs
  failing x xs e = ap (λ b. cond (not b) (1 + position_or_len p xs) 0) e

  -- where none passes before an item that passes, it is the first
  pub first_is : (xs : List X) (i : ℕ) (x : X) → i ≤ position_or_len p xs → slice_get xs i ≡ Some x → p x ≡ true → position_or_len p xs ≡ i
  first_is [] i x low at e = absurd cc
  first_is (y ∷ xs) zero x low at e = let same : y ≡ x = cc in passing y xs (ap p same ∙ e)
  first_is (y ∷ xs) (suc i) x low at e = ⊎_elim
      (λ (h : p y ≡ true). let none = passing y xs h in absurd (omega arith))
      (λ (h : p y ≡ false). let more = failing y xs h in let rest = first_is xs i x (omega arith) at e in omega arith)
      (either (p y))

  -- where it fails, none passes up to it
  pub not_yet : (xs : List X) (i : ℕ) (x : X) → i ≤ position_or_len p xs → slice_get xs i ≡ Some x → p x ≡ false → i + 1 ≤ position_or_len p xs
  not_yet [] i x low at e = absurd cc
  not_yet (y ∷ xs) zero x low at e = let same : y ≡ x = cc in let more = failing y xs (ap p same ∙ e) in omega arith
  not_yet (y ∷ xs) (suc i) x low at e = ⊎_elim
      (λ (h : p y ≡ true). let none = passing y xs h in absurd (omega arith))
      (λ (h : p y ≡ false). let more = failing y xs h in let rest = not_yet xs i x (omega arith) at e in omega arith)
      (either (p y))

  -- an item that comes to fail moves the first on at most
  pub set_fails : (xs : List X) (i : ℕ) (y : X) → p y ≡ false → position_or_len p xs ≤ position_or_len p (set xs i y)
  set_fails [] i y e = omega arith
  set_fails (x ∷ xs) zero y e = ⊎_elim
      (λ (h : p x ≡ true). let none = passing x xs h in omega arith)
      (λ (h : p x ≡ false). let a = failing x xs h in let b = failing y xs e in omega arith)
      (either (p x))
  set_fails (x ∷ xs) (suc i) y e = let rest = set_fails xs i y e in ⊎_elim
      (λ (h : p x ≡ true). let none = passing x xs h in omega arith)
      (λ (h : p x ≡ false). let a = failing x xs h in let b = failing x (set xs i y) h in omega arith)
      (either (p x))

  -- past an item that comes to fail, where none before it passes
  pub set_past : (xs : List X) (i : ℕ) (y : X) → i < length xs → i ≤ position_or_len p xs → p y ≡ false → i + 1 ≤ position_or_len p (set xs i y)
  set_past [] i y l low e = absurd (omega arith)
  set_past (x ∷ xs) zero y l low e = let b = failing y xs e in omega arith
  set_past (x ∷ xs) (suc i) y l low e = ⊎_elim
      (λ (h : p x ≡ true). let none = passing x xs h in absurd (omega arith))
      (λ (h : p x ≡ false). let a = failing x xs h in let b = failing x (set xs i y) h in let rest = set_past xs i y (omega arith) (omega arith) e in omega arith)
      (either (p x))

  -- an item that comes to pass is the first, if none before it is
  pub set_passes : (xs : List X) (i : ℕ) (y : X) → i < length xs → p y ≡ true → position_or_len p (set xs i y) ≡ min (position_or_len p xs) i
  set_passes [] i y l e = absurd (omega arith)
  set_passes (x ∷ xs) zero y l e = passing y xs e ∙ grind arith
  set_passes (x ∷ xs) (suc i) y l e = let rest = set_passes xs i y (omega arith) e in ⊎_elim
      (λ (h : p x ≡ true). let none = passing x xs h in let also = passing x (set xs i y) h in grind arith)
      (λ (h : p x ≡ false). let a = failing x xs h in let b = failing x (set xs i y) h in grind arith)
      (either (p x))

  -- a change that keeps the test of an item keeps the first
  pub set_same : (xs : List X) (i : ℕ) (x y : X) → slice_get xs i ≡ Some x → p y ≡ p x → position_or_len p (set xs i y) ≡ position_or_len p xs
  set_same [] i x y at e = refl
  set_same (z ∷ xs) zero x y at e = let same : z ≡ x = cc in ap (λ b. cond (not b) (1 + position_or_len p xs) 0) (e ∙ ap p (sym same))
  set_same (z ∷ xs) (suc i) x y at e = ap (λ n. cond (not (p z)) (1 + n) 0) (set_same xs i x y at e)

-- where what passes one test passes another, the first of the other is no later
pub first_le : {X : Type 0} (p q : X → Bool) (xs : List X) → ((x : X) → q x ≡ true → p x ≡ true) → position_or_len p xs ≤ position_or_len q xs
first_le p q [] imp = omega arith
first_le p q (x ∷ xs) imp = let rest = first_le p q xs imp in ⊎_elim
    (λ (h : q x ≡ true). let none = passing p x xs (imp x h) in omega arith)
    (λ (h : q x ≡ false). let more = failing q x xs h in ⊎_elim
    (λ (g : p x ≡ true). let none = passing p x xs g in omega arith)
    (λ (g : p x ≡ false). let also = failing p x xs g in omega arith)
    (either (p x)))
    (either (q x))

-- the item at a place of the list
pub item_at : {X : Type 0} (xs : List X) (i : ℕ) (d : X) → i < length xs → slice_get xs i ≡ Some (get_or xs i d)
item_at [] i d l = absurd (omega arith)
item_at (x ∷ xs) zero d l = refl
item_at (x ∷ xs) (suc i) d l = item_at xs i d (omega arith)

pub first_within : {X : Type 0} (p : X → Bool) (xs : List X) → position_or_len p xs ≤ length xs
first_within p xs = prefix_len-le-length (λ x. not (p x)) xs
