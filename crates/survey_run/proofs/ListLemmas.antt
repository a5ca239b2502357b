-- Lists, element by element.
use Rattle.std.proofs.Common.{◌≡◌, ℕ, zero, suc, ◌+◌, Bool, true, false, cond, ◌&&◌, List, [], ◌∷◌, ◌++◌, length, map, Some, slice_get, refl, ap, sym, ◌∙◌, subst, arith}
use Rattle.std.specs.List.{filter, flat_map, AllByRecursion}
use Rattle.std.proofs.lemmas.Option.{none-some, same_Some}
use Rattle.survey_run.specs.Each.{EachZipFrom}

-- an element of a list, where there is one of the other
pub record ZipGot {X Y : Type 0} (P : ℕ → X → Y → Type 0) (n k : ℕ) (xs : List X) (y : Y) : Type 0 where
  pub item : X
  pub at : slice_get xs k ≡ Some item
  pub holds : P (n + k) item y

pub zip_get : {X Y : Type 0} (P : ℕ → X → Y → Type 0) (n : ℕ) (xs : List X) (ys : List Y) (k : ℕ) (y : Y) → EachZipFrom P n xs ys → slice_get ys k ≡ Some y → ZipGot P n k xs y
zip_get P n [] [] k y each is = absurd (none-some y is)
zip_get P n [] (v ∷ vs) k y each is = absurd each
zip_get P n (x ∷ xs) [] k y each is = absurd each
zip_get P n (x ∷ xs) (v ∷ vs) zero y each is =
    let z : n + 0 ≡ n = omega arith in
    record { item = x; at = refl; holds = rw z (subst (P n x) (same_Some v y is) each.0) }
zip_get P n (x ∷ xs) (v ∷ vs) (suc k) y each is =
    let rest = zip_get P (n + 1) xs vs k y each.1 is in
    let e : n + suc k ≡ n + 1 + k = omega arith in
    record { item = rest.item; at = rest.at; holds = rw e rest.holds }

pub record MapGot {X Y : Type 0} (f : X → Y) (k : ℕ) (xs : List X) (y : Y) : Type 0 where
  pub item : X
  pub at : slice_get xs k ≡ Some item
  pub same : f item ≡ y

pub map_get : {X Y : Type 0} (f : X → Y) (xs : List X) (k : ℕ) (y : Y) → slice_get (map f xs) k ≡ Some y → MapGot f k xs y
map_get f [] k y is = absurd (none-some y is)
map_get f (x ∷ xs) zero y is = record { item = x; at = refl; same = same_Some (f x) y is }
map_get f (x ∷ xs) (suc k) y is = let rest = map_get f xs k y is in record { item = rest.item; at = rest.at; same = rest.same }

pub get_map : {X Y : Type 0} (f : X → Y) (xs : List X) (k : ℕ) (x : X) → slice_get xs k ≡ Some x → slice_get (map f xs) k ≡ Some (f x)
get_map f [] k x is = absurd (none-some x is)
get_map f (y ∷ ys) zero x is = ap (λ z. Some (f z)) (same_Some y x is)
get_map f (y ∷ ys) (suc k) x is = get_map f ys k x is

pub each_get : {X : Type 0} (P : X → Type 0) (xs : List X) (k : ℕ) (x : X) → AllByRecursion P xs → slice_get xs k ≡ Some x → P x
each_get P [] k x each is = absurd (none-some x is)
each_get P (y ∷ ys) zero x each is = subst P (same_Some y x is) each.0
each_get P (y ∷ ys) (suc k) x each is = each_get P ys k x each.1 is

cond_filter : {X : Type 0} (p q : X → Bool) (b c : Bool) (x : X) (xs ys : List X) → q x ≡ c → filter q xs ≡ ys
    → filter q (cond b (x ∷ xs) xs) ≡ cond (b && c) (x ∷ ys) ys
cond_filter p q true c x xs ys is same = rw is (ap (λ zs. cond c (x ∷ zs) zs) same)
cond_filter p q false c x xs ys is same = same

-- a filter of a filter
pub filter_both : {X : Type 0} (p q : X → Bool) (xs : List X) → filter q (filter p xs) ≡ filter (λ x. p x && q x) xs
filter_both p q [] = refl
filter_both p q (x ∷ xs) = cond_filter p q (p x) (q x) x (filter p xs) (filter (λ x. p x && q x) xs) refl (filter_both p q xs)

pub flat_cond : {X Y : Type 0} (f : X → List Y) (b : Bool) (x : X) (xs : List X) → flat_map f (cond b (x ∷ xs) xs) ≡ cond b (f x) [] ++ flat_map f xs
flat_cond f true x xs = refl
flat_cond f false x xs = refl

-- where the others give nothing, they may be left out
pub flat_filter : {X Y : Type 0} (f : X → List Y) (p : X → Bool) (xs : List X) → AllByRecursion (λ x. p x ≡ false → f x ≡ []) xs → flat_map f (filter p xs) ≡ flat_map f xs
flat_filter f p [] none = refl
flat_filter {X} {Y} f p (x ∷ xs) none =
    let go : (b : Bool) → p x ≡ b → cond b (f x) [] ≡ f x =
    λ b e. elim b as (λ b. p x ≡ b → cond b (f x) [] ≡ f x) [
      | true ↦ λ yes. refl
      | false ↦ λ no. sym (none.0 no)
    ] e in
    flat_cond f (p x) x (filter p xs) ∙ (ap (λ (ys : List Y). ys ++ flat_map f (filter p xs)) (go (p x) refl) ∙ ap (λ (ys : List Y). f x ++ ys) (flat_filter f p xs none.1))

pub map_length : {X Y : Type 0} (f : X → Y) (xs : List X) → length (map f xs) ≡ length xs
map_length f [] = refl
map_length f (x ∷ xs) = ap {B = ℕ} (λ n. suc n) (map_length f xs)
