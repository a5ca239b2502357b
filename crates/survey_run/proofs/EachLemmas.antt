-- Facts for each element of a list, with its number.
use Rattle.std.specs.Prelude.{get_or}
use Rattle.std.proofs.Common.{◌≡◌, ℕ, zero, suc, ◌+◌, List, [], ◌∷◌, ◌++◌, length, take, drop, Some, slice_get, refl, ap, sym, ◌∙◌, arith, append_assoc, append-nil, length-append, subst}
use Rattle.std.specs.List.{AllZip}
use Rattle.survey_core.proofs.ListSteps.{take_next}
use Rattle.survey_run.specs.Each.{EachFrom, EachZipFrom, StackFrom}

pub each_push : {X : Type 0} (P : ℕ → X → Type 0) (n m : ℕ) (xs : List X) (x : X) → n + length xs ≡ m → EachFrom P n xs → P m x → EachFrom P n (xs ++ x ∷ [])
each_push P n m [] x e each p = let z : n ≡ m = omega arith in (rw z p, tt)
each_push P n m (y ∷ ys) x e each p = (each.0, each_push P (n + 1) m ys x (omega arith) each.1 p)

pub zip_push : {X Y : Type 0} (P : ℕ → X → Y → Type 0) (n m : ℕ) (xs : List X) (ys : List Y) (x : X) (y : Y) → n + length xs ≡ m
    → EachZipFrom P n xs ys → P m x y → EachZipFrom P n (xs ++ x ∷ []) (ys ++ y ∷ [])
zip_push P n m [] [] x y e each p = let z : n ≡ m = omega arith in (rw z p, tt)
zip_push P n m [] (v ∷ vs) x y e each p = absurd each
zip_push P n m (u ∷ us) [] x y e each p = absurd each
zip_push P n m (u ∷ us) (v ∷ vs) x y e each p = (each.0, zip_push P (n + 1) m us vs x y (omega arith) each.1 p)

pub zip_length : {X Y : Type 0} (P : ℕ → X → Y → Type 0) (n : ℕ) (xs : List X) (ys : List Y) → EachZipFrom P n xs ys → length xs ≡ length ys
zip_length P n [] [] each = refl
zip_length P n [] (v ∷ vs) each = absurd each
zip_length P n (u ∷ us) [] each = absurd each
zip_length P n (u ∷ us) (v ∷ vs) each = ap {B = ℕ} (λ n. suc n) (zip_length P (n + 1) us vs each.1)

pub zip_map : {X Y : Type 0} (P Q : ℕ → X → Y → Type 0) (n : ℕ) (xs : List X) (ys : List Y) → ((k : ℕ) (x : X) (y : Y) → P k x y → Q k x y)
    → EachZipFrom P n xs ys → EachZipFrom Q n xs ys
zip_map P Q n [] [] f each = tt
zip_map P Q n [] (v ∷ vs) f each = absurd each
zip_map P Q n (u ∷ us) [] f each = absurd each
zip_map P Q n (u ∷ us) (v ∷ vs) f each = (f n u v each.0, zip_map P Q (n + 1) us vs f each.1)

pub all_zip_length : {X Y : Type 0} (P : X → Y → Type 0) (xs : List X) (ys : List Y) → AllZip P xs ys → length xs ≡ length ys
all_zip_length P [] [] each = refl
all_zip_length P [] (v ∷ vs) each = absurd each
all_zip_length P (u ∷ us) [] each = absurd each
all_zip_length P (u ∷ us) (v ∷ vs) each = ap {B = ℕ} (λ n. suc n) (all_zip_length P us vs each.1)

pub all_zip_push : {X Y : Type 0} (P : X → Y → Type 0) (xs : List X) (ys : List Y) (x : X) (y : Y) → AllZip P xs ys → P x y → AllZip P (xs ++ x ∷ []) (ys ++ y ∷ [])
all_zip_push P [] [] x y each p = (p, tt)
all_zip_push P [] (v ∷ vs) x y each p = absurd each
all_zip_push P (u ∷ us) [] x y each p = absurd each
all_zip_push P (u ∷ us) (v ∷ vs) x y each p = (each.0, all_zip_push P us vs x y each.1 p)

pub all_zip_at : {X Y : Type 0} (P : X → Y → Type 0) (xs : List X) (k : ℕ) (z : X) (y : Y) (ys : List Y) → z ≡ get_or xs k z
    → AllZip P (drop k xs) (y ∷ ys) → (slice_get xs k ≡ Some z) × P z y × AllZip P (drop (suc k) xs) ys
all_zip_at P [] zero z y ys is each = absurd each
all_zip_at P [] (suc k) z y ys is each = absurd each
all_zip_at P (x ∷ xs) zero z y ys is each = rw is (refl, each.0, each.1)
all_zip_at P (x ∷ xs) (suc k) z y ys is each = all_zip_at P xs k z y ys is each

pub zip_from_at : {X Y : Type 0} (P : ℕ → X → Y → Type 0) (n : ℕ) (xs : List X) (k : ℕ) (z : X) (y : Y) (ys : List Y) → z ≡ get_or xs k z
    → EachZipFrom P n (drop k xs) (y ∷ ys) → (slice_get xs k ≡ Some z) × P n z y × EachZipFrom P (n + 1) (drop (suc k) xs) ys
zip_from_at P n [] zero z y ys is each = absurd each
zip_from_at P n [] (suc k) z y ys is each = absurd each
zip_from_at P n (x ∷ xs) zero z y ys is each = rw is (refl, each.0, each.1)
zip_from_at P n (x ∷ xs) (suc k) z y ys is each = zip_from_at P n xs k z y ys is each

pub take_one_more : {X : Type 0} (xs : List X) (k n : ℕ) (x : X) → n ≡ k + 1 → slice_get xs k ≡ Some x → take n xs ≡ take k xs ++ x ∷ []
take_one_more xs k n x e is = let s : n ≡ suc k = omega arith in rw s (take_next xs k x is)

-- ---- stacks
-- the last elements, and those before them
pub record HasLast {X Y : Type 0} (P : ℕ → X → Y → Type 0) (n : ℕ) (xs : List X) (ys : List Y) (y : Y) : Type 0 where
  pub front : List X
  pub last : X
  pub whole : xs ≡ front ++ last ∷ []
  pub listed : EachZipFrom P n front ys
  pub ends : P (n + length front) last y

pub zip_from_last : {X Y : Type 0} (P : ℕ → X → Y → Type 0) (n : ℕ) (xs : List X) (ys : List Y) (y : Y) → EachZipFrom P n xs (ys ++ y ∷ []) → HasLast P n xs ys y
zip_from_last P n [] [] y each = absurd each
zip_from_last P n [] (v ∷ vs) y each = absurd each
zip_from_last P n (x ∷ []) [] y each = let e : n + 0 ≡ n = omega arith in record { front = []; last = x; whole = refl; listed = tt; ends = rw e each.0 }
zip_from_last P n (x ∷ u ∷ us) [] y each = absurd each.1
zip_from_last P n (x ∷ xs) (v ∷ vs) y each =
    let before = zip_from_last P (n + 1) xs vs y each.1 in
    let e : n + suc (length before.front) ≡ n + 1 + length before.front = omega arith in
    record { front = x ∷ before.front; last = before.last; whole = ap (λ us. x ∷ us) before.whole; listed = (each.0, before.listed); ends = rw e before.ends }

-- the second lists are a list and a stack: its last element is put on the stack
pub stack_more : {X Y : Type 0} (P : ℕ → X → Y → Type 0) (zs rest : List X) (z : X) (back : List Y) (y : Y) → StackFrom P (length (zs ++ z ∷ [])) rest back
    → P (length zs) z y → StackFrom P (length zs) (z ∷ rest) (back ++ y ∷ [])
stack_more P zs rest z back y stack p =
    let e : length (zs ++ z ∷ []) ≡ length zs + 1 = length-append zs (z ∷ []) in (back, y, refl, p, rw e at stack)

-- some of the elements stand in a list, and the rest on a stack
pub record IsPartStacked {X Y Z : Type 0} (P : ℕ → X → Y → Type 0) (Q : ℕ → X → Z → Type 0) (xs : List X) (left : List Y) (back : List Z) : Type 0 where
  pub front : List X
  pub rest : List X
  pub whole : xs ≡ front ++ rest
  pub listed : EachZipFrom P 0 front left
  pub stacked : StackFrom Q (length front) rest back

pub none_stacked : {X Y Z : Type 0} (P : ℕ → X → Y → Type 0) (Q : ℕ → X → Z → Type 0) (xs : List X) (left : List Y) → EachZipFrom P 0 xs left
    → IsPartStacked P Q xs left []
none_stacked P Q xs left each = record { front = xs; rest = []; whole = sym (append-nil xs); listed = each; stacked = refl }

pub one_more_stacked : {X Y Z : Type 0} (P : ℕ → X → Y → Type 0) (Q : ℕ → X → Z → Type 0) (xs : List X) (left : List Y) (back : List Z) (y : Y) (z : Z)
    → ((n : ℕ) (x : X) → P n x y → Q n x z) → IsPartStacked P Q xs (left ++ y ∷ []) back → IsPartStacked P Q xs left (back ++ z ∷ [])
one_more_stacked P Q xs left back y z turn part =
    let before = zip_from_last P 0 part.front left y part.listed in
    let e : 0 + length before.front ≡ length before.front = omega arith in
    record {
      front = before.front;
      rest = before.last ∷ part.rest;
      whole = part.whole ∙ (ap (λ us. us ++ part.rest) before.whole ∙ append_assoc before.front (before.last ∷ []) part.rest);
      listed = before.listed;
      stacked = stack_more Q before.front part.rest before.last back z (subst (λ us. StackFrom Q (length us) part.rest back) before.whole part.stacked)
          (turn (length before.front) before.last (rw e at before.ends));
    }

pub zip_from_none : {X Y : Type 0} (P : ℕ → X → Y → Type 0) (n : ℕ) (xs : List X) (ys : List Y) → ys ≡ [] → EachZipFrom P n xs ys → xs ≡ []
zip_from_none P n [] ys none each = refl
zip_from_none P n (x ∷ xs) [] none each = absurd each
zip_from_none P n (x ∷ xs) (y ∷ ys) none each = let e : y ∷ ys ≡ [] = none in cc

pub all_stacked : {X Y Z : Type 0} (P : ℕ → X → Y → Type 0) (Q : ℕ → X → Z → Type 0) (xs : List X) (left : List Y) (back : List Z) → left ≡ []
    → IsPartStacked P Q xs left back → StackFrom Q 0 xs back
all_stacked P Q xs left back none part =
    let e = zip_from_none P 0 part.front left none part.listed in
    let f : xs ≡ part.rest = part.whole ∙ ap (λ us. us ++ part.rest) e in
    rw f (subst (λ us. StackFrom Q (length us) part.rest back) e part.stacked)

pub all_zip_from : {X Y : Type 0} (P : X → Y → Type 0) (n : ℕ) (xs : List X) (ys : List Y) → AllZip P xs ys → EachZipFrom (λ k. P) n xs ys
all_zip_from P n [] [] each = tt
all_zip_from P n [] (y ∷ ys) each = absurd each
all_zip_from P n (x ∷ xs) [] each = absurd each
all_zip_from P n (x ∷ xs) (y ∷ ys) each = (each.0, all_zip_from P (n + 1) xs ys each.1)

pub pop_length : {X : Type 0} (xs ys : List X) (y : X) → xs ≡ ys ++ y ∷ [] → length xs ≡ length ys + 1
pop_length xs ys y e = ap {B = ℕ} length e ∙ length-append ys (y ∷ [])
