-- Lists that are taken from their ends.
use Rattle.std.proofs.Common.{◌≡◌, ℕ, zero, suc, ◌+◌, List, [], ◌∷◌, ◌++◌, length, get_or, All, Some, slice_get, refl, ap, sym, subst, ◌∙◌, arith, append_assoc, append-nil, length-append}
use Rattle.std.specs.List.{AllZip}
use Rattle.std.proofs.lemmas.List.Elements.{All-nil, All-cons, All-append, All-head, All-tail}
use Rattle.std.proofs.lemmas.Option.{none-some, same_Some}
use Rattle.survey_hall.specs.Stacks.{AllStacked}

-- the last element of a list is the same, and what is before it
pub record IsLast {X : Type 0} (xs : List X) (x : X) (ys : List X) (y : X) : Type 0 where
  pub before : xs ≡ ys
  pub last : x ≡ y

pub one_last : {X : Type 0} (xs ys : List X) (x y : X) → xs ++ x ∷ [] ≡ ys ++ y ∷ [] → IsLast xs x ys y
one_last [] [] x y same = record { before = refl; last = cc }
one_last {X} [] (z ∷ ys) x y same = absurd (omega (arith, ap (λ (l : List X). length l) same, length-append ys (y ∷ [])))
one_last {X} (z ∷ xs) [] x y same = absurd (omega (arith, ap (λ (l : List X). length l) same, length-append xs (x ∷ [])))
one_last {X} (z ∷ xs) (w ∷ ys) x y same =
    let tails : xs ++ x ∷ [] ≡ ys ++ y ∷ [] = cc in
    let heads : z ≡ w = cc in
    let last = one_last xs ys x y tails in
    record { before = ap (λ (l : List X). z ∷ l) last.before ∙ ap (λ (h : X). h ∷ ys) heads; last = last.last }

pub not_empty : {X : Type 0} (xs : List X) (x : X) → xs ++ x ∷ [] ≡ [] → ⊥
not_empty {X} xs x same = omega (arith, ap (λ (l : List X). length l) same, length-append xs (x ∷ []))

-- ---- lists side by side
-- what stands beside a list with a last element
pub record IsZippedLast {X Y : Type 0} (R : X → Y → Type 0) (xs : List X) (x : X) (ys : List Y) : Type 0 where
  pub front : List Y
  pub last : Y
  pub whole : ys ≡ front ++ last ∷ []
  pub each : AllZip R xs front
  pub at_last : R x last

pub zip_last : {X Y : Type 0} (R : X → Y → Type 0) (xs : List X) (x : X) (ys : List Y) → AllZip R (xs ++ x ∷ []) ys → IsZippedLast R xs x ys
zip_last R [] x [] zipped = absurd zipped
zip_last R [] x (y ∷ []) zipped = record { front = []; last = y; whole = refl; each = tt; at_last = zipped.0 }
zip_last R [] x (y ∷ z ∷ ys) zipped = absurd zipped.1
zip_last R (w ∷ xs) x [] zipped = absurd zipped
zip_last {X} {Y} R (w ∷ xs) x (y ∷ ys) zipped =
    let rest = zip_last R xs x ys zipped.1 in
    record { front = y ∷ rest.front; last = rest.last; whole = ap (λ (l : List Y). y ∷ l) rest.whole; each = (zipped.0, rest.each); at_last = rest.at_last }

pub zip_push : {X Y : Type 0} (R : X → Y → Type 0) (xs : List X) (ys : List Y) (x : X) (y : Y) → AllZip R xs ys → R x y
    → AllZip R (xs ++ x ∷ []) (ys ++ y ∷ [])
zip_push R [] [] x y zipped one = (one, tt)
zip_push R [] (z ∷ ys) x y zipped one = absurd zipped
zip_push R (w ∷ xs) [] x y zipped one = absurd zipped
zip_push R (w ∷ xs) (z ∷ ys) x y zipped one = (zipped.0, zip_push R xs ys x y zipped.1 one)

pub zip_last_right : {X Y : Type 0} (R : X → Y → Type 0) (xs : List X) (ys : List Y) (y : Y) → AllZip R xs (ys ++ y ∷ [])
    → (front : List X) × (last : X) × (xs ≡ front ++ last ∷ []) × AllZip R front ys × R last y
zip_last_right R [] [] y zipped = absurd zipped
zip_last_right R [] (z ∷ ys) y zipped = absurd zipped
zip_last_right R (x ∷ []) [] y zipped = ([], x, refl, tt, zipped.0)
zip_last_right R (x ∷ w ∷ xs) [] y zipped = absurd zipped.1
zip_last_right {X} R (x ∷ xs) (z ∷ ys) y zipped =
    let rest = zip_last_right R xs ys y zipped.1 in
    (x ∷ rest.0, rest.1, ap (λ (l : List X). x ∷ l) rest.2, (zipped.0, rest.3), rest.4)

pub zip_length : {X Y : Type 0} (R : X → Y → Type 0) (xs : List X) (ys : List Y) → AllZip R xs ys → length xs ≡ length ys
zip_length R [] [] zipped = refl
zip_length R [] (y ∷ ys) zipped = absurd zipped
zip_length R (x ∷ xs) [] zipped = absurd zipped
zip_length R (x ∷ xs) (y ∷ ys) zipped = ap suc (zip_length R xs ys zipped.1)

pub stacked_length : {X Y : Type 0} (R : X → Y → Type 0) (xs : List X) (ys : List Y) → AllStacked R xs ys → length xs ≡ length ys
stacked_length {X} {Y} R [] ys stacked = ap (λ (l : List Y). length l) (sym stacked)
stacked_length {X} {Y} R (x ∷ xs) ys stacked =
    omega (arith, stacked_length R xs stacked.0 stacked.4, ap (λ (l : List Y). length l) stacked.2, length-append stacked.0 (stacked.1 ∷ []))

-- ---- part of the elements beside one list, and the others beside a stack
pub record IsPart {X Y Z : Type 0} (P : X → Y → Type 0) (Q : X → Z → Type 0) (xs : List X) (ys : List Y) (zs : List Z) : Type 0 where
  pub kept : List X
  pub moved : List X
  pub whole : xs ≡ kept ++ moved
  pub beside : AllZip P kept ys
  pub stacked : AllStacked Q moved zs

module _ {X Y Z : Type 0} (P : X → Y → Type 0) (Q : X → Z → Type 0) where
  pub none_moved : (xs : List X) (ys : List Y) → AllZip P xs ys → IsPart P Q xs ys []
  none_moved xs ys zipped = record { kept = xs; moved = []; whole = sym (append-nil xs); beside = zipped; stacked = refl }

  all_of : (xs kept moved : List X) (zs : List Z) → xs ≡ kept ++ moved → AllZip P kept [] → AllStacked Q moved zs → AllStacked Q xs zs
  all_of xs [] moved zs whole beside stacked = subst (λ (l : List X). AllStacked Q l zs) (sym whole) stacked
  all_of xs (x ∷ kept) moved zs whole beside stacked = absurd beside

  -- nothing is left beside the list
  pub all_moved : (xs : List X) (zs : List Z) → IsPart P Q xs [] zs → AllStacked Q xs zs
  all_moved xs zs part = all_of xs part.kept part.moved zs part.whole part.beside part.stacked

  pub all_stacked : (xs : List X) (zs : List Z) → AllStacked Q xs zs → IsPart P Q xs [] zs
  all_stacked xs zs stacked = record { kept = []; moved = xs; whole = refl; beside = tt; stacked = stacked }

  -- the last element is moved to the stack
  pub record IsNextMoved (xs : List X) (ys : List Y) (y : Y) (zs : List Z) : Type 0 where
    pub front : List X
    pub next : X
    pub later : List X
    pub whole : xs ≡ front ++ next ∷ later
    pub long : length front ≡ length ys
    pub holds : P next y
    pub moved : (z : Z) → Q next z → IsPart P Q xs ys (zs ++ z ∷ [])

  pub next_moved : (xs : List X) (ys : List Y) (y : Y) (zs : List Z) → IsPart P Q xs (ys ++ y ∷ []) zs → IsNextMoved xs ys y zs
  next_moved xs ys y zs part =
      let last = zip_last_right P part.kept ys y part.beside in
      let whole : xs ≡ last.0 ++ last.1 ∷ part.moved =
      part.whole ∙ ap (λ (l : List X). l ++ part.moved) last.2 ∙ append_assoc last.0 (last.1 ∷ []) part.moved in
      record {
        front = last.0;
        next = last.1;
        later = part.moved;
        whole = whole;
        long = zip_length P last.0 ys last.3;
        holds = last.4;
        moved = λ z one. record {
          kept = last.0;
          moved = last.1 ∷ part.moved;
          whole = whole;
          beside = last.3;
          stacked = (zs, z, refl, one, part.stacked);
        };
      }

  back_to : (xs kept moved : List X) (ys : List Y) (zs : List Z) (z : Z) (y : Y) → xs ≡ kept ++ moved → AllZip P kept ys → AllStacked Q moved (zs ++ z ∷ [])
      → ((x : X) → Q x z → P x y) → IsPart P Q xs (ys ++ y ∷ []) zs
  back_to xs kept [] ys zs z y whole beside stacked from = absurd (not_empty zs z stacked)
  back_to xs kept (x ∷ moved) ys zs z y whole beside stacked from =
      let same = one_last stacked.0 zs stacked.1 z (sym stacked.2) in
      record {
        kept = kept ++ x ∷ [];
        moved = moved;
        whole = whole ∙ sym (append_assoc kept (x ∷ []) moved);
        beside = zip_push P kept ys x y beside (from x (subst (λ (l : Z). Q x l) same.last stacked.3));
        stacked = subst (λ (l : List Z). AllStacked Q moved l) same.before stacked.4;
      }

  -- the top of the stack comes back
  pub comes_back : (xs : List X) (ys : List Y) (zs : List Z) (z : Z) (y : Y) → IsPart P Q xs ys (zs ++ z ∷ []) → ((x : X) → Q x z → P x y)
      → IsPart P Q xs (ys ++ y ∷ []) zs
  comes_back xs ys zs z y part from = back_to xs part.kept part.moved ys zs z y part.whole part.beside part.stacked from

  all_back_of : (xs kept moved : List X) (ys : List Y) → xs ≡ kept ++ moved → AllZip P kept ys → AllStacked Q moved [] → AllZip P xs ys
  all_back_of xs kept [] ys whole beside stacked = subst (λ (l : List X). AllZip P l ys) (sym (whole ∙ append-nil kept)) beside
  all_back_of xs kept (x ∷ moved) ys whole beside stacked = absurd (not_empty stacked.0 stacked.1 (sym stacked.2))

  pub all_back : (xs : List X) (ys : List Y) → IsPart P Q xs ys [] → AllZip P xs ys
  all_back xs ys part = all_back_of xs part.kept part.moved ys part.whole part.beside part.stacked

-- ---- the stack after a change of each
pub stacked_along : {X Z : Type 0} (Q : X → Z → Type 0) (R : Z → Z → Type 0) → ((x : X) (old new : Z) → Q x old → R old new → Q x new)
    → (xs : List X) (olds news : List Z) → AllStacked Q xs olds → AllZip R olds news → AllStacked Q xs news
stacked_along Q R along [] [] [] stacked zipped = refl
stacked_along Q R along [] [] (n ∷ news) stacked zipped = absurd zipped
stacked_along Q R along [] (o ∷ olds) news stacked zipped = absurd (cc)
stacked_along {X} {Z} Q R along (x ∷ xs) olds news stacked zipped =
    let last = zip_last R stacked.0 stacked.1 news (subst (λ (l : List Z). AllZip R l news) stacked.2 zipped) in
    (last.front, last.last, last.whole, along x stacked.1 last.last stacked.3 last.at_last, stacked_along Q R along xs stacked.0 last.front stacked.4 last.each)

-- what follows of each element of a stack
pub stacked_all : {X Z : Type 0} (Q : X → Z → Type 0) (P : X → Type 0) (T : Z → Type 0) → ((x : X) (z : Z) → P x → Q x z → T z)
    → (xs : List X) (zs : List Z) → All P xs → AllStacked Q xs zs → All T zs
stacked_all {X} {Z} Q P T from [] zs all stacked = subst (λ (l : List Z). All T l) (sym stacked) (All-nil T)
stacked_all {X} {Z} Q P T from (x ∷ xs) zs all stacked =
    subst (λ (l : List Z). All T l) (sym stacked.2)
    (All-append T stacked.0 (stacked.1 ∷ []) (stacked_all Q P T from xs stacked.0 (All-tail P x xs all) stacked.4)
    (All-cons T stacked.1 [] (from x stacked.1 (All-head P x xs all) stacked.3) (All-nil T)))

-- ---- lists place by place
pub zip_of : {X Y : Type 0} (R : X → Y → Type 0) (xs : List X) (ys : List Y) → length xs ≡ length ys
    → ((k : ℕ) (x : X) (y : Y) → slice_get xs k ≡ Some x → slice_get ys k ≡ Some y → R x y) → AllZip R xs ys
zip_of R [] [] long each = tt
zip_of R [] (y ∷ ys) long each = absurd (omega (arith, long))
zip_of R (x ∷ xs) [] long each = absurd (omega (arith, long))
zip_of R (x ∷ xs) (y ∷ ys) long each =
    (each 0 x y refl refl, zip_of R xs ys (omega (arith, long)) (λ k v w at beside. each (suc k) v w at beside))

pub each_of : {X Y : Type 0} (R : X → Y → Type 0) (xs : List X) (ys : List Y) → AllZip R xs ys
    → (k : ℕ) (x : X) (y : Y) → slice_get xs k ≡ Some x → slice_get ys k ≡ Some y → R x y
each_of R [] ys zipped k x y at beside = absurd (none-some x at)
each_of R (v ∷ xs) [] zipped k x y at beside = absurd zipped
each_of R (v ∷ xs) (w ∷ ys) zipped zero x y at beside =
    let first : v ≡ x = same_Some v x at in
    let second : w ≡ y = same_Some w y beside in
    subst (λ b. R x b) second (subst (λ a. R a w) first zipped.0)
each_of R (v ∷ xs) (w ∷ ys) zipped (suc k) x y at beside = each_of R xs ys zipped.1 k x y at beside

at_next : {X : Type 0} (front : List X) (next : X) (later : List X) (z : X) → z ≡ get_or (front ++ next ∷ later) (length front) z → z ≡ next
at_next [] next later z at = at
at_next (x ∷ front) next later z at = at_next front next later z at

-- the element that stands beside the last one
pub next_at : {X Y Z : Type 0} (P : X → Y → Type 0) (Q : X → Z → Type 0) (xs : List X) (ys : List Y) (y : Y) (zs : List Z) (z : X) (k : ℕ)
    → IsPart P Q xs (ys ++ y ∷ []) zs → z ≡ get_or xs k z → k ≡ length ys → P z y × ((w : Z) → Q z w → IsPart P Q xs ys (zs ++ w ∷ []))
next_at {X} {Y} {Z} P Q xs ys y zs z k part at long =
    let n = next_moved P Q xs ys y zs part in
    let place : k ≡ length n.front = long ∙ sym n.long in
    let same : z ≡ n.next = at_next n.front n.next n.later z (subst (λ (l : List X). z ≡ get_or l (length n.front) z) n.whole (subst (λ (i : ℕ). z ≡ get_or xs i z) place at)) in
    (subst (λ (x : X). P x y) (sym same) n.holds, λ w one. n.moved w (subst (λ (x : X). Q x w) same one))

pub last_length : {X : Type 0} (xs ys : List X) (y : X) → xs ≡ ys ++ y ∷ [] → length xs ≡ length ys + 1
last_length {X} xs ys y same = omega (arith, ap (λ (l : List X). length l) same, length-append ys (y ∷ []))
