-- Lists of which the first elements were changed, and stacks that lose their tops.
use Rattle.std.specs.Prelude.{get_or}
use Rattle.std.proofs.Common.{◌≡◌, ℕ, ◌+◌, ◌<◌, List, [], ◌∷◌, ◌++◌, length, slice_set, refl, ap, sym, ◌∙◌, arith, append_assoc, append-nil, length-append, subst}
use Rattle.result_file.proofs.ListEnds.{snoc_once}
use Rattle.survey_run.specs.Each.{EachFrom, EachZipFrom, StackFrom}
use Rattle.survey_run.proofs.EachLemmas.{zip_push, zip_length}

-- the first `count` elements were changed, and the rest not
pub record IsChangedTo {X : Type 0} (P : ℕ → X → X → Type 0) (Q : ℕ → X → Type 0) (count : ℕ) (old new : List X) : Type 0 where
  pub front : List X
  pub changed : List X
  pub rest : List X
  pub was : old ≡ front ++ rest
  pub now : new ≡ changed ++ rest
  pub long : length changed ≡ count
  pub each : EachZipFrom P 0 front changed
  pub left : EachFrom Q count rest

pub get_past : {X : Type 0} (xs : List X) (y : X) (ys : List X) (d : X) → get_or (xs ++ y ∷ ys) (length xs) d ≡ y
get_past [] y ys d = refl
get_past (x ∷ xs) y ys d = get_past xs y ys d

pub set_past : {X : Type 0} (xs : List X) (y : X) (ys : List X) (z : X) → slice_set (xs ++ y ∷ ys) (length xs) z ≡ xs ++ z ∷ ys
set_past [] y ys z = refl
set_past (x ∷ xs) y ys z = ap (λ zs. x ∷ zs) (set_past xs y ys z)

pub none_changed : {X : Type 0} (P : ℕ → X → X → Type 0) (Q : ℕ → X → Type 0) (xs : List X) → EachFrom Q 0 xs → IsChangedTo P Q 0 xs xs
none_changed P Q xs left = record { front = []; changed = []; rest = xs; was = refl; now = refl; long = refl; each = tt; left = left }

next_of : {X : Type 0} (Q : ℕ → X → Type 0) (i : ℕ) (new changed rest : List X) (x : X) → new ≡ changed ++ rest → length changed ≡ i → EachFrom Q i rest
    → i < length new → x ≡ get_or new i x → Q i x
next_of Q i new changed [] x now long left less is =
    let a : length new ≡ length changed = ap {B = ℕ} length (now ∙ append-nil changed) in absurd (omega (arith, a, long, less))
next_of Q i new changed (z ∷ zs) x now long left less is =
    let same : x ≡ z = is ∙ (ap (λ us. get_or us i x) now ∙ (ap (λ (k : ℕ). get_or (changed ++ z ∷ zs) k x) (sym long) ∙ get_past changed z zs x)) in
    subst (λ u. Q i u) (sym same) left.0

-- the next element has not been changed
pub next_left : {X : Type 0} (P : ℕ → X → X → Type 0) (Q : ℕ → X → Type 0) (i : ℕ) (old new : List X) (x : X) → IsChangedTo P Q i old new
    → i < length new → x ≡ get_or new i x → Q i x
next_left P Q i old new x part less is = next_of Q i new part.changed part.rest x part.now part.long part.left less is

more_of : {X : Type 0} (P : ℕ → X → X → Type 0) (Q : ℕ → X → Type 0) (i : ℕ) (old new front changed rest : List X) (x y : X) → old ≡ front ++ rest → new ≡ changed ++ rest
    → length changed ≡ i → EachZipFrom P 0 front changed → EachFrom Q i rest → i < length new → x ≡ get_or new i x → P i x y
    → IsChangedTo P Q (i + 1) old (slice_set new i y)
more_of P Q i old new front changed [] x y was now long each left less is p =
    let a : length new ≡ length changed = ap {B = ℕ} length (now ∙ append-nil changed) in absurd (omega (arith, a, long, less))
more_of P Q i old new front changed (z ∷ zs) x y was now long each left less is p =
    let same : x ≡ z = is ∙ (ap (λ us. get_or us i x) now ∙ (ap (λ (k : ℕ). get_or (changed ++ z ∷ zs) k x) (sym long) ∙ get_past changed z zs x)) in
    let fronts = zip_length P 0 front changed each in
    let place : 0 + length front ≡ i = omega (arith, fronts, long) in
    record {
      front = front ++ z ∷ [];
      changed = changed ++ y ∷ [];
      rest = zs;
      was = was ∙ sym (append_assoc front (z ∷ []) zs);
      now = ap (λ us. slice_set us i y) now ∙ (ap (λ (k : ℕ). slice_set (changed ++ z ∷ zs) k y) (sym long) ∙ (set_past changed z zs y ∙ sym (append_assoc changed (y ∷ []) zs)));
      long = length-append changed (y ∷ []) ∙ ap {B = ℕ} (λ k. k + 1) long;
      each = zip_push P 0 i front changed z y place each (subst (λ u. P i u y) same p);
      left = left.1;
    }

-- one more is changed
pub one_more_changed : {X : Type 0} (P : ℕ → X → X → Type 0) (Q : ℕ → X → Type 0) (i : ℕ) (old new : List X) (x y : X) → IsChangedTo P Q i old new
    → i < length new → x ≡ get_or new i x → P i x y → IsChangedTo P Q (i + 1) old (slice_set new i y)
one_more_changed P Q i old new x y part less is p = more_of P Q i old new part.front part.changed part.rest x y part.was part.now part.long part.each part.left less is p

pub changed_length : {X : Type 0} (P : ℕ → X → X → Type 0) (Q : ℕ → X → Type 0) (i : ℕ) (old new : List X) → IsChangedTo P Q i old new → length new ≡ length old
changed_length P Q i old new part =
    let a = ap {B = ℕ} length part.was ∙ length-append part.front part.rest in
    let b = ap {B = ℕ} length part.now ∙ length-append part.changed part.rest in
    let fronts = zip_length P 0 part.front part.changed part.each in
    omega (arith, a, b, fronts)

-- ---- tops
-- what a stack has on top
pub stack_top : {X Y : Type 0} (P : ℕ → X → Y → Type 0) (n : ℕ) (x : X) (xs : List X) (ys left : List Y) (y : Y) → StackFrom P n (x ∷ xs) ys → ys ≡ left ++ y ∷ []
    → P n x y × StackFrom P (n + 1) xs left
stack_top P n x xs ys left y stack e =
    let same = snoc_once stack.0 stack.1 left y (sym stack.2 ∙ e) in
    (subst (λ z. P n x z) same.1 stack.3, subst (λ zs. StackFrom P (n + 1) xs zs) same.0 stack.4)

pub each_map : {X : Type 0} (P Q : ℕ → X → Type 0) (n : ℕ) (xs : List X) → ((k : ℕ) (x : X) → P k x → Q k x) → EachFrom P n xs → EachFrom Q n xs
each_map P Q n [] f each = tt
each_map P Q n (x ∷ xs) f each = (f n x each.0, each_map P Q (n + 1) xs f each.1)

-- a fact of each element, and what each became
pub each_became : {X : Type 0} (P Q : ℕ → X → Type 0) (R : ℕ → X → X → Type 0) (n : ℕ) (old new : List X) → ((k : ℕ) (x y : X) → P k x → R k x y → Q k y)
    → EachFrom P n old → EachZipFrom R n old new → EachFrom Q n new
each_became P Q R n [] [] f each became = tt
each_became P Q R n [] (y ∷ ys) f each became = absurd became
each_became P Q R n (x ∷ xs) [] f each became = absurd became
each_became P Q R n (x ∷ xs) (y ∷ ys) f each became = (f n x y each.0 became.0, each_became P Q R (n + 1) xs ys f each.1 became.1)
