-- The compact text of an array, item after item.
use Rattle.std.proofs.Common.{◌≡◌, ℕ, suc, ◌+◌, ◌*◌, ◌<◌, ◌≤◌, List, [], ◌∷◌, ◌++◌, length, map, take, get_or, Bool, true, false, nat_lt, refl, sym, ap, ◌∙◌, subst, append_assoc, append-nil, arith}
use Rattle.std.specs.List.{range_with_len}
use Rattle.std.proofs.lemmas.Bool.Decides.{nat_tests}
use Rattle.std.proofs.lemmas.List.{take_more, length-take-le, length-map, map-append}
use Rattle.std.proofs.lemmas.List.FromFn.{map-range_with_len_more, length-map-range_with_len}
use Rattle.std.proofs.Math.Nat.{mul-add}
use Rattle.serde_json.specs.Data.{Data}
use Rattle.serde_json.specs.View.{items_of}
use Rattle.serde_json.specs.Written.{compact_text, comma_if, items_text}

-- the text of items, without the closing bracket
abbrev pub front : Bool → List Data → List ℕ
front later [] = []
front later (d ∷ ds) = comma_if later ++ (compact_text d ++ front true ds)

items_text-front : (later : Bool) (ds : List Data) → items_text later (items_of ds) ≡ front later ds ++ 93 ∷ []
items_text-front later [] = refl
items_text-front later (d ∷ ds) =
    ap (λ rest. comma_if later ++ (compact_text d ++ rest)) (items_text-front true ds)
    ∙ ap (λ rest. comma_if later ++ rest) (sym (append_assoc (compact_text d) (front true ds) (93 ∷ [])))
    ∙ sym (append_assoc (comma_if later) (compact_text d ++ front true ds) (93 ∷ []))

front-later : (ds : List Data) (d : Data) → front true (ds ++ d ∷ []) ≡ front true ds ++ (comma_if true ++ compact_text d)
front-later [] d = rw (append-nil (compact_text d)) refl
front-later (e ∷ ds) d = rw (front-later ds d) (simp (append_assoc) refl)

nonempty : (n : ℕ) → nat_lt 0 (suc n) ≡ true
nonempty n = grind (arith, nat_tests)

front-more : (ds : List Data) (d : Data) → front false (ds ++ d ∷ []) ≡ front false ds ++ (comma_if (nat_lt 0 (length ds)) ++ compact_text d)
front-more [] d = rw (append-nil (compact_text d)) refl
front-more (e ∷ ds) d = rw (front-later ds d, nonempty (length ds)) (simp (append_assoc) refl)

-- the step of a loop that writes one item more
front_step : (ds : List Data) (d : Data) (n : ℕ) (begun before comma now : List ℕ) → length ds ≡ n
    → before ≡ begun ++ front false ds → comma ≡ before ++ comma_if (nat_lt 0 n) → now ≡ comma ++ compact_text d
    → now ≡ begun ++ front false (ds ++ d ∷ [])
front_step ds d n begun before comma now count so_far separated written =
    rw (front-more ds d, count, written, separated, so_far) (simp (append_assoc) refl)

pub array_more : {X : Type 0} (f : X → Data) (xs : List X) (i : ℕ) (x : X) (begun before comma now : List ℕ) → i < length xs → x ≡ get_or xs i x
    → before ≡ begun ++ front false (map f (take i xs)) → comma ≡ before ++ comma_if (nat_lt 0 i) → now ≡ comma ++ compact_text (f x)
    → now ≡ begun ++ front false (map f (take (i + 1) xs))
array_more f xs i x begun before comma now within is so_far separated written =
    let more = take_more xs i x within ∙ ap (λ y. take i xs ++ y ∷ []) (sym is) in
    let P : List Data → Type 0 = λ ds. now ≡ begun ++ front false ds in
    subst P (sym (ap (map f) more ∙ map-append f (take i xs) (x ∷ [])))
    (front_step (map f (take i xs)) (f x) i begun before comma now (length-map (take i xs) f ∙ length-take-le i xs (omega arith)) so_far separated written)

pub range_more : (f : ℕ → Data) (k : ℕ) (begun before comma now : List ℕ)
    → before ≡ begun ++ front false (map f (range_with_len 1 k)) → comma ≡ before ++ comma_if (nat_lt 0 k) → now ≡ comma ++ compact_text (f (k + 1))
    → now ≡ begun ++ front false (map f (range_with_len 1 (k + 1)))
range_more f k begun before comma now so_far separated written =
    let P : List Data → Type 0 = λ ds. now ≡ begun ++ front false ds in
    subst P (sym (map-range_with_len_more f 1 k (k + 1) (omega arith)))
    (front_step (map f (range_with_len 1 k)) (f (k + 1)) k begun before comma now (length-map-range_with_len f 1 k) so_far separated written)

-- the end of the loop
pub array_end : (ds : List Data) (old begun written now : List ℕ) → begun ≡ old ++ 91 ∷ [] → written ≡ begun ++ front false ds → now ≡ written ++ 93 ∷ []
    → now ≡ old ++ 91 ∷ items_text false (items_of ds)
array_end ds old begun written now opened so_far closed =
    rw (items_text-front false ds, closed, so_far, opened) (simp (append_assoc) refl)

pub room_more : (longest i a b c d : ℕ) → b ≤ a + (longest + 1) * i → c ≤ b + 1 → d ≤ c + longest → d ≤ a + (longest + 1) * (i + 1)
room_more longest i a b c d so_far separated written = omega (arith, so_far, separated, written, mul-add (longest + 1) i 1)
