-- Lists of items that are written one after the other, each after a comma.
use Rattle.std.proofs.Common.{◌≡◌, ℕ, zero, suc, ◌+◌, ◌-◌, ◌*◌, ◌<◌, ◌≤◌, List, [], ◌∷◌, ◌++◌, length, take, get_or, refl, sym, ap, ◌∙◌, append_assoc, append-nil, Some, slice_get, arith}
use Rattle.std.specs.List.{flat_map}
use Rattle.std.proofs.lemmas.List.{take_more, flat_map_more}
use Rattle.std.proofs.lemmas.Option.{get_or_from_slice_get, slice_get_within}
use Rattle.std.proofs.Math.Nat.{mul-add}
use Rattle.text_fields.specs.Spelling.{listed}

-- one item more
pub others_more : {X : Type 0} (f : X → List ℕ) (xs : List X) (i : ℕ) (x : X) (begun before comma now : List ℕ) → i < length xs → x ≡ get_or xs i x
    → before ≡ begun ++ flat_map (λ y. 0x2C ∷ f y) (take i xs) → comma ≡ before ++ 0x2C ∷ [] → now ≡ comma ++ f x
    → now ≡ begun ++ flat_map (λ y. 0x2C ∷ f y) (take (i + 1) xs)
others_more f xs i x begun before comma now within is so_far separated written =
    let more : take (i + 1) xs ≡ take i xs ++ x ∷ [] = take_more xs i x within ∙ ap (λ y. take i xs ++ y ∷ []) (sym is) in
    let step : now ≡ (begun ++ flat_map (λ y. 0x2C ∷ f y) (take i xs)) ++ 0x2C ∷ f x =
    rw (written, separated, so_far) (append_assoc (begun ++ flat_map (λ y. 0x2C ∷ f y) (take i xs)) (0x2C ∷ []) (f x)) in
    step ∙ flat_map_more (λ y. 0x2C ∷ f y) begun (take i xs) x ∙ ap (λ ys. begun ++ flat_map (λ y. 0x2C ∷ f y) ys) (sym more)

-- the same of a list from its first item on
pub listed_more : {X : Type 0} (f : X → List ℕ) (xs : List X) (i : ℕ) (x : X) (begun before comma now : List ℕ) → 1 ≤ i → slice_get xs i ≡ Some x
    → before ≡ begun ++ listed f (take i xs) → comma ≡ before ++ 0x2C ∷ [] → now ≡ comma ++ f x
    → now ≡ begun ++ listed f (take (i + 1) xs)
listed_more f xs zero x begun before comma now low at so_far separated written = absurd (omega arith)
listed_more f [] (suc i) x begun before comma now low at so_far separated written = absurd cc
listed_more f (y ∷ ys) (suc i) x begun before comma now low at so_far separated written =
    let rest : now ≡ (begun ++ f y) ++ flat_map (λ z. 0x2C ∷ f z) (take (i + 1) ys) =
    others_more f ys i x (begun ++ f y) before comma now (slice_get_within ys i x at) (sym (get_or_from_slice_get ys i x x at))
    (so_far ∙ sym (append_assoc begun (f y) (flat_map (λ z. 0x2C ∷ f z) (take i ys)))) separated written in
    let next : suc i + 1 ≡ suc (i + 1) = omega arith in
    rw next (rest ∙ append_assoc begun (f y) (flat_map (λ z. 0x2C ∷ f z) (take (i + 1) ys)))

-- the first item
pub listed_first : {X : Type 0} (f : X → List ℕ) (xs : List X) (x : X) (begun now : List ℕ) → slice_get xs 0 ≡ Some x → now ≡ begun ++ f x
    → now ≡ begun ++ listed f (take 1 xs)
listed_first f [] x begun now at written = absurd cc
listed_first f (y ∷ ys) x begun now at written =
    let same : y ≡ x = cc in
    written ∙ ap (λ z. begun ++ f z) (sym same) ∙ ap (λ text. begun ++ text) (sym (append-nil (f y)))

pub item_here : {X : Type 0} (xs : List X) (i : ℕ) (x : X) → slice_get xs (i + 1 - 1) ≡ Some x → slice_get xs i ≡ Some x
item_here xs i x at = let same : i + 1 - 1 ≡ i = omega arith in rw same at at

pub room_more : (longest i a b c d : ℕ) → b ≤ a + (longest + 1) * i → c ≡ b + 1 → d ≤ c + longest → d ≤ a + (longest + 1) * (i + 1)
room_more longest i a b c d so_far separated written = omega (arith, so_far, separated, written, mul-add (longest + 1) i 1)

-- the parts of an eliminate line
pub elimination_steps : (old word worker blank pair side combination p q r s t u v now : List ℕ) → p ≡ old ++ word → q ≡ p ++ worker → r ≡ q ++ blank
    → s ≡ r ++ pair → t ≡ s ++ blank → u ≡ t ++ side → v ≡ u ++ blank → now ≡ v ++ combination
    → now ≡ old ++ (word ++ worker ++ blank ++ (pair ++ blank ++ side) ++ blank ++ combination)
elimination_steps old word worker blank pair side combination p q r s t u v now ep eq er es et eu ev en =
    rw (en, ev, eu, et, es, er, eq, ep) (simp (append_assoc) refl)

-- the first two lines of a result
pub heading_steps : (old first word levels blank degree ends p q r s now : List ℕ) → p ≡ old ++ (first ++ ends ++ word) → q ≡ p ++ levels → r ≡ q ++ blank
    → s ≡ r ++ degree → now ≡ s ++ ends → now ≡ old ++ (first ++ (ends ++ ((word ++ levels ++ blank ++ degree) ++ ends)))
heading_steps old first word levels blank degree ends p q r s now ep eq er es en = rw (en, es, er, eq, ep) (simp (append_assoc) refl)
