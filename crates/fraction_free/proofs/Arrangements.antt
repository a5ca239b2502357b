-- Arrangements: exchanges, and one number more or less.
use Rattle.std.proofs.Common.{◌≡◌, ◌≢◌, ◌∙◌, ◌⊎◌, inl, inr, ℕ, zero, suc, ◌+◌, ◌-◌, ◌<◌, List, [], ◌∷◌, ◌++◌, length, take, get_or, sym, ap, subst, refl, arith}
use Rattle.std.proofs.lemmas.List.{get_or-take, get_or_append_left, get_or_at, length_push, length-take}
use Rattle.std.proofs.lemmas.Bool.{cases_eq}
use Rattle.std.proofs.lemmas.List.FromFn.{length-range_with_len, get_or-range_with_len}
use Rattle.std.specs.List.{range_with_len}
use Rattle.std.specs.List.{SwappedAt}
use Rattle.fraction_free.specs.Arrangement.{IsArrangement, HasPlaces}

pub arrangement_from_places : (order place : List ℕ) → HasPlaces order place → IsArrangement order
arrangement_from_places order place h = record {
  place = λ n. get_or place n 0;
  place_below = h.place_below;
  found = h.found;
  below = h.below;
  back = h.back;
}

pub swapped_tells : (order place new_order new_place : List ℕ) (p q : ℕ) → HasPlaces order place → p < length order → q < length order
    → length new_order ≡ length order → length new_place ≡ length place
    → SwappedAt order new_order p q → SwappedAt place new_place (get_or order p 0) (get_or order q 0)
    → HasPlaces new_order new_place
swapped_tells order place new_order new_place p q h p_below q_below order_len place_len o l = record {
  len = place_len ∙ h.len ∙ sym order_len;
  place_below = λ n below. subst (λ k. get_or new_place n 0 < k) (sym order_len) (place_case n (subst (λ k. n < k) order_len below)).0;
  found = λ n below. (place_case n (subst (λ k. n < k) order_len below)).1;
  below = λ at below. subst (λ k. get_or new_order at 0 < k) (sym order_len) (order_case at (subst (λ k. at < k) order_len below)).0;
  back = λ at below. (order_case at (subst (λ k. at < k) order_len below)).1;
}
  where
    a : ℕ
    a = get_or order p 0

    b : ℕ
    b = get_or order q 0

    place_case : (n : ℕ) → n < length order → (get_or new_place n 0 < length order) × (get_or new_order (get_or new_place n 0) 0 ≡ n)
    place_case n below =
        by_cases (cases_eq n a) (cases_eq n b)
      where
        at_q : (n ≡ a) → get_or new_place n 0 ≡ q
        at_q e = ap (λ k. get_or new_place k 0) e ∙ l.0 0 ∙ h.back q q_below

        at_p : (n ≡ b) → get_or new_place n 0 ≡ p
        at_p e = ap (λ k. get_or new_place k 0) e ∙ l.1 0 ∙ h.back p p_below

        by_cases : (n ≡ a) ⊎ (n ≢ a) → (n ≡ b) ⊎ (n ≢ b) → (get_or new_place n 0 < length order) × (get_or new_order (get_or new_place n 0) 0 ≡ n)
        by_cases (inl e) d = (omega (arith, at_q e), ap (λ k. get_or new_order k 0) (at_q e) ∙ o.1 0 ∙ sym e)
        by_cases (inr ne) (inl f) = (omega (arith, at_p f), ap (λ k. get_or new_order k 0) (at_p f) ∙ o.0 0 ∙ sym f)
        by_cases (inr ne) (inr nf) =
            let same : get_or new_place n 0 ≡ get_or place n 0 = l.2 n 0 ne nf in
            let not_p : get_or place n 0 ≢ p = λ e. ne (sym (h.found n below) ∙ ap (λ k. get_or order k 0) e) in
            let not_q : get_or place n 0 ≢ q = λ e. nf (sym (h.found n below) ∙ ap (λ k. get_or order k 0) e) in
            (omega (arith, same, h.place_below n below), ap (λ k. get_or new_order k 0) same ∙ o.2 (get_or place n 0) 0 not_p not_q ∙ h.found n below)

    order_case : (at : ℕ) → at < length order → (get_or new_order at 0 < length order) × (get_or new_place (get_or new_order at 0) 0 ≡ at)
    order_case at below = by_cases (cases_eq at p) (cases_eq at q)
      where
        is_b : (at ≡ p) → get_or new_order at 0 ≡ b
        is_b e = ap (λ k. get_or new_order k 0) e ∙ o.0 0

        is_a : (at ≡ q) → get_or new_order at 0 ≡ a
        is_a e = ap (λ k. get_or new_order k 0) e ∙ o.1 0

        by_cases : (at ≡ p) ⊎ (at ≢ p) → (at ≡ q) ⊎ (at ≢ q) → (get_or new_order at 0 < length order) × (get_or new_place (get_or new_order at 0) 0 ≡ at)
        by_cases (inl e) d = (omega (arith, is_b e, h.below q q_below), ap (λ k. get_or new_place k 0) (is_b e) ∙ l.1 0 ∙ h.back p p_below ∙ sym e)
        by_cases (inr ne) (inl f) = (omega (arith, is_a f, h.below p p_below), ap (λ k. get_or new_place k 0) (is_a f) ∙ l.0 0 ∙ h.back q q_below ∙ sym f)
        by_cases (inr ne) (inr nf) =
            let same : get_or new_order at 0 ≡ get_or order at 0 = o.2 at 0 ne nf in
            let not_a : get_or order at 0 ≢ a = λ e. ne (sym (h.back at below) ∙ ap (λ k. get_or place k 0) e ∙ h.back p p_below) in
            let not_b : get_or order at 0 ≢ b = λ e. nf (sym (h.back at below) ∙ ap (λ k. get_or place k 0) e ∙ h.back q q_below) in
            (omega (arith, same, h.below at below), ap (λ k. get_or new_place k 0) same ∙ l.2 (get_or order at 0) 0 not_a not_b ∙ h.back at below)

-- the next number at the end
pub pushed_tells : (order place : List ℕ) → HasPlaces order place → HasPlaces (order ++ length order ∷ []) (place ++ length order ∷ [])
pushed_tells order place h = record {
  len = length_push place n ∙ ap (λ k. k + 1) h.len ∙ sym (length_push order n);
  place_below = λ k below. omega (arith, (place_case k (cases_eq k n) (omega (arith, length_push order n))).0, length_push order n);
  found = λ k below. (place_case k (cases_eq k n) (omega (arith, length_push order n))).1;
  below = λ at below. omega (arith, (order_case at (cases_eq at n) (omega (arith, length_push order n))).0, length_push order n);
  back = λ at below. (order_case at (cases_eq at n) (omega (arith, length_push order n))).1;
}
  where
    n : ℕ
    n = length order

    last : get_or (order ++ n ∷ []) n 0 ≡ n
    last = get_or_at order n [] 0 n refl

    last_place : get_or (place ++ n ∷ []) n 0 ≡ n
    last_place = get_or_at place n [] 0 n h.len

    place_case : (k : ℕ) → (k ≡ n) ⊎ (k ≢ n) → k < n + 1 → (get_or (place ++ n ∷ []) k 0 < n + 1) × (get_or (order ++ n ∷ []) (get_or (place ++ n ∷ []) k 0) 0 ≡ k)
    place_case k (inl e) below =
        let there : get_or (place ++ n ∷ []) k 0 ≡ n = ap (λ j. get_or (place ++ n ∷ []) j 0) e ∙ last_place in
        (omega arith, ap (λ j. get_or (order ++ n ∷ []) j 0) there ∙ last ∙ sym e)
    place_case k (inr ne) below =
        let inside : k < n = omega arith in
        let there : get_or (place ++ n ∷ []) k 0 ≡ get_or place k 0 = get_or_append_left place (n ∷ []) 0 k (omega (arith, h.len)) in
        (omega (arith, h.place_below k inside), ap (λ j. get_or (order ++ n ∷ []) j 0) there ∙ get_or_append_left order (n ∷ []) 0 (get_or place k 0) (h.place_below k inside) ∙ h.found k inside)

    order_case : (at : ℕ) → (at ≡ n) ⊎ (at ≢ n) → at < n + 1 → (get_or (order ++ n ∷ []) at 0 < n + 1) × (get_or (place ++ n ∷ []) (get_or (order ++ n ∷ []) at 0) 0 ≡ at)
    order_case at (inl e) below =
        let there : get_or (order ++ n ∷ []) at 0 ≡ n = ap (λ j. get_or (order ++ n ∷ []) j 0) e ∙ last in
        (omega arith, ap (λ j. get_or (place ++ n ∷ []) j 0) there ∙ last_place ∙ sym e)
    order_case at (inr ne) below =
        let inside : at < n = omega arith in
        let there : get_or (order ++ n ∷ []) at 0 ≡ get_or order at 0 = get_or_append_left order (n ∷ []) 0 at inside in
        (omega (arith, h.below at inside), ap (λ j. get_or (place ++ n ∷ []) j 0) there ∙ get_or_append_left place (n ∷ []) 0 (get_or order at 0) (omega (arith, h.len, h.below at inside)) ∙ h.back at inside)

-- the last number gone, which stood at the end
pub popped_tells : (order place : List ℕ) → HasPlaces order place → 0 < length order → get_or order (length order - 1) 0 ≡ length order - 1
    → HasPlaces (take (length order - 1) order) (take (length place - 1) place)
popped_tells order place h some end = record {
  len = omega (arith, length-take n order, length-take (length place - 1) place, h.len);
  place_below = λ k below. omega (arith, (place_case k (omega (arith, length-take n order))).0, length-take n order);
  found = λ k below. (place_case k (omega (arith, length-take n order))).1;
  below = λ at below. omega (arith, (order_case at (omega (arith, length-take n order))).0, length-take n order);
  back = λ at below. (order_case at (omega (arith, length-take n order))).1;
}
  where
    n : ℕ
    n = length order - 1

    last_place : get_or place n 0 ≡ n
    last_place = ap (λ k. get_or place k 0) (sym end) ∙ h.back n (omega arith)

    place_taken : (k : ℕ) → k < n → get_or (take (length place - 1) place) k 0 ≡ get_or place k 0
    place_taken k below = get_or-take (length place - 1) place k 0 (omega (arith, h.len))

    order_taken : (at : ℕ) → at < n → get_or (take n order) at 0 ≡ get_or order at 0
    order_taken at below = get_or-take n order at 0 below

    place_case : (k : ℕ) → k < n → (get_or (take (length place - 1) place) k 0 < n) × (get_or (take n order) (get_or (take (length place - 1) place) k 0) 0 ≡ k)
    place_case k below =
        let inside : k < length order = omega arith in
        let not_last : get_or place k 0 ≢ n = λ e. absurd (omega (arith, sym (h.found k inside) ∙ ap (λ j. get_or order j 0) e ∙ end)) in
        let low : get_or place k 0 < n = omega (arith, h.place_below k inside) in
        (omega (arith, place_taken k below), ap (λ j. get_or (take n order) j 0) (place_taken k below) ∙ order_taken (get_or place k 0) low ∙ h.found k inside)

    order_case : (at : ℕ) → at < n → (get_or (take n order) at 0 < n) × (get_or (take (length place - 1) place) (get_or (take n order) at 0) 0 ≡ at)
    order_case at below =
        let inside : at < length order = omega arith in
        let not_last : get_or order at 0 ≢ n = λ e. absurd (omega (arith, sym (h.back at inside) ∙ ap (λ j. get_or place j 0) e ∙ last_place)) in
        let low : get_or order at 0 < n = omega (arith, h.below at inside) in
        (omega (arith, order_taken at below), ap (λ j. get_or (take (length place - 1) place) j 0) (order_taken at below) ∙ place_taken (get_or order at 0) low ∙ h.back at inside)

-- the first arrangement: 1, 2, .., and then 0
pub first_tells : (m : ℕ) → HasPlaces (range_with_len 1 m ++ 0 ∷ []) (m ∷ range_with_len 0 m)
first_tells m = record {
  len = omega (arith, length-range_with_len 0 m, order_len);
  place_below = λ n below. omega (arith, (place_case n (omega (arith, order_len))).0, order_len);
  found = λ n below. (place_case n (omega (arith, order_len))).1;
  below = λ at below. omega (arith, (order_case at (cases_eq at m) (omega (arith, order_len))).0, order_len);
  back = λ at below. (order_case at (cases_eq at m) (omega (arith, order_len))).1;
}
  where
    order_len : length (range_with_len 1 m ++ 0 ∷ []) ≡ m + 1
    order_len = length_push (range_with_len 1 m) 0 ∙ ap (λ k. k + 1) (length-range_with_len 1 m)

    last : get_or (range_with_len 1 m ++ 0 ∷ []) m 0 ≡ 0
    last = get_or_at (range_with_len 1 m) 0 [] 0 m (length-range_with_len 1 m)

    early : (at : ℕ) → at < m → get_or (range_with_len 1 m ++ 0 ∷ []) at 0 ≡ 1 + at
    early at below = get_or_append_left (range_with_len 1 m) (0 ∷ []) 0 at (omega (arith, length-range_with_len 1 m)) ∙ get_or-range_with_len 1 m at 0 below

    place_case : (n : ℕ) → n < m + 1 → (get_or (m ∷ range_with_len 0 m) n 0 < m + 1) × (get_or (range_with_len 1 m ++ 0 ∷ []) (get_or (m ∷ range_with_len 0 m) n 0) 0 ≡ n)
    place_case zero below = (omega arith, last)
    place_case (suc n) below =
        let there : get_or (range_with_len 0 m) n 0 ≡ 0 + n = get_or-range_with_len 0 m n 0 (omega arith) in
        (omega (arith, there), ap (λ k. get_or (range_with_len 1 m ++ 0 ∷ []) k 0) there ∙ early (0 + n) (omega arith) ∙ omega arith)

    back_at : (k n : ℕ) → k ≡ suc n → n < m → get_or (m ∷ range_with_len 0 m) k 0 ≡ n
    back_at k n e below = ap (λ j. get_or (m ∷ range_with_len 0 m) j 0) e ∙ get_or-range_with_len 0 m n 0 below ∙ omega arith

    order_case : (at : ℕ) → (at ≡ m) ⊎ (at ≢ m) → at < m + 1 → (get_or (range_with_len 1 m ++ 0 ∷ []) at 0 < m + 1) × (get_or (m ∷ range_with_len 0 m) (get_or (range_with_len 1 m ++ 0 ∷ []) at 0) 0 ≡ at)
    order_case at (inl e) below =
        let there : get_or (range_with_len 1 m ++ 0 ∷ []) at 0 ≡ 0 = ap (λ k. get_or (range_with_len 1 m ++ 0 ∷ []) k 0) e ∙ last in
        (omega (arith, there), ap (λ k. get_or (m ∷ range_with_len 0 m) k 0) there ∙ sym e)
    order_case at (inr ne) below =
        let there = early at (omega arith) in
        (omega (arith, there), back_at _ at (there ∙ omega arith) (omega arith))
