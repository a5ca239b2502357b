-- Parts of a buffer.
use Rattle.std.proofs.Common.{◌≡◌, ℕ, ◌+◌, ◌-◌, ◌≤◌, List, ◌++◌, length, take, drop, slice_range, sym, ap, ◌∙◌, arith}
use Rattle.std.proofs.lemmas.List.{drop-drop, drop-take, length-take, length-take-le, take-append-drop, take-take, take_at, take_rest}

-- a part without its first n items
pub slice_range-drop : (s : List ℕ) (a n e : ℕ) → a + n ≤ e → slice_range s (a + n) e ≡ drop n (slice_range s a e)
slice_range-drop s a n e h =
    let m : e - a ≡ n + (e - (a + n)) = omega arith in
    sym (ap (λ k. drop n (take k (drop a s))) m ∙ drop-take n (e - (a + n)) (drop a s) ∙ ap (take (e - (a + n))) (drop-drop n a s))

-- the first k + n items are the first k and the n after them
pub take-add : (s : List ℕ) (k n : ℕ) → take (k + n) s ≡ take k s ++ take n (drop k s)
take-add s k n =
    let le : k ≤ k + n = omega arith in
    sym (take-append-drop k (take (k + n) s)) ∙ ap (λ x. x ++ drop k (take (k + n) s)) (take-take k (k + n) s le) ∙ ap (λ x. take k s ++ x) (drop-take k n s)

-- what was copied to the front of a buffer, and then the bytes not given yet, are the bytes before
pub given_and_rest : (bytes seen tail copied : List ℕ) (given n : ℕ)
    → seen ≡ bytes
    → copied ≡ take n (take (length seen - given) (drop given seen))
    → n ≤ length (take (length seen - given) (drop given seen))
    → take n (copied ++ tail) ++ drop (given + n) bytes ≡ drop given bytes
given_and_rest bytes seen tail copied given n same is le =
    let rest : take (length seen - given) (drop given seen) ≡ drop given bytes = take_rest seen given ∙ ap (drop given) same in
    let part : copied ≡ take n (drop given bytes) = is ∙ ap (take n) rest in
    let fits : n ≤ length (drop given bytes) = omega (arith, ap length rest) in
    let len : length copied ≡ n = ap length part ∙ length-take-le n (drop given bytes) fits in
    ap (λ x. x ++ drop (given + n) bytes) (take_at copied tail n len ∙ part) ∙ ap (λ x. take n (drop given bytes) ++ x) (sym (drop-drop n given bytes)) ∙ take-append-drop n (drop given bytes)

-- what was copied to the front of a buffer from a part, and then the rest of the part
pub part_and_rest : (bytes seen tail copied : List ℕ) (start end n : ℕ)
    → seen ≡ bytes
    → copied ≡ take n (slice_range seen start end)
    → n ≤ length (slice_range seen start end)
    → start ≤ end
    → take n (copied ++ tail) ++ slice_range bytes (start + n) end ≡ slice_range bytes start end
part_and_rest bytes seen tail copied start end n same is le order =
    let range : slice_range seen start end ≡ slice_range bytes start end = ap (λ (s : List ℕ). slice_range s start end) same in
    let part : copied ≡ take n (slice_range bytes start end) = is ∙ ap (take n) range in
    let within : n ≤ length (slice_range bytes start end) = omega (arith, ap length range) in
    let fits : start + n ≤ end = omega (arith, length-take (end - start) (drop start bytes)) in
    let len : length copied ≡ n = ap length part ∙ length-take-le n (slice_range bytes start end) within in
    ap (λ x. x ++ slice_range bytes (start + n) end) (take_at copied tail n len ∙ part) ∙ ap (λ x. take n (slice_range bytes start end) ++ x) (slice_range-drop bytes start n end fits) ∙ take-append-drop n (slice_range bytes start end)
