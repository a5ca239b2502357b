-- A test of two models tells whether they are the same.
use Rattle.std.proofs.Common.{◌≡◌, ℕ, ◌-◌, Bool, true, false, List, ◌++◌, length, take, refl, ap, sym, ◌∙◌}
use Rattle.std.specs.Prelude.{◌&&◌, nat_eq, replicate}
use Rattle.std.specs.Cmp.Lexicographic.{pointwise, same_text}
use Rattle.std.proofs.Math.Seq.{take-append_seam}
use Rattle.std.proofs.lemmas.Bool.{eqb-true}
use Rattle.row_laws.specs.Padded.{padded}
use Rattle.criteria_model.specs.Criteria.{Criteria}

both : (a b : Bool) → (a && b) ≡ true → (a ≡ true) × (b ≡ true)
both true true h = (refl, refl)
both true false h = (refl, h)
both false b h = (h, cc)

-- lists of one length are the same where they are so with what fills their cells
same_padded : (size : ℕ) (xs ys : List ℕ) → length xs ≡ length ys → padded size 0 xs ≡ padded size 0 ys → xs ≡ ys
same_padded size xs ys long same =
    sym (take-append_seam xs (replicate (size - length xs) 0))
    ∙ ap (λ (l : List ℕ). take (length xs) l) same
    ∙ ap (λ (n : ℕ). take n (ys ++ replicate (size - length ys) 0)) long
    ∙ take-append_seam ys (replicate (size - length ys) 0)

pub same_model : (one other : Criteria) (others : Bool)
    → ((pointwise nat_eq (padded 24 0 one.levels) (padded 24 0 other.levels) && nat_eq (length one.levels) (length other.levels)) && (nat_eq one.degree other.degree && others)) ≡ true
    → one ≡ other
same_model one other others told =
    let first = both (pointwise nat_eq (padded 24 0 one.levels) (padded 24 0 other.levels) && nat_eq (length one.levels) (length other.levels)) (nat_eq one.degree other.degree && others) told in
    let lists = both (pointwise nat_eq (padded 24 0 one.levels) (padded 24 0 other.levels)) (nat_eq (length one.levels) (length other.levels)) first.0 in
    let degrees = both (nat_eq one.degree other.degree) others first.1 in
    let levels : one.levels ≡ other.levels =
    same_padded 24 one.levels other.levels (eqb-true (length one.levels) (length other.levels) lists.1) (same_text (padded 24 0 one.levels) (padded 24 0 other.levels) (sym lists.0)) in
    let degree : one.degree ≡ other.degree = eqb-true one.degree other.degree degrees.0 in
    ap (λ (l : List ℕ). record { levels = l; degree = one.degree }) levels ∙ ap (λ (n : ℕ). record { levels = other.levels; degree = n }) degree
