-- The tails that the walk lists, one by one.
use Rattle.std.proofs.Common.{◌≡◌, ◌≢◌, ◌⊎◌, inl, inr, ℕ, zero, suc, ◌-◌, ◌≤◌, List, [], ◌∷◌, Option, Some, None, refl, sym, subst, arith}
use Rattle.std.specs.List.{range_with_len}
use Rattle.std.specs.Option.{option_map_or}
use Rattle.pair_enumeration.specs.declared.walks.Stage.{Stage}
use Rattle.pair_enumeration.specs.declared.walks.Stage.TheVariants.{Same, Left, Both}
use Rattle.pair_enumeration.specs.Walks.{stage_after, Tail, with_levels, option_tails, row_tails, differing_tails, tails}
use Rattle.pair_enumeration.proofs.Members.{Among, among-append, among-append_left, among-append_right, among-map, among-map_in, among-flat_map, among-flat_map_in, among-range, among-range_in}

-- a criterion of n levels on which the sides differ, after which the walk is at the stage `next`
pub record Differs (n : ℕ) (d : ℕ) (stage next : Stage) (p : ℕ × ℕ) : Type 0 where
  pub rest : 1 ≤ d
  pub left_low : 1 ≤ p.0
  pub left_high : p.0 ≤ n
  pub right_low : 1 ≤ p.1
  pub right_high : p.1 ≤ n
  pub after : stage_after stage p.0 p.1 ≡ Some next

-- a tail over criteria of these level counts, with d differences, that ends where each side is higher somewhere
abbrev pub IsTail : List ℕ → ℕ → Stage → Tail → Type 0
IsTail [] d stage [] = (d ≡ 0) × (stage ≡ Both)
IsTail [] d stage (p ∷ tail) = ⊥
IsTail (n ∷ levels) d stage [] = ⊥
IsTail (n ∷ levels) d stage (p ∷ tail) =
    ((p ≡ (0, 0)) × IsTail levels d stage tail) ⊎ ((next : Stage) × Differs n d stage next p × IsTail levels (d - 1) next tail)

-- ---- each listed tail is one
pub option_found : (rest : Stage → List Tail) (o : Option Stage) (l r : ℕ) (t : Tail) → Among t (option_map_or (λ next. with_levels l r (rest next)) o [])
    → (next : Stage) × (o ≡ Some next) × ((u : Tail) × Among u (rest next) × ((l, r) ∷ u ≡ t))
option_found rest None l r t h = absurd h
option_found rest (Some next) l r t h = (next, refl, among-map (λ tail. (l, r) ∷ tail) t (rest next) h)

pub differing_found : (rest : Stage → List Tail) (stage : Stage) (n : ℕ) (t : Tail) → Among t (differing_tails rest stage n)
    → (l r : ℕ) × (next : Stage) × Differs n 1 stage next (l, r) × ((u : Tail) × Among u (rest next) × ((l, r) ∷ u ≡ t))
differing_found rest stage n t h =
    let a = among-flat_map (row_tails rest stage n) t (range_with_len 1 n) h in
    let b = among-flat_map (option_tails rest stage a.0) t (range_with_len 1 n) a.2 in
    let l = among-range a.0 1 n a.1 in
    let r = among-range b.0 1 n b.1 in
    let o = option_found rest (stage_after stage a.0 b.0) a.0 b.0 t b.2 in
    (a.0, b.0, o.0, record { rest = omega arith; left_low = l.0; left_high = omega (arith, l.1); right_low = r.0; right_high = omega (arith, r.1); after = o.1 }, o.2)

more_rest : (n d : ℕ) (stage next : Stage) (p : ℕ × ℕ) → Differs n 1 stage next p → Differs n (suc d) stage next p
more_rest n d stage next p h = record { rest = omega arith; left_low = h.left_low; left_high = h.left_high; right_low = h.right_low; right_high = h.right_high; after = h.after }

pub tails_are : (levels : List ℕ) (d : ℕ) (stage : Stage) (t : Tail) → Among t (tails levels d stage) → IsTail levels d stage t
tails_are [] zero Same t h = absurd h
tails_are [] zero Left t h = absurd h
tails_are [] zero Both t (inl e) = subst (IsTail [] 0 Both) e (refl, refl)
tails_are [] zero Both t (inr h) = absurd h
tails_are [] (suc d) stage t h = absurd h
tails_are (n ∷ levels) zero stage t h =
    let a = among-map (λ tail. (0, 0) ∷ tail) t (tails levels 0 stage) h in
    subst (IsTail (n ∷ levels) 0 stage) a.2 (inl (refl, tails_are levels 0 stage a.0 a.1))
tails_are (n ∷ levels) (suc d) stage t h =
    elim (among-append t (differing_tails (λ next. tails levels d next) stage n) (with_levels 0 0 (tails levels (suc d) stage)) h) [
      | inl a ↦
          let f = differing_found (λ next. tails levels d next) stage n t a in
          let e : suc d - 1 ≡ d = omega arith in
          subst (IsTail (n ∷ levels) (suc d) stage) f.4.2
          (inr (f.2, more_rest n d stage f.2 (f.0, f.1) f.3, subst (λ k. IsTail levels k f.2 f.4.0) (sym e) (tails_are levels d f.2 f.4.0 f.4.1)))
      | inr b ↦
          let a = among-map (λ tail. (0, 0) ∷ tail) t (tails levels (suc d) stage) b in
          subst (IsTail (n ∷ levels) (suc d) stage) a.2 (inl (refl, tails_are levels (suc d) stage a.0 a.1))
    ]

-- ---- each tail is listed
option_lists : (rest : Stage → List Tail) (o : Option Stage) (next : Stage) (l r : ℕ) (u : Tail) → o ≡ Some next → Among u (rest next)
    → Among ((l, r) ∷ u) (option_map_or (λ next. with_levels l r (rest next)) o [])
option_lists rest o next l r u e h =
    subst (λ v. Among ((l, r) ∷ u) (option_map_or (λ next. with_levels l r (rest next)) v [])) (sym e) (among-map_in (λ tail. (l, r) ∷ tail) u (rest next) h)

differing_lists : (rest : Stage → List Tail) (stage next : Stage) (n d : ℕ) (p : ℕ × ℕ) (u : Tail) → Differs n d stage next p → Among u (rest next)
    → Among (p ∷ u) (differing_tails rest stage n)
differing_lists rest stage next n d p u h m =
    among-flat_map_in (row_tails rest stage n) p.0 (p ∷ u) (range_with_len 1 n) (among-range_in p.0 1 n h.left_low (omega (arith, h.left_high)))
    (among-flat_map_in (option_tails rest stage p.0) p.1 (p ∷ u) (range_with_len 1 n) (among-range_in p.1 1 n h.right_low (omega (arith, h.right_high)))
    (option_lists rest (stage_after stage p.0 p.1) next p.0 p.1 u h.after m))

same_is_not_both : Same ≢ Both
same_is_not_both e = cc

left_is_not_both : Left ≢ Both
left_is_not_both e = cc

pub tails_all : (levels : List ℕ) (d : ℕ) (stage : Stage) (t : Tail) → IsTail levels d stage t → Among t (tails levels d stage)
tails_all [] zero Both [] h = inl refl
tails_all [] zero Same [] h = absurd (same_is_not_both h.1)
tails_all [] zero Left [] h = absurd (left_is_not_both h.1)
tails_all [] (suc d) stage [] h = absurd (omega (arith, h.0))
tails_all [] d stage (p ∷ t) h = absurd h
tails_all (n ∷ levels) d stage [] h = absurd h
tails_all (n ∷ levels) zero stage (p ∷ t) (inl h) = subst (λ q. Among (q ∷ t) (with_levels 0 0 (tails levels 0 stage))) (sym h.0) (among-map_in (λ tail. (0, 0) ∷ tail) t (tails levels 0 stage) (tails_all levels 0 stage t h.1))
tails_all (n ∷ levels) zero stage (p ∷ t) (inr h) = absurd (omega (arith, h.1.rest))
tails_all (n ∷ levels) (suc d) stage (p ∷ t) (inl h) =
    subst (λ q. Among (q ∷ t) (tails (n ∷ levels) (suc d) stage)) (sym h.0)
    (among-append_right ((0, 0) ∷ t) (differing_tails (λ next. tails levels d next) stage n) (with_levels 0 0 (tails levels (suc d) stage))
    (among-map_in (λ tail. (0, 0) ∷ tail) t (tails levels (suc d) stage) (tails_all levels (suc d) stage t h.1)))
tails_all (n ∷ levels) (suc d) stage (p ∷ t) (inr h) =
    let e : suc d - 1 ≡ d = omega arith in
    among-append_left (p ∷ t) (differing_tails (λ next. tails levels d next) stage n) (with_levels 0 0 (tails levels (suc d) stage))
    (differing_lists (λ next. tails levels d next) stage h.0 n (suc d) p t h.1 (tails_all levels d h.0 t (subst (λ k. IsTail levels k h.0 t) e h.2)))
