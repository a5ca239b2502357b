-- A first place is that of a mark that passes, where none before it does.
use Rattle.std.proofs.Common.{◌≡◌, ℕ, zero, suc, ◌+◌, ◌-◌, ◌<◌, Bool, true, false, not, ◌||◌, ◌==◌, cond, nat_lt, IsFalse, List, [], ◌∷◌, length, get_or, set, slice_get, Some, None, All, MatchOption, refl, ap, sym, ◌∙◌, eq-eqb, arith}
use Rattle.std.specs.List.{position_or_len}
use Rattle.std.specs.Option.{option_map}
use Rattle.std.proofs.lemmas.Bool.Decides.{nat_tests}
use Rattle.std.proofs.lemmas.List.Sums.{fails_before_first, passes_at_first}
use Rattle.question_queue.specs.declared.marks.Mark.{Mark}
use Rattle.question_queue.specs.Pools.{new_mark, is_job, as_given, given_out}
use Rattle.question_queue.specs.Laws.{IsFirstPlace, FirstPlacesAreFirst, JobsAreGivenOnce}
use Rattle.question_queue.proofs.Places.{item_at}
use Rattle.question_queue.proofs.PoolLaws.{inside, given_out_is}

-- what is at a place where an item is
same_item : (marks : List Mark) (i : ℕ) (mark : Mark) → slice_get marks i ≡ Some mark → get_or marks i new_mark ≡ mark
same_item marks i mark at = let found = item_at marks i new_mark (inside marks i mark at) in cc

pub first_places_are_first : FirstPlacesAreFirst
first_places_are_first test marks = by (nat_lt (position_or_len test marks) (length marks)) refl
  where
    first : position_or_len test marks < length marks → IsFirstPlace test marks (position_or_len test marks + 1)
    first l = let before = position_or_len test marks in record {
      low = omega arith;
      high = omega arith;
      passes = λ mark at.
          let e : before + 1 - 1 ≡ before = omega arith in
          ap test (sym (same_item marks before mark (ap (slice_get marks) (sym e) ∙ at))) ∙ passes_at_first test marks new_mark l;
      earlier = λ k mark less at. ap test (sym (same_item marks k mark at)) ∙ fails_before_first test marks k new_mark (omega arith);
    }

    by : (b : Bool) → nat_lt (position_or_len test marks) (length marks) ≡ b
        → MatchOption (option_map (λ before. before + 1) (cond b (Some (position_or_len test marks)) None)) (All (λ mark. IsFalse (test mark)) marks) (λ place. IsFirstPlace test marks place)
    by true e = first (grind (arith, nat_tests))
    by false e = λ k d l. fails_before_first test marks k d (grind (arith, nat_tests))

set_here : (marks : List Mark) (i : ℕ) (mark : Mark) → i < length marks → slice_get (set marks i mark) i ≡ Some mark
set_here [] i mark l = absurd (omega arith)
set_here (x ∷ marks) zero mark l = refl
set_here (x ∷ marks) (suc i) mark l = set_here marks i mark (omega arith)

given_is_none : (version : ℕ) (mark : Mark) → is_job version (as_given version mark) ≡ false
given_is_none version mark = by mark.ranked (version == version) (eq-eqb version version refl)
  where
    by : (a b : Bool) → b ≡ true → not (a || b) ≡ false
    by true b e = refl
    by false b e = ap not e

pub jobs_are_given_once : JobsAreGivenOnce
jobs_are_given_once version marks place mark is at = by (nat_lt (position_or_len (is_job version) marks) (length marks)) refl is
  where
    first : position_or_len (is_job version) marks < length marks → place ≡ position_or_len (is_job version) marks + 1 → IsFalse (is_job version mark)
    first l e =
        let i = position_or_len (is_job version) marks in
        let was = get_or marks i new_mark in
        let given = given_out_is version marks i was refl (item_at marks i new_mark l) in
        let here : place - 1 ≡ i = omega arith in
        let found : Some mark ≡ Some (as_given version was) =
        sym at ∙ ap (slice_get (given_out version marks)) here ∙ ap (λ xs. slice_get xs i) (sym given) ∙ set_here marks i (as_given version was) l in
        let same : mark ≡ as_given version was = cc in ap (is_job version) same ∙ given_is_none version was

    by : (b : Bool) → nat_lt (position_or_len (is_job version) marks) (length marks) ≡ b
        → option_map (λ before. before + 1) (cond b (Some (position_or_len (is_job version) marks)) None) ≡ Some place → IsFalse (is_job version mark)
    by true e some = let same : place ≡ position_or_len (is_job version) marks + 1 = cc in first (grind (arith, nat_tests)) same
    by false e some = absurd cc
