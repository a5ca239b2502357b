use Rattle.std.proofs.Common.{◌≡◌, ℕ, List, ◌++◌, ◌∷◌, [], ◌+◌, ◌-◌, Some, take, ap₂, sym, subst, ◌∙◌, arith}
use Rattle.std.specs.Prelude.{slice_get}
use Rattle.std.proofs.lemmas.List.{take_more}
use Rattle.std.proofs.lemmas.Option.{get_or_from_slice_get, slice_get_within}
use Rattle.decider.proofs.witnesses.has_same_levels.Goals as goal

-- one level more
same_more : (one other : List ℕ) (at first second : ℕ) → slice_get one (at + 1 - 1) ≡ Some first → slice_get other (at + 1 - 1) ≡ Some second → first ≡ second
    → take at one ≡ take at other → take (at + 1) one ≡ take (at + 1) other
same_more one other at first second first_is second_is same before =
    let here : at + 1 - 1 ≡ at = omega arith in
    let f : slice_get one at ≡ Some first = subst (λ (k : ℕ). slice_get one k ≡ Some first) here first_is in
    let g : slice_get other at ≡ Some second = subst (λ (k : ℕ). slice_get other k ≡ Some second) here second_is in
    take_more one at 0 (slice_get_within one at first f)
    ∙ ap₂ (λ (l : List ℕ) (n : ℕ). l ++ n ∷ []) before (get_or_from_slice_get one at first 0 f ∙ same ∙ sym (get_or_from_slice_get other at second 0 g))
    ∙ sym (take_more other at 0 (slice_get_within other at second g))

pub loop-at-preserved : goal.loop-at-preserved
loop-at-preserved c =
    same_more c.args.one.now.levels c.args.other.now.levels c.loop-at.at c.levels.result c.levels-in-loop-at.result c.levels.ensures.value c.levels-in-loop-at.ensures.value
    c.if-levels.false c.loop-at.invariant
