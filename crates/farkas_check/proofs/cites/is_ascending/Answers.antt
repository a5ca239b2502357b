use Rattle.std.proofs.Common.{◌≡◌, ℕ, ◌+◌, ◌<◌, Bool, true, false, ltb, List, length, map, IsTrue, ◌↔◌, refl, sym, arith, rules}
use Rattle.std.specs.List.{IsAllAdjacentAnswer}
use Rattle.std.specs.List.Sorted.{IsStrictlyIncreasing}
use Rattle.std.proofs.Math.ListN.{get_or-map, length-map}
use Rattle.std.proofs.lemmas.Bool.{ltb-true, ltb-false, false≢true}
use Rattle.std.proofs.lemmas.List.Sorted.{answers_always}
use Rattle.farkas_check.specs.declared.cites.Cite.{Cite}
use Rattle.farkas_check.specs.Cited.{no_cite}
use Rattle.farkas_check.proofs.cites.is_ascending.Goals as goal

abbrev number_of : Cite → ℕ
number_of cite = cite.answer

-- two neighbours that are answered true are in order, two that are answered false aren't
ascending : (items : List Cite) (r : Bool) → IsAllAdjacentAnswer (λ x y b. b ≡ ltb x.answer y.answer) items r
    → IsTrue r ↔ IsStrictlyIncreasing (map number_of items)
ascending items true h = (
  λ _ k within.
      let within' : k + 1 < length items = omega (arith, length-map items number_of) in
      omega (arith, get_or-map number_of items k no_cite, get_or-map number_of items (k + 1) no_cite, ltb-true _ _ (sym (h k no_cite within'))),
  λ _. refl,
)
ascending items false (k, within, h) = (
  λ e. absurd (false≢true e),
  λ increasing.
      absurd
      (omega
      (arith, increasing k (omega (arith, length-map items number_of)), get_or-map number_of items k no_cite, get_or-map number_of items (k + 1) no_cite, ltb-false _ _ (sym (h no_cite)))),
)

pub returns : goal.returns
returns c = ascending c.args.items.now c.is_sorted_by.result (c.is_sorted_by.ensures.cases (λ x y. ltb x.answer y.answer) (answers_always _ _ _ (λ f a r f' called. search rules)))
