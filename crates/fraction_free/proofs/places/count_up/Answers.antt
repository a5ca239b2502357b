use Rattle.std.proofs.Common.{◌≡◌, ◌∙◌, ◌≤◌, ◌+◌, ◌-◌, ℕ, List, [], ◌∷◌, ◌++◌, append_assoc, arith, sym, ap}
use Rattle.std.specs.List.{range_with_len}
use Rattle.criteria_model.proofs.CountLemmas.{range_with_len-more}
use Rattle.fraction_free.proofs.places.count_up.Goals as goal

counted : (first before after : List ℕ) (from number : ℕ) → from ≤ number → before ≡ first ++ range_with_len from (number - from) → after ≡ before ++ number ∷ [] → after ≡ first ++ range_with_len from (number + 1 - from)
counted first before after from number le b a =
    let one : number + 1 - from ≡ (number - from) + 1 = omega arith in
    let at : from + (number - from) ≡ number = omega arith in
    a ∙ ap (λ xs. xs ++ number ∷ []) b ∙ append_assoc first (range_with_len from (number - from)) (number ∷ [])
    ∙ ap (λ xs. first ++ xs) (sym (ap (range_with_len from) one ∙ range_with_len-more from (number - from) ∙ ap (λ k. range_with_len from (number - from) ++ k ∷ []) at))

pub loop-number-preserved : goal.loop-number-preserved
loop-number-preserved c = record {
  items = counted c.args.numbers.now.items c.loop-number.numbers.items c.append.new.numbers.items c.args.from c.loop-number.number (omega arith) c.loop-number.invariant.items c.append.ensures.items;
  len = omega arith;
  capacity = omega arith;
}
