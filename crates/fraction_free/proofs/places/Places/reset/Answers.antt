use Rattle.std.proofs.Common.{◌≡◌, ◌∙◌, ℕ, List, [], ◌∷◌, ◌++◌, arith, ap}
use Rattle.std.specs.List.{range_with_len}
use Rattle.fraction_free.specs.Arrangement.{HasPlaces}
use Rattle.fraction_free.proofs.Arrangements.{arrangement_from_places, first_tells}
use Rattle.fraction_free.proofs.places.Places.reset.Goals as goal

first_along : (m : ℕ) (cleared counted order placed_none placed_first place : List ℕ) → cleared ≡ [] → counted ≡ cleared ++ range_with_len 1 m → order ≡ counted ++ 0 ∷ []
    → placed_none ≡ [] → placed_first ≡ placed_none ++ m ∷ [] → place ≡ placed_first ++ range_with_len 0 m → HasPlaces order place
first_along m cleared counted order placed_none placed_first place a b c d e f =
    rw (c, b, a, f, e, d) (first_tells m)

told : (c : goal.After-count_up-2) → HasPlaces c.append.new.numbers.items c.count_up-2.new.numbers.items
told c =
    first_along c.args.columns c.clear.new.self.items c.count_up.new.numbers.items c.append.new.numbers.items c.clear-2.new.self.items c.append-2.new.numbers.items c.count_up-2.new.numbers.items
    c.clear.ensures.items
    (c.count_up.ensures.items ∙ ap (λ k. c.clear.new.self.items ++ range_with_len 1 k) c.from.ensures)
    c.append.ensures.items c.clear-2.ensures.items
    (c.append-2.ensures.items ∙ ap (λ k. c.clear-2.new.self.items ++ k ∷ []) c.from-2.ensures)
    (c.count_up-2.ensures.items ∙ ap (λ k. c.append-2.new.numbers.items ++ range_with_len 0 k) c.from-3.ensures)

pub invariant_of-self : goal.invariant_of-self
invariant_of-self c = (told c, omega (arith, c.self.invariant.1), omega (arith, c.self.invariant.2))

pub returns-clause-arrangement : goal.returns-clause-arrangement
returns-clause-arrangement c = arrangement_from_places _ _ (told c)
