use Rattle.std.proofs.Common.{◌≡◌, ◌∙◌, ℕ, List, [], ◌∷◌, ◌++◌, length, arith}
use Rattle.fraction_free.specs.Arrangement.{HasPlaces}
use Rattle.fraction_free.proofs.Arrangements.{arrangement_from_places, pushed_tells}
use Rattle.fraction_free.proofs.places.Places.push.Goals as goal

pushed_along : (order place new_order new_place : List ℕ) (n : ℕ) → n ≡ length order → new_order ≡ order ++ n ∷ [] → new_place ≡ place ++ n ∷ []
    → HasPlaces order place → HasPlaces new_order new_place
pushed_along order place new_order new_place n e o p h = rw (o, p, e) (pushed_tells order place h)

told : (c : goal.After-append-2) → HasPlaces c.append.new.numbers.items c.append-2.new.numbers.items
told c =
    pushed_along c.self.inside.order.items c.self.inside.place.items _ _ c.len-next.result (c.len-next.ensures ∙ c.self.inside.order.ok.0) c.append.ensures.items c.append-2.ensures.items c.self.invariant.0

pub invariant_of-self : goal.invariant_of-self
invariant_of-self c = (told c, omega (arith, c.self.invariant.1), omega (arith, c.self.invariant.2))

pub returns-clause-arrangement : goal.returns-clause-arrangement
returns-clause-arrangement c = arrangement_from_places _ _ (told c)
