use Rattle.std.proofs.Common.{◌≡◌, ◌<◌, ◌-◌, ℕ, List, length, take, get_or, arith, ap}
use Rattle.fraction_free.specs.Arrangement.{Arranged, HasPlaces}
use Rattle.fraction_free.proofs.Arrangements.{arrangement_from_places, popped_tells}
use Rattle.fraction_free.proofs.places.Places.pop.Goals as goal

popped_along : (order place new_order new_place now : List ℕ) (n m : ℕ) → n ≡ length order → m ≡ length place → order ≡ now
    → new_order ≡ take (n - 1) order → new_place ≡ take (m - 1) place
    → HasPlaces order place → 0 < length now → get_or now (length now - 1) 0 ≡ length now - 1 → HasPlaces new_order new_place
popped_along order place new_order new_place now n m n_is m_is same o p h some end =
    rw (o, p, n_is, m_is) (popped_tells order place h (omega (arith, ap length same)) (rw same end))

told : (c : goal.After-pop-place) → HasPlaces c.pop-number.new.self.items c.pop-place.new.self.items
told c =
    let inside = c.self.inside in
    popped_along inside.order.items inside.place.items _ _ c.args.self.now.order inside.order.len inside.place.len inside.order.ok.0 inside.place.ok.0
    (ap (λ (a : Arranged). a.order) c.self.view_is) c.pop-number.ensures.rest c.pop-place.ensures.rest c.self.invariant.0 c.requires.some c.requires.last

pub invariant_of-self : goal.invariant_of-self
invariant_of-self c = (told c, omega (arith, c.self.invariant.1, c.pop-number.ensures.capacity), omega (arith, c.self.invariant.2, c.pop-place.ensures.capacity))

pub returns-clause-arrangement : goal.returns-clause-arrangement
returns-clause-arrangement c = arrangement_from_places _ _ (told c)
