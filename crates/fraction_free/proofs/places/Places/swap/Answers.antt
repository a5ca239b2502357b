use Rattle.std.proofs.Common.{◌≡◌, ◌∙◌, ◌<◌, ℕ, List, length, get_or, arith, sym, ap}
use Rattle.std.specs.List.{SwappedAt}
use Rattle.std.proofs.lemmas.List.{get_or_default}
use Rattle.fraction_free.specs.Arrangement.{Arranged, HasPlaces}
use Rattle.fraction_free.proofs.Arrangements.{arrangement_from_places, swapped_tells}
use Rattle.fraction_free.proofs.places.Places.swap.Goals as goal

swapped_along : (order place new_order new_place now : List ℕ) (p q a b : ℕ) → order ≡ now → p < length now → q < length now
    → length new_order ≡ length order → length new_place ≡ length place
    → a ≡ get_or order p a → b ≡ get_or order q b
    → HasPlaces order place → SwappedAt order new_order p q → SwappedAt place new_place a b → HasPlaces new_order new_place
swapped_along order place new_order new_place now p q a b same p_below q_below order_len place_len a_is b_is h o l =
    let p_in : p < length order = omega (arith, ap length same) in
    let q_in : q < length order = omega (arith, ap length same) in
    swapped_tells order place new_order new_place p q h p_in q_in order_len place_len o
    (rw (sym (a_is ∙ get_or_default order p a 0 p_in), sym (b_is ∙ get_or_default order q b 0 q_in)) l)

told : (c : goal.After-swap-2) → HasPlaces c.swap.new.self.items c.swap-2.new.self.items
told c =
    let inside = c.self.inside in
    swapped_along inside.order.items inside.place.items c.swap.new.self.items c.swap-2.new.self.items c.args.self.now.order c.args.first c.args.second c.index.result.now c.index-2.result.now
    (ap (λ (a : Arranged). a.order) c.self.view_is) c.requires.first c.requires.second
    (sym c.swap.new.self.ok.0 ∙ c.swap.ensures.len ∙ inside.order.ok.0) (sym c.swap-2.new.self.ok.0 ∙ c.swap-2.ensures.len ∙ inside.place.ok.0)
    c.index.ensures c.index-2.ensures c.self.invariant.0 c.swap.ensures.by_index c.swap-2.ensures.by_index

pub invariant_of-self : goal.invariant_of-self
invariant_of-self c = (told c, omega (arith, c.self.invariant.1, c.swap.ensures.capacity), omega (arith, c.self.invariant.2, c.swap-2.ensures.capacity))

pub returns-clause-arrangement : goal.returns-clause-arrangement
returns-clause-arrangement c = arrangement_from_places _ _ (told c)
