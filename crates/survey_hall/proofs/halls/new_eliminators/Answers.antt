use Rattle.std.proofs.Common.{◌≡◌, [], ◌∷◌, rules}
use Rattle.std.proofs.lemmas.List.Elements.{All-append, All-cons, All-nil}
use Rattle.survey_hall.specs.declared.eliminator_seats.EliminatorSeat.{EliminatorSeat}
use Rattle.survey_hall.proofs.halls.new_eliminators.Goals as goal

pub loop-place-preserved : goal.loop-place-preserved
loop-place-preserved c =
    let inv = c.loop-place.invariant in record {
      len = search rules;
      room = search rules;
      models = rw c.push_reserved.ensures.items
          (All-append (λ (seat : EliminatorSeat). seat.model ≡ c.args.model.now) c.loop-place.seats.items (c.new.result ∷ []) inv.models
          (All-cons (λ (seat : EliminatorSeat). seat.model ≡ c.args.model.now) c.new.result [] c.new.ensures (All-nil (λ (seat : EliminatorSeat). seat.model ≡ c.args.model.now))));
    }
