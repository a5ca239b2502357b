use Rattle.std.proofs.Common.{◌∙◌, sym}
use Rattle.survey_hall.proofs.eliminator_seats.EliminatorSeat.add.Goals as goal

pub invariant_of-self : goal.invariant_of-self
invariant_of-self c =
    let seat = c.args.self.now in
    record {
      numbered = seat.numbered;
      as_many = c.reserve.ensures.len ∙ seat.as_many;
      each = rw c.reserve.ensures.items seat.each;
      models = rw c.reserve.ensures.items seat.models;
      reserved = seat.reserved;
      line = seat.line;
    }

pub invariant_of-self-2 : goal.invariant_of-self-2
invariant_of-self-2 c =
    let seat = c.args.self.now in
    record {
      numbered = seat.numbered;
      as_many = c.reserve.ensures.len ∙ seat.as_many ∙ sym c.reserve-2.ensures.len;
      each = rw (c.reserve.ensures.items, c.reserve-2.ensures.items) seat.each;
      models = rw c.reserve.ensures.items seat.models;
      reserved = seat.reserved;
      line = seat.line;
    }
