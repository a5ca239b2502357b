use Rattle.std.proofs.Common.{◌≡◌, [], ◌∷◌, length, rules, arith}
use Rattle.std.proofs.lemmas.List.Elements.{All-append, All-cons, All-nil}
use Rattle.std.specs.Prelude.{vec_len}
use Rattle.survey_hall.specs.EliminatorSeats.{HoldsPass, IsOfModel}
use Rattle.survey_hall.proofs.StackLemmas.{each_of, zip_of, zip_push}
use Rattle.survey_hall.proofs.eliminator_seats.EliminatorSeat.push.Goals as goal

pub invariant_of-self-clause-each : goal.invariant_of-self-clause-each
invariant_of-self-clause-each c =
    let seat = c.args.self.now in
    let a : vec_len seat.surveys ≡ length seat.surveys.items = search rules in
    let b : vec_len seat.passes ≡ length seat.passes.items = search rules in
    let zipped = zip_of HoldsPass seat.surveys.items seat.passes.items (omega (arith, a, b, seat.as_many)) seat.each in
    rw (c.push_reserved.ensures.items, c.push_reserved-2.ensures.items)
    (each_of HoldsPass _ _ (zip_push HoldsPass seat.surveys.items seat.passes.items c.args.survey c.args.pass zipped c.requires.pass))

pub invariant_of-self-clause-models : goal.invariant_of-self-clause-models
invariant_of-self-clause-models c =
    let seat = c.args.self.now in
    rw c.push_reserved.ensures.items
    (All-append (IsOfModel seat.model) seat.surveys.items (c.args.survey ∷ []) seat.models
    (All-cons (IsOfModel seat.model) c.args.survey [] c.requires.model (All-nil (IsOfModel seat.model))))
