use Rattle.std.proofs.Common.{◌≡◌, Some, subst}
use Rattle.pair_enumeration.specs.Listed.{Listed, IsListed}
use Rattle.survey_core.specs.Legal.{IsLegal}
use Rattle.shared_survey.specs.LockSeats.{LockSeat}
use Rattle.shared_survey.proofs.seat.SurveySeat.length.Goals as goal

pub returns-clause-legal : goal.returns-clause-legal
returns-clause-legal c =
    subst (λ (s : LockSeat). (listed : Listed) → s.knows.kind ≡ Some listed → IsListed listed × IsLegal listed s.knows.front) c.self.view_is c.self.invariant.legal
