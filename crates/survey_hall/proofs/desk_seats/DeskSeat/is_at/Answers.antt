use Rattle.std.proofs.Common.{rules, sym, ◌∙◌}
use Rattle.survey_hall.proofs.ModelLemmas.{same_model}
use Rattle.survey_hall.proofs.desk_seats.DeskSeat.is_at.Goals as goal

pub returns-then-desk : goal.returns-then-desk
returns-then-desk c = λ told. (search rules, same_model c.args.self.now.model c.args.model.now _ (sym c.eq.ensures ∙ told))
