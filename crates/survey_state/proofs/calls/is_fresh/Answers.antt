use Rattle.std.proofs.Common.{◌∙◌}
use Rattle.std.proofs.lemmas.Bool.{eqb-true}
use Rattle.survey_state.proofs.FindingLemmas.{found_same}
use Rattle.survey_state.proofs.calls.is_fresh.Goals as goal

pub returns-then-found-place-clause-fresh : goal.returns-then-found-place-clause-fresh
returns-then-found-place-clause-fresh c asked side same sought is =
    found_same c.args.state.now.listed c.args.state.now.journal c.length.ensures.legal asked side c.args.snapshot.now c.args.found.now is c.args.place
    c.if-found-place.true sought (eqb-true c.args.snapshot.now.version c.version.result same ∙ c.version.ensures)
