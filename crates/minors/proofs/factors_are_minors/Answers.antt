-- Each clause is a law of proofs/Laws.antt.
use Rattle.minors.proofs.Laws.{replaced_row, factor_is_minor}
use Rattle.minors.proofs.factors_are_minors.Goals as goal

pub returns-clause-replaced : goal.returns-clause-replaced
returns-clause-replaced c = replaced_row

pub returns-clause-factor : goal.returns-clause-factor
returns-clause-factor c = factor_is_minor
