-- What contracts see of a `Core`.
use Rattle.std.specs.Prelude.{List}
use Rattle.pair_enumeration.specs.Listed.{Listed}
use Rattle.survey_core.specs.declared.events.Event.{Event}

-- the model with its classes, and the history
pub record Recorded : Type 0 where
  pub listed : Listed
  pub history : List Event
