-- The numbers that an event has by its type, whatever its history.
use Rattle.criteria_model.specs.Lists.{IsVector}
use Rattle.farkas_check.specs.Cited.{AreCites}
use Rattle.survey_core.specs.declared.events.Event.{Event}
use Rattle.survey_core.specs.declared.events.Event.TheVariants.{Eliminate, Issue, Commit}

-- the numbers of its vectors, weights and cites are below 2^96 in size, and its cites stand in order
abbrev pub HasNumbers : Event → Type 0
HasNumbers (Eliminate worker place verdict combination) = IsVector combination.increments × AreCites combination.answers
HasNumbers (Issue desk place plus minus) = IsVector plus × IsVector minus
HasNumbers (Commit desk question side plus minus point) = IsVector plus × IsVector minus × IsVector point
HasNumbers _ = Unit {0}
