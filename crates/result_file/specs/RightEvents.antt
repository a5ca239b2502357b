-- When the events of a result are right, and which part of the next line is wrong first.
use Rattle.std.specs.Prelude.{◌≡◌, ◌<◌, ◌≤◌, length, All}
use Rattle.criteria_model.specs.Criteria.{Criteria}
use Rattle.criteria_model.specs.Classes.{IsClass}
use Rattle.pair_enumeration.specs.Listed.{IsListed}
use Rattle.survey_core.specs.declared.events.Event.{Event}
use Rattle.survey_core.specs.declared.broken.Broken.{Broken}
use Rattle.survey_core.specs.Legal.{IsLegal}
use Rattle.survey_core.specs.Recorded.{Recorded}
use Rattle.survey_core.specs.Legal.{FailsFirst}
use Rattle.survey_core.specs.declared.limits.TheConstants.{MAX_EVENTS}
use Rattle.result_file.specs.declared.entries.Format.{Format}
use Rattle.result_file.specs.declared.entries.Entry.{Entry}
use Rattle.result_file.specs.declared.entries.Entry.TheVariants.{Eliminate, Issue}
use Rattle.result_file.specs.declared.verdicts.Part.{Part}
use Rattle.result_file.specs.declared.verdicts.Part.TheVariants.{Form, Limit, Class}
use Rattle.result_file.specs.Entries.{HasEntryForm}
use Rattle.result_file.specs.Events.{as_entry, Tells}
use Rattle.result_file.specs.Parts.{part_of}

-- a model with its class list and a legal history of it, whose events may stand in a file of this format; so there are at most
-- 131,072 of them
pub record AreEvents (format : Format) (survey : Recorded) : Type 0 where
  pub listed : IsListed survey.listed
  pub legal : IsLegal survey.listed survey.history
  pub forms : All (λ event. HasEntryForm format survey.listed.criteria (as_entry survey.listed.classes event)) survey.history

-- the pair of an Eliminate or an Issue isn't a class
abbrev pub NamesNoClass : Criteria → Entry → Type 0
NamesNoClass criteria (Eliminate elimination) = ¬ IsClass criteria elimination.pair
NamesNoClass criteria (Issue desk pair plus minus) = ¬ IsClass criteria pair
NamesNoClass criteria _ = ⊥

-- the entry stands for an event that may not follow the history, and this is the first part that it lacks
pub record BreaksRule (survey : Recorded) (entry : Entry) (part : Part) : Type 0 where
  pub event : Event
  pub broken : Broken
  pub tells : Tells survey.listed entry event
  pub fails : FailsFirst survey.listed survey.history event broken
  pub named : part ≡ part_of broken

-- the first part of an entry that is wrong after these events, where its form is right
abbrev pub EntryFailsAs : Recorded → Entry → Part → Type 0
EntryFailsAs survey entry Form = ⊥
EntryFailsAs survey entry Limit = MAX_EVENTS ≤ length survey.history
EntryFailsAs survey entry Class = (length survey.history < MAX_EVENTS) × NamesNoClass survey.listed.criteria entry
EntryFailsAs survey entry part = (length survey.history < MAX_EVENTS) × BreaksRule survey entry part
