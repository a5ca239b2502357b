-- Lines of events by themselves, as a journal has them.
use Rattle.std.specs.Prelude.{◌≡◌, ℕ, List}
use Rattle.pair_enumeration.specs.Listed.{Listed}
use Rattle.survey_core.specs.declared.events.Event.{Event}
use Rattle.result_file.specs.declared.entries.Format.TheVariants.{Two}
use Rattle.result_file.specs.Entries.{HasEntryForm}
use Rattle.result_file.specs.Events.{as_entry, event_line, NamesClass}

-- a line of a result in the second format spells this event of the model: where it names a class, there is one
pub record IsEventLine (listed : Listed) (line : List ℕ) (event : Event) : Type 0 where
  pub class : NamesClass listed event
  pub form : HasEntryForm Two listed.criteria (as_entry listed.classes event)
  pub spelled : line ≡ event_line listed.classes event
