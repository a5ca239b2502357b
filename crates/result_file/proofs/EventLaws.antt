-- What the line of an event does to the history before it.
use Rattle.std.proofs.Common.{◌≡◌, ◌≢◌, ℕ, ◌<◌, ◌≤◌, List, [], ◌∷◌, ◌++◌, length, refl, ap, subst, ◌∙◌, None, Some}
use Rattle.std.specs.Prelude.{Option, MatchOption}
use Rattle.std.proofs.lemmas.List.Elements.{All-nil, All-cons, All-append}
use Rattle.criteria_model.specs.declared.pairs.Pair.{Pair}
use Rattle.pair_enumeration.specs.Listed.{Listed, IsListed}
use Rattle.pair_enumeration.specs.Places.{class_at}
use Rattle.survey_core.specs.declared.events.Event.{Event}
use Rattle.survey_core.specs.declared.events.Event.TheVariants as events
use Rattle.survey_core.specs.declared.broken.Broken.{Broken}
use Rattle.survey_core.specs.declared.broken.Broken.TheVariants as broken
use Rattle.farkas_check.specs.declared.flaws.Flaw.TheVariants as flaws
use Rattle.survey_core.specs.Legal.{IsEvent, IsLegal}
use Rattle.survey_core.specs.Recorded.{Recorded}
use Rattle.survey_core.specs.Legal.{FailsFirst}
use Rattle.row_laws.proofs.ItemLemmas.{item_positive, item_within}
use Rattle.survey_core.proofs.PartLemmas.{eliminate_lacks_class, issue_lacks_class, commit_has_no_class, close_has_no_class, withdraw_has_no_class}
use Rattle.survey_core.specs.declared.limits.TheConstants.{MAX_EVENTS}
use Rattle.result_file.specs.declared.entries.Entry.{Entry}
use Rattle.result_file.specs.declared.entries.Format.{Format}
use Rattle.result_file.specs.declared.entries.Format.TheVariants.{One, Two}
use Rattle.result_file.specs.declared.verdicts.Part.{Part}
use Rattle.result_file.specs.declared.verdicts.Part.TheVariants.{Form, Limit, Class}
use Rattle.result_file.specs.Checked.{begun, Fails}
use Rattle.result_file.specs.Contents.{of_events}
use Rattle.result_file.specs.Entries.{HasEntryForm, ReadsEntry}
use Rattle.result_file.specs.Events.{pair_at_place, as_entry, NamesClass, Tells}
use Rattle.result_file.specs.EventLines.{IsEventLine}
use Rattle.result_file.proofs.EventOnce.{names_a_class}
use Rattle.result_file.specs.Kept.{KeptSurvey, AddsEvent}
use Rattle.result_file.specs.Parts.{part_of}
use Rattle.result_file.specs.RightEvents.{NamesNoClass, EntryFailsAs}
use Rattle.result_file.specs.Texts.{end_line, entry_line}

-- ---- the class of an entry

pub stands_within : (classes : List Pair) (place : ℕ) (pair : Pair) → class_at classes place ≡ Some pair → (1 ≤ place) × (place ≤ length classes)
stands_within classes place pair at = (item_positive classes place pair at, item_within classes place pair at)

pub stands_read : (classes : List Pair) (place : ℕ) (pair : Pair) → class_at classes place ≡ Some pair → pair_at_place classes place ≡ pair
stands_read classes place pair at = rw at refl

-- ---- an entry's event

told_is_event : (format : Format) (listed : Listed) (event : Event) → HasEntryForm format listed.criteria (as_entry listed.classes event)
    → IsEvent listed.criteria.levels event
told_is_event format listed (events.Eliminate worker place verdict combination) h = (h.worker, h.combination.len, h.combination.scale)
told_is_event format listed (events.Issue desk place plus minus) h = (h.0, h.2.values, h.3.values)
told_is_event format listed (events.Commit desk question side plus minus point) h = (h.0, h.2.values, h.3.values, h.4.values)
told_is_event format listed (events.Close desk question) h = h.0
told_is_event One listed (events.Withdraw desk answer) h = absurd h
told_is_event Two listed (events.Withdraw desk answer) h = h.0

pub is_event : (format : Format) (listed : Listed) (entry : Entry) (event : Event) → HasEntryForm format listed.criteria entry
    → Tells listed entry event → IsEvent listed.criteria.levels event
is_event format listed entry event form tells = told_is_event format listed event (rw tells.told at form)

-- ---- a line that fails

pub no_entry : (format : Format) (survey : Recorded) (line : List ℕ) → ReadsEntry format survey.listed.criteria line None → line ≢ end_line
    → Fails (begun (of_events format survey)) line Form
no_entry format survey line reads no_end = (no_end, λ entry form spelled. let e = reads.complete entry spelled form in absurd cc)

pub over_limit : (format : Format) (survey : Recorded) (line : List ℕ) (entry : Entry) → HasEntryForm format survey.listed.criteria entry
    → line ≡ entry_line entry → MAX_EVENTS ≤ length survey.history → Fails (begun (of_events format survey)) line Limit
over_limit format survey line entry form spelled many = (entry, form, spelled, many)

pub no_class : (format : Format) (survey : Recorded) (line : List ℕ) (entry : Entry) → HasEntryForm format survey.listed.criteria entry
    → line ≡ entry_line entry → length survey.history < MAX_EVENTS → NamesNoClass survey.listed.criteria entry
    → Fails (begun (of_events format survey)) line Class
no_class format survey line entry form spelled room none = (entry, form, spelled, (room, none))

-- an event that names its class doesn't lack it
has_class : (survey : Recorded) (event : Event) → NamesClass survey.listed event → ¬ FailsFirst survey.listed survey.history event broken.Class
has_class survey (events.Eliminate worker place verdict combination) named fails =
    eliminate_lacks_class survey.listed survey.history place verdict combination fails named
has_class survey (events.Issue desk place plus minus) named fails = issue_lacks_class survey.listed survey.history place plus minus fails named
has_class survey (events.Commit desk question side plus minus point) named fails =
    commit_has_no_class survey.listed survey.history question side plus minus point fails
has_class survey (events.Close desk question) named fails = close_has_no_class survey.history question fails
has_class survey (events.Withdraw desk answer) named fails = withdraw_has_no_class survey.listed survey.history answer fails

breaks : (lacked : Broken) (survey : Recorded) (entry : Entry) (event : Event) → length survey.history < MAX_EVENTS → Tells survey.listed entry event
    → FailsFirst survey.listed survey.history event lacked → EntryFailsAs survey entry (part_of lacked)
breaks broken.Class survey entry event room tells fails = absurd (has_class survey event tells.class fails)
breaks broken.Ranked survey entry event room tells fails = (room, record { event = event; broken = broken.Ranked; tells = tells; fails = fails; named = refl })
breaks (broken.Flaw flaws.Scale) survey entry event room tells fails = (room, record { event = event; broken = broken.Flaw flaws.Scale; tells = tells; fails = fails; named = refl })
breaks (broken.Flaw flaws.Increment) survey entry event room tells fails = (room, record { event = event; broken = broken.Flaw flaws.Increment; tells = tells; fails = fails; named = refl })
breaks (broken.Flaw flaws.Cite) survey entry event room tells fails = (room, record { event = event; broken = broken.Flaw flaws.Cite; tells = tells; fails = fails; named = refl })
breaks (broken.Flaw flaws.Weight) survey entry event room tells fails = (room, record { event = event; broken = broken.Flaw flaws.Weight; tells = tells; fails = fails; named = refl })
breaks (broken.Flaw flaws.Sum) survey entry event room tells fails = (room, record { event = event; broken = broken.Flaw flaws.Sum; tells = tells; fails = fails; named = refl })
breaks (broken.Flaw flaws.Strict) survey entry event room tells fails = (room, record { event = event; broken = broken.Flaw flaws.Strict; tells = tells; fails = fails; named = refl })
breaks broken.Asked survey entry event room tells fails = (room, record { event = event; broken = broken.Asked; tells = tells; fails = fails; named = refl })
breaks broken.Full survey entry event room tells fails = (room, record { event = event; broken = broken.Full; tells = tells; fails = fails; named = refl })
breaks broken.Earlier survey entry event room tells fails = (room, record { event = event; broken = broken.Earlier; tells = tells; fails = fails; named = refl })
breaks broken.Vectors survey entry event room tells fails = (room, record { event = event; broken = broken.Vectors; tells = tells; fails = fails; named = refl })
breaks broken.Question survey entry event room tells fails = (room, record { event = event; broken = broken.Question; tells = tells; fails = fails; named = refl })
breaks broken.Point survey entry event room tells fails = (room, record { event = event; broken = broken.Point; tells = tells; fails = fails; named = refl })
breaks broken.Unranked survey entry event room tells fails = (room, record { event = event; broken = broken.Unranked; tells = tells; fails = fails; named = refl })
breaks broken.Nothing survey entry event room tells fails = (room, record { event = event; broken = broken.Nothing; tells = tells; fails = fails; named = refl })
breaks broken.Spent survey entry event room tells fails = (room, record { event = event; broken = broken.Spent; tells = tells; fails = fails; named = refl })

wrong_part : (part : Part) (format : Format) (survey : Recorded) (line : List ℕ) (entry : Entry) → HasEntryForm format survey.listed.criteria entry
    → line ≡ entry_line entry → EntryFailsAs survey entry part → Fails (begun (of_events format survey)) line part
wrong_part Form format survey line entry form spelled h = absurd h
wrong_part part format survey line entry form spelled h = (entry, form, spelled, h)

pub not_allowed : (lacked : Broken) (part : Part) (format : Format) (survey : Recorded) (line : List ℕ) (entry : Entry) (event : Event)
    → HasEntryForm format survey.listed.criteria entry → line ≡ entry_line entry → length survey.history < MAX_EVENTS
    → Tells survey.listed entry event → FailsFirst survey.listed survey.history event lacked → part ≡ part_of lacked
    → Fails (begun (of_events format survey)) line part
not_allowed lacked part format survey line entry event form spelled room tells fails is =
    wrong_part part format survey line entry form spelled (rw is (breaks lacked survey entry event room tells fails))

-- ---- a line that is right

pub adds_event : (old new : KeptSurvey) (line : List ℕ) (entry : Entry) (event : Event) → HasEntryForm old.format old.survey.listed.criteria entry
    → line ≡ entry_line entry → length old.survey.history < MAX_EVENTS → Tells old.survey.listed entry event → new.format ≡ old.format
    → new.survey.listed ≡ old.survey.listed → new.survey.history ≡ old.survey.history ++ event ∷ [] → IsLegal new.survey.listed new.survey.history
    → AddsEvent old new line
adds_event old new line entry event form spelled room tells format listed history legal = record {
  event = event;
  same_format = format;
  same_listed = listed;
  history = history;
  spelled = spelled ∙ ap entry_line tells.told;
  right = λ h. record {
    listed = rw listed h.listed;
    legal = legal;
    forms =
        let P : Event → Type 0 = λ e. HasEntryForm old.format old.survey.listed.criteria (as_entry old.survey.listed.classes e) in
        rw (format, listed, history) (All-append P old.survey.history (event ∷ []) h.forms (All-cons P event [] (rw tells.told at form) (All-nil P)));
  };
}

-- ---- a line by itself

reads_event : (listed : Listed) (line : List ℕ) (entry : Entry) (event : Event) → ReadsEntry Two listed.criteria line (Some entry) → Tells listed entry event
    → IsEventLine listed line event
reads_event listed line entry event reads tells = record {
  class = tells.class;
  form = rw tells.told at reads.sound.1;
  spelled = reads.sound.0 ∙ ap entry_line tells.told;
}

pub read_as : (listed : Listed) (line : List ℕ) (entry : Entry) (read : Option Event) → IsListed listed → ReadsEntry Two listed.criteria line (Some entry)
    → MatchOption read (NamesNoClass listed.criteria entry) (λ event. Tells listed entry event)
    → MatchOption read ((event : Event) → ¬ IsEventLine listed line event) (λ event. IsEventLine listed line event)
read_as listed line entry None list reads none =
    λ event h.
    let same : Some entry ≡ Some (as_entry listed.classes event) = reads.complete (as_entry listed.classes event) h.spelled h.form in
    let is : entry ≡ as_entry listed.classes event = cc in
    names_a_class listed event list h.class (subst (λ (e : Entry). NamesNoClass listed.criteria e) is none)
read_as listed line entry (Some event) list reads tells = reads_event listed line entry event reads tells
