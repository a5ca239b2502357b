-- What a seat's stage says of the journal that is out.
use Rattle.std.proofs.Common.{◌≡◌, true, false, List, Some, None, refl, ap}
use Rattle.std.proofs.lemmas.Option.{same_Some}
use Rattle.survey_core.specs.declared.events.Event.{Event}
use Rattle.turn_lock.specs.declared.rule.Stage.{Stage}
use Rattle.turn_lock.specs.declared.rule.Stage.TheVariants.{Outside, Waiting, Served}
use Rattle.turn_lock.specs.Steps.{is_inside, is_waiting, log_of}
use Rattle.shared_survey.specs.LockSeats.{stage_journal}

-- no journal is out, and no ticket is drawn
pub outside_stage : (stage : Stage Event) → is_waiting stage ≡ false → stage_journal stage ≡ None → stage ≡ Outside
outside_stage Outside still free = refl
outside_stage (Waiting ticket) still free = cc
outside_stage (Served ticket journal) still free = cc

pub inside_journal : (stage : Stage Event) (journal : List Event) → is_inside stage ≡ true → log_of stage ≡ journal → stage_journal stage ≡ Some journal
inside_journal Outside journal inside log = cc
inside_journal (Waiting ticket) journal inside log = cc
inside_journal (Served ticket list) journal inside log = ap (λ (l : List Event). Some l) log

pub journal_inside : (stage : Stage Event) (journal : List Event) → stage_journal stage ≡ Some journal → (is_inside stage ≡ true) × (log_of stage ≡ journal)
journal_inside Outside journal out = cc
journal_inside (Waiting ticket) journal out = cc
journal_inside (Served ticket list) journal out = (refl, same_Some list journal out)
