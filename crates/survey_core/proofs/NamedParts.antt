-- The parts of an event that may follow, each by its name.
use Rattle.std.proofs.Common.{ℕ, ◌+◌, ◌<◌, ◌≤◌, IsFalse, List, length, ℤ, inl, inr, arith}
use Rattle.std.proofs.lemmas.Bool.{cases_lt}
use Rattle.criteria_model.specs.declared.pairs.Side.{Side}
use Rattle.farkas_check.specs.declared.combination.Combination.{Combination}
use Rattle.pair_enumeration.specs.Listed.{Listed}
use Rattle.survey_core.specs.declared.events.Event.{Event}
use Rattle.survey_core.specs.declared.events.Event.TheVariants.{Eliminate, Issue, Commit, Close, Withdraw}
use Rattle.survey_core.specs.declared.limits.TheConstants.{MAX_EVENTS, MAX_OPEN_QUESTIONS}
use Rattle.survey_core.specs.Histories.{is_issued, open_questions, IsOpenQuestion, withdrawals}
use Rattle.survey_core.specs.Legal.{IsPlace, IsUnranked, ProvesClass, AreEarlierAsked, OpensClass, HasUneliminatedClass, HasEliminatedClass, OpensQuestion, MeetsWith, IsLastAnswer, most_events, IsSpent, MayFollow}

pub record MayEliminate (listed : Listed) (history : List Event) (place : ℕ) (verdict : Side) (combination : Combination) : Type 0 where
  pub class : IsPlace listed place
  pub unranked : IsUnranked history place
  pub proved : ProvesClass listed history place verdict combination

pub record MayIssue (listed : Listed) (history : List Event) (place : ℕ) (plus minus : List ℤ) : Type 0 where
  pub class : IsPlace listed place
  pub unranked : IsUnranked history place
  pub unasked : IsFalse (is_issued history place)
  pub few_open : length (open_questions history) < MAX_OPEN_QUESTIONS
  pub earlier : AreEarlierAsked history place
  pub opened : OpensClass listed history place plus minus

pub record MayCommit (listed : Listed) (history : List Event) (question : ℕ) (side : Side) (plus minus point : List ℤ) : Type 0 where
  pub open_question : IsOpenQuestion history question
  pub uneliminated : HasUneliminatedClass history question
  pub opened : OpensQuestion listed history question plus minus
  pub met : MeetsWith listed history question side point

pub record MayClose (history : List Event) (question : ℕ) : Type 0 where
  pub open_question : IsOpenQuestion history question
  pub eliminated : HasEliminatedClass history question

pub record MayWithdraw (listed : Listed) (history : List Event) (answer : ℕ) : Type 0 where
  pub last_answer : IsLastAnswer listed history answer
  pub unspent : most_events (length listed.classes) (withdrawals history + 1) ≤ MAX_EVENTS

abbrev pub HasParts : Listed → List Event → Event → Type 0
HasParts listed history (Eliminate worker place verdict combination) = MayEliminate listed history place verdict combination
HasParts listed history (Issue desk place plus minus) = MayIssue listed history place plus minus
HasParts listed history (Commit desk question side plus minus point) = MayCommit listed history question side plus minus point
HasParts listed history (Close desk question) = MayClose history question
HasParts listed history (Withdraw desk answer) = MayWithdraw listed history answer

-- a withdrawal that isn't one too many leaves room for all events
unspent_within : (classes withdrawn : ℕ) → ¬ IsSpent classes withdrawn → most_events classes (withdrawn + 1) ≤ MAX_EVENTS
unspent_within classes withdrawn unspent = elim (cases_lt MAX_EVENTS (most_events classes (withdrawn + 1))) [ inl spent ↦ absurd (unspent spent) | inr within ↦ within ]

pub named : (listed : Listed) (history : List Event) (event : Event) → MayFollow listed history event → HasParts listed history event
named listed history (Eliminate worker place verdict combination) may = record { class = may.0; unranked = may.1.0; proved = may.1.1.0 }
named listed history (Issue desk place plus minus) may =
    record { class = may.0; unranked = may.1.0; unasked = may.1.1.0; few_open = may.1.1.1.0; earlier = may.1.1.1.1.0; opened = may.1.1.1.1.1.0 }
named listed history (Commit desk question side plus minus point) may =
    record { open_question = may.0; uneliminated = may.1.0; opened = may.1.1.0; met = may.1.1.1.0 }
named listed history (Close desk question) may = record { open_question = may.0; eliminated = may.1.0 }
named listed history (Withdraw desk answer) may = record { last_answer = may.0; unspent = unspent_within (length listed.classes) (withdrawals history) may.1.0 }

pub unnamed : (listed : Listed) (history : List Event) (event : Event) → HasParts listed history event → MayFollow listed history event
unnamed listed history (Eliminate worker place verdict combination) may = (may.class, (may.unranked, (may.proved, tt)))
unnamed listed history (Issue desk place plus minus) may =
    (may.class, (may.unranked, (may.unasked, (may.few_open, (may.earlier, (may.opened, tt))))))
unnamed listed history (Commit desk question side plus minus point) may = (may.open_question, (may.uneliminated, (may.opened, (may.met, tt))))
unnamed listed history (Close desk question) may = (may.open_question, (may.eliminated, tt))
unnamed listed history (Withdraw desk answer) may = (may.last_answer, ((λ spent. omega (arith, spent, may.unspent)), tt))
