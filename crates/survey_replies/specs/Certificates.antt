-- What the certificates of a reply satisfy.
use Rattle.std.specs.Prelude.{ℕ, List, IsSomeAnd, ℤ}
use Rattle.criteria_model.specs.Answers.{MeetsAll, Opens}
use Rattle.farkas_check.specs.Proof.{Proves}
use Rattle.pair_enumeration.specs.Listed.{Listed}
use Rattle.survey_core.specs.Histories.{class_at, class_of}
use Rattle.survey_replies.specs.declared.replies.NextReply.TheVariants.{Waiting}
use Rattle.survey_replies.specs.declared.replies.AnswerReply.TheVariants.{Implied}
use Rattle.survey_replies.specs.declared.replies.ValuesReply.TheVariants.{Values, Incomplete}
use Rattle.survey_replies.specs.Outcomes.{Outcome}
use Rattle.survey_replies.specs.Outcomes as outcome
use Rattle.survey_replies.specs.Interview.{Interview}

module _ (listed : Listed) (now : Interview) where
  -- the two vectors open the class at the place
  abbrev pub OpenClassAt : ℕ → List ℤ → List ℤ → Type 0
  OpenClassAt place plus minus = IsSomeAnd (class_at listed.classes place) (λ pair. Opens listed.criteria.levels now.answers pair plus minus)

  -- the vectors of Waiting and Incomplete open the named class, the combination of Implied proves its verdict, the vector of
  -- Values meets the answers
  abbrev pub Carries : Outcome → Type 0
  Carries (outcome.next (Waiting at place plus minus)) = OpenClassAt place plus minus
  Carries (outcome.answer (Implied at question verdict combination)) =
      IsSomeAnd (class_of listed.classes now.asked question)
      (λ pair. Proves listed.criteria.levels now.answers combination pair verdict)
  Carries (outcome.values (Values at vector)) = MeetsAll listed.criteria.levels now.answers vector
  Carries (outcome.values (Incomplete at place pair plus minus)) = OpenClassAt place plus minus
  Carries _ = Unit {0}
