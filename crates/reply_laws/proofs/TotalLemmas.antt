-- A reply at least, where each class is ranked or open.
use Rattle.std.proofs.Common.{◌≡◌, ◌⊎◌, ℕ, zero, suc, ◌+◌, ◌-◌, ◌<◌, ◌≤◌, ◌==◌, Bool, true, false, List, [], ◌∷◌, length, Option, Some, None, IsSomeAnd, Contains, pos, refl, ap, sym, subst, ◌∙◌, inl, inr, arith}
use Rattle.std.specs.List.{list_any}
use Rattle.std.specs.Option.{option_and_then}
use Rattle.std.proofs.lemmas.Bool.{cases_lt}
use Rattle.criteria_model.specs.declared.pairs.Pair.{Pair}
use Rattle.criteria_model.specs.declared.pairs.Answer.{Answer}
use Rattle.criteria_model.specs.Answers.{IsRanked, IsOpen}
use Rattle.farkas_check.specs.declared.combination.Combination.{Combination}
use Rattle.pair_enumeration.specs.Listed.{Listed, IsListed}
use Rattle.survey_core.specs.declared.events.Event.{Event}
use Rattle.survey_core.specs.declared.events.Event.TheVariants.{Eliminate, Issue, Commit, Close, Withdraw}
use Rattle.survey_core.specs.Histories.{item_at, standing, issued, is_unended, open_questions, committed, class_at, class_of, place_of}
use Rattle.survey_core.specs.Legal.{IsPlace, most_events, IsLegal}
use Rattle.survey_core.specs.declared.limits.TheConstants.{MAX_EVENTS, MAX_OPEN_QUESTIONS}
use Rattle.survey_core.proofs.ListSteps.{Each, Each-at, some_and, filtered_range}
use Rattle.row_laws.proofs.ItemLemmas.{item_found, item_within, item_inside}
use Rattle.survey_core.proofs.ReadLemmas.{contains_filtered}
use Rattle.survey_core.proofs.StandingLemmas.{commit_count, OfCommits, length-filter_map}
use Rattle.survey_core.proofs.SoundLemmas.{IsSound, sound_history, answers_count}
use Rattle.survey_replies.specs.Requests as request
use Rattle.survey_replies.specs.declared.replies.NextReply.{NextReply}
use Rattle.survey_replies.specs.declared.replies.NextReply.TheVariants.{Question, Full, Waiting, Complete}
use Rattle.survey_replies.specs.declared.replies.AnswerReply.{AnswerReply}
use Rattle.survey_replies.specs.declared.replies.AnswerReply.TheVariants.{Accepted, Unknown, Closed, Implied}
use Rattle.survey_replies.specs.declared.replies.ValuesReply.{ValuesReply}
use Rattle.survey_replies.specs.declared.replies.ValuesReply.TheVariants.{Values, Incomplete}
use Rattle.survey_replies.specs.declared.replies.WithdrawReply.{WithdrawReply}
use Rattle.survey_replies.specs.declared.replies.WithdrawReply.TheVariants.{Withdrawn, Nothing, Spent}
use Rattle.survey_replies.specs.Requests.{Request}
use Rattle.survey_replies.specs.Outcomes.{Outcome}
use Rattle.survey_replies.specs.Outcomes as outcome
use Rattle.survey_replies.specs.Interview.{Interview, interview, answered, answered_question}
use Rattle.survey_replies.specs.ReplyLaw.{IsFirst, IsOpenClass, HasOpenClass, IsUnaskedOpenClass, IsQuestion, AreSpent, IsNextReply, IsAnswerReply, IsValuesReply, IsWithdrawReply, IsReplyTo}
use Rattle.reply_laws.specs.Laws.{IsDecided}

-- the answers rank each class or leave it open
abbrev pub AreDecided : Listed → Interview → Type 0
AreDecided listed now =
    (place : ℕ) (pair : Pair) → class_at listed.classes place ≡ Some pair → IsDecided listed.criteria.levels now.answers pair

-- the least number of a kind below a bound, or none
search_first : (Is : ℕ → Type 0) → ((n : ℕ) → Is n ⊎ (¬ Is n)) → (bound : ℕ)
    → ((n : ℕ) × IsFirst Is n) ⊎ ((n : ℕ) → n < bound → ¬ Is n)
search_first Is test zero = inr (λ n below is. absurd (omega arith))
search_first Is test (suc bound) =
    elim (search_first Is test bound) [
      | inl found ↦ inl found
      | inr none ↦
          elim (test bound) [
            | inl is ↦ inl (bound, record { is = is; first = none })
            | inr not ↦
                inr (λ n below is.
                elim (cases_lt n bound) [
                  | inl less ↦ none n less is
                  | inr more ↦ (let same : n ≡ bound = omega arith in not (subst Is same is))
                ])
          ]
    ]

module _ (listed : Listed) (now : Interview) (decided : AreDecided listed now) where
  class_test : (place : ℕ) (o : Option Pair) → class_at listed.classes place ≡ o
      → IsSomeAnd o (λ pair. IsOpen listed.criteria.levels now.answers pair) ⊎ (¬ IsSomeAnd o (λ pair. IsOpen listed.criteria.levels now.answers pair))
  class_test place None at = inr (λ none. none)
  class_test place (Some pair) at =
      elim (decided place pair at) [ inl ranked ↦ inr (λ open_class. open_class ranked.0 ranked.1) | inr open_class ↦ inl open_class ]

  open_test : (place : ℕ) → IsOpenClass listed now place ⊎ (¬ IsOpenClass listed now place)
  open_test place = class_test place (class_at listed.classes place) refl

  due_test : (place : ℕ) → IsUnaskedOpenClass listed now place ⊎ (¬ IsUnaskedOpenClass listed now place)
  due_test place =
      elim (open_test place) [
        | inl open_class ↦
            (let go : (b : Bool) → (b ≡ false) ⊎ (¬ (b ≡ false)) = λ b. elim b as (λ b. (b ≡ false) ⊎ (¬ (b ≡ false))) [ true ↦ inr (λ h. cc) | false ↦ inl refl ] in
            elim (go (list_any (λ other. other == place) now.asked)) [
              | inl unasked ↦ inl (open_class, unasked)
              | inr asked ↦ inr (λ h. asked h.1)
            ])
        | inr not ↦ inr (λ h. not h.0)
      ]

  -- an open class is one of the list
  class_pair : (place : ℕ) → IsOpenClass listed now place → (pair : Pair) × (class_at listed.classes place ≡ Some pair)
  class_pair place is_open =
      let found : (pair : Pair) × (class_at listed.classes place ≡ Some pair) × IsOpen listed.criteria.levels now.answers pair =
      some_and (class_at listed.classes place) (λ pair. IsOpen listed.criteria.levels now.answers pair) is_open in
      (found.0, found.1)

  class_within : (place : ℕ) → IsOpenClass listed now place → place < length listed.classes + 1
  class_within place is_open =
      let found : (pair : Pair) × (class_at listed.classes place ≡ Some pair) = class_pair place is_open in
      omega (arith, item_within listed.classes place found.0 found.1)

  first_open : ((place : ℕ) × IsFirst (IsOpenClass listed now) place) ⊎ (¬ HasOpenClass listed now)
  first_open =
      elim (search_first (IsOpenClass listed now) open_test (length listed.classes + 1)) [
        | inl found ↦ inl found
        | inr none ↦ inr (λ h. none h.0 (class_within h.0 h.1) h.1)
      ]

  first_due : ((place : ℕ) × IsFirst (IsUnaskedOpenClass listed now) place) ⊎ ((place : ℕ) → ¬ IsUnaskedOpenClass listed now place)
  first_due =
      elim (search_first (IsUnaskedOpenClass listed now) due_test (length listed.classes + 1)) [
        | inl found ↦ inl found
        | inr none ↦ inr (λ place h. none place (class_within place h.0) h)
      ]

  next_reply : (reply : NextReply) × IsNextReply listed now reply
  next_reply =
      elim first_open [
        | inr none ↦ (Complete 0, none)
        | inl (place, first) ↦
            elim (cases_lt (length now.open_questions) MAX_OPEN_QUESTIONS) [
              | inr full ↦ (Full 0, (full, (place, first.is)))
              | inl room ↦
                  elim first_due [
                    | inl (due, is_due) ↦
                        (let class : (pair : Pair) × (class_at listed.classes due ≡ Some pair) = class_pair due is_due.is.0 in
                        (Question 0 (length now.asked + 1) due class.0, (λ full. omega (arith, full), is_due, refl, class.1)))
                    | inr none ↦ (Waiting 0 place [] [], (λ full. omega (arith, full), none, first))
                  ]
            ]
      ]

  values_reply : (reply : ValuesReply) × IsValuesReply listed now reply
  values_reply =
      elim first_open [
        | inr none ↦ (Values 0 [], none)
        | inl (place, first) ↦
            (let class : (pair : Pair) × (class_at listed.classes place ≡ Some pair) = class_pair place first.is in
            (Incomplete 0 place class.0 [] [], (first, class.1)))
      ]

  nothing_combined : Combination
  nothing_combined = record { scale = pos 0; increments = []; answers = [] }

  -- a question whose state is known, and whose class is there
  answer_reply : (question : ℕ) → ((place : ℕ) → place_of now.asked question ≡ Some place → IsPlace listed place)
      → (IsQuestion listed now question → Contains now.open_questions question ⊎ (¬ Contains now.open_questions question))
      → (reply : AnswerReply) × IsAnswerReply listed now question reply
  answer_reply question classes test =
      elim (cases_lt 0 question) [
        | inr none ↦ (Unknown 0 question, (refl, λ is. omega (arith, is.0)))
        | inl some ↦
            elim (cases_lt (length now.asked) question) [
              | inl past ↦ (Unknown 0 question, (refl, λ is. omega (arith, is.1)))
              | inr within ↦
                  (let is : IsQuestion listed now question = (omega arith, within) in
                  elim (test is) [
                    | inr ended ↦ (Closed 0 question, (refl, is, ended))
                    | inl open_now ↦
                        (let asks : (place : ℕ) × (place_of now.asked question ≡ Some place) = item_inside now.asked question (omega arith) within in
                        let class : (pair : Pair) × (class_at listed.classes asks.0 ≡ Some pair) = item_inside listed.classes asks.0 (classes asks.0 asks.1).0 (classes asks.0 asks.1).1 in
                        let whole : class_of listed.classes now.asked question ≡ Some class.0 =
                        ap (λ (o : Option ℕ). option_and_then (class_at listed.classes) o) asks.1 ∙ class.1 in
                        elim (decided asks.0 class.0 class.1) [
                          | inl (side, ranked) ↦
                              (Implied 0 question side nothing_combined, (refl, (is, open_now), subst (λ (o : Option Pair). IsSomeAnd o (λ pair. IsRanked listed.criteria.levels now.answers pair side)) (sym whole) ranked))
                          | inr open_class ↦
                              (Accepted 0 question, (refl, (is, open_now), subst (λ (o : Option Pair). IsSomeAnd o (λ pair. IsOpen listed.criteria.levels now.answers pair)) (sym whole) open_class))
                        ])
                  ])
            ]
      ]

  spent_test : AreSpent listed now ⊎ (¬ AreSpent listed now)
  spent_test =
      elim (cases_lt MAX_EVENTS (most_events (length listed.classes) (now.withdrawals + 1))) [
        | inl spent ↦ inl spent
        | inr unspent ↦ inr (λ spent. omega (arith, spent))
      ]

  withdraw_reply : length now.answered ≡ length now.answers → (answers : List Answer) → answers ≡ now.answers → (reply : WithdrawReply) × IsWithdrawReply listed now reply
  withdraw_reply len [] same = (Nothing 0, sym same)
  withdraw_reply len (answer ∷ answers) same =
      let some : 1 ≤ length now.answers = omega (arith, ap (λ (l : List Answer). length l) same) in
      elim spent_test [
        | inl spent ↦ (Spent 0, (some, spent))
        | inr unspent ↦
            (let last : (question : ℕ) × (item_at now.answered (length now.answered) ≡ Some question) =
            item_inside now.answered (length now.answered) (omega arith) (omega arith) in
            (Withdrawn 0 (length now.answers) last.0, (some, unspent, refl, last.1)))
      ]

pub of_commits : (events : List Event) → Each (OfCommits answered_question) events
of_commits [] = tt
of_commits (Eliminate worker place verdict combination ∷ later) = (refl, of_commits later)
of_commits (Issue desk place plus minus ∷ later) = (refl, of_commits later)
of_commits (Commit desk question side plus minus point ∷ later) = ((question, refl), of_commits later)
of_commits (Close desk question ∷ later) = (refl, of_commits later)
of_commits (Withdraw desk answer ∷ later) = (refl, of_commits later)

pub answered_count : (history : List Event) → length (answered history) ≡ commit_count (standing history)
answered_count history = length-filter_map answered_question (standing history) (of_commits (standing history))

unended_test : (history : List Event) (question : ℕ) → 1 ≤ question → question ≤ length (issued history)
    → Contains (open_questions history) question ⊎ (¬ Contains (open_questions history) question)
unended_test history question some within =
    let go : (b : Bool) → is_unended history question ≡ b → Contains (open_questions history) question ⊎ (¬ Contains (open_questions history) question) =
    λ b. elim b as (λ b. is_unended history question ≡ b → Contains (open_questions history) question ⊎ (¬ Contains (open_questions history) question)) [
      | true ↦ λ yes. inl (contains_filtered (is_unended history) 1 (length (issued history)) question some (omega arith) yes)
      | false ↦ λ no. inr (λ is.
          let found : is_unended history question ≡ true = (filtered_range (is_unended history) 1 (length (issued history)) question is).2 in
          cc)
    ]
    in go (is_unended history question) refl

pub has_reply_lem : (listed : Listed) (history : List Event) (request : Request) → IsListed listed → IsLegal listed history
    → AreDecided listed (interview listed history) → (reply : Outcome) × IsReplyTo listed (interview listed history) request reply
has_reply_lem listed history request.next model legal decided =
    let found : (reply : NextReply) × IsNextReply listed (interview listed history) reply = next_reply listed (interview listed history) decided in
    (outcome.next found.0, found.1)
has_reply_lem listed history (request.answer question side) model legal decided =
    let sound : IsSound listed history = sound_history listed history legal in
    let found : (reply : AnswerReply) × IsAnswerReply listed (interview listed history) question reply =
    answer_reply listed (interview listed history) decided question
    (λ place asks. Each-at (IsPlace listed) (issued history) (question - 1) place sound.places (item_found (issued history) question place asks))
    (λ is. unended_test history question is.0 is.1) in
    (outcome.answer found.0, found.1)
has_reply_lem listed history request.look model legal decided = (outcome.look 0, tt)
has_reply_lem listed history request.values model legal decided =
    let found : (reply : ValuesReply) × IsValuesReply listed (interview listed history) reply = values_reply listed (interview listed history) decided in
    (outcome.values found.0, found.1)
has_reply_lem listed history request.withdraw model legal decided =
    let sound : IsSound listed history = sound_history listed history legal in
    let found : (reply : WithdrawReply) × IsWithdrawReply listed (interview listed history) reply =
    withdraw_reply listed (interview listed history) decided (answered_count history ∙ sym (answers_count listed history sound))
    (committed listed.classes history) refl in
    (outcome.withdraw found.0, found.1)
