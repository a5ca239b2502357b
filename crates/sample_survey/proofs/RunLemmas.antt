-- A plain run in which each question is answered by the same values: no question is open, and the values meet the answers.
use Rattle.std.proofs.Common.{ℤ, ◌≡◌, ◌⊎◌, ℕ, zero, suc, ◌+◌, ◌<◌, ◌≤◌, ◌==◌, Bool, true, false, not, ◌||◌, List, [], ◌∷◌, ◌++◌, length, Option, Some, cond, slice_get, refl, ap, sym, subst, ◌∙◌, inl, inr, arith, length-append}
use Rattle.std.specs.Option.{option_map, option_and_then}
use Rattle.std.specs.List.{cons_option, filter, filter_map, list_any, range_with_len}
use Rattle.std.proofs.lemmas.Option.{same_Some}
use Rattle.std.proofs.lemmas.Bool.{eq-eqb, eqb-true, ne_eqb, or_cases, cases_lt}
use Rattle.std.proofs.lemmas.List.Elements.{filter_map-append}
use Rattle.std.proofs.lemmas.List.Folds.{list_any-append}
use Rattle.criteria_model.specs.declared.pairs.Pair.{Pair}
use Rattle.criteria_model.specs.declared.pairs.Answer.{Answer}
use Rattle.criteria_model.specs.declared.pairs.Side.{Side}
use Rattle.criteria_model.specs.Worth.{IsValueVector}
use Rattle.criteria_model.specs.Answers.{Ranks, Meets, MeetsAll, IsRanked}
use Rattle.pair_enumeration.specs.Listed.{Listed}
use Rattle.row_laws.proofs.ItemLemmas.{item_of, item_inside, item_at-append}
use Rattle.survey_core.specs.Histories.{item_at, class_at, class_of}
use Rattle.survey_core.proofs.ListSteps.{Each, Each-append, Each-map, Each-All, Each-front, Each-back, All-Each, filter_map-same, slice_get-last}
use Rattle.survey_replies.specs.Requests.{Request}
use Rattle.survey_replies.specs.Requests as request
use Rattle.survey_replies.specs.declared.replies.NextReply.TheVariants.{Question, Full, Waiting, Complete}
use Rattle.survey_replies.specs.Outcomes.{Outcome, Exchange}
use Rattle.survey_replies.specs.Outcomes as outcome
use Rattle.survey_replies.specs.ReplyLaw.{IsUnaskedOpenClass, IsReplyTo}
use Rattle.survey_replies.specs.Gists.{Gist, gist_of}
use Rattle.survey_replies.specs.Gists as gist
use Rattle.survey_replies.specs.PlainRun.{Given, Ended, PlainSurvey, answer_given, is_open_in, plain_interview, plain_start}
use Rattle.sample_survey.specs.Samples.{AnsweredQuestion}

-- ---- lists
filter_none : (p : ℕ → Bool) (from n : ℕ) → ((q : ℕ) → from ≤ q → q < from + n → p q ≡ false) → filter p (range_with_len from n) ≡ []
filter_none p from zero none = refl
filter_none p from (suc n) none =
    let rest : List ℕ = filter p (range_with_len (from + 1) n) in
    ap (λ (b : Bool). cond b (from ∷ rest) rest) (none from (omega arith) (omega arith))
    ∙ filter_none p (from + 1) n (λ q low high. none q (omega arith) (omega arith))

none_given : (question : ℕ) (given : List Given) → Each (λ g. g.question < question) given → list_any (λ (g : Given). g.question == question) given ≡ false
none_given question [] each = refl
none_given question (g ∷ given) each =
    let other : (g.question == question) ≡ false = ne_eqb g.question question (λ same. omega (arith, each.0, same)) in
    ap (λ (b : Bool). b || list_any (λ (g : Given). g.question == question) given) other ∙ none_given question given each.1

or_true : (b : Bool) → (b || true) ≡ true
or_true true = refl
or_true false = refl

-- one number more in a list that is searched
any_more : (place other : ℕ) (asked : List ℕ) → list_any (λ n. n == place) (asked ++ other ∷ []) ≡ true
    → (list_any (λ n. n == place) asked ≡ true) ⊎ (other ≡ place)
any_more place other asked found =
    elim (or_cases (list_any (λ n. n == place) asked) ((other == place) || false) (sym (list_any-append (λ n. n == place) asked (other ∷ [])) ∙ found)) [
      | inl early ↦ inl early
      | inr last ↦ (elim (or_cases (other == place) false last) [ inl same ↦ inr (eqb-true other place same) | inr none ↦ absurd cc ])
    ]

-- ---- fewer answers are met by more values
meets_front : (levels : List ℕ) (answers : List Answer) (answer : Answer) (values : List ℤ) → MeetsAll levels (answers ++ answer ∷ []) values
    → MeetsAll levels answers values × Meets levels values answer
meets_front levels answers answer values meets =
    let each : Each (Meets levels values) (answers ++ answer ∷ []) = All-Each (Meets levels values) (answers ++ answer ∷ []) meets.each in (
      record { vector = meets.vector; each = Each-All (Meets levels values) answers (Each-front (Meets levels values) answers (answer ∷ []) each) },
      (Each-back (Meets levels values) answers (answer ∷ []) each).0,
    )

meets_more : (levels : List ℕ) (answers : List Answer) (answer : Answer) (values : List ℤ) → MeetsAll levels answers values → Meets levels values answer
    → MeetsAll levels (answers ++ answer ∷ []) values
meets_more levels answers answer values meets last = record {
  vector = meets.vector;
  each =
      Each-All (Meets levels values) (answers ++ answer ∷ [])
      (Each-append (Meets levels values) answers (answer ∷ []) (All-Each (Meets levels values) answers meets.each) (last, tt));
}

-- ---- a run in which each question is answered
pub record IsSettled (listed : Listed) (values : List ℤ) (run : PlainSurvey) : Type 0 where
  pub closed : run.closed ≡ []
  pub numbered : Each (λ given. (1 ≤ given.question) × (given.question ≤ length run.asked)) run.given
  pub each_given : (question : ℕ) → 1 ≤ question → question ≤ length run.asked → list_any (λ given. given.question == question) run.given ≡ true
  pub met : MeetsAll listed.criteria.levels (plain_interview listed run).answers values
  pub ranked : (place : ℕ) (pair : Pair) → list_any (λ other. other == place) run.asked ≡ true → class_at listed.classes place ≡ Some pair
      → (side : Side) × IsRanked listed.criteria.levels (plain_interview listed run).answers pair side

pub settled_start : (listed : Listed) (values : List ℤ) → IsValueVector listed.criteria.levels values → IsSettled listed values plain_start
settled_start listed values vector = record {
  closed = refl;
  numbered = tt;
  each_given = λ question low high. absurd (omega arith);
  met = record { vector = vector; each = λ k d within. absurd (omega arith) };
  ranked = λ place pair asked at. absurd cc;
}

pub none_open : (listed : Listed) (values : List ℤ) (run : PlainSurvey) → IsSettled listed values run → (plain_interview listed run).open_questions ≡ []
none_open listed values run settled =
    filter_none (is_open_in run) 1 (length run.asked)
    (λ q low high. ap (λ (b : Bool). not (b || list_any (λ ended. ended.question == q) run.closed)) (settled.each_given q low (omega arith)))

-- the answer that a question is given, where more questions were asked
same_answer : (classes : List Pair) (asked more : List ℕ) (given : Given) → 1 ≤ given.question → given.question ≤ length asked
    → answer_given classes (asked ++ more) given ≡ answer_given classes asked given
same_answer classes asked more given low high =
    let found : (x : ℕ) × (item_at asked given.question ≡ Some x) = item_inside asked given.question low high in
    ap (λ (o : Option ℕ). option_map (λ pair. record { pair = pair; side = given.side }) (option_and_then (class_at classes) o))
    (item_at-append asked more given.question found.0 found.1 ∙ sym found.1)

-- ---- one question more
-- after it is asked
abbrev pub asked_run : PlainSurvey → ℕ → PlainSurvey
asked_run run place = record run { asked = run.asked ++ place ∷ [] }

-- after it is asked and answered
abbrev pub answered_run : PlainSurvey → AnsweredQuestion → PlainSurvey
answered_run run one = record (asked_run run one.place) { given = run.given ++ record { question = one.number; side = one.side } ∷ [] }

-- what the reply law says of a question
pub record IsAsked (listed : Listed) (run : PlainSurvey) (number place : ℕ) (pair : Pair) : Type 0 where
  pub due : IsUnaskedOpenClass listed (plain_interview listed run) place
  pub count : number ≡ length run.asked + 1
  pub class : class_at listed.classes place ≡ Some pair

pub is_asked : (listed : Listed) (run : PlainSurvey) (reply : Outcome) (number place : ℕ) (pair : Pair)
    → IsReplyTo listed (plain_interview listed run) request.next reply → gist_of reply ≡ gist.asks number place pair → IsAsked listed run number place pair
is_asked listed run (outcome.next (Question at n p cls)) number place pair law same =
    let numbers : n ≡ number = cc in
    let places : p ≡ place = cc in
    let classes : cls ≡ pair = cc in
    record {
      due = subst (λ (k : ℕ). IsUnaskedOpenClass listed (plain_interview listed run) k) places law.1.is;
      count = sym numbers ∙ law.2;
      class = sym (ap (λ (k : ℕ). class_at listed.classes k) places) ∙ law.3 ∙ ap (λ (c : Pair). Some c) classes;
    }
is_asked listed run (outcome.next (Full at)) number place pair law same = absurd cc
is_asked listed run (outcome.next (Waiting at p plus minus)) number place pair law same = absurd cc
is_asked listed run (outcome.next (Complete at)) number place pair law same = absurd cc
is_asked listed run _ number place pair law same = absurd law

module _ (listed : Listed) (values : List ℤ) (run : PlainSurvey) (settled : IsSettled listed values run) (number place : ℕ) (pair : Pair)
    (asked : IsAsked listed run number place pair) where
  answers : List Answer
  answers = (plain_interview listed run).answers

  asked_len : length (run.asked ++ place ∷ []) ≡ length run.asked + 1
  asked_len = length-append run.asked (place ∷ [])

  pub same_answers : (plain_interview listed (asked_run run place)).answers ≡ (plain_interview listed run).answers
  same_answers =
      filter_map-same (answer_given listed.classes (run.asked ++ place ∷ [])) (answer_given listed.classes run.asked) run.given
      (Each-map (λ given. (1 ≤ given.question) × (given.question ≤ length run.asked))
      (λ given. answer_given listed.classes (run.asked ++ place ∷ []) given ≡ answer_given listed.classes run.asked given)
      (λ given within. same_answer listed.classes run.asked (place ∷ []) given within.0 within.1) run.given settled.numbered)

  asked_place : item_at (run.asked ++ place ∷ []) number ≡ Some place
  asked_place =
      item_of (run.asked ++ place ∷ []) number place (omega (arith, asked.count))
      (ap (λ (k : ℕ). slice_get (run.asked ++ place ∷ []) k) (omega (arith, asked.count)) ∙ slice_get-last run.asked place)

  pub asked_class : class_of listed.classes (run.asked ++ place ∷ []) number ≡ Some pair
  asked_class = ap (λ (o : Option ℕ). option_and_then (class_at listed.classes) o) asked_place ∙ asked.class

  pub is_open_now : is_open_in (asked_run run place) number ≡ true
  is_open_now =
      let none : list_any (λ (given : Given). given.question == number) run.given ≡ false =
      none_given number run.given
      (Each-map (λ given. (1 ≤ given.question) × (given.question ≤ length run.asked)) (λ given. given.question < number)
      (λ given within. omega (arith, within.1, asked.count)) run.given settled.numbered) in
      ap (λ (b : Bool). not (b || list_any (λ ended. ended.question == number) run.closed)) none
      ∙ ap (λ (l : List Ended). not (list_any (λ ended. ended.question == number) l)) settled.closed

  module _ (side : Side) (ranks : Ranks listed.criteria.levels values pair side) where
    one : AnsweredQuestion
    one = record { number = number; place = place; pair = pair; side = side }

    after : PlainSurvey
    after = answered_run run one

    more_answers : (plain_interview listed after).answers ≡ answers ++ record { pair = pair; side = side } ∷ []
    unfolding answers after one
    more_answers =
        filter_map-append (answer_given listed.classes (run.asked ++ place ∷ [])) run.given (record { question = number; side = side } ∷ [])
        ∙ ap (λ (l : List Answer). l ++ filter_map (answer_given listed.classes (run.asked ++ place ∷ [])) (record { question = number; side = side } ∷ [])) same_answers
        ∙ ap (λ (o : Option Pair). answers ++ cons_option (option_map (λ pair. record { pair = pair; side = side }) o) []) asked_class

    earlier_ranked : (other : Pair) (verdict : Side) → IsRanked listed.criteria.levels answers other verdict
        → IsRanked listed.criteria.levels (plain_interview listed after).answers other verdict
    earlier_ranked other verdict ranked = λ vector meets.
        ranked vector (meets_front listed.criteria.levels answers (record { pair = pair; side = side }) vector
        (subst (λ (l : List Answer). MeetsAll listed.criteria.levels l vector) more_answers meets)).0

    now_ranked : IsRanked listed.criteria.levels (plain_interview listed after).answers pair side
    now_ranked = λ vector meets.
        (meets_front listed.criteria.levels answers (record { pair = pair; side = side }) vector
        (subst (λ (l : List Answer). MeetsAll listed.criteria.levels l vector) more_answers meets)).1

    pub settled_after : IsSettled listed values (answered_run run (record { number = number; place = place; pair = pair; side = side }))
    unfolding answers after one
    settled_after = record {
      closed = settled.closed;
      numbered =
          Each-append (λ given. (1 ≤ given.question) × (given.question ≤ length (run.asked ++ place ∷ []))) run.given (record { question = number; side = side } ∷ [])
          (Each-map (λ given. (1 ≤ given.question) × (given.question ≤ length run.asked)) (λ given. (1 ≤ given.question) × (given.question ≤ length (run.asked ++ place ∷ [])))
          (λ given within. (within.0, omega (arith, within.1, asked_len))) run.given settled.numbered)
          ((omega (arith, asked.count), omega (arith, asked.count, asked_len)), tt);
      each_given = λ question low high.
          list_any-append (λ (given : Given). given.question == question) run.given (record { question = number; side = side } ∷ [])
          ∙ elim (cases_lt (length run.asked) question) [
            | inl last ↦ (let here : number ≡ question = omega (arith, asked.count, asked_len) in
                ap (λ (b : Bool). list_any (λ (given : Given). given.question == question) run.given || (b || false)) (eq-eqb number question here)
                ∙ or_true (list_any (λ (given : Given). given.question == question) run.given))
            | inr early ↦ ap (λ (b : Bool). b || ((number == question) || false)) (settled.each_given question low early)
          ];
      met =
          subst (λ (l : List Answer). MeetsAll listed.criteria.levels l values) (sym more_answers)
          (meets_more listed.criteria.levels answers (record { pair = pair; side = side }) values settled.met ranks);
      ranked = λ other cls found at.
          elim (any_more other place run.asked found) [
            | inl early ↦ (let was = settled.ranked other cls early at in (was.0, earlier_ranked cls was.0 was.1))
            | inr same ↦ (
                let both : pair ≡ cls = same_Some pair cls (sym asked.class ∙ ap (λ (k : ℕ). class_at listed.classes k) same ∙ at) in
                (side, subst (λ (c : Pair). IsRanked listed.criteria.levels (plain_interview listed after).answers c side) both now_ranked))
          ];
    }
