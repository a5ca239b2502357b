-- What a `Core` answers from its marks.
use Rattle.std.proofs.Common.{◌≡◌, ◌⊎◌, ◌↔◌, ℕ, suc, ◌+◌, ◌-◌, ◌<◌, ◌≤◌, Bool, true, false, cond, ◌||◌, IsTrue, List, [], ◌∷◌, ◌++◌, length, All, Some, slice_get, IsSomeAnd, Option, ℤ, refl, ap, sym, subst, ◌∙◌, inl, inr, arith}
use Rattle.std.specs.List.{count_by}
use Rattle.std.proofs.lemmas.List.Sums.{sum_by-cons, count_by-le-length}
use Rattle.std.proofs.lemmas.Option.{slice_get_within, get_or_from_slice_get}
use Rattle.answer_rows.specs.Room.{AnswersWithRoom}
use Rattle.criteria_model.specs.declared.pairs.Answer.{Answer}
use Rattle.criteria_model.specs.declared.pairs.Pair.{Pair}
use Rattle.criteria_model.specs.declared.pairs.Side.{Side}
use Rattle.criteria_model.specs.Criteria.{Criteria}
use Rattle.criteria_model.specs.Pairs.{IsFit}
use Rattle.criteria_model.specs.Answers.{Ranks, Meets, MeetsAll, Opens}
use Rattle.farkas_check.specs.declared.combination.Combination.{Combination}
use Rattle.farkas_check.specs.declared.flaws.Flaw.{Flaw}
use Rattle.farkas_check.specs.Flaws.{IsFirstFlaw}
use Rattle.pair_enumeration.specs.Listed.{Listed}
use Rattle.survey_core.specs.declared.events.Event.{Event}
use Rattle.survey_core.specs.declared.marks.Mark.{Mark}
use Rattle.survey_core.specs.declared.marks.Question.{Question}
use Rattle.survey_core.specs.Histories.{issued, class_at, committed, is_unended, open_questions, IsOpenQuestion, is_eliminated, is_ranked}
use Rattle.survey_core.specs.Legal.{IsPlace, AreEarlierAsked, OpensClass}
use Rattle.survey_core.specs.Marked.{Table, is_ranking, is_elimination, is_open, is_ranked_mark, is_open_mark, is_answer_up_to, AreSettled, IsMark, KeepsHistory}
use Rattle.survey_core.proofs.ListSteps.{slice_get_inside, Each, Each-append, Each-All, All-Each, Each-front, Each-back, some_at, at_some, filtered_range}
use Rattle.survey_core.proofs.SoundLemmas.{IsSound, sound_history}
use Rattle.survey_core.proofs.TableLemmas.{count_less}
use Rattle.row_laws.proofs.ItemLemmas.{item_found}
use Rattle.survey_core.proofs.ReadLemmas.{mark_at, question_at, issued_len, asks_at, mark_eliminated, mark_ranked, question_unended, open_count, contains_filtered, answers_fit}

false_true : false ≡ true → ⊥
false_true h = cc

next_less : (k : ℕ) → k ≡ k + 1 - 1
next_less k = omega arith

pub or_either : (a b : Bool) → (a || b) ≡ true → (a ≡ true) ⊎ (b ≡ true)
or_either true b h = inl refl
or_either false b h = inr h

pub or_left : (a b : Bool) → a ≡ true → (a || b) ≡ true
or_left true b h = refl
or_left false b h = absurd (false_true h)

pub or_right : (a b : Bool) → b ≡ true → (a || b) ≡ true
or_right true b h = refl
or_right false b h = h

true_or_false : (b : Bool) → (b ≡ true) ⊎ (b ≡ false)
true_or_false true = inl refl
true_or_false false = inr refl

count_all : {X : Type 0} (p : X → Bool) (xs : List X) → ((k : ℕ) (x : X) → slice_get xs k ≡ Some x → p x ≡ true) → count_by p xs ≡ length xs
count_all p [] h = refl
count_all p (x ∷ xs) h =
    let here : p x ≡ true = h 0 x refl in
    let f : Bool → ℕ = λ b. cond b 1 0 in
    omega (arith, sum_by-cons (λ y. cond (p y) 1 0) x xs, ap f here, count_all p xs (λ k y at. h (suc k) y at))

-- one more answer is met
meets_push : (levels : List ℕ) (answers : List Answer) (given : Answer) (point : List ℤ) → MeetsAll levels answers point → Meets levels point given
    → MeetsAll levels (answers ++ given ∷ []) point
meets_push levels answers given point meets ranks = record {
  vector = meets.vector;
  each =
      Each-All (Meets levels point) (answers ++ given ∷ [])
      (Each-append (Meets levels point) answers (given ∷ []) (All-Each (Meets levels point) answers meets.each) (ranks, tt));
}

meets_pop : (levels : List ℕ) (answers : List Answer) (given : Answer) (point : List ℤ) → MeetsAll levels (answers ++ given ∷ []) point
    → MeetsAll levels answers point × Meets levels point given
meets_pop levels answers given point meets =
    let each : Each (Meets levels point) (answers ++ given ∷ []) = All-Each (Meets levels point) (answers ++ given ∷ []) meets.each in (
      record { vector = meets.vector; each = Each-All (Meets levels point) answers (Each-front (Meets levels point) answers (given ∷ []) each) },
      (Each-back (Meets levels point) answers (given ∷ []) each).0,
    )

module _ (listed : Listed) (history : List Event) (answers : AnswersWithRoom) (table : Table) (withdrawn room : ℕ)
    (kept : KeepsHistory listed history answers table withdrawn room) where
  pub ranked_at : (place : ℕ) (mark : Mark) → 1 ≤ place → slice_get table.classes (place - 1) ≡ Some mark → is_ranked history place ≡ is_ranking mark.ranking
  ranked_at place mark low at = mark_ranked history place mark (mark_at kept.table_of place mark low at)

  pub eliminated_at : (place : ℕ) (mark : Mark) → 1 ≤ place → slice_get table.classes (place - 1) ≡ Some mark
      → is_eliminated history place ≡ is_elimination mark.ranking
  eliminated_at place mark low at = mark_eliminated history place mark (mark_at kept.table_of place mark low at)

  abbrev pub Found : ℕ → Type 0
  Found place = (mark : Mark) × (slice_get table.classes (place - 1) ≡ Some mark)

  pub found_at : (place : ℕ) → IsPlace listed place → Found place
  found_at place is = slice_get_inside table.classes (place - 1) (omega (arith, kept.table_of.len, is.0, is.1))

  pub front_at : (place : ℕ) → IsPlace listed place → AreSettled table.classes (place - 1) ↔ AreEarlierAsked history place
  front_at place is = (
    (λ all earlier low high.
        let found : Found earlier = found_at earlier (low, omega (arith, is.1)) in
        let mark : IsMark history earlier found.0 = mark_at kept.table_of earlier found.0 low found.1 in
        elim (or_either (is_ranking found.0.ranking) found.0.issued (all (earlier - 1) found.0 (omega arith) found.1)) [
          | inl ranked ↦ inl (ranked_at earlier found.0 low found.1 ∙ ranked)
          | inr asked ↦ inr (mark.asked ∙ asked)
        ]),
    (λ all k mark below at.
        let from_one : 1 ≤ k + 1 = omega arith in
        let here : slice_get table.classes (k + 1 - 1) ≡ Some mark = subst (λ (n : ℕ). slice_get table.classes n ≡ Some mark) (next_less k) at in
        elim (all (k + 1) from_one (omega arith)) [
          | inl ranked ↦ or_left (is_ranking mark.ranking) mark.issued (sym (ranked_at (k + 1) mark from_one here) ∙ ranked)
          | inr asked ↦ or_right (is_ranking mark.ranking) mark.issued (sym (mark_at kept.table_of (k + 1) mark from_one here).asked ∙ asked)
        ]),
  )

  pub all_at : (count_by is_ranked_mark table.classes ≡ length table.classes) ↔ ((place : ℕ) → IsPlace listed place → IsTrue (is_ranked history place))
  all_at = (
    (λ count place is.
        let found : Found place = found_at place is in
        elim (true_or_false (is_ranking found.0.ranking)) [
          | inl ranked ↦ ranked_at place found.0 is.0 found.1 ∙ ranked
          | inr unranked ↦ absurd (omega (arith, count_less is_ranked_mark table.classes (place - 1) found.0 found.1 unranked, count))
        ]),
    (λ all. count_all is_ranked_mark table.classes
        (λ k mark at.
        let from_one : 1 ≤ k + 1 = omega arith in
        let here : slice_get table.classes (k + 1 - 1) ≡ Some mark = subst (λ (n : ℕ). slice_get table.classes n ≡ Some mark) (next_less k) at in
        sym (ranked_at (k + 1) mark from_one here) ∙ all (k + 1) (from_one, omega (arith, slice_get_within table.classes k mark at, kept.table_of.len)))),
  )

  pub open_at : length (open_questions history) ≡ count_by is_open_mark table.questions
  open_at = open_count history table.questions kept.table_of.places kept.table_of.each_question

  pub fit_at : All (λ answer. IsFit listed.criteria.levels answer.pair) answers.answers
  fit_at = subst (λ (l : List Answer). All (λ answer. IsFit listed.criteria.levels answer.pair) l) (sym kept.answered) (answers_fit listed history kept.model)

  -- each answer is of a class of its own
  pub few_answers : length answers.answers ≤ length listed.classes
  few_answers =
      let most : ℕ = length answers.answers in
      omega (arith, kept.table_of.answer_count most, count_by-le-length (is_answer_up_to most) table.classes, kept.table_of.len)

  -- the mark of a question
  pub unended_at : (number : ℕ) (question : Question) → 1 ≤ number → slice_get table.questions (number - 1) ≡ Some question
      → is_unended history number ≡ is_open question.ending
  unended_at number question low at = question_unended history number question (question_at kept.table_of number question low at)

  pub open_question_at : (number : ℕ) (question : Question) → 1 ≤ number → slice_get table.questions (number - 1) ≡ Some question
      → is_open question.ending ≡ true → IsOpenQuestion history number
  open_question_at number question low at is =
      contains_filtered (is_unended history) 1 (length (issued history)) number low
      (omega (arith, issued_len kept.table_of, slice_get_within table.questions (number - 1) question at)) (unended_at number question low at ∙ is)

  pub ended_question_at : (number : ℕ) (question : Question) → 1 ≤ number → slice_get table.questions (number - 1) ≡ Some question
      → is_open question.ending ≡ false → ¬ IsOpenQuestion history number
  ended_question_at number question low at is = λ open_now.
      let found : (1 ≤ number) × (number < 1 + length (issued history)) × (is_unended history number ≡ true) =
      filtered_range (is_unended history) 1 (length (issued history)) number open_now in
      let both : true ≡ false = sym found.2 ∙ unended_at number question low at ∙ is in cc

  pub unasked_at : (number : ℕ) → (number ≡ 0) ⊎ (length table.questions < number) → ¬ IsOpenQuestion history number
  unasked_at number is = λ open_now.
      let found : (1 ≤ number) × (number < 1 + length (issued history)) × (is_unended history number ≡ true) =
      filtered_range (is_unended history) 1 (length (issued history)) number open_now in
      elim is [ inl none ↦ absurd (omega (arith, found.0)) | inr more ↦ absurd (omega (arith, found.1, issued_len kept.table_of)) ]

  -- an issued class is one of the model
  pub place_at : (number : ℕ) (question : Question) → 1 ≤ number → slice_get table.questions (number - 1) ≡ Some question → IsPlace listed question.place
  place_at number question low at =
      let sound : IsSound listed history = sound_history listed history kept.legal in
      let asks : slice_get (issued history) (number - 1) ≡ Some question.place =
      item_found (issued history) number question.place (asks_at kept.table_of number question low at) in
      let within : number - 1 < length (issued history) = slice_get_within (issued history) (number - 1) question.place asks in
      subst (λ (n : ℕ). IsPlace listed n) (get_or_from_slice_get (issued history) (number - 1) question.place 0 asks)
      (Each-All (IsPlace listed) (issued history) sound.places (number - 1) 0 within)

  -- ---- answers and the class at a place
  abbrev levels : List ℕ
  levels = listed.criteria.levels

  abbrev Stands : ℕ → Pair → Type 0
  Stands place pair = class_at listed.classes place ≡ Some pair

  pub flaw_at : (model : Criteria) (place : ℕ) (pair : Pair) (combination : Combination) (verdict : Side) (flaw : Option Flaw) → model ≡ listed.criteria → Stands place pair
      → IsFirstFlaw model.levels answers.answers combination pair verdict flaw
      → IsSomeAnd (class_at listed.classes place) (λ pair. IsFirstFlaw levels (committed listed.classes history) combination pair verdict flaw)
  flaw_at model place pair combination verdict flaw same at first =
      some_at (class_at listed.classes place) (λ pair. IsFirstFlaw levels (committed listed.classes history) combination pair verdict flaw) pair at
      (subst (λ (l : List Answer). IsFirstFlaw levels l combination pair verdict flaw) kept.answered
      (subst (λ (m : Criteria). IsFirstFlaw m.levels answers.answers combination pair verdict flaw) same first))

  pub opens_at : (model : Criteria) (place : ℕ) (pair : Pair) (plus minus : List ℤ) (r : Bool) → model ≡ listed.criteria → Stands place pair
      → IsTrue r ↔ Opens model.levels answers.answers pair plus minus → IsTrue r ↔ OpensClass listed history place plus minus
  opens_at model place pair plus minus r same at exactly =
      let here : IsTrue r ↔ Opens levels (committed listed.classes history) pair plus minus =
      subst (λ (l : List Answer). IsTrue r ↔ Opens levels l pair plus minus) kept.answered
      (subst (λ (m : Criteria). IsTrue r ↔ Opens m.levels answers.answers pair plus minus) same exactly) in
      let Opened : Pair → Type 0 = λ pair. Opens levels (committed listed.classes history) pair plus minus in
      ((λ h. some_at (class_at listed.classes place) Opened pair at (here.0 h)), (λ h. here.1 (at_some (class_at listed.classes place) Opened pair at h)))

  pub meets_at : (model : Criteria) (place : ℕ) (pair : Pair) (side : Side) (point : List ℤ) → model ≡ listed.criteria → Stands place pair
      → (MeetsAll model.levels answers.answers point × Ranks model.levels point pair side)
      ↔ IsSomeAnd (class_at listed.classes place) (λ pair. MeetsAll levels (committed listed.classes history ++ record { pair = pair; side = side } ∷ []) point)
  meets_at model place pair side point same at =
      let With : List Answer → Pair → Type 0 = λ l pair. MeetsAll levels (l ++ record { pair = pair; side = side } ∷ []) point in
      let Both : Criteria → Type 0 =
      λ m. (MeetsAll m.levels answers.answers point × Ranks m.levels point pair side) ↔ IsSomeAnd (class_at listed.classes place) (With (committed listed.classes history)) in
      let given : Answer = record { pair = pair; side = side } in
      subst Both (sym same) (
        (λ h. some_at (class_at listed.classes place) (With (committed listed.classes history)) pair at
            (subst (λ (l : List Answer). With l pair) kept.answered (meets_push levels answers.answers given point h.0 h.1))),
        (λ h. meets_pop levels answers.answers given point
            (subst (λ (l : List Answer). With l pair) (sym kept.answered) (at_some (class_at listed.classes place) (With (committed listed.classes history)) pair at h))),
      )
