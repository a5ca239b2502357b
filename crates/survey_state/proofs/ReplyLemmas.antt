-- Why the replies that a state gives are right.
use Rattle.std.proofs.Common.{length-append, ◌≡◌, ◌⊎◌, ◌↔◌, ℕ, ◌+◌, ◌<◌, ◌≤◌, ◌==◌, Bool, true, false, cond, ◌||◌, IsTrue, IsFalse, List, [], ◌∷◌, ◌++◌, length, Option, Some, None, IsSomeAnd, Contains, ℤ, refl, ap, sym, subst, ◌∙◌, inl, inr, arith, append-nil, append_assoc}
use Rattle.std.specs.Option.{option_and_then}
use Rattle.std.specs.Prelude.{is_some, MatchOption}
use Rattle.std.specs.List.{list_any}
use Rattle.std.proofs.lemmas.Bool.{eq-eqb}
use Rattle.std.proofs.lemmas.List.Folds.{list_any-append}
use Rattle.criteria_model.specs.declared.pairs.Pair.{Pair}
use Rattle.criteria_model.specs.declared.pairs.Answer.{Answer}
use Rattle.criteria_model.specs.declared.pairs.Side.{Side}
use Rattle.criteria_model.specs.Criteria.{Criteria}
use Rattle.criteria_model.specs.Counts.{class_count}
use Rattle.criteria_model.specs.Worth.{IsValueVector}
use Rattle.criteria_model.specs.Answers.{MeetsAll, IsRanked, IsOpen, Opens}
use Rattle.criteria_model.proofs.RankLemmas.{opened_is_open}
use Rattle.farkas_check.specs.declared.combination.Combination.{Combination}
use Rattle.farkas_check.specs.Proof.{Proves}
use Rattle.farkas_check.proofs.Ranking.{proved_is_ranked_lem}
use Rattle.pair_enumeration.specs.Listed.{Listed, IsListed}
use Rattle.row_laws.proofs.ItemLemmas.{item_within, item_positive}
use Rattle.survey_core.specs.declared.events.Event.{Event}
use Rattle.survey_core.specs.declared.events.Event.TheVariants.{Eliminate, Issue, Commit, Close, Withdraw}
use Rattle.survey_core.specs.declared.limits.TheConstants.{MAX_OPEN_QUESTIONS}
use Rattle.survey_core.specs.Kinds.{eliminates}
use Rattle.survey_core.specs.Histories.{item_at, standing, issued, is_issued, class_at, class_of, place_of, committed, open_questions, is_eliminated, is_committed, is_ranked, IsOpenQuestion, withdrawals}
use Rattle.survey_core.specs.Legal.{IsEvent, IsPlace, IsUnranked, IsSpent, MayFollow, IsLegal, AreEarlierAsked, OpensClass}
use Rattle.survey_core.specs.Laws.{HasRanking, RanksEachClass}
use Rattle.survey_core.specs.States.{Asks}
use Rattle.survey_core.proofs.ListSteps.{some_and, some_at}
use Rattle.survey_core.proofs.KeptLemmas.{or_left, or_right}
use Rattle.survey_core.proofs.StandingLemmas.{standing-push, issued-push}
use Rattle.survey_core.proofs.SoundLemmas.{sound_history}
use Rattle.survey_core.proofs.NamedParts.{MayClose, unnamed}
use Rattle.survey_core.proofs.NextKept.{open_uncommitted}
use Rattle.survey_core.proofs.RankingLemmas.{ranked_has_ranking_lem, rankings_are_by_answers_lem}
use Rattle.survey_replies.specs.Interview.{Interview, interview, answered}
use Rattle.survey_replies.specs.Requests.{Request}
use Rattle.survey_replies.specs.Requests as request
use Rattle.survey_replies.specs.Outcomes.{Outcome, at_of}
use Rattle.survey_replies.specs.Outcomes as outcome
use Rattle.survey_replies.specs.declared.replies.NextReply.TheVariants.{Question, Full, Waiting, Complete}
use Rattle.survey_replies.specs.declared.replies.AnswerReply.TheVariants.{Accepted, Unknown, Closed, Implied}
use Rattle.survey_replies.specs.declared.replies.ValuesReply.TheVariants.{Values, Incomplete}
use Rattle.survey_replies.specs.declared.replies.WithdrawReply.TheVariants.{Withdrawn, Nothing, Spent}
use Rattle.survey_replies.specs.ReplyLaw.{IsOpenClass, HasOpenClass, IsFirstOpenClass, IsUnaskedOpenClass, IsDue, IsQuestion, IsReplyTo}
use Rattle.survey_replies.specs.Certificates.{Carries}
use Rattle.survey_replies.specs.Records.{AreEarlierRanked, AreRankedByEvents, Records, missing_elimination}
use Rattle.survey_replies.specs.Calls.{RepliesInTurn}
use Rattle.survey_replies.proofs.InterviewLemmas.{eliminations_change_no_reply_lem}
use Rattle.survey_state.specs.States.{IsFirstUnranked, IsFirstDue}
use Rattle.survey_state.specs.Findings.{IsCertified, IsCertifiedClass, MeetsWithClass}

module _ (listed : Listed) (journal : List Event) where
  abbrev now : Interview
  now = interview listed journal

  -- an open class stands in the list
  open_place : (place : ℕ) → IsOpenClass listed now place → IsPlace listed place
  open_place place is_open =
      let found : (pair : Pair) × (class_at listed.classes place ≡ Some pair) × IsOpen listed.criteria.levels now.answers pair =
      some_and (class_at listed.classes place) (λ pair. IsOpen listed.criteria.levels now.answers pair) is_open in
      (item_positive listed.classes place found.0 found.1, item_within listed.classes place found.0 found.1)

  -- two vectors open a class
  pub opens_class : (place : ℕ) (plus minus : List ℤ) → OpensClass listed journal place plus minus → IsOpenClass listed now place
  opens_class place plus minus opens =
      let found : (pair : Pair) × (class_at listed.classes place ≡ Some pair) × Opens listed.criteria.levels now.answers pair plus minus =
      some_and (class_at listed.classes place) (λ pair. Opens listed.criteria.levels now.answers pair plus minus) opens in
      some_at (class_at listed.classes place) (λ pair. IsOpen listed.criteria.levels now.answers pair) found.0 found.1
      (opened_is_open listed.criteria.levels now.answers found.0 plus minus found.2)

  module _ (legal : IsLegal listed journal) where
    -- a class that an event ranks is not open
    pub ranked_not_open : (place : ℕ) → IsTrue (is_ranked journal place) → ¬ IsOpenClass listed now place
    ranked_not_open place ranked is_open =
        let found : (pair : Pair) × (class_at listed.classes place ≡ Some pair) × IsOpen listed.criteria.levels now.answers pair =
        some_and (class_at listed.classes place) (λ pair. IsOpen listed.criteria.levels now.answers pair) is_open in
        let ranking : (side : Side) × HasRanking journal place side = (ranked_has_ranking_lem journal place).0 ranked in
        found.2 ranking.0 (rankings_are_by_answers_lem listed journal place ranking.0 found.0 legal ranking.1 found.1)

    -- none is, where each is ranked
    pub none_open : RanksEachClass listed journal → ¬ HasOpenClass listed now
    none_open each h = ranked_not_open h.0 (each h.0 (open_place h.0 h.1)) h.1

    pub first_open : (place : ℕ) → AreEarlierRanked journal place → IsOpenClass listed now place → IsFirstOpenClass listed now place
    first_open place earlier is_open = record {
      is = is_open;
      first = λ other less h. ranked_not_open other (earlier other (open_place other h).0 less) h;
    }

    -- no unasked class before is open
    unasked_before : (bound : ℕ) → AreEarlierAsked journal bound → (other : ℕ) → other < bound → ¬ IsUnaskedOpenClass listed now other
    unasked_before bound earlier other less h =
        elim (earlier other (open_place other h.0).0 less) [
          | inl ranked ↦ ranked_not_open other ranked h.0
          | inr asked ↦ (let is : is_issued journal other ≡ true = asked in let not_ : is_issued journal other ≡ false = h.1 in let both : true ≡ false = sym is ∙ not_ in cc)
        ]

    pub due_open : (place : ℕ) → IsFirstDue listed journal place → IsOpenClass listed now place → IsDue listed now place
    due_open place due is_open = record { is = (is_open, due.unasked); first = unasked_before place due.earlier }

    pub none_unasked : AreEarlierAsked journal (length listed.classes + 1) → (other : ℕ) → ¬ IsUnaskedOpenClass listed now other
    none_unasked earlier other h =
        unasked_before (length listed.classes + 1) earlier other (omega (arith, (open_place other h.0).1)) h

  -- the class that is due, where one is
  pub due_sought : (place other : ℕ) → IsFirstDue listed journal place ⊎ (AreEarlierAsked journal (length listed.classes + 1) × IsFirstUnranked listed journal place)
      → IsFirstDue listed journal other → IsFirstDue listed journal place
  due_sought place other (inl due) is = due
  due_sought place other (inr (all, first)) is =
      absurd (elim (all other is.class.0 (omega (arith, is.class.1))) [
        | inl ranked ↦ (let both : true ≡ false = sym ranked ∙ is.unranked in cc)
        | inr asked ↦ (let both : true ≡ false = sym asked ∙ is.unasked in cc)
      ])

  -- the first unranked one, where each is ranked or was asked
  pub unranked_sought : (place : ℕ) → IsFirstDue listed journal place ⊎ (AreEarlierAsked journal (length listed.classes + 1) × IsFirstUnranked listed journal place)
      → AreEarlierAsked journal (length listed.classes + 1) → IsFirstUnranked listed journal place
  unranked_sought place (inr (all, first)) earlier = first
  unranked_sought place (inl due) earlier =
      absurd (elim (earlier place due.class.0 (omega (arith, due.class.1))) [
        | inl ranked ↦ (let both : true ≡ false = sym ranked ∙ due.unranked in cc)
        | inr asked ↦ (let both : true ≡ false = sym asked ∙ due.unasked in cc)
      ])

  -- ---- the class of a question
  pub class_asked : (question place : ℕ) → Asks listed journal question place → class_of listed.classes (issued journal) question ≡ class_at listed.classes place
  class_asked question place asks = ap (λ (o : Option ℕ). option_and_then (class_at listed.classes) o) asks.0

  pub at_question : (P : Pair → Type 0) (question place : ℕ) → Asks listed journal question place → IsSomeAnd (class_at listed.classes place) P
      → IsSomeAnd (class_of listed.classes (issued journal) question) P
  at_question P question place asks h = subst (λ (o : Option Pair). IsSomeAnd o P) (sym (class_asked question place asks)) h

-- a combination that proves a verdict ranks the pair
pub proves_ranks : (levels : List ℕ) (answers : List Answer) (combination : Combination) (pair : Pair) (side : Side)
    → Proves levels answers combination pair side → IsRanked levels answers pair side
proves_ranks levels answers combination pair side proves =
    subst (λ (l : List Answer). IsRanked levels l pair side) (append-nil answers) (proved_is_ranked_lem levels answers [] combination pair side proves)

-- ---- the replies, each on a state's journal
module _ (listed : Listed) (journal : List Event) (legal : IsLegal listed journal) (desk at : ℕ) (length_is : at ≡ length journal) where
  -- a reply that appends nothing
  quiet : (asked : Request) (reply : Outcome) → at_of reply ≡ at → IsReplyTo listed (now listed journal) asked reply → Carries listed (now listed journal) reply
      → AreRankedByEvents listed journal reply → Records desk journal asked reply [] → RepliesInTurn listed desk journal journal asked reply
  quiet asked reply at_is by_law carried ranked appended = record {
    at = at_is ∙ length_is;
    by_law = by_law;
    carried = carried;
    ranked = ranked;
    events = [];
    appended = appended;
    journal = sym (append-nil journal);
  }

  -- ---- next
  pub complete : RanksEachClass listed journal → RepliesInTurn listed desk journal journal request.next (outcome.next (Complete at))
  complete each = quiet request.next (outcome.next (Complete at)) refl (none_open listed journal legal each) tt each refl

  pub full : (place : ℕ) (plus minus : List ℤ) → MAX_OPEN_QUESTIONS ≤ length (open_questions journal) → OpensClass listed journal place plus minus
      → RepliesInTurn listed desk journal journal request.next (outcome.next (Full at))
  full place plus minus many opens =
      quiet request.next (outcome.next (Full at)) refl (many, (place, opens_class listed journal place plus minus opens)) tt tt refl

  pub waiting : (place : ℕ) (plus minus : List ℤ) → length (open_questions journal) < MAX_OPEN_QUESTIONS → OpensClass listed journal place plus minus
      → AreEarlierAsked journal (length listed.classes + 1) → IsFirstUnranked listed journal place
      → RepliesInTurn listed desk journal journal request.next (outcome.next (Waiting at place plus minus))
  waiting place plus minus few opens earlier first =
      quiet request.next (outcome.next (Waiting at place plus minus)) refl (
        (λ many. omega (arith, many, few)),
        none_unasked listed journal legal earlier,
        first_open listed journal legal place first.earlier (opens_class listed journal place plus minus opens),
      )
      opens earlier refl

  pub question : (after : List Event) (number place : ℕ) (pair : Pair) (plus minus : List ℤ) → length (open_questions journal) < MAX_OPEN_QUESTIONS
      → OpensClass listed journal place plus minus → IsFirstDue listed journal place → number ≡ length (issued journal) + 1
      → class_at listed.classes place ≡ Some pair → after ≡ journal ++ Issue desk place plus minus ∷ []
      → RepliesInTurn listed desk journal after request.next (outcome.next (Question at number place pair))
  question after number place pair plus minus few opens due count class is = record {
    at = length_is;
    by_law = ((λ many. omega (arith, many, few)), due_open listed journal legal place due (opens_class listed journal place plus minus opens), count, class);
    carried = tt;
    ranked = due.earlier;
    events = Issue desk place plus minus ∷ [];
    appended = (plus, minus, refl);
    journal = is;
  }

  pub may_issue : (place : ℕ) (plus minus : List ℤ) → length (open_questions journal) < MAX_OPEN_QUESTIONS → OpensClass listed journal place plus minus
      → IsFirstDue listed journal place → MayFollow listed journal (Issue desk place plus minus)
  may_issue place plus minus few opens due =
      unnamed listed journal (Issue desk place plus minus)
      (record { class = due.class; unranked = due.unranked; unasked = due.unasked; few_open = few; earlier = due.earlier; opened = opens })

  -- ---- values
  pub values : (vector : List ℤ) → RanksEachClass listed journal → MeetsAll listed.criteria.levels (committed listed.classes journal) vector
      → RepliesInTurn listed desk journal journal request.values (outcome.values (Values at vector))
  values vector each meets = quiet request.values (outcome.values (Values at vector)) refl (none_open listed journal legal each) meets each refl

  pub incomplete : (place : ℕ) (pair : Pair) (plus minus : List ℤ) → OpensClass listed journal place plus minus → IsFirstUnranked listed journal place
      → class_at listed.classes place ≡ Some pair
      → RepliesInTurn listed desk journal journal request.values (outcome.values (Incomplete at place pair plus minus))
  incomplete place pair plus minus opens first class =
      quiet request.values (outcome.values (Incomplete at place pair plus minus)) refl
      (first_open listed journal legal place first.earlier (opens_class listed journal place plus minus opens), class) opens first.earlier refl

  -- ---- answer
  module _ (number : ℕ) (side : Side) where
    pub unknown : (number ≡ 0) ⊎ (length (issued journal) < number)
        → RepliesInTurn listed desk journal journal (request.answer number side) (outcome.answer (Unknown at number))
    unknown never =
        quiet (request.answer number side) (outcome.answer (Unknown at number)) refl
        (refl, λ is. elim never [ inl none ↦ omega (arith, none, is.0) | inr past ↦ omega (arith, past, is.1) ]) tt tt refl

    is_question : (place : ℕ) → Asks listed journal number place → IsQuestion listed (now listed journal) number
    is_question place asks = (item_positive (issued journal) number place asks.0, item_within (issued journal) number place asks.0)

    pub closed : (place : ℕ) → Asks listed journal number place → ¬ IsOpenQuestion journal number
        → RepliesInTurn listed desk journal journal (request.answer number side) (outcome.answer (Closed at number))
    closed place asks ended =
        quiet (request.answer number side) (outcome.answer (Closed at number)) refl (refl, is_question place asks, ended) tt tt refl

    module _ (place : ℕ) (asks : Asks listed journal number place) (is_open : IsOpenQuestion journal number) where
      pub accepted : (after : List Event) (plus minus point : List ℤ) → OpensClass listed journal place plus minus
          → after ≡ journal ++ Commit desk number side plus minus point ∷ []
          → RepliesInTurn listed desk journal after (request.answer number side) (outcome.answer (Accepted at number))
      accepted after plus minus point opens is = record {
        at = length_is;
        by_law = (
          refl,
          (is_question place asks, is_open),
          at_question listed journal (λ pair. IsOpen listed.criteria.levels (committed listed.classes journal) pair) number place asks
              (opens_class listed journal place plus minus opens),
        );
        carried = tt;
        ranked = tt;
        events = Commit desk number side plus minus point ∷ [];
        appended = (plus, minus, point, refl);
        journal = is;
      }

      pub may_commit : (plus minus point : List ℤ) → OpensClass listed journal place plus minus → MeetsWithClass listed journal place side point
          → MayFollow listed journal (Commit desk number side plus minus point)
      may_commit plus minus point opens meets =
          let uneliminated : is_eliminated journal place ≡ false =
          not_eliminated (is_eliminated journal place) (λ some. ranked_not_open listed journal legal place (or_left (is_eliminated journal place) (is_committed journal place) some)
          (opens_class listed journal place plus minus opens)) in
          unnamed listed journal (Commit desk number side plus minus point) (record {
            open_question = is_open;
            uneliminated = some_at (place_of (issued journal) number) (λ p. IsFalse (is_eliminated journal p)) place asks.0 uneliminated;
            opened = at_question listed journal (λ pair. Opens listed.criteria.levels (committed listed.classes journal) pair plus minus) number place asks opens;
            met =
                at_question listed journal
                (λ pair. MeetsAll listed.criteria.levels (committed listed.classes journal ++ record { pair = pair; side = side } ∷ []) point) number place asks meets;
          })
        where
          not_eliminated : (b : Bool) → (b ≡ true → ⊥) → b ≡ false
          not_eliminated true h = absurd (h refl)
          not_eliminated false h = refl

      -- the class of an open question is ranked by no Commit
      pub unranked_class : IsFalse (is_eliminated journal place) → IsUnranked journal place
      unranked_class not_ =
          ap (λ b. b || is_committed journal place) not_ ∙ open_uncommitted listed journal (sound_history listed journal legal) number place is_open asks.0

      module _ (verdict : Side) (combination : Combination) where
        may_close_by : (b : Bool) → is_eliminated journal place ≡ b
            → MayClose (journal ++ cond b [] (Eliminate 0 place verdict combination ∷ [])) number
        may_close_by true eliminated =
            subst (λ (l : List Event). MayClose l number) (sym (append-nil journal))
            (record { open_question = is_open; eliminated = some_at (place_of (issued journal) number) (λ p. IsTrue (is_eliminated journal p)) place asks.0 eliminated })
        may_close_by false not_ =
            let event : Event = Eliminate 0 place verdict combination in
            let after : List Event = journal ++ event ∷ [] in
            let same : interview listed after ≡ interview listed journal =
            eliminations_change_no_reply_lem listed journal [] 0 place verdict combination ∙ ap (λ (l : List Event). interview listed l) (append-nil journal) in
            let gone : is_eliminated after place ≡ true =
            ap (λ (l : List Event). list_any (eliminates place) l) (standing-push journal event)
            ∙ list_any-append (eliminates place) (standing journal) (event ∷ [])
            ∙ or_right (is_eliminated journal place) (list_any (eliminates place) (event ∷ [])) (or_left (place == place) false (eq-eqb place place refl)) in
            record {
              open_question = subst (λ (l : List ℕ). Contains l number) (sym (ap (λ (i : Interview). i.open_questions) same)) is_open;
              eliminated =
                  some_at (place_of (issued after) number) (λ p. IsTrue (is_eliminated after p)) place
                  (ap (λ (i : Interview). place_of i.asked number) same ∙ asks.0) gone;
            }

        pub may_close : (after : List Event) → after ≡ journal ++ missing_elimination journal place verdict combination → MayFollow listed after (Close desk number)
        may_close after is =
            unnamed listed after (Close desk number)
            (subst (λ (l : List Event). MayClose l number) (sym is) (may_close_by (is_eliminated journal place) refl))

        pub implied : (middle after : List Event) → IsCertifiedClass listed journal place verdict combination
            → middle ≡ journal ++ missing_elimination journal place verdict combination → after ≡ middle ++ Close desk number ∷ []
            → RepliesInTurn listed desk journal after (request.answer number side) (outcome.answer (Implied at number verdict combination))
        implied middle after certified is closes =
            let found : (pair : Pair) × (class_at listed.classes place ≡ Some pair) × IsCertified listed.criteria.levels (committed listed.classes journal) pair verdict combination =
            some_and (class_at listed.classes place) (λ pair. IsCertified listed.criteria.levels (committed listed.classes journal) pair verdict combination) certified in
            let proves : Proves listed.criteria.levels (committed listed.classes journal) combination found.0 verdict = found.2.0 in
            let missing : List Event = missing_elimination journal place verdict combination in
            record {
              at = length_is;
              by_law = (
                refl,
                (is_question place asks, is_open),
                at_question listed journal (λ pair. IsRanked listed.criteria.levels (committed listed.classes journal) pair verdict) number place asks
                    (some_at (class_at listed.classes place) (λ pair. IsRanked listed.criteria.levels (committed listed.classes journal) pair verdict) found.0 found.1
                    (proves_ranks listed.criteria.levels (committed listed.classes journal) combination found.0 verdict proves)),
              );
              carried =
                  at_question listed journal (λ pair. Proves listed.criteria.levels (committed listed.classes journal) combination pair verdict) number place asks
                  (some_at (class_at listed.classes place) (λ pair. Proves listed.criteria.levels (committed listed.classes journal) combination pair verdict) found.0 found.1 proves);
              ranked = tt;
              events = missing ++ Close desk number ∷ [];
              appended = some_at (place_of (issued journal) number)
                  (λ p. missing ++ Close desk number ∷ [] ≡ missing_elimination journal p verdict combination ++ Close desk number ∷ []) place asks.0 refl;
              journal = closes ∙ ap (λ (l : List Event). l ++ Close desk number ∷ []) is ∙ append_assoc journal missing (Close desk number ∷ []);
            }

  -- ---- withdraw
  pub nothing : committed listed.classes journal ≡ [] → RepliesInTurn listed desk journal journal request.withdraw (outcome.withdraw (Nothing at))
  nothing none = quiet request.withdraw (outcome.withdraw (Nothing at)) refl none tt tt refl

  pub spent : 1 ≤ length (committed listed.classes journal) → IsSpent (length listed.classes) (withdrawals journal)
      → RepliesInTurn listed desk journal journal request.withdraw (outcome.withdraw (Spent at))
  spent some is = quiet request.withdraw (outcome.withdraw (Spent at)) refl (some, is) tt tt refl

  pub withdrawn : (after : List Event) (answer last : ℕ) → 1 ≤ length (committed listed.classes journal) → ¬ IsSpent (length listed.classes) (withdrawals journal)
      → answer ≡ length (committed listed.classes journal) → item_at (answered journal) (length (answered journal)) ≡ Some last
      → after ≡ journal ++ Withdraw desk answer ∷ [] → RepliesInTurn listed desk journal after request.withdraw (outcome.withdraw (Withdrawn at answer last))
  withdrawn after answer last some unspent count question_is is = record {
    at = length_is;
    by_law = (some, unspent, count, question_is);
    carried = tt;
    ranked = tt;
    events = Withdraw desk answer ∷ [];
    appended = refl;
    journal = is;
  }

-- a certified class may be eliminated
pub may_eliminate : (listed : Listed) (journal : List Event) (place : ℕ) (verdict : Side) (combination : Combination) → IsPlace listed place → IsUnranked journal place
    → IsCertifiedClass listed journal place verdict combination → MayFollow listed journal (Eliminate 0 place verdict combination)
may_eliminate listed journal place verdict combination class unranked certified =
    let found : (pair : Pair) × (class_at listed.classes place ≡ Some pair) × IsCertified listed.criteria.levels (committed listed.classes journal) pair verdict combination =
    some_and (class_at listed.classes place) (λ pair. IsCertified listed.criteria.levels (committed listed.classes journal) pair verdict combination) certified in
    unnamed listed journal (Eliminate 0 place verdict combination) (record {
      class = class;
      unranked = unranked;
      proved =
          some_at (class_at listed.classes place) (λ pair. Proves listed.criteria.levels (committed listed.classes journal) combination pair verdict) found.0 found.1 found.2.0;
    })

pub is_eliminate : (listed : Listed) (journal : List Event) (place : ℕ) (verdict : Side) (combination : Combination)
    → IsCertifiedClass listed journal place verdict combination → IsEvent listed.criteria.levels (Eliminate 0 place verdict combination)
is_eliminate listed journal place verdict combination certified =
    let found : (pair : Pair) × (class_at listed.classes place ≡ Some pair) × IsCertified listed.criteria.levels (committed listed.classes journal) pair verdict combination =
    some_and (class_at listed.classes place) (λ pair. IsCertified listed.criteria.levels (committed listed.classes journal) pair verdict combination) certified in
    (omega arith, found.2.0.len, found.2.1)

-- vectors that open a class are value vectors
pub opening_vectors : (listed : Listed) (journal : List Event) (place : ℕ) (plus minus : List ℤ) → OpensClass listed journal place plus minus
    → IsValueVector listed.criteria.levels plus × IsValueVector listed.criteria.levels minus
opening_vectors listed journal place plus minus opens =
    let found : (pair : Pair) × (class_at listed.classes place ≡ Some pair) × Opens listed.criteria.levels (committed listed.classes journal) pair plus minus =
    some_and (class_at listed.classes place) (λ pair. Opens listed.criteria.levels (committed listed.classes journal) pair plus minus) opens in
    (found.2.plus_meets.vector, found.2.minus_meets.vector)

pub meeting_vector : (listed : Listed) (journal : List Event) (place : ℕ) (side : Side) (point : List ℤ) → MeetsWithClass listed journal place side point
    → IsValueVector listed.criteria.levels point
meeting_vector listed journal place side point meets =
    let found : (pair : Pair) × (class_at listed.classes place ≡ Some pair)
    × MeetsAll listed.criteria.levels (committed listed.classes journal ++ record { pair = pair; side = side } ∷ []) point =
    some_and (class_at listed.classes place) (λ pair. MeetsAll listed.criteria.levels (committed listed.classes journal ++ record { pair = pair; side = side } ∷ []) point) meets in
    found.2.vector

pub may_withdraw : (listed : Listed) (journal : List Event) (desk answer : ℕ) → 1 ≤ length (committed listed.classes journal)
    → ¬ IsSpent (length listed.classes) (withdrawals journal) → answer ≡ length (committed listed.classes journal) → MayFollow listed journal (Withdraw desk answer)
may_withdraw listed journal desk answer some unspent count = ((omega (arith, some, count), count), (unspent, tt))

-- ---- what a core says of its state
module _ (listed now_listed : Listed) (journal history : List Event) (same_listed : now_listed ≡ listed) (same_history : history ≡ journal) where
  pub same_answers_len : (answers : List Answer) (count : ℕ) → answers ≡ committed now_listed.classes history → count ≡ length answers
      → count ≡ length (committed listed.classes journal)
  same_answers_len answers count is counts =
      counts ∙ ap (λ (l : List Answer). length l)
      (is ∙ ap (λ (l : Listed). committed l.classes history) same_listed ∙ ap (λ (h : List Event). committed listed.classes h) same_history)

  pub same_spent : (criteria : Criteria) (classes withdrawn : ℕ) → IsListed listed → criteria ≡ now_listed.criteria → classes ≡ class_count criteria.levels criteria.degree
      → withdrawn ≡ withdrawals history → IsSpent classes withdrawn ↔ IsSpent (length listed.classes) (withdrawals journal)
  same_spent criteria classes withdrawn model is counts made =
      let all : classes ≡ length listed.classes =
      counts ∙ ap (λ (m : Criteria). class_count m.levels m.degree) (is ∙ ap (λ (l : Listed). l.criteria) same_listed) ∙ sym model.len in
      let times : withdrawn ≡ withdrawals journal = made ∙ ap (λ (h : List Event). withdrawals h) same_history in (
        (λ h. subst (λ (n : ℕ). IsSpent (length listed.classes) n) times (subst (λ (n : ℕ). IsSpent n withdrawn) all h)),
        (λ h. subst (λ (n : ℕ). IsSpent n withdrawn) (sym all) (subst (λ (n : ℕ). IsSpent (length listed.classes) n) (sym times) h)),
      )

pub one_issued : (journal : List Event) (desk place : ℕ) (plus minus : List ℤ)
    → length (issued (journal ++ Issue desk place plus minus ∷ [])) ≡ length (issued journal) + 1
one_issued journal desk place plus minus =
    ap (λ (l : List ℕ). length l) (issued-push journal (Issue desk place plus minus)) ∙ length-append (issued journal) (place ∷ [])

-- ---- options that are tested
pub none_of_match : {X : Type 0} (P : Type 0) (Q : X → Type 0) (o : Option X) → is_some o ≡ false → MatchOption o P Q → P
none_of_match P Q None none h = h
none_of_match P Q (Some x) none h = absurd (let both : true ≡ false = none in cc)

pub some_of_match : {X : Type 0} (P : Type 0) (Q : X → Type 0) (o : Option X) → is_some o ≡ true → MatchOption o P Q → (x : X) × Q x
some_of_match P Q None some h = absurd (let both : false ≡ true = some in cc)
some_of_match P Q (Some x) some h = (x, h)

pub is_false_of : (b : Bool) → b ≡ false → ¬ IsTrue b
is_false_of b no_ yes_ = let both : true ≡ false = sym yes_ ∙ no_ in cc
