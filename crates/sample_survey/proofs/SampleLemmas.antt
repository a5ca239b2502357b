-- A sample run, question by question: there is one at most, and a respondent that is alone comes to it.
use Rattle.std.proofs.Common.{ℤ, ◌≡◌, ℕ, ◌≤◌, ◌==◌, Bool, true, false, List, [], ◌∷◌, ◌++◌, length, map, refl, ap, sym, subst, ◌∙◌, arith, length-append}
use Rattle.std.specs.List.{flat_map, list_any}
use Rattle.std.proofs.lemmas.List.Elements.{All-head, All-tail}
use Rattle.criteria_model.specs.declared.pairs.Pair.{Pair}
use Rattle.criteria_model.specs.declared.pairs.Answer.{Answer}
use Rattle.criteria_model.specs.declared.pairs.Side.{Side}
use Rattle.criteria_model.specs.Worth.{IsValueVector}
use Rattle.criteria_model.specs.Answers.{Ranks, IsRanked, IsOpen}
use Rattle.criteria_model.proofs.RankLemmas.{ranks_once}
use Rattle.pair_enumeration.specs.Listed.{Listed}
use Rattle.survey_core.specs.Histories.{class_at, class_of}
use Rattle.survey_core.proofs.ListSteps.{some_and, at_some}
use Rattle.survey_core.proofs.ReadLemmas.{contains_filtered}
use Rattle.survey_replies.specs.Requests.{Request}
use Rattle.survey_replies.specs.Requests as request
use Rattle.survey_replies.specs.declared.replies.NextReply.TheVariants.{Question, Full, Waiting, Complete}
use Rattle.survey_replies.specs.declared.replies.AnswerReply.TheVariants.{Accepted, Unknown, Closed, Implied}
use Rattle.survey_replies.specs.Outcomes.{Outcome, Exchange}
use Rattle.survey_replies.specs.Outcomes as outcome
use Rattle.survey_replies.specs.ReplyLaw.{IsOpenClass, IsReplyTo}
use Rattle.survey_replies.specs.Gists.{Gist, gist_of}
use Rattle.survey_replies.specs.Gists as gist
use Rattle.survey_replies.specs.PlainRun.{PlainSurvey, is_open_in, plain_interview, plain_start, plain_after, IsPlainRun}
use Rattle.survey_replies.proofs.ReplyLemmas.{one_reply_lem}
use Rattle.sample_survey.specs.Samples.{AnsweredQuestion, AnswersQuestions, AreByValues, IsCompletion, IsSampleRun, requests_for, replies_for}
use Rattle.sample_survey.specs.Sampling.{IsNoQuestion, IsNotAccepted}
use Rattle.sample_survey.proofs.RunLemmas.{IsSettled, settled_start, IsAsked, is_asked, asked_run, answered_run, settled_after, none_open, same_answers, asked_class, is_open_now}

-- the exchanges of the first question, and those after them
pub record IsFirstOf (one : AnsweredQuestion) (questions : List AnsweredQuestion) (exchanges : List Exchange) : Type 0 where
  pub asks : Exchange
  pub answers : Exchange
  pub later : List Exchange
  pub whole : exchanges ≡ asks ∷ answers ∷ later
  pub next : asks.request ≡ request.next
  pub question : gist_of asks.reply ≡ gist.asks one.number one.place one.pair
  pub answer : answers.request ≡ request.answer one.number one.side
  pub accepted : gist_of answers.reply ≡ gist.accepted one.number
  pub rest : AnswersQuestions questions later

pub first_of_questions : (one : AnsweredQuestion) (questions : List AnsweredQuestion) (exchanges : List Exchange)
    → AnswersQuestions (one ∷ questions) exchanges → IsFirstOf one questions exchanges
first_of_questions one questions [] answered = let none : [] ≡ flat_map requests_for (one ∷ questions) = answered.requests in absurd cc
first_of_questions one questions (asks ∷ []) answered =
    let few : asks.request ∷ [] ≡ flat_map requests_for (one ∷ questions) = answered.requests in absurd cc
first_of_questions one questions (asks ∷ answers ∷ later) answered =
    let requests : asks.request ∷ answers.request ∷ map (λ (e : Exchange). e.request) later
    ≡ request.next ∷ request.answer one.number one.side ∷ flat_map requests_for questions = answered.requests in
    let replies : gist_of asks.reply ∷ gist_of answers.reply ∷ map (λ (e : Exchange). gist_of e.reply) later
    ≡ gist.asks one.number one.place one.pair ∷ gist.accepted one.number ∷ flat_map replies_for questions = answered.replies in
    record {
      asks = asks;
      answers = answers;
      later = later;
      whole = refl;
      next = cc;
      question = cc;
      answer = cc;
      accepted = cc;
      rest = record { requests = cc; replies = cc };
    }

pub no_questions : (exchanges : List Exchange) → AnswersQuestions [] exchanges → exchanges ≡ []
no_questions [] answered = refl
no_questions (asks ∷ exchanges) answered = let some : asks.request ∷ map (λ (e : Exchange). e.request) exchanges ≡ [] = answered.requests in absurd cc

-- what a plain run says of its first question, and the run after it
pub record IsRunFrom (listed : Listed) (values : List ℤ) (run : PlainSurvey) (one : AnsweredQuestion) (questions : List AnsweredQuestion) (last : List Exchange) : Type 0 where
  pub reply : Outcome
  pub law : IsReplyTo listed (plain_interview listed run) request.next reply
  pub question : gist_of reply ≡ gist.asks one.number one.place one.pair
  pub exchanges : List Exchange
  pub rest : AnswersQuestions questions exchanges
  pub plain : IsPlainRun listed (answered_run run one) (exchanges ++ last)
  pub settled : IsSettled listed values (answered_run run one)

pub run_from : (listed : Listed) (values : List ℤ) (run : PlainSurvey) (one : AnsweredQuestion) (questions : List AnsweredQuestion) (exchanges last : List Exchange)
    → IsSettled listed values run → AnswersQuestions (one ∷ questions) exchanges → Ranks listed.criteria.levels values one.pair one.side
    → IsPlainRun listed run (exchanges ++ last) → IsRunFrom listed values run one questions last
run_from listed values run one questions exchanges last settled answered ranks plain =
    let first : IsFirstOf one questions exchanges = first_of_questions one questions exchanges answered in
    let run_now : IsPlainRun listed run ((first.asks ∷ first.answers ∷ first.later) ++ last) =
    subst (λ (l : List Exchange). IsPlainRun listed run (l ++ last)) first.whole plain in
    let law : IsReplyTo listed (plain_interview listed run) request.next first.asks.reply =
    subst (λ (r : Request). IsReplyTo listed (plain_interview listed run) r first.asks.reply) first.next run_now.0 in
    let asked_next : plain_after run first.asks.request (gist_of first.asks.reply) ≡ asked_run run one.place =
    λ i. plain_after run (first.next i) (first.question i) in
    let later : IsPlainRun listed (asked_run run one.place) ((first.answers ∷ first.later) ++ last) =
    subst (λ (r : PlainSurvey). IsPlainRun listed r ((first.answers ∷ first.later) ++ last)) asked_next run_now.1 in
    let answered_next : plain_after (asked_run run one.place) first.answers.request (gist_of first.answers.reply) ≡ answered_run run one =
    λ i. plain_after (asked_run run one.place) (first.answer i) (first.accepted i) in
    let asked : IsAsked listed run one.number one.place one.pair = is_asked listed run first.asks.reply one.number one.place one.pair law first.question in
    record {
      reply = first.asks.reply;
      law = law;
      question = first.question;
      exchanges = first.later;
      rest = first.rest;
      plain = subst (λ (r : PlainSurvey). IsPlainRun listed r (first.later ++ last)) answered_next later.1;
      settled = settled_after listed values run settled one.number one.place one.pair asked one.side ranks;
    }

-- ---- one sample at most
same_run : (listed : Listed) (values : List ℤ) (run : PlainSurvey) (ones others : List AnsweredQuestion) (xs ys : List Exchange) (x y : Exchange) → IsSettled listed values run
    → AnswersQuestions ones xs → AnswersQuestions others ys → AreByValues listed.criteria.levels values ones → AreByValues listed.criteria.levels values others
    → IsCompletion x → IsCompletion y → IsPlainRun listed run (xs ++ x ∷ []) → IsPlainRun listed run (ys ++ y ∷ []) → ones ≡ others
same_run listed values run [] [] xs ys x y settled one other by by_other ends other_ends plain other_plain = refl
same_run listed values run (one ∷ ones) [] xs ys x y settled answered other by by_other ends other_ends plain other_plain =
    let first = run_from listed values run one ones xs (x ∷ []) settled answered (All-head (λ (q : AnsweredQuestion). Ranks listed.criteria.levels values q.pair q.side) one ones by) plain in
    let none : ys ≡ [] = no_questions ys other in
    let end : IsPlainRun listed run (y ∷ []) = subst (λ (l : List Exchange). IsPlainRun listed run (l ++ y ∷ [])) none other_plain in
    let law : IsReplyTo listed (plain_interview listed run) request.next y.reply =
    subst (λ (r : Request). IsReplyTo listed (plain_interview listed run) r y.reply) other_ends.0 end.0 in
    let same : gist_of first.reply ≡ gist_of y.reply =
    one_reply_lem listed (plain_interview listed run) request.next first.reply y.reply (values, settled.met) first.law law in
    let asks : gist.asks one.number one.place one.pair ≡ gist.complete = sym first.question ∙ same ∙ other_ends.1 in
    absurd cc
same_run listed values run [] (other ∷ others) xs ys x y settled answered other_answered by by_other ends other_ends plain other_plain =
    let first = run_from listed values run other others ys (y ∷ []) settled other_answered (All-head (λ (q : AnsweredQuestion). Ranks listed.criteria.levels values q.pair q.side) other others by_other) other_plain in
    let none : xs ≡ [] = no_questions xs answered in
    let end : IsPlainRun listed run (x ∷ []) = subst (λ (l : List Exchange). IsPlainRun listed run (l ++ x ∷ [])) none plain in
    let law : IsReplyTo listed (plain_interview listed run) request.next x.reply =
    subst (λ (r : Request). IsReplyTo listed (plain_interview listed run) r x.reply) ends.0 end.0 in
    let same : gist_of first.reply ≡ gist_of x.reply =
    one_reply_lem listed (plain_interview listed run) request.next first.reply x.reply (values, settled.met) first.law law in
    let asks : gist.asks other.number other.place other.pair ≡ gist.complete = sym first.question ∙ same ∙ ends.1 in
    absurd cc
same_run listed values run (one ∷ ones) (other ∷ others) xs ys x y settled answered other_answered by by_other ends other_ends plain other_plain =
    let P : AnsweredQuestion → Type 0 = λ q. Ranks listed.criteria.levels values q.pair q.side in
    let here : P one = All-head P one ones by in
    let there : P other = All-head P other others by_other in
    let first : IsRunFrom listed values run one ones (x ∷ []) = run_from listed values run one ones xs (x ∷ []) settled answered here plain in
    let second : IsRunFrom listed values run other others (y ∷ []) = run_from listed values run other others ys (y ∷ []) settled other_answered there other_plain in
    let same : gist_of first.reply ≡ gist_of second.reply =
    one_reply_lem listed (plain_interview listed run) request.next first.reply second.reply (values, settled.met) first.law second.law in
    let asks : gist.asks one.number one.place one.pair ≡ gist.asks other.number other.place other.pair = sym first.question ∙ same ∙ second.question in
    let number : one.number ≡ other.number = cc in
    let place : one.place ≡ other.place = cc in
    let pair : one.pair ≡ other.pair = cc in
    let side : one.side ≡ other.side =
    ranks_once listed.criteria.levels values other.pair one.side other.side (subst (λ (p : Pair). Ranks listed.criteria.levels values p one.side) pair here) there in
    let equal : one ≡ other = λ i. record { number = number i; place = place i; pair = pair i; side = side i } in
    let rest : ones ≡ others =
    same_run listed values (answered_run run one) ones others first.exchanges second.exchanges x y first.settled first.rest second.rest (All-tail P one ones by) (All-tail P other others by_other)
    ends other_ends first.plain (subst (λ (q : AnsweredQuestion). IsPlainRun listed (answered_run run q) (second.exchanges ++ y ∷ [])) (sym equal) second.plain) in
    λ i. equal i ∷ rest i

pub one_run_lem : (listed : Listed) (values : List ℤ) (ones others : List AnsweredQuestion) → IsValueVector listed.criteria.levels values
    → IsSampleRun listed values ones → IsSampleRun listed values others → ones ≡ others
one_run_lem listed values ones others vector one other =
    same_run listed values plain_start ones others one.exchanges other.exchanges one.last other.last (settled_start listed values vector) one.answered other.answered
    one.by_values other.by_values one.complete other.complete one.plain other.plain

-- ---- what comes after answered questions in a plain run
pub record IsRest (listed : Listed) (values : List ℤ) (last : List Exchange) : Type 0 where
  pub run : PlainSurvey
  pub settled : IsSettled listed values run
  pub plain : IsPlainRun listed run last

pub rest_of : (listed : Listed) (values : List ℤ) (run : PlainSurvey) (questions : List AnsweredQuestion) (exchanges last : List Exchange) → IsSettled listed values run
    → AnswersQuestions questions exchanges → AreByValues listed.criteria.levels values questions → IsPlainRun listed run (exchanges ++ last) → IsRest listed values last
rest_of listed values run [] exchanges last settled answered by plain =
    record { run = run; settled = settled; plain = subst (λ (l : List Exchange). IsPlainRun listed run (l ++ last)) (no_questions exchanges answered) plain }
rest_of listed values run (one ∷ questions) exchanges last settled answered by plain =
    let P : AnsweredQuestion → Type 0 = λ q. Ranks listed.criteria.levels values q.pair q.side in
    let first : IsRunFrom listed values run one questions last = run_from listed values run one questions exchanges last settled answered (All-head P one questions by) plain in
    rest_of listed values (answered_run run one) questions first.exchanges last first.settled first.rest (All-tail P one questions by) first.plain

-- ---- where nobody else asks or answers
module _ (listed : Listed) (values : List ℤ) (run : PlainSurvey) (settled : IsSettled listed values run) where
  few_open : 4 ≤ length (plain_interview listed run).open_questions → ⊥
  few_open full = omega (arith, full, ap (λ (l : List ℕ). length l) (none_open listed values run settled))

  -- a class that was asked isn't open
  not_open : (place : ℕ) (b : Bool) → list_any (λ other. other == place) run.asked ≡ b → IsOpenClass listed (plain_interview listed run) place → b ≡ false
  not_open place false is open_class = refl
  not_open place true is open_class =
      let found = some_and (class_at listed.classes place) (λ pair. IsOpen listed.criteria.levels (plain_interview listed run).answers pair) open_class in
      let ranked = settled.ranked place found.0 is found.1 in
      absurd (found.2 ranked.0 ranked.1)

  -- a reply that is no question is Complete
  pub completes : (reply : Outcome) → IsReplyTo listed (plain_interview listed run) request.next reply → IsNoQuestion (gist_of reply) → gist_of reply ≡ gist.complete
  completes (outcome.next (Complete at)) law none = refl
  completes (outcome.next (Question at number place pair)) law none = absurd none
  completes (outcome.next (Full at)) law none = absurd (few_open law.0)
  completes (outcome.next (Waiting at place plus minus)) law none =
      absurd (law.1 place (law.2.is, not_open place (list_any (λ other. other == place) run.asked) refl law.2.is))
  completes _ law none = absurd law

  -- an answer to a question that came is accepted
  pub accepts : (number place : ℕ) (pair : Pair) (side : Side) (reply : Outcome) → IsAsked listed run number place pair
      → IsReplyTo listed (plain_interview listed (asked_run run place)) (request.answer number side) reply → IsNotAccepted (gist_of reply) → ⊥
  accepts number place pair side (outcome.answer (Accepted at replied)) asked law refused = refused
  accepts number place pair side (outcome.answer (Unknown at replied)) asked law refused =
      law.1 (omega (arith, asked.count), omega (arith, asked.count, length-append run.asked (place ∷ [])))
  accepts number place pair side (outcome.answer (Closed at replied)) asked law refused =
      law.2 (contains_filtered (is_open_in (asked_run run place)) 1 (length (run.asked ++ place ∷ [])) number (omega (arith, asked.count))
      (omega (arith, asked.count, length-append run.asked (place ∷ []))) (is_open_now listed values run settled number place pair asked))
  accepts number place pair side (outcome.answer (Implied at replied verdict combination)) asked law refused =
      let ranked : IsRanked listed.criteria.levels (plain_interview listed (asked_run run place)).answers pair verdict =
      at_some (class_of listed.classes (run.asked ++ place ∷ []) number)
      (λ pair. IsRanked listed.criteria.levels (plain_interview listed (asked_run run place)).answers pair verdict) pair
      (asked_class listed values run settled number place pair asked) law.2 in
      let open_class : IsOpen listed.criteria.levels (plain_interview listed run).answers pair =
      at_some (class_at listed.classes place) (λ pair. IsOpen listed.criteria.levels (plain_interview listed run).answers pair) pair asked.class asked.due.0 in
      open_class verdict
      (subst (λ (l : List Answer). IsRanked listed.criteria.levels l pair verdict) (same_answers listed values run settled number place pair asked) ranked)
  accepts number place pair side _ asked law refused = absurd law
