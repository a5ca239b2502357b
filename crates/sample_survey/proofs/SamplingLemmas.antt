-- What a sample respondent comes to at a desk.
use Rattle.std.proofs.Common.{ℤ, ◌≡◌, ℕ, zero, suc, ◌+◌, ◌-◌, ◌<◌, ◌≤◌, ◌==◌, Bool, cond, inl, inr, List, [], ◌∷◌, ◌++◌, length, map, take, drop, refl, ap, sym, subst, ◌∙◌, arith, length-append}
use Rattle.std.specs.List.{flat_map, range_with_len}
use Rattle.std.proofs.Math.Seq.{take-append-add}
use Rattle.std.proofs.lemmas.List.{map-append, take-append-drop}
use Rattle.std.proofs.lemmas.List.FromFn.{length-map-range_with_len}
use Rattle.std.proofs.lemmas.Grind.{flat_map-append}
use Rattle.std.proofs.lemmas.List.Elements.{All-append, filter_map-append}
use Rattle.std.proofs.lemmas.Bool.{cases_eq, eq-eqb}
use Rattle.std.proofs.lemmas.Option.{slice_get_within}
use Rattle.std.proofs.lemmas.List.Sums.{count_by-le-length, sum_by-cons}
use mathlib.Core.List.{IsPrefix}
use Rattle.criteria_model.specs.declared.pairs.Pair.{Pair}
use Rattle.criteria_model.specs.declared.pairs.Side.{Side}
use Rattle.criteria_model.specs.Worth.{increments, IsValueVector}
use Rattle.criteria_model.specs.Answers.{Ranks}
use Rattle.pair_enumeration.specs.Listed.{Listed, IsListed}
use Rattle.criteria_model.specs.Criteria.{Criteria}
use Rattle.criteria_model.specs.Classes.{IsClassList}
use Rattle.criteria_model.specs.Pairs.{IsFit}
use Rattle.row_laws.proofs.ItemLemmas.{item_found}
use Rattle.pair_enumeration.proofs.OneList.{one_class_list_lem}
use Rattle.survey_core.specs.declared.events.Event.{Event}
use Rattle.survey_core.specs.declared.events.Event.TheVariants.{Issue}
use Rattle.survey_core.specs.Kinds.{issued_place}
use Rattle.survey_core.specs.Histories.{issued}
use Rattle.survey_core.specs.Legal.{IsLegal}
use Rattle.survey_core.proofs.FollowLemmas.{Keeps, keeps_whole}
use Rattle.survey_core.proofs.ReadLemmas.{class_fits, issued_len}
use Rattle.survey_core.proofs.ListSteps.{Each-All}
use Rattle.survey_replies.specs.Requests.{Request}
use Rattle.survey_replies.specs.Requests as request
use Rattle.survey_replies.specs.declared.replies.NextReply.{NextReply}
use Rattle.survey_replies.specs.declared.replies.NextReply.TheVariants.{Question}
use Rattle.survey_replies.specs.declared.replies.AnswerReply.{AnswerReply}
use Rattle.survey_replies.specs.declared.replies.AnswerReply.TheVariants.{Accepted}
use Rattle.survey_replies.specs.Outcomes.{Outcome, Exchange}
use Rattle.survey_replies.specs.Outcomes as outcome
use Rattle.survey_replies.specs.Gists.{Gist, gist_of}
use Rattle.survey_replies.specs.Gists as gist
use Rattle.survey_replies.specs.Calls.{end_of, Seen, IsCall, Conversation, occurrences}
use Rattle.survey_replies.specs.PlainLaws.{IsAlone}
use Rattle.survey_replies.specs.PlainRun.{plain_start, plain_interview, plain_after, IsPlainRun}
use Rattle.survey_replies.specs.ReplyLaw.{IsReplyTo}
use Rattle.survey_replies.proofs.CallLemmas.{conversations_join_lem, not_begun}
use Rattle.survey_replies.proofs.PlainLemmas.{alone_is_plain_lem}
use Rattle.sample_values.specs.Draws.{hidden_value}
use Rattle.sample_survey.specs.declared.summary.Summary.{Summary}
use Rattle.sample_survey.specs.Samples.{AnsweredQuestion, IsCompletion, IsSample, requests_for, replies_for, summary_of, values_of}
use Rattle.sample_survey.specs.Sampling.{IsNoQuestion, IsNotAccepted, Stops, IsSampling, HasAnswered}
use Rattle.sample_survey.specs.Laws.{OneSample, AloneIsSample}
use Rattle.sample_survey.proofs.RunLemmas.{settled_start, is_asked, asked_run}
use Rattle.sample_survey.proofs.SampleLemmas.{one_run_lem, IsRest, rest_of, completes, accepts}
use Rattle.sample_values.proofs.ValueLemmas.{values_positive}

-- the hidden values are a value vector
hidden : (listed : Listed) (seed : ℕ) → IsValueVector listed.criteria.levels (values_of listed seed)
hidden listed seed = record {
  len = length-map-range_with_len (hidden_value seed) 1 (increments listed.criteria.levels);
  positive = values_positive seed (increments listed.criteria.levels);
}

-- ---- alone
-- what ends the plain run is Complete
ends_complete : (listed : Listed) (values : List ℤ) (asked : ℕ) (last : List Exchange) → IsRest listed values last → Stops listed.criteria.levels values asked last
    → (end : Exchange) × (last ≡ end ∷ []) × IsCompletion end × (asked ≡ 0)
ends_complete listed values asked [] rest stops = absurd stops
ends_complete listed values asked (end ∷ []) rest (none, next, no_question) =
    let law : IsReplyTo listed (plain_interview listed rest.run) request.next end.reply =
    subst (λ (r : Request). IsReplyTo listed (plain_interview listed rest.run) r end.reply) next rest.plain.0 in
    (end, refl, (next, completes listed values rest.run rest.settled end.reply law no_question), none)
ends_complete listed values asked (asks ∷ answers ∷ []) rest (one_asked, refused) =
    let one : AnsweredQuestion = refused.one in
    let law : IsReplyTo listed (plain_interview listed rest.run) request.next asks.reply =
    subst (λ (r : Request). IsReplyTo listed (plain_interview listed rest.run) r asks.reply) refused.next rest.plain.0 in
    let next : plain_after rest.run asks.request (gist_of asks.reply) ≡ asked_run rest.run one.place =
    λ i. plain_after rest.run (refused.next i) (refused.question i) in
    let later : IsPlainRun listed (asked_run rest.run one.place) (answers ∷ []) = subst (λ r. IsPlainRun listed r (answers ∷ [])) next rest.plain.1 in
    let reply : IsReplyTo listed (plain_interview listed (asked_run rest.run one.place)) (request.answer one.number one.side) answers.reply =
    subst (λ (r : Request). IsReplyTo listed (plain_interview listed (asked_run rest.run one.place)) r answers.reply) refused.answer later.0 in
    absurd (accepts listed values rest.run rest.settled one.number one.place one.pair one.side answers.reply
    (is_asked listed rest.run asks.reply one.number one.place one.pair law refused.question) reply refused.refused)
ends_complete listed values asked (first ∷ second ∷ third ∷ more) rest stops = absurd stops

pub alone_is_sample_lem : AloneIsSample
alone_is_sample_lem listed desk seed after summary model legal sampling alone =
    let values : List ℤ = values_of listed seed in
    let plain : IsPlainRun listed plain_start (sampling.exchanges ++ sampling.last) =
    alone_is_plain_lem listed desk after (sampling.exchanges ++ sampling.last) model legal sampling.held alone in
    let rest : IsRest listed values sampling.last =
    rest_of listed values plain_start sampling.questions sampling.exchanges sampling.last (settled_start listed values (hidden listed seed)) sampling.answered sampling.by_values plain in
    let end = ends_complete listed values sampling.asked sampling.last rest sampling.stops in
    let count : length sampling.questions + sampling.asked ≡ length sampling.questions = omega (arith, end.3) in
    record {
      questions = sampling.questions;
      run = record {
        exchanges = sampling.exchanges;
        last = end.0;
        plain = subst (λ (l : List Exchange). IsPlainRun listed plain_start (sampling.exchanges ++ l)) end.1 plain;
        answered = sampling.answered;
        by_values = sampling.by_values;
        complete = end.2;
      };
      counted = sampling.counted ∙ ap (λ (n : ℕ). summary_of (length listed.classes) n sampling.questions) count;
    }

-- ---- one sample at most
same_listed : (one other : Listed) → one.criteria ≡ other.criteria → IsListed one → IsListed other → one ≡ other
same_listed one other criteria is is_other =
    let classes : one.classes ≡ other.classes =
    one_class_list_lem other.criteria one.classes other.classes (subst (λ (c : Criteria). IsClassList c one.classes) criteria is.list) is_other.list in
    λ i. record { criteria = criteria i; classes = classes i }

pub one_sample_lem : OneSample
one_sample_lem criteria seed one other sample other_sample =
    let same : sample.listed ≡ other_sample.listed =
    same_listed sample.listed other_sample.listed (sample.model ∙ sym other_sample.model) sample.list other_sample.list in
    let here : IsSample other_sample.listed seed one = subst (λ (l : Listed). IsSample l seed one) same sample.sample in
    let there : IsSample other_sample.listed seed other = other_sample.sample in
    let questions : here.questions ≡ there.questions =
    one_run_lem other_sample.listed (values_of other_sample.listed seed) here.questions there.questions (hidden other_sample.listed seed) here.run there.run in
    here.counted ∙ ap (λ (l : List AnsweredQuestion). summary_of (length other_sample.listed.classes) (length l) l) questions ∙ sym there.counted

-- ---- at a desk
-- each question is of a class of its own
pub few_issued : (listed : Listed) (history : List Event) → IsListed listed → IsLegal listed history → length (issued history) ≤ length listed.classes
few_issued listed history model legal =
    let now : Keeps listed history = keeps_whole listed history model legal in
    omega (arith, now.kept.table_of.len, now.kept.table_of.asked_count, issued_len now.kept.table_of, count_by-le-length (λ m. m.issued) now.table.classes)

-- a longer journal issues no less
issued_longer : (journal longer : List Event) → IsPrefix journal longer → length (issued journal) ≤ length (issued longer)
issued_longer journal longer (more, same) =
    omega (arith, ap (λ (l : List Event). length (issued l)) same, ap (λ (l : List ℕ). length l) (filter_map-append issued_place journal more), length-append (issued journal) (issued more))

pub has_answered_none : (listed : Listed) (desk : ℕ) (values : List ℤ) (seen : Seen) → HasAnswered listed desk values seen seen []
has_answered_none listed desk values seen = record {
  exchanges = [];
  held = not_begun listed desk seen;
  answered = record { requests = refl; replies = refl };
  by_values = λ k d within. absurd (omega arith);
  issues = omega arith;
}

pub has_answered_more : (listed : Listed) (desk : ℕ) (values : List ℤ) (before middle after : Seen) (questions more : List AnsweredQuestion)
    → HasAnswered listed desk values before middle questions → HasAnswered listed desk values middle after more
    → HasAnswered listed desk values before after (questions ++ more)
has_answered_more listed desk values before middle after questions more one other = record {
  exchanges = one.exchanges ++ other.exchanges;
  held = conversations_join_lem listed desk before middle after one.exchanges other.exchanges one.held other.held;
  answered = record {
    requests =
        map-append (λ (e : Exchange). e.request) one.exchanges other.exchanges
        ∙ ap (λ (l : List Request). l ++ map (λ (e : Exchange). e.request) other.exchanges) one.answered.requests
        ∙ ap (λ (l : List Request). flat_map requests_for questions ++ l) other.answered.requests
        ∙ sym (flat_map-append requests_for questions more);
    replies =
        map-append (λ (e : Exchange). gist_of e.reply) one.exchanges other.exchanges
        ∙ ap (λ (l : List Gist). l ++ map (λ (e : Exchange). gist_of e.reply) other.exchanges) one.answered.replies
        ∙ ap (λ (l : List Gist). flat_map replies_for questions ++ l) other.answered.replies
        ∙ sym (flat_map-append replies_for questions more);
  };
  by_values = All-append (λ (q : AnsweredQuestion). Ranks listed.criteria.levels values q.pair q.side) questions more one.by_values other.by_values;
  issues = omega (arith, one.issues, other.issues, length-append questions more);
}

-- a question that came is of a class of the model
pub question_fits : (listed : Listed) (desk : ℕ) (before after : Seen) (at number place : ℕ) (pair : Pair) → IsListed listed
    → IsCall listed desk before after request.next (outcome.next (Question at number place pair)) → IsFit listed.criteria.levels pair
question_fits listed desk before after at number place pair model call =
    class_fits listed (place - 1) pair model (item_found listed.classes place pair call.replied.by_law.3)

-- and was issued
question_issued : (listed : Listed) (desk : ℕ) (before after : Seen) (at number place : ℕ) (pair : Pair)
    → IsCall listed desk before after request.next (outcome.next (Question at number place pair))
    → length (issued before.journal) + 1 ≤ length (issued after.journal)
question_issued listed desk before after at number place pair call =
    let reply : Outcome = outcome.next (Question at number place pair) in
    let journal : List Event = after.journal in
    let read : List Event = take at journal in
    let count : ℕ = end_of journal reply - at in
    let rest : List Event = drop count (drop at journal) in
    let plus : List ℤ = call.replied.appended.0 in
    let minus : List ℤ = call.replied.appended.1 in
    let last : take count (drop at journal) ≡ Issue desk place plus minus ∷ [] = call.replied.appended.2 in
    let whole : read ++ (Issue desk place plus minus ∷ [] ++ rest) ≡ journal =
    ap (λ (l : List Event). read ++ (l ++ rest)) (sym last) ∙ ap (λ (l : List Event). read ++ l) (take-append-drop count (drop at journal)) ∙ take-append-drop at journal in
    let more : List Event = call.longer.0 in
    let n : ℕ = at - length before.journal in
    let at_is : length before.journal + n ≡ at = omega (arith, call.later) in
    let front : before.journal ++ take n more ≡ read =
    sym (take-append-add before.journal more n) ∙ ap (λ (l : List Event). take (length before.journal + n) l) call.longer.1 ∙ ap (λ (k : ℕ). take k journal) at_is in
    let earlier : length (issued before.journal) ≤ length (issued read) = issued_longer before.journal read (take n more, front) in
    let now : length (issued journal) ≡ length (issued read) + length (place ∷ issued rest) =
    ap (λ (l : List Event). length (issued l)) (sym whole)
    ∙ ap (λ (l : List ℕ). length l) (filter_map-append issued_place read (Issue desk place plus minus ∷ [] ++ rest))
    ∙ length-append (issued read) (place ∷ issued rest) in
    omega (arith, earlier, now)

pub has_answered_one : (listed : Listed) (desk : ℕ) (values : List ℤ) (before middle after : Seen) (at number place : ℕ) (pair : Pair) (side : Side) (answered_at replied : ℕ)
    → IsCall listed desk before middle request.next (outcome.next (Question at number place pair))
    → IsCall listed desk middle after (request.answer number side) (outcome.answer (Accepted answered_at replied)) → Ranks listed.criteria.levels values pair side
    → HasAnswered listed desk values before after (record { number = number; place = place; pair = pair; side = side } ∷ [])
has_answered_one listed desk values before middle after at number place pair side answered_at replied asks answers ranks =
    let same : replied ≡ number = answers.replied.by_law.0 in
    record {
      exchanges =
          record { request = request.next; reply = outcome.next (Question at number place pair) }
          ∷ record { request = request.answer number side; reply = outcome.answer (Accepted answered_at replied) }
          ∷ [];
      held = (middle, asks, (after, answers, not_begun listed desk after));
      answered = record {
        requests = refl;
        replies = ap (λ (n : ℕ). gist.asks number place pair ∷ gist.accepted n ∷ []) same;
      };
      by_values =
          Each-All (λ (q : AnsweredQuestion). Ranks listed.criteria.levels values q.pair q.side) (record { number = number; place = place; pair = pair; side = side } ∷ [])
          (ranks, tt);
      issues = omega (arith, question_issued listed desk before middle at number place pair asks, issued_longer middle.journal after.journal answers.longer);
    }

-- ---- stops
pub no_question : (reply : NextReply) → ((at number place : ℕ) (pair : Pair) → reply ≡ Question at number place pair → ⊥)
    → IsNoQuestion (gist_of (outcome.next reply))
no_question (Question at number place pair) other = other at number place pair refl
no_question _ other = tt

pub not_accepted : (reply : AnswerReply) → ((at question : ℕ) → reply ≡ Accepted at question → ⊥) → IsNotAccepted (gist_of (outcome.answer reply))
not_accepted (Accepted at question) other = other at question refl
not_accepted _ other = tt

-- no question came
pub stops_at_next : (listed : Listed) (desk : ℕ) (values : List ℤ) (before after : Seen) (reply : NextReply)
    → IsCall listed desk before after request.next (outcome.next reply) → IsNoQuestion (gist_of (outcome.next reply))
    → (last : List Exchange) × Conversation listed desk before after last × Stops listed.criteria.levels values 0 last
stops_at_next listed desk values before after reply call none =
    (record { request = request.next; reply = outcome.next reply } ∷ [], (after, call, not_begun listed desk after), (refl, refl, none))

-- its answer wasn't accepted
pub stops_at_answer : (listed : Listed) (desk : ℕ) (values : List ℤ) (before middle after : Seen) (at number place : ℕ) (pair : Pair) (side : Side) (reply : AnswerReply)
    → IsCall listed desk before middle request.next (outcome.next (Question at number place pair))
    → IsCall listed desk middle after (request.answer number side) (outcome.answer reply) → Ranks listed.criteria.levels values pair side
    → IsNotAccepted (gist_of (outcome.answer reply))
    → (last : List Exchange) × Conversation listed desk before after last × Stops listed.criteria.levels values 1 last
stops_at_answer listed desk values before middle after at number place pair side reply asks answers ranks refused = (
  record { request = request.next; reply = outcome.next (Question at number place pair) }
      ∷ record { request = request.answer number side; reply = outcome.answer reply }
      ∷ [],
  (middle, asks, (after, answers, not_begun listed desk after)),
  (
    refl,
    record {
      one = record { number = number; place = place; pair = pair; side = side };
      next = refl;
      question = refl;
      by_values = ranks;
      answer = refl;
      refused = refused;
    },
  ),
)

-- what was answered, and then a stop
pub sampled : (listed : Listed) (desk seed : ℕ) (before middle after : Seen) (questions : List AnsweredQuestion) (asked : ℕ) (summary : Summary)
    → HasAnswered listed desk (values_of listed seed) before middle questions
    → (last : List Exchange) × Conversation listed desk middle after last × Stops listed.criteria.levels (values_of listed seed) asked last
    → summary ≡ summary_of (length listed.classes) (length questions + asked) questions → IsSampling listed desk seed before after summary
sampled listed desk seed before middle after questions asked summary has (last, held, stops) counted = record {
  questions = questions;
  exchanges = has.exchanges;
  last = last;
  asked = asked;
  held = conversations_join_lem listed desk before middle after has.exchanges last has.held held;
  answered = has.answered;
  by_values = has.by_values;
  stops = stops;
  counted = counted;
}

-- ---- a survey of one's own
-- all places of a journal are among its places
place_once : (from n place : ℕ) → from ≤ place → place < from + n → 0 < occurrences place (range_with_len from n)
place_once from zero place low high = absurd (omega arith)
place_once from (suc n) place low high =
    let sum : occurrences place (range_with_len from (suc n)) ≡ cond (from == place) 1 0 + occurrences place (range_with_len (from + 1) n) =
    sum_by-cons (λ x. cond (x == place) 1 0) from (range_with_len (from + 1) n) in
    elim (cases_eq from place) [
      | inl here ↦ omega (arith, sum, ap {B = ℕ} (λ (b : Bool). cond b 1 0) (eq-eqb from place here))
      | inr other ↦ omega (arith, sum, place_once (from + 1) n place (omega arith) (omega arith))
    ]

pub solo_is_alone : (journal : List Event) → IsAlone (record { journal = journal; own = range_with_len 0 (length journal) })
solo_is_alone journal place event at none =
    place_once 0 (length journal) place (omega arith) (omega (arith, slice_get_within journal place event at))
