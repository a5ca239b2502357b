-- One reply at most.
use Rattle.std.proofs.Common.{◌≡◌, ℕ, ◌<◌, ◌≤◌, List, [], length, Option, Some, None, IsSomeAnd, refl, ap, sym, ◌∙◌, arith}
use Rattle.std.proofs.lemmas.Option.{same_Some}
use Rattle.criteria_model.specs.declared.pairs.Pair.{Pair}
use Rattle.criteria_model.specs.declared.pairs.Answer.{Answer}
use Rattle.criteria_model.specs.declared.pairs.Side.{Side}
use Rattle.criteria_model.specs.Answers.{IsSatisfiable, IsRanked, IsOpen}
use Rattle.pair_enumeration.specs.Listed.{Listed}
use Rattle.survey_core.specs.Histories.{class_at, class_of}
use Rattle.criteria_model.proofs.RankLemmas.{ranks_once}
use Rattle.survey_core.proofs.RankingLemmas.{answers_are_satisfiable_lem}
use Rattle.survey_replies.specs.Requests as request
use Rattle.survey_replies.specs.declared.replies.NextReply.{NextReply}
use Rattle.survey_replies.specs.declared.replies.NextReply.TheVariants.{Question, Full, Waiting, Complete}
use Rattle.survey_replies.specs.declared.replies.AnswerReply.{AnswerReply}
use Rattle.survey_replies.specs.declared.replies.AnswerReply.TheVariants.{Accepted, Unknown, Closed, Implied}
use Rattle.survey_replies.specs.declared.replies.ValuesReply.{ValuesReply}
use Rattle.survey_replies.specs.declared.replies.ValuesReply.TheVariants.{Values, Incomplete}
use Rattle.survey_replies.specs.declared.replies.WithdrawReply.{WithdrawReply}
use Rattle.survey_replies.specs.declared.replies.WithdrawReply.TheVariants.{Withdrawn, Nothing, Spent}
use Rattle.survey_replies.specs.Outcomes.{Outcome}
use Rattle.survey_replies.specs.Outcomes as outcome
use Rattle.survey_replies.specs.Interview.{Interview, interview}
use Rattle.survey_replies.specs.ReplyLaw.{IsFirst, IsOpenClass, IsUnaskedOpenClass, IsNextReply, IsAnswerReply, IsValuesReply, IsWithdrawReply, IsReplyTo}
use Rattle.survey_replies.specs.Gists.{gist_of}
use Rattle.survey_replies.specs.Gists as gist
use Rattle.survey_replies.specs.Laws.{OneReply, OneReplyOnHistory}

pub one_first : (Is : ℕ → Type 0) (m n : ℕ) → IsFirst Is m → IsFirst Is n → m ≡ n
one_first Is m n one other =
    let low : ¬ (m < n) = λ below. other.first m below one.is in
    let high : ¬ (n < m) = λ below. one.first n below other.is in
    omega arith

same_class : (classes : List Pair) (m n : ℕ) (p q : Pair) → m ≡ n → class_at classes m ≡ Some p → class_at classes n ≡ Some q → p ≡ q
same_class classes m n p q same one other = same_Some p q (sym one ∙ ap (λ k. class_at classes k) same ∙ other)

module _ (listed : Listed) (now : Interview) where
  one_next : (one other : NextReply) → IsNextReply listed now one → IsNextReply listed now other → gist_of (outcome.next one) ≡ gist_of (outcome.next other)
  one_next (Full at) (Full at') f g = refl
  one_next (Full at) (Question at' number place pair) f g = absurd (g.0 f.0)
  one_next (Full at) (Waiting at' place plus minus) f g = absurd (g.0 f.0)
  one_next (Full at) (Complete at') f g = absurd (g f.1)
  one_next (Question at number place pair) (Full at') f g = absurd (f.0 g.0)
  one_next (Question at number place pair) (Question at' number' place' pair') f g =
      let same : place ≡ place' = one_first (IsUnaskedOpenClass listed now) place place' f.1 g.1 in
      let count : number ≡ number' = f.2 ∙ sym g.2 in
      let class : pair ≡ pair' = same_class listed.classes place place' pair pair' same f.3 g.3 in
      λ i. gist.asks (count i) (same i) (class i)
  one_next (Question at number place pair) (Waiting at' place' plus minus) f g = absurd (g.1 place f.1.is)
  one_next (Question at number place pair) (Complete at') f g = absurd (g (place, f.1.is.0))
  one_next (Waiting at place plus minus) (Full at') f g = absurd (f.0 g.0)
  one_next (Waiting at place plus minus) (Question at' number place' pair) f g = absurd (f.1 place' g.1.is)
  one_next (Waiting at place plus minus) (Waiting at' place' plus' minus') f g = ap gist.waiting (one_first (IsOpenClass listed now) place place' f.2 g.2)
  one_next (Waiting at place plus minus) (Complete at') f g = absurd (g (place, f.2.is))
  one_next (Complete at) (Full at') f g = absurd (f g.1)
  one_next (Complete at) (Question at' number place pair) f g = absurd (f (place, g.1.is.0))
  one_next (Complete at) (Waiting at' place plus minus) f g = absurd (f (place, g.2.is))
  one_next (Complete at) (Complete at') f g = refl

  -- a class can't be both ranked and open, nor ranked in two ways
  not_both : (o : Option Pair) (side : Side) → IsSomeAnd o (λ pair. IsRanked listed.criteria.levels now.answers pair side)
      → IsSomeAnd o (λ pair. IsOpen listed.criteria.levels now.answers pair) → ⊥
  not_both None side ranked open_class = ranked
  not_both (Some pair) side ranked open_class = open_class side ranked

  one_side : IsSatisfiable listed.criteria.levels now.answers → (o : Option Pair) (side other : Side)
      → IsSomeAnd o (λ pair. IsRanked listed.criteria.levels now.answers pair side)
      → IsSomeAnd o (λ pair. IsRanked listed.criteria.levels now.answers pair other) → side ≡ other
  one_side satisfiable None side other one two = absurd one
  one_side satisfiable (Some pair) side other one two =
      ranks_once listed.criteria.levels satisfiable.0 pair side other (one satisfiable.0 satisfiable.1) (two satisfiable.0 satisfiable.1)

  one_answer : (question : ℕ) (one other : AnswerReply) → IsSatisfiable listed.criteria.levels now.answers
      → IsAnswerReply listed now question one → IsAnswerReply listed now question other → gist_of (outcome.answer one) ≡ gist_of (outcome.answer other)
  one_answer question (Unknown at q) (Unknown at' q') s f g = ap gist.unknown (f.0 ∙ sym g.0)
  one_answer question (Unknown at q) (Closed at' q') s f g = absurd (f.1 g.1)
  one_answer question (Unknown at q) (Implied at' q' verdict combination) s f g = absurd (f.1 g.1.0)
  one_answer question (Unknown at q) (Accepted at' q') s f g = absurd (f.1 g.1.0)
  one_answer question (Closed at q) (Unknown at' q') s f g = absurd (g.1 f.1)
  one_answer question (Closed at q) (Closed at' q') s f g = ap gist.closed (f.0 ∙ sym g.0)
  one_answer question (Closed at q) (Implied at' q' verdict combination) s f g = absurd (f.2 g.1.1)
  one_answer question (Closed at q) (Accepted at' q') s f g = absurd (f.2 g.1.1)
  one_answer question (Implied at q verdict combination) (Unknown at' q') s f g = absurd (g.1 f.1.0)
  one_answer question (Implied at q verdict combination) (Closed at' q') s f g = absurd (g.2 f.1.1)
  one_answer question (Implied at q verdict combination) (Implied at' q' verdict' combination') s f g =
      let same : q ≡ q' = f.0 ∙ sym g.0 in
      let side : verdict ≡ verdict' = one_side s (class_of listed.classes now.asked question) verdict verdict' f.2 g.2 in
      λ i. gist.implied (same i) (side i)
  one_answer question (Implied at q verdict combination) (Accepted at' q') s f g = absurd (not_both (class_of listed.classes now.asked question) verdict f.2 g.2)
  one_answer question (Accepted at q) (Unknown at' q') s f g = absurd (g.1 f.1.0)
  one_answer question (Accepted at q) (Closed at' q') s f g = absurd (g.2 f.1.1)
  one_answer question (Accepted at q) (Implied at' q' verdict combination) s f g = absurd (not_both (class_of listed.classes now.asked question) verdict g.2 f.2)
  one_answer question (Accepted at q) (Accepted at' q') s f g = ap gist.accepted (f.0 ∙ sym g.0)

  one_values : (one other : ValuesReply) → IsValuesReply listed now one → IsValuesReply listed now other → gist_of (outcome.values one) ≡ gist_of (outcome.values other)
  one_values (Values at vector) (Values at' vector') f g = refl
  one_values (Values at vector) (Incomplete at' place pair plus minus) f g = absurd (f (place, g.0.is))
  one_values (Incomplete at place pair plus minus) (Values at' vector) f g = absurd (g (place, f.0.is))
  one_values (Incomplete at place pair plus minus) (Incomplete at' place' pair' plus' minus') f g =
      let same : place ≡ place' = one_first (IsOpenClass listed now) place place' f.0 g.0 in
      let class : pair ≡ pair' = same_class listed.classes place place' pair pair' same f.1 g.1 in
      λ i. gist.incomplete (same i) (class i)

  some_answers : now.answers ≡ [] → 1 ≤ length now.answers → ⊥
  some_answers none some = omega (arith, ap (λ (l : List Answer). length l) none)

  one_withdraw : (one other : WithdrawReply) → IsWithdrawReply listed now one → IsWithdrawReply listed now other
      → gist_of (outcome.withdraw one) ≡ gist_of (outcome.withdraw other)
  one_withdraw (Nothing at) (Nothing at') f g = refl
  one_withdraw (Nothing at) (Spent at') f g = absurd (some_answers f g.0)
  one_withdraw (Nothing at) (Withdrawn at' answer question) f g = absurd (some_answers f g.0)
  one_withdraw (Spent at) (Nothing at') f g = absurd (some_answers g f.0)
  one_withdraw (Spent at) (Spent at') f g = refl
  one_withdraw (Spent at) (Withdrawn at' answer question) f g = absurd (g.1 f.1)
  one_withdraw (Withdrawn at answer question) (Nothing at') f g = absurd (some_answers g f.0)
  one_withdraw (Withdrawn at answer question) (Spent at') f g = absurd (f.1 g.1)
  one_withdraw (Withdrawn at answer question) (Withdrawn at' answer' question') f g =
      let same : answer ≡ answer' = f.2 ∙ sym g.2 in
      let one : question ≡ question' = same_Some question question' (sym f.3 ∙ g.3) in
      λ i. gist.withdrawn (same i) (one i)

next_only : (listed : Listed) (now : Interview) (one : NextReply) (other : Outcome) → IsNextReply listed now one → IsReplyTo listed now request.next other
    → gist_of (outcome.next one) ≡ gist_of other
next_only listed now one (outcome.next other) f g = one_next listed now one other f g
next_only listed now one _ f g = absurd g

answer_only : (listed : Listed) (now : Interview) (question : ℕ) (side : Side) (one : AnswerReply) (other : Outcome) → IsSatisfiable listed.criteria.levels now.answers
    → IsAnswerReply listed now question one → IsReplyTo listed now (request.answer question side) other → gist_of (outcome.answer one) ≡ gist_of other
answer_only listed now question side one (outcome.answer other) s f g = one_answer listed now question one other s f g
answer_only listed now question side one _ s f g = absurd g

values_only : (listed : Listed) (now : Interview) (one : ValuesReply) (other : Outcome) → IsValuesReply listed now one → IsReplyTo listed now request.values other
    → gist_of (outcome.values one) ≡ gist_of other
values_only listed now one (outcome.values other) f g = one_values listed now one other f g
values_only listed now one _ f g = absurd g

withdraw_only : (listed : Listed) (now : Interview) (one : WithdrawReply) (other : Outcome) → IsWithdrawReply listed now one → IsReplyTo listed now request.withdraw other
    → gist_of (outcome.withdraw one) ≡ gist_of other
withdraw_only listed now one (outcome.withdraw other) f g = one_withdraw listed now one other f g
withdraw_only listed now one _ f g = absurd g

look_only : (listed : Listed) (now : Interview) (at : ℕ) (other : Outcome) → IsReplyTo listed now request.look other → gist_of (outcome.look at) ≡ gist_of other
look_only listed now at (outcome.look at') g = refl
look_only listed now at _ g = absurd g

pub one_reply_lem : OneReply
one_reply_lem listed now request.next (outcome.next one) other s f g = next_only listed now one other f g
one_reply_lem listed now (request.answer question side) (outcome.answer one) other s f g = answer_only listed now question side one other s f g
one_reply_lem listed now request.values (outcome.values one) other s f g = values_only listed now one other f g
one_reply_lem listed now request.withdraw (outcome.withdraw one) other s f g = withdraw_only listed now one other f g
one_reply_lem listed now request.look (outcome.look at) other s f g = look_only listed now at other g
one_reply_lem listed now _ _ other s f g = absurd f

pub one_reply_on_history_lem : OneReplyOnHistory
one_reply_on_history_lem listed history request one other model legal f g =
    one_reply_lem listed (interview listed history) request one other (answers_are_satisfiable_lem listed history model legal) f g
