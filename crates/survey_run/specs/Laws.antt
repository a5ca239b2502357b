-- What a run comes to: the headline, clause by clause, each over the one journal of a respondent's survey.
use Rattle.std.specs.Prelude.{◌≡◌, ◌≢◌, ℕ, ◌≤◌, List, [], ◌∷◌, ◌++◌, map, take, All, AllPairs, Some, slice_get, ℤ}
use Rattle.criteria_model.specs.Criteria.{Criteria}
use Rattle.criteria_model.specs.declared.pairs.Pair.{Pair}
use Rattle.criteria_model.specs.declared.pairs.Side.{Side}
use Rattle.criteria_model.specs.Answers.{IsSatisfiable, IsRanked, IsOpen, Opens}
use Rattle.farkas_check.specs.declared.combination.Combination.{Combination}
use Rattle.survey_core.specs.declared.events.Event.{Event}
use Rattle.survey_core.specs.declared.events.Event.TheVariants.{Eliminate, Issue}
use Rattle.survey_core.specs.Histories.{committed, class_at}
use Rattle.survey_replies.specs.Gists.{gist_of}
use Rattle.survey_replies.specs.Outcomes.{Exchange, at_of}
use Rattle.survey_replies.specs.Calls.{IsReplyIn, end_of, occurrences, reply_places}
use Rattle.survey_replies.specs.CallLaws.{IsNoEliminate}
use Rattle.survey_replies.specs.PlainRun.{IsPlainRun, plain_start}
use Rattle.survey_state.specs.States.{Surveyed}
use Rattle.session_protocol.specs.Exchanges.{asked_by}
use Rattle.survey_run.specs.Runs.{IsSurveyRun}
use Rattle.survey_run.specs.Sessions.{SessionRun, all_exchanges, of_desk}

-- after each front of the journal some values meet the answers that stand then
abbrev pub AnswersStaySatisfiable : Type 0
AnswersStaySatisfiable =
    (criteria : Criteria) (workers : ℕ) (sessions : List SessionRun) (state : Surveyed) (count : ℕ) → IsSurveyRun criteria workers sessions state
    → IsSatisfiable criteria.levels (committed state.listed.classes (take count state.journal))

-- the class of each Eliminate is ranked as it says by the answers that stood before it
abbrev pub EliminatedWereRanked : Type 0
EliminatedWereRanked =
    (criteria : Criteria) (workers : ℕ) (sessions : List SessionRun) (state : Surveyed) (before after : List Event)
    (worker place : ℕ) (verdict : Side) (combination : Combination) (pair : Pair)
    → IsSurveyRun criteria workers sessions state → state.journal ≡ before ++ Eliminate worker place verdict combination ∷ after
    → class_at state.listed.classes place ≡ Some pair
    → IsRanked criteria.levels (committed state.listed.classes before) pair verdict

-- the class of each Issue is opened by its vectors, so left open by the answers that stood before it
abbrev pub IssuedWereOpen : Type 0
IssuedWereOpen =
    (criteria : Criteria) (workers : ℕ) (sessions : List SessionRun) (state : Surveyed) (before after : List Event)
    (desk place : ℕ) (plus minus : List ℤ) (pair : Pair)
    → IsSurveyRun criteria workers sessions state → state.journal ≡ before ++ Issue desk place plus minus ∷ after
    → class_at state.listed.classes place ≡ Some pair
    → Opens criteria.levels (committed state.listed.classes before) pair plus minus
    × IsOpen criteria.levels (committed state.listed.classes before) pair

-- each reply is the right one in the final journal, at its place: by the reply law, with certificates that hold, with each class ranked that
-- it needs ranked, and with its events there
abbrev pub EachReplyStands : Type 0
EachReplyStands =
    (criteria : Criteria) (workers : ℕ) (sessions : List SessionRun) (state : Surveyed) → IsSurveyRun criteria workers sessions state
    → All (λ session. All (λ one. IsReplyIn state.listed session.desk state.journal (asked_by one.message) one.came) session.messages) sessions

-- over all sessions of a desk, in input order, no reply is made before the last turn of an earlier one
abbrev pub DeskReadsWhatItWrote : Type 0
DeskReadsWhatItWrote =
    (criteria : Criteria) (workers : ℕ) (sessions : List SessionRun) (state : Surveyed) (desk : ℕ) → IsSurveyRun criteria workers sessions state
    → AllPairs (λ one other. end_of state.journal one.reply ≤ at_of other.reply) (all_exchanges (of_desk desk sessions))

-- each event of the journal that is no Eliminate stands in the last turn of exactly one reply
abbrev pub EachEventHasItsReply : Type 0
EachEventHasItsReply =
    (criteria : Criteria) (workers : ℕ) (sessions : List SessionRun) (state : Surveyed) (place : ℕ) (event : Event)
    → IsSurveyRun criteria workers sessions state → slice_get state.journal place ≡ Some event → IsNoEliminate event
    → occurrences place (reply_places state.journal (all_exchanges sessions)) ≡ 1

-- each Eliminate names worker 0, a session, or one of the eliminators
abbrev pub EachEliminateHasItsMaker : Type 0
EachEliminateHasItsMaker =
    (criteria : Criteria) (workers : ℕ) (sessions : List SessionRun) (state : Surveyed) (place worker class : ℕ) (verdict : Side) (combination : Combination)
    → IsSurveyRun criteria workers sessions state → slice_get state.journal place ≡ Some (Eliminate worker class verdict combination) → worker ≤ workers

-- where all sessions are of one desk, its replies are those of the plain run, and, certificates apart, of every plain run of the same
-- requests: eliminations change none
abbrev pub OneDeskRunsPlain : Type 0
OneDeskRunsPlain =
    (criteria : Criteria) (workers : ℕ) (sessions : List SessionRun) (state : Surveyed) (desk : ℕ) → IsSurveyRun criteria workers sessions state
    → All (λ session. session.desk ≡ desk) sessions → sessions ≢ []
    → IsPlainRun state.listed plain_start (all_exchanges sessions)
    × ((others : List Exchange) → map (λ exchange. exchange.request) others ≡ map (λ exchange. exchange.request) (all_exchanges sessions)
    → IsPlainRun state.listed plain_start others → map (λ exchange. gist_of exchange.reply) others ≡ map (λ exchange. gist_of exchange.reply) (all_exchanges sessions))
