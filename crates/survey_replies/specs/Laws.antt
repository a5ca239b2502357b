-- What the reply law comes to.
use Rattle.std.specs.Prelude.{◌≡◌, ℕ, List, ◌∷◌, ◌++◌}
use Rattle.criteria_model.specs.declared.pairs.Side.{Side}
use Rattle.criteria_model.specs.Answers.{IsSatisfiable}
use Rattle.farkas_check.specs.declared.combination.Combination.{Combination}
use Rattle.pair_enumeration.specs.Listed.{Listed, IsListed}
use Rattle.survey_core.specs.declared.events.Event.{Event}
use Rattle.survey_core.specs.declared.events.Event.TheVariants.{Eliminate}
use Rattle.survey_core.specs.Legal.{IsLegal}
use Rattle.survey_replies.specs.Requests.{Request}
use Rattle.survey_replies.specs.Outcomes.{Outcome}
use Rattle.survey_replies.specs.Interview.{Interview, interview}
use Rattle.survey_replies.specs.ReplyLaw.{IsReplyTo}
use Rattle.survey_replies.specs.Gists.{gist_of}

-- certificates apart, a request has one reply at most
abbrev pub OneReply : Type 0
OneReply =
    (listed : Listed) (now : Interview) (request : Request) (one other : Outcome) → IsSatisfiable listed.criteria.levels now.answers
    → IsReplyTo listed now request one → IsReplyTo listed now request other → gist_of one ≡ gist_of other

-- so it has on a legal history
abbrev pub OneReplyOnHistory : Type 0
OneReplyOnHistory =
    (listed : Listed) (history : List Event) (request : Request) (one other : Outcome) → IsListed listed → IsLegal listed history
    → IsReplyTo listed (interview listed history) request one → IsReplyTo listed (interview listed history) request other → gist_of one ≡ gist_of other

-- an elimination changes nothing that replies rest on, at the end of a history or within it
abbrev pub EliminationsChangeNoReply : Type 0
EliminationsChangeNoReply =
    (listed : Listed) (before after : List Event) (worker place : ℕ) (verdict : Side) (combination : Combination)
    → interview listed (before ++ Eliminate worker place verdict combination ∷ after) ≡ interview listed (before ++ after)
