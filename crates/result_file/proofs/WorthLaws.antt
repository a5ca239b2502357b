-- What a valid file is worth.
use Rattle.std.proofs.Common.{ℕ, List, [], ◌∷◌, append-nil, subst, refl}
use Rattle.criteria_model.specs.declared.pairs.Pair.{Pair}
use Rattle.criteria_model.specs.declared.pairs.Answer.{Answer}
use Rattle.criteria_model.specs.declared.pairs.Side.{Side}
use Rattle.criteria_model.specs.Criteria.{Criteria}
use Rattle.criteria_model.specs.Answers.{IsRanked}
use Rattle.farkas_check.proofs.Ranking.{proved_is_ranked_lem}
use Rattle.pair_enumeration.specs.Listed.{Listed}
use Rattle.pair_enumeration.specs.Places.{IsPlaceOf}
use Rattle.survey_core.specs.Histories.{committed}
use Rattle.survey_core.specs.Recorded.{Recorded}
use Rattle.survey_core.proofs.RankingLemmas.{answers_are_satisfiable_lem, eliminated_are_ranked_lem, class_ranks_pairs_lem, complete_ranks_every_pair_lem}
use Rattle.result_file.specs.declared.entries.Format.{Format}
use Rattle.result_file.specs.declared.verdicts.Checked.{Checked}
use Rattle.result_file.specs.declared.verdicts.Checked.TheVariants.{Valid, ValidComplete}
use Rattle.result_file.specs.Checked.{IsChecked}
use Rattle.result_file.specs.Claims.{Claim, eliminated, answers_of}
use Rattle.result_file.specs.Contents.{Content, of_claims, of_events, IsRightContent, IsCompleteContent}
use Rattle.result_file.specs.RightClaims.{AreClaims}
use Rattle.result_file.specs.RightEvents.{AreEvents}
use Rattle.result_file.proofs.OneVerdict.{one_content_lem}
use Rattle.result_file.specs.Worth.{RanksReplicas, ClaimsAreRanked, EventsAreRanked, EliminationsAreSound, SettlesAll, IsWorth}

-- answers that rank a pair rank its replicas: a pair is the class at the only place of a list that has only it
ranks_replicas : (criteria : Criteria) (answers : List Answer) (pair : Pair) (side : Side) → IsRanked criteria.levels answers pair side
    → RanksReplicas criteria.levels answers pair side
ranks_replicas criteria answers pair side ranked =
    let alone : Listed = record { criteria = criteria; classes = pair ∷ [] } in
    record {
      itself = ranked;
      replicas = λ a b flip replica.
          let there : IsPlaceOf alone a b 1 flip = record { pair = pair; stands = refl; replica = replica } in
          class_ranks_pairs_lem alone answers 1 side pair a b flip refl ranked there;
    }

-- what right claims eliminate is ranked by the answers above
claims_are_ranked : (criteria : Criteria) (claims : List Claim) → AreClaims criteria claims → ClaimsAreRanked criteria claims
claims_are_ranked criteria claims h before e after is =
    ranks_replicas criteria (answers_of before) e.pair e.verdict
    (subst (λ (answers : List Answer). IsRanked criteria.levels answers e.pair e.verdict) (append-nil (answers_of before))
    (proved_is_ranked_lem criteria.levels (answers_of before) [] e.combination e.pair e.verdict (h.each before (eliminated e) after is).proof))

-- what right events eliminate is ranked by the answers standing there
events_are_ranked : (format : Format) (survey : Recorded) → AreEvents format survey → EventsAreRanked survey
events_are_ranked format survey h before worker place verdict combination after pair is at =
    ranks_replicas survey.listed.criteria (committed survey.listed.classes before) pair verdict
    (eliminated_are_ranked_lem survey.listed survey.history before after worker place verdict combination pair h.legal is at)

eliminated_are_ranked : (content : Content) → IsRightContent content → EliminationsAreSound content
eliminated_are_ranked (of_claims criteria claims) h = claims_are_ranked criteria claims h
eliminated_are_ranked (of_events format survey) h = events_are_ranked format survey h

settles : (content : Content) → IsRightContent content → IsCompleteContent content → SettlesAll content
settles (of_claims criteria claims) h complete = absurd complete
settles (of_events format survey) h complete = record {
  satisfiable = answers_are_satisfiable_lem survey.listed survey.history h.listed h.legal;
  ranked = complete_ranks_every_pair_lem survey.listed survey.history h.listed h.legal complete;
}

-- a text is worth its verdict
pub worth : (text : List ℕ) (verdict : Checked) → IsChecked text verdict → IsWorth text verdict
worth text Valid checked = λ content file. eliminated_are_ranked content file.right
worth text ValidComplete checked = (
  λ content file. eliminated_are_ranked content file.right,
  λ content file. subst SettlesAll (one_content_lem text checked.0 content checked.1 file) (settles checked.0 checked.1.right checked.2),
)
worth text verdict checked = tt
