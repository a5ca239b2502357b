-- The run of a script, from the ends of all surveys.
use Rattle.std.proofs.Common.{◌≡◌, ℕ, suc, ◌+◌, ◌-◌, List, [], ◌∷◌, length, map, Some, slice_get, refl, ap, sym, ◌∙◌, subst, arith}
use Rattle.std.specs.List.{AllZip, flat_map}
use Rattle.json_forms.specs.DefinitionViews.{model_of}
use Rattle.row_laws.proofs.ItemLemmas.{item_found, item_of, item_positive}
use Rattle.survey_core.proofs.ListSteps.{Each-at, All-Each}
use Rattle.survey_script.specs.ScriptViews.{IsWholeScript, IsWholeSession, ScriptSessionView, ScriptView}
use Rattle.survey_state.specs.States.{Surveyed}
use Rattle.survey_run.specs.declared.ends.SurveyEnd.{SurveyEnd}
use Rattle.survey_run.specs.Collects.{runs_from}
use Rattle.survey_run.specs.Each.{EachZipFrom}
use Rattle.survey_run.specs.Ends.{DeskPart, EndAt, IsEndOf}
use Rattle.survey_run.specs.RunViews.{RunView}
use Rattle.survey_run.specs.Runs.{IsRunBy, IsSurveyRun, count_of}
use Rattle.survey_run.specs.Sessions.{IsRunOf, of_respondent, replies_of}
use Rattle.survey_run.proofs.FoundLemmas.{found}
use Rattle.survey_run.proofs.ListLemmas.{map_get, map_length, zip_get}
use Rattle.survey_run.proofs.SurveyRunLemmas.{survey_run}

-- a session of a whole script
pub session_whole : (script : ScriptView) → IsWholeScript script → (k : ℕ) (s : ScriptSessionView) → slice_get script.sessions k ≡ Some s
    → IsWholeSession (length script.definition.respondents) s
session_whole script whole k s stands =
    Each-at (IsWholeSession (length script.definition.respondents)) script.sessions k s
    (All-Each (IsWholeSession (length script.definition.respondents)) script.sessions whole.sessions) stands

all_runs : (script : ScriptView) (workers : ℕ) (parts : List (List DeskPart)) (ends : List SurveyEnd) → IsWholeScript script
    → EachZipFrom (EndAt (model_of script.definition) workers script.sessions) 0 parts ends → length ends ≡ length script.definition.respondents
    → (n : ℕ) (rest : List ScriptSessionView) → ((k : ℕ) (s : ScriptSessionView) → slice_get rest k ≡ Some s → slice_get script.sessions (n + k) ≡ Some s)
    → AllZip IsRunOf rest (runs_from parts n rest)
all_runs script workers parts ends whole each count n [] within = tt
all_runs script workers parts ends whole each count n (s ∷ ss) within =
    let z : n + 0 ≡ n = omega arith in
    let stands : slice_get script.sessions n ≡ Some s = rw z at (within 0 s refl) in
    let session = session_whole script whole n s stands in
    let here = found (model_of script.definition) workers script.sessions parts ends s n each stands session.respondent.0
    (omega (arith, session.respondent.1, count)) session.desk in (
      here.is,
      all_runs script workers parts ends whole each count (n + 1) ss
          (λ k t is. let e : n + suc k ≡ n + 1 + k = omega arith in rw e at (within (suc k) t is)),
    )

pub run_by : (script : ScriptView) (workers : ℕ) (parts : List (List DeskPart)) (ends : List SurveyEnd) (end : RunView) → IsWholeScript script
    → EachZipFrom (EndAt (model_of script.definition) workers script.sessions) 0 parts ends → length ends ≡ length script.definition.respondents
    → end.states ≡ map (λ (one : SurveyEnd). one.state) ends
    → end.replies ≡ flat_map (replies_of (count_of (model_of script.definition))) (runs_from parts 0 script.sessions)
    → IsRunBy script workers end (runs_from parts 0 script.sessions)
run_by script workers parts ends end whole each count states replies =
    let criteria = model_of script.definition in
    record {
      runs = all_runs script workers parts ends whole each count 0 script.sessions (λ k s is. let e : 0 + k ≡ k = omega arith in rw e is);
      surveys = ap {B = ℕ} length states ∙ (map_length (λ (one : SurveyEnd). one.state) ends ∙ count);
      each = λ respondent state is.
          let low = item_positive end.states respondent state is in
          let there : slice_get (map (λ (one : SurveyEnd). one.state) ends) (respondent - 1) ≡ Some state =
          ap (λ (xs : List Surveyed). slice_get xs (respondent - 1)) (sym states) ∙ item_found end.states respondent state is in
          let got = map_get (λ (one : SurveyEnd). one.state) ends (respondent - 1) state there in
          let survey = zip_get (EndAt criteria workers script.sessions) 0 parts ends (respondent - 1) got.item each got.at in
          let number : 0 + (respondent - 1) + 1 ≡ respondent = omega (arith, low) in
          let so = subst (λ (n : ℕ). IsEndOf criteria n workers script.sessions survey.item got.item) number survey.holds in
          subst (λ (state : Surveyed). IsSurveyRun criteria workers (of_respondent respondent (runs_from parts 0 script.sessions)) state) got.same
          (survey_run criteria respondent workers script.sessions parts survey.item got.item (item_of parts respondent survey.item low survey.at) so
          (λ k s stands. (session_whole script whole k s stands).desk));
      replies = replies;
    }
