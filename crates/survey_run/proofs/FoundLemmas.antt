-- Where the replies to a session stand, among what is left of all surveys.
use Rattle.std.proofs.Common.{◌≡◌, ℕ, ◌+◌, ◌-◌, ◌≤◌, true, List, ◌∷◌, length, map, Option, Some, slice_get, refl, ap, sym, ◌∙◌, subst, arith}
use Rattle.std.specs.List.{AllByRecursion}
use Rattle.std.specs.Option.{option_and_then}
use Rattle.std.specs.Global.{Vec}
use Rattle.std.proofs.lemmas.Bool.{eq-eqb}
use Rattle.criteria_model.specs.Criteria.{Criteria}
use Rattle.json_forms.specs.declared.replies.Reply.{Reply}
use Rattle.json_forms.specs.declared.replies.Reply.TheVariants.{Welcome}
use Rattle.row_laws.specs.Items.{item_at}
use Rattle.row_laws.proofs.ItemLemmas.{item_of, slice_get_inside}
use Rattle.survey_core.specs.Legal.{IsDesk}
use Rattle.survey_script.specs.ScriptViews.{ScriptSessionView}
use Rattle.survey_run.specs.declared.ends.SurveyEnd.{SurveyEnd}
use Rattle.survey_run.specs.declared.plans.DeskTold.{DeskTold}
use Rattle.survey_run.specs.Collects.{messages_in, part_at, run_at}
use Rattle.survey_run.specs.Desks.{DeskSession, IsSaidBy, is_at, lists_of}
use Rattle.survey_run.specs.Each.{EachZipFrom}
use Rattle.survey_run.specs.Ends.{DeskPart, EndAt, IsEndOf, IsPartOf}
use Rattle.survey_run.specs.Runs.{count_of}
use Rattle.survey_run.specs.Sessions.{IsRunOf, MessageRun, message_reply, replies_of}
use Rattle.survey_run.proofs.EachLemmas.{zip_length}
use Rattle.survey_run.proofs.ListLemmas.{get_map, map_get, zip_get}
use Rattle.survey_run.proofs.RunLemmas.{said_at}

-- the end of the session's survey, and what its desk told
pub record IsFound (criteria : Criteria) (parts : List (List DeskPart)) (ends : List SurveyEnd) (session : ScriptSessionView) (place : ℕ) : Type 0 where
  pub end : SurveyEnd
  pub at_end : slice_get ends (session.respondent - 1) ≡ Some end
  pub told : DeskTold
  pub at_told : slice_get end.told.items (session.desk - 1) ≡ Some told
  pub replies : Vec Reply
  pub at_replies : slice_get told.sessions.items place ≡ Some replies
  pub shown : replies.items ≡ replies_of (count_of criteria) (run_at parts session place)
  pub is : IsRunOf session (run_at parts session place)

itself : (respondent desk : ℕ) (session : ScriptSessionView) → session.respondent ≡ respondent → session.desk ≡ desk → is_at respondent desk session ≡ true
itself respondent desk session one two = rw (eq-eqb session.respondent respondent one, eq-eqb session.desk desk two) refl

pub found : (criteria : Criteria) (workers : ℕ) (sessions : List ScriptSessionView) (parts : List (List DeskPart)) (ends : List SurveyEnd) (session : ScriptSessionView) (place : ℕ)
    → EachZipFrom (EndAt criteria workers sessions) 0 parts ends → slice_get sessions place ≡ Some session → 1 ≤ session.respondent → session.respondent ≤ length ends
    → IsDesk session.desk → IsFound criteria parts ends session place
found criteria workers sessions parts ends session place each stands low high desk =
    let r = session.respondent in
    let d = session.desk in
    let end = slice_get_inside ends (r - 1) (omega (arith, low, high)) in
    let survey = zip_get (EndAt criteria workers sessions) 0 parts ends (r - 1) end.0 each end.1 in
    let number : 0 + (r - 1) + 1 ≡ r = omega (arith, low) in
    let ends_so : IsEndOf criteria r workers sessions survey.item end.0 =
    subst (λ (n : ℕ). IsEndOf criteria n workers sessions survey.item end.0) number survey.holds in
    let same = zip_length (IsPartOf end.0.state.listed r sessions end.0.state.journal) 0 survey.item end.0.told.items ends_so.each in
    let told = slice_get_inside end.0.told.items (d - 1) (omega (arith, same, ends_so.count, desk.0, desk.1)) in
    let part = zip_get (IsPartOf end.0.state.listed r sessions end.0.state.journal) 0 survey.item end.0.told.items (d - 1) told.0 ends_so.each told.1 in
    let nth : 0 + (d - 1) + 1 ≡ d = omega (arith, desk.0) in
    let said_each = subst (λ (n : ℕ). AllByRecursion (IsSaidBy (length end.0.state.listed.classes) r n) part.item.said) nth part.holds.each in
    let said = said_at (length end.0.state.listed.classes) r d place sessions session part.item.said said_each part.holds.of stands (itself r d session refl refl) in
    let there : part_at parts r d ≡ Some part.item =
    ap (λ (o : Option (List DeskPart)). option_and_then (λ (desks : List DeskPart). item_at desks d) o) (item_of parts r survey.item low survey.at) ∙ item_of survey.item d part.item desk.0 part.at in
    let messages : (run_at parts session place).messages ≡ said.one.messages =
    ap (λ (o : Option DeskPart). messages_in (option_and_then (λ (part : DeskPart). slice_get part.said place) o)) there ∙ ap messages_in said.at in
    let list : slice_get (lists_of told.0.sessions) place ≡ Some said.one.replies =
    ap (λ (xs : List (List Reply)). slice_get xs place) (sym part.holds.shown) ∙ get_map (λ (one : DeskSession). one.replies) part.item.said place said.one said.at in
    let replies = map_get (λ (v : Vec Reply). v.items) told.0.sessions.items place said.one.replies list in
    let classes : length end.0.state.listed.classes ≡ count_of criteria = ends_so.listed.len ∙ ap {B = ℕ} count_of ends_so.model in
    record {
      end = end.0;
      at_end = end.1;
      told = told.0;
      at_told = told.1;
      replies = replies.item;
      at_replies = replies.at;
      shown = replies.same ∙ (said.replies ∙ (ap (λ (n : ℕ). Welcome n d ∷ map message_reply said.one.messages) classes
          ∙ ap (λ (ms : List MessageRun). Welcome (count_of criteria) d ∷ map message_reply ms) (sym messages)));
      is = record {
        respondent = refl;
        desk = refl;
        messages = ap (map (λ (m : MessageRun). m.message)) messages ∙ said.messages;
      };
    }
