use Rattle.std.proofs.Common.{◌≡◌, ℕ, List, length, take}
use Rattle.std.specs.Prelude.{vec_capacity}
use Rattle.std.specs.List.{flat_map}
use Rattle.json_forms.specs.DefinitionViews.{model_of}
use Rattle.survey_script.specs.ScriptViews.{line_count}
use Rattle.survey_run.specs.Collects.{runs_from}
use Rattle.survey_run.specs.Each.{EachZipFrom}
use Rattle.survey_run.specs.Ends.{DeskPart, EndAt}
use Rattle.survey_run.specs.Runs.{count_of}
use Rattle.survey_run.specs.Sessions.{replies_of}
use Rattle.survey_run.proofs.collect.collect_replies.Given as goal

abbrev pub invariant-loop-place : goal.invariant-loop-place
invariant-loop-place l = record {
  lines : length l.replies.items ≡ line_count (take l.place l.script.sessions);
  replies : (workers : ℕ) (parts : List (List DeskPart)) → EachZipFrom (EndAt (model_of l.script.definition) workers l.script.sessions) 0 parts l.ends
      → l.replies.items ≡ flat_map (replies_of (count_of (model_of l.script.definition))) (runs_from parts 0 (take l.place l.script.sessions));
  same : vec_capacity l.replies ≡ vec_capacity l.fn.replies;
}
