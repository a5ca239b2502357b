-- What contracts see of what a run leaves.
use Rattle.std.specs.Prelude.{List}
use Rattle.json_forms.specs.declared.replies.Reply.{Reply}
use Rattle.survey_state.specs.States.{Surveyed}

-- the final state of each respondent's survey, and a reply to each line after the definition
pub record RunView : Type 0 where
  pub states : List Surveyed
  pub replies : List Reply
