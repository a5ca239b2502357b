-- Files that are written.
use Rattle.std.specs.Prelude.{◌≡◌, ℕ, List, [], ◌∷◌, ◌++◌, Option}
use Rattle.edges.specs.Line.{unlines}
use Rattle.edges.specs.Told.{Appends}
use Rattle.pair_enumeration.specs.Listed.{Listed}
use Rattle.survey_core.specs.declared.events.Event.{Event}
use Rattle.result_file.specs.declared.entries.Format.TheVariants.{Two}
use Rattle.result_file.specs.declared.verdicts.Checked.TheVariants.{Valid, ValidComplete}
use Rattle.result_file.specs.Checked.{IsFileOf, IsChecked}
use Rattle.result_file.specs.Contents.{Content, of_events, lines_of, IsCompleteContent}
use Rattle.result_file.specs.Texts.{end_line}

-- the whole file of a content: each of its lines and the end line, with their line ends
abbrev pub file_text : Content → List ℕ
file_text content = unlines (lines_of content ++ end_line ∷ [])

-- a history of this model, as a result in the second format
abbrev pub result_of : Listed → List Event → Content
result_of listed history = of_events Two (record { listed = listed; history = history })

-- this file is right: it is checked as valid and complete where each class is ranked, and else as valid
pub record IsRightFile (content : Content) : Type 0 where
  pub file : IsFileOf content (file_text content)
  pub complete : IsCompleteContent content → IsChecked (file_text content) ValidComplete
  pub incomplete : ¬ IsCompleteContent content → IsChecked (file_text content) Valid

-- a text that was written to a sink and to a buffer before it: what the sink got, and then what is still in the buffer
pub record IsOut (before now : Option (List ℕ)) (buffered text : List ℕ) : Type 0 where
  pub sent : List ℕ
  pub out : Appends before now sent
  pub whole : sent ++ buffered ≡ text
