-- The body of a file that a reader keeps, and the content that it stands for.
use Rattle.std.specs.Prelude.{◌≡◌, ℕ, List, [], ◌∷◌, ◌++◌}
use Rattle.criteria_model.specs.Criteria.{Criteria}
use Rattle.result_file.specs.declared.bodies.Body.{Body}
use Rattle.result_file.specs.declared.bodies.Body.TheVariants as bodies
use Rattle.result_file.specs.declared.kinds.Kind.{Kind}
use Rattle.result_file.specs.declared.verdicts.Checked.{Checked}
use Rattle.result_file.specs.declared.verdicts.Checked.TheVariants.{Valid, ValidComplete}
use Rattle.result_file.specs.Contents.{Content, of_claims, of_events, kind_of, criteria_of, lines_of, body_of, IsRightContent, IsCompleteContent}
use Rattle.result_file.specs.Kept.{KeepsClaims}

-- the body stands for this content
abbrev pub Keeps : Body → Content → Type 0
Keeps (bodies.Claims kept) (of_claims criteria claims) = KeepsClaims kept criteria claims
Keeps (bodies.Survey kept) (of_events format survey) = (kept.format ≡ format) × (kept.survey ≡ survey)
Keeps _ _ = ⊥

-- the body stands for a right content of this kind and model that has no line yet
pub record Starts (body : Body) (kind : Kind) (criteria : Criteria) : Type 0 where
  pub content : Content
  pub kept : Keeps body content
  pub right : IsRightContent content
  pub same_kind : kind_of content ≡ kind
  pub same_model : criteria_of content ≡ criteria
  pub empty : body_of content ≡ []

-- the body stands for the content with this line, which is right after it
pub record Adds (body : Body) (line : List ℕ) (content : Content) : Type 0 where
  pub next : Content
  pub kept : Keeps body next
  pub right : IsRightContent content → IsRightContent next
  pub lines : lines_of next ≡ lines_of content ++ line ∷ []

-- the verdict on a whole file with this content
abbrev pub IsOfWhole : Content → Checked → Type 0
IsOfWhole content Valid = ¬ IsCompleteContent content
IsOfWhole content ValidComplete = IsCompleteContent content
IsOfWhole content _ = ⊥
