-- The lines of a text that is split.
use Rattle.std.proofs.Common.{◌≡◌, ℕ, List, [], ◌∷◌, ◌++◌, refl, ap, ◌∙◌}
use Rattle.edges.specs.Line.{HasNoLineEnd}
use Rattle.survey_script.specs.Laws.{LinesAreSplit, last_line}
use Rattle.survey_script.specs.Scripts.{lines_in}
use Rattle.survey_script.proofs.TextLemmas.{lines_in-lines, lines_in-piece}

rest_line : (rest : List ℕ) → HasNoLineEnd rest → lines_in rest ≡ last_line rest
rest_line [] none = refl
rest_line (byte ∷ rest) none = lines_in-piece byte rest none

pub lines_are_split_lem : LinesAreSplit
lines_are_split_lem text lines rest splits none =
    ap lines_in splits.whole ∙ lines_in-lines lines rest splits.unbroken ∙ ap (λ (others : List (List ℕ)). lines ++ others) (rest_line rest none)
